-- References replaced by what stands for them, and nothing else changed (RELAX NG 2001, 4.19 to 4.21).
use Rattle.std.specs.Prelude.{map}
use Rattle.rn_pattern.specs.Tree.{Tree, Trees, not_allowed, empty, text, ref, value, datum, datum_but, list, attribute, element, one_or_more, group, interleave, choice, no_trees, more_trees}
use Rattle.rn_text.specs.Texts.{Text}
use Rattle.rn_pattern.specs.Matching.{Grammar}

module _ (by : Text → Tree) where
  abbrev mutual
    pub replaced : Tree → Tree
    replaced not_allowed = not_allowed
    replaced empty = empty
    replaced text = text
    replaced (ref x) = by x
    replaced (value library type t) = value library type t
    replaced (datum library type params) = datum library type params
    replaced (datum_but library type params p) = datum_but library type params (replaced p)
    replaced (list p) = list (replaced p)
    replaced (attribute c p) = attribute c (replaced p)
    replaced (element c p) = element c (replaced p)
    replaced (one_or_more p) = one_or_more (replaced p)
    replaced (group ps) = group (replaced_all ps)
    replaced (interleave ps) = interleave (replaced_all ps)
    replaced (choice ps) = choice (replaced_all ps)

    pub replaced_all : Trees → Trees
    replaced_all no_trees = no_trees
    replaced_all (more_trees p ps) = more_trees (replaced p) (replaced_all ps)

abbrev pub replaced_grammar : (Text → Tree) → Grammar → Grammar
replaced_grammar by G = record { start = replaced by G.start; definitions = map (λ d. (d.0, replaced by d.1)) G.definitions }
