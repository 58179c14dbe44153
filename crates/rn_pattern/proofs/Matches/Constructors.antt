-- Each canonical step gives a pattern that matches what the node over its parts does, in every grammar, under every table, at every depth.
use Rattle.std.proofs.Common.{List}
use Rattle.rn_pattern.specs.Tree.{Parameters, NameTree, Tree, datum_but, list, attribute, element, one_or_more, group, interleave, choice, trees_of}
use Rattle.rn_text.specs.Texts.{Text}
use Rattle.rn_pattern.specs.Datatype.{Table}
use Rattle.rn_pattern.specs.Matching.{MatchesWithin, MatchAlike, Meaning}
use Rattle.rn_pattern.specs.Canonical.{canonical_name, choice_step, group_step, interleave_step, one_or_more_step, list_step, attribute_step, datum_but_step}
use Rattle.rn_pattern.proofs.Matches.StepsKeep.{choice_kept, group_kept, interleave_kept, one_or_more_kept, list_kept, datum_kept, attribute_kept}
use Rattle.rn_pattern.proofs.Matches.NamesKept.{names_kept}
use Rattle.rn_pattern.proofs.Matches.Alike.{Alike, then_alike}

module _ (T : Table) (μ : Meaning) where
  -- a name class in its canonical form
  pub named_attribute_alike : (c : NameTree) (p : Tree) → Alike T μ μ (attribute c p) (attribute (canonical_name c) p)
  named_attribute_alike c p a m = (
    λ h. (h.0, h.1, h.2, (names_kept h.0.uri h.0.local c).0 h.3, h.4),
    λ h. (h.0, h.1, h.2, (names_kept h.0.uri h.0.local c).1 h.3, h.4),
  )

  pub named_element_alike : (c : NameTree) (p : Tree) → Alike T μ μ (element c p) (element (canonical_name c) p)
  named_element_alike c p a m = (
    λ (before, u, l, b, k, behind, none, is, pad, pad', holds, w). (before, u, l, b, k, behind, none, is, pad, pad', (names_kept u l c).0 holds, w),
    λ (before, u, l, b, k, behind, none, is, pad, pad', holds, w). (before, u, l, b, k, behind, none, is, pad, pad', (names_kept u l c).1 holds, w),
  )

pub choice_means : (ps : List Tree) → MatchAlike (choice (trees_of ps)) (choice_step ps)
choice_means ps n G T a m = choice_kept T (MatchesWithin n G T) a m ps

pub group_means : (ps : List Tree) → MatchAlike (group (trees_of ps)) (group_step ps)
group_means ps n G T a m = group_kept T (MatchesWithin n G T) ps (a, m)

pub interleave_means : (ps : List Tree) → MatchAlike (interleave (trees_of ps)) (interleave_step ps)
interleave_means ps n G T a m = interleave_kept T (MatchesWithin n G T) ps (a, m)

pub one_or_more_means : (p : Tree) → MatchAlike (one_or_more p) (one_or_more_step p)
one_or_more_means p n G T a m = one_or_more_kept T (MatchesWithin n G T) p (a, m)

pub list_means : (p : Tree) → MatchAlike (list p) (list_step p)
list_means p n G T a m = list_kept T (MatchesWithin n G T) p (a, m)

pub datum_but_means : (library type : Text) (params : Parameters) (p : Tree) → MatchAlike (datum_but library type params p) (datum_but_step library type params p)
datum_but_means library type params p n G T a m = datum_kept T (MatchesWithin n G T) library type params p (a, m)

pub attribute_means : (c : NameTree) (p : Tree) → MatchAlike (attribute c p) (attribute_step (canonical_name c) p)
attribute_means c p n G T =
    then_alike T (MatchesWithin n G T) (MatchesWithin n G T) (attribute c p) (attribute (canonical_name c) p) (attribute_step (canonical_name c) p) (named_attribute_alike T (MatchesWithin n G T) c p)
    (λ a m. attribute_kept T (MatchesWithin n G T) (canonical_name c) p (a, m))

pub element_means : (c : NameTree) (p : Tree) → MatchAlike (element c p) (element (canonical_name c) p)
element_means c p n G T = named_element_alike T (MatchesWithin n G T) c p
