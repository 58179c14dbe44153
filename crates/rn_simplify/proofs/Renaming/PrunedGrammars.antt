-- The pruned grammar of a renamed grammar is the pruned grammar, renamed.
use Rattle.std.proofs.Common.{◌≡◌, map, Some, sym, ap, ◌∙◌, subst, Contains}
use Rattle.std.specs.List.Sorted.{IsStrictlySortedBy}
use Rattle.std.proofs.lemmas.Map.Made.{keys_of-map_values}
use Rattle.rn_pattern.specs.Tree.{Tree}
use Rattle.rn_text.specs.Texts.{Text, text_cmp}
use Rattle.rn_pattern.specs.Matching.{Grammar, definition_of}
use Rattle.rn_pattern.specs.Reached.{IsReached, IsPruned}
use Rattle.rn_assemble.specs.Renamed.{renamed_tree, renamed_definition, renamed_grammar}
use Rattle.rn_assemble.proofs.Renaming.RenamedReferences.{IsReached-renamed}
use Rattle.rn_simplify.proofs.Renaming.RenamedDefinitions.{definition_renamed, definition_before}
use Rattle.rn_simplify.proofs.Renaming.MappedLists.{entry_mapped, entry_before}

module _ (named : Text → Text) (F N : Grammar) (c : IsPruned F N) where
  abbrev R : Grammar
  R = renamed_grammar named F

  abbrev Defines : Text → Tree → Type 0
  Defines x p = Contains {X = Text × Tree} (map (renamed_definition named) N.definitions) (x, p)

  defined_reached : (x : Text) (p : Tree) → Defines x p → IsReached R x × (definition_of R x ≡ Some p)
  defined_reached x p h =
      let (q, has, is) = entry_before (renamed_tree named) N.definitions x p h in
      let (r, e) = (c.definitions x q).0 has in
      ((IsReached-renamed named F x).1 r, definition_renamed named F x q e ∙ ap Some is)

  reached_defined : (x : Text) (p : Tree) → IsReached R x × (definition_of R x ≡ Some p) → Defines x p
  reached_defined x p (r, e) =
      let (q, f, is) = definition_before named F x p e in
      let has = (c.definitions x q).1 ((IsReached-renamed named F x).0 r, f) in
      subst (Defines x) is (entry_mapped (renamed_tree named) N.definitions x q has)

  pub pruned_renamed : IsPruned (renamed_grammar named F) (renamed_grammar named N)
  pruned_renamed = record {
    start = ap (renamed_tree named) c.start;
    definitions = λ x p. (defined_reached x p, reached_defined x p);
    in_order =
        subst (IsStrictlySortedBy text_cmp) (sym (keys_of-map_values (renamed_tree named) N.definitions)) c.in_order;
  }
