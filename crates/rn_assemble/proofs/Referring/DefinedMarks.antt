-- Names whose numbers have a mark, and names that have a definition.
use Rattle.std.proofs.Common.{◌≡◌, ℕ, zero, suc, ◌<◌, Bool, cond, List, length, map, Option, Some, None, refl, sym, ap, ◌∙◌, subst, arith, Contains}
use Rattle.std.specs.Prelude.{IsSome}
use Rattle.std.specs.Cmp.Lexicographic.{bytes_decides}
use Rattle.std.proofs.lemmas.Bool.{false≢true}
use Rattle.std.proofs.lemmas.Cmp.{nat_list_eq_equiv}
use Rattle.std.proofs.lemmas.Map.Views.{Contains-from_lookup, list_any-from_Contains}
use Rattle.rn_pattern.proofs.Ordered.InOrder.{contained_each}
use Rattle.rn_pattern.specs.Matching.{Grammar, definition_of}
use Rattle.rn_pattern.specs.Tree.{Tree}
use Rattle.rn_text.specs.Texts.{Text}
use Rattle.rn_assemble.specs.Combine.{defined_names, joined_grammar, joined_pattern}
use Rattle.rn_assemble.specs.Components.{Component, name_key}
use Rattle.rn_assemble.specs.inside.Keyed.{IsNameNumber, key_at}
use Rattle.rn_assemble.specs.inside.ReferenceOrder.{AreDefinedKeys}
use Rattle.rn_assemble.specs.inside.Referred.{AreMarksOf, IsMarkedName}
use Rattle.rn_assemble.proofs.Combined.Combinations.{lookup_name}
use Rattle.rn_assemble.proofs.Referring.KeyNumbers.{keyed_name}
use Rattle.rn_assemble.proofs.Referring.ListMembers.{map_contained, map_contains}

some_of : {A : Type 0} (o : Option A) → IsSome o → (x : A) × (o ≡ Some x)
some_of None h = absurd (false≢true h)
some_of (Some x) h = (x, refl)

module _ (names : List Text) (cs : List Component) (keys : List ℕ) (defined : AreDefinedKeys names cs keys) where
  abbrev G : Grammar
  G = joined_grammar cs

  abbrev definition : Text → Text × Tree
  definition x = (x, joined_pattern cs (name_key x))

  defined_name : (x : Text) → IsSome (definition_of G x) → Contains (defined_names cs) x
  defined_name x h =
      let p = some_of (definition_of G x) h in
      let d = map_contained definition (defined_names cs) (x, p.0) (Contains-from_lookup (λ a b k. (bytes_decides a b).0 k) x p.0 G.definitions p.1) in
      subst (Contains (defined_names cs)) (ap (λ (e : Text × Tree). e.0) d.2) d.1

  above_start : (x : Text) (n : ℕ) → key_at names n ≡ name_key x → 0 < n
  above_start x zero e = absurd cc
  above_start x (suc n) e = omega arith

  -- the number of a name that is defined
  pub number_of : (x : Text) → Contains (defined_names cs) x → (k : ℕ) × Contains keys k × IsNameNumber names x k
  number_of x c =
      let k = map_contained (key_at names) keys (name_key x) (subst (λ js. Contains js (name_key x)) (sym defined.named) (map_contains name_key (defined_names cs) x c)) in
      (k.0, k.1, record { above = above_start x k.0 k.2; within = contained_each (λ n. n < suc (length names)) keys defined.within k.0 k.1; is = k.2 })

  module _ (marks : List Bool) (are : AreMarksOf keys (suc (length names)) marks) where
    pub marked_defined : (x : Text) → IsMarkedName names marks x → IsSome (definition_of G x)
    marked_defined x m =
        let n = m.0 in
        let c = map_contains (key_at names) keys n ((are.marked n m.1.within).0 m.2) in
        let d = map_contained name_key (defined_names cs) (name_key x) (subst (λ js. Contains js (name_key x)) defined.named (subst (Contains (map (key_at names) keys)) m.1.is c)) in
        let there = subst (Contains (defined_names cs)) (keyed_name d.0 x d.2) d.1 in
        let found = lookup_name x (λ y. joined_pattern cs (name_key y)) (defined_names cs) in
        subst (λ (o : Option Tree). IsSome o) (sym (found ∙ ap (λ b. cond b (Some (joined_pattern cs (name_key x))) None) (list_any-from_Contains nat_list_eq_equiv x (defined_names cs) there))) refl

    pub defined_marked : (x : Text) → IsSome (definition_of G x) → IsMarkedName names marks x
    defined_marked x h =
        let k = number_of x (defined_name x h) in
        (k.0, k.2, (are.marked k.0 k.2.within).1 k.1)
