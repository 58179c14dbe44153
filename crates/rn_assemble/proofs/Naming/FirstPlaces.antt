-- The first places of names in the order of their keys, and sorted.
use Rattle.std.proofs.Common.{◌≡◌, ◌⊎◌, ℕ, zero, suc, ◌-◌, ◌<◌, ◌≤◌, true, List, [], length, map, get_or, refl, sym, ap, ◌∙◌, subst, arith, Contains, nat_eq, IsPermutation}
use Rattle.std.specs.List.Sorted.{IsStrictlySortedBy}
use Rattle.std.proofs.lemmas.Cmp.{nat_eq_equiv}
use Rattle.std.proofs.lemmas.List.Sorted.{Contains-permutation, IsPermutation-map, IsPermutation-sym}
use Rattle.std.proofs.lemmas.Map.Keys.{IsDistinct-IsPermutation}
use Rattle.std.proofs.lemmas.Simd.{map-map}
use Rattle.rn_text.specs.Texts.{Text, text_cmp}
use Rattle.rn_pattern.proofs.Ordered.InOrder.{contained_each, each_contained}
use Rattle.rn_assemble.specs.Components.{Component, NamedModule, has_key, name_key, start_key}
use Rattle.rn_assemble.specs.declared.including.segments.Segments.{Segments}
use Rattle.rn_assemble.specs.declared.by_key.settling_order.FirstPlace.{FirstPlace}
use Rattle.rn_assemble.specs.inside.FirstPlaces.{AreFirstPlaces, IsLeftAt}
use Rattle.rn_assemble.specs.inside.Keyed.{AreNames, key_at}
use Rattle.rn_assemble.specs.inside.ReferenceOrder.{AreDefinedKeys}
use Rattle.rn_assemble.specs.inside.Rows.{Placed}
use Rattle.rn_assemble.specs.inside.Segments.{AreSegmentsOf}
use Rattle.rn_assemble.proofs.Naming.KnownKeys.{has_there, set_number}
use Rattle.rn_assemble.proofs.Naming.LeftComponents.{all_left, at_left, key_of, left_at, left_rises, same_keys}
use Rattle.rn_assemble.proofs.Naming.NamesInOrder.{AreFirsts, InOrder, in_order, names_in, names_of_keys, none_seen}
use Rattle.rn_assemble.proofs.Referring.ListMembers.{map_contained, map_contains}
use Rattle.rn_assemble.proofs.Referring.KeyNumbers.{number_name}

above_start : (names : List Text) (x : Text) (n : ℕ) → name_key x ≡ key_at names n → 0 < n
above_start names x zero e = let wrong : name_key x ≡ start_key = e in cc
above_start names x (suc n) e = omega arith

module _ (modules : List NamedModule) (names : List Text) (sorted : IsStrictlySortedBy text_cmp names) (x : Segments) (cs : List Component) (n : AreNames modules names) (are : AreSegmentsOf modules x cs)
    (places ps : List FirstPlace) (h : AreFirstPlaces modules x names cs places) (moved : IsPermutation places ps) where
  -- what is said of a place in AreFirstPlaces
  abbrev IsFirst : FirstPlace → Type 0
  IsFirst p = (0 < p.key.0) × (p.key.0 < suc (length names)) × IsLeftAt modules x (key_at names p.key.0) p.segment p.number
      × ((segment number : ℕ) → IsLeftAt modules x (key_at names p.key.0) segment number → (p.segment < segment) ⊎ ((p.segment ≡ segment) × (p.number ≤ number)))

  is_first : (p : FirstPlace) → Contains ps p → IsFirst p
  is_first p c = contained_each IsFirst places h.each p (Contains-permutation ps places p (IsPermutation-sym places ps moved) c)

  keys_are : map key_of (all_left modules x) ≡ map (λ (c : Component). c.key) cs
  keys_are = same_keys modules x.brought.items 0 x.list.items ∙ ap (map (λ (c : Component). c.key)) are.left

  -- a key of what is left is one of the set's
  left_has : (l : Placed) → Contains (all_left modules x) l → has_key (key_of l) cs ≡ true
  left_has l c =
      let (d, there, is) = map_contained (λ (c : Component). c.key) cs (key_of l) (subst (λ ks. Contains ks (key_of l)) keys_are (map_contains key_of (all_left modules x) l c)) in
      has_there (key_of l) cs d there is

  are_firsts : InOrder ps → AreFirsts names sorted [] (all_left modules x) ps
  are_firsts order = record {
    each = λ p c. let f = is_first p c in
        let name = get_or names (p.key.0 - 1) [] in
        let key = number_name names p.key.0 f.0 in
        let (w, there, is) = at_left modules x (key_at names p.key.0) p.segment p.number f.2 in (
          name,
          record {
            name = key;
            within = f.1;
            l = record { module_at = p.segment; number = p.number; component = w };
            there = there;
            key = is ∙ key;
            segment = refl;
            number = refl;
            least = λ m d e. f.3 m.module_at m.number (subst (λ k. IsLeftAt modules x k m.module_at m.number) (e ∙ sym key) (left_at modules x m d));
          },
          refl,
        );
    all = λ l y c e s. let has : has_key (name_key y) cs ≡ true = ap (λ k. has_key k cs) (sym e) ∙ left_has l c in
        let (i, within, is) = set_number modules names x cs n are (name_key y) has in
        let (p, there, same) = map_contained (λ (p : FirstPlace). p.key.0) places i (h.all i (above_start names y i is) within (ap (λ k. has_key k cs) (sym is) ∙ has)) in
        (p, Contains-permutation places ps p moved there, ap (key_at names) same ∙ sym is);
    order = order;
    once = IsDistinct-IsPermutation nat_eq nat_eq_equiv.symm (map (λ (p : FirstPlace). p.key.0) places) (map (λ (p : FirstPlace). p.key.0) ps) (IsPermutation-map (λ (p : FirstPlace). p.key.0) places ps moved) h.once;
  }

  -- the keys of the places, once these are sorted
  pub defined_in_order : InOrder ps → AreDefinedKeys names cs (map (λ (p : FirstPlace). p.key.0) ps)
  defined_in_order order =
      let listed = in_order names sorted [] (all_left modules x) ps (left_rises modules x.brought.items 0 x.list.items) (are_firsts order) in
      record {
        named = map-map (key_at names) (λ (p : FirstPlace). p.key.0) ps ∙ listed ∙ ap (map name_key) (none_seen (names_in (map key_of (all_left modules x))) ∙ ap names_in keys_are ∙ sym (names_of_keys cs));
        within = each_contained (λ k. k < suc (length names)) (map (λ (p : FirstPlace). p.key.0) ps)
            (λ k c. let (p, there, is) = map_contained (λ (p : FirstPlace). p.key.0) ps k c in subst (λ j. j < suc (length names)) is (is_first p there).1);
      }
