-- Includes by the names of modules and by their numbers.
use Rattle.std.proofs.Common.{◌≡◌, ⊎_elim, ℕ, zero, suc, ◌+◌, ◌<◌, true, false, List, [], ◌∷◌, length, get_or, map, Option, Some, None, refl, sym, ap, ◌∙◌, subst, arith, append-nil, Less}
use Rattle.std.specs.Prelude.{Contains, bytes_eq, flat_map, sum_by}
use Rattle.std.specs.List.{list_any}
use Rattle.std.specs.List.Sorted.{IsStrictlySortedBy}
use Rattle.std.proofs.lemmas.Bool.{cases_order, false≢true}
use Rattle.std.proofs.lemmas.Cmp.{nat_list_eq_equiv}
use Rattle.std.proofs.lemmas.List.{length-map}
use Rattle.std.proofs.lemmas.List.Sums.{sum_by-cons}
use Rattle.std.proofs.lemmas.Map.Keys.{Less-from_sorted}
use Rattle.std.proofs.lemmas.Map.Views.{Contains-from_any, list_any-from_Contains}
use Rattle.std.proofs.lemmas.Slice.Eq.{bytes_eq-Decides}
use Rattle.rn_text.specs.Texts.{Text, text_cmp}
use Rattle.rn_pattern.specs.References.{Reaches, by_one, by_more}
use Rattle.rn_graph.specs.Graph.{AllBelow, row}
use Rattle.rn_graph.specs.Ranks.{HasNoLoop, IsFirstLoop, Leads, by_edge, and_edge}
use Rattle.rn_pattern.proofs.Ordered.InOrder.{contains_behind, contains_front, text_no_less}
use Rattle.rn_graph.proofs.Graphs.FirstLoop.{source_within}
use Rattle.rn_assemble.specs.Components.{Includes, NamedModule, included_by, instances_within, modules_named, roots}
use Rattle.rn_syntax.specs.Tree.{includes}
use Rattle.rn_assemble.specs.inside.Contained.{place_in}
use Rattle.rn_assemble.specs.inside.ContentsOf.{name_at}
use Rattle.rn_assemble.specs.inside.Inclusions.{AreInclusions, IsMissing}
use Rattle.rn_assemble.specs.inside.Instances.{instances_of}
use Rattle.rn_assemble.specs.Least.{IsLeast}
use Rattle.rn_assemble.specs.Refusal.{Wants}
use Rattle.rn_assemble.proofs.Expansion.ModuleLookups.{none_named, one_named, place_name, place_within}
use Rattle.rn_assemble.proofs.Referring.NamedLists.{mapped, unmapped}
use Rattle.rn_assemble.proofs.Referring.KeyNumbers.{not_itself}
use Rattle.rn_assemble.proofs.Expansion.LongerPaths.{lead_first, reach_last}

-- sums of values that agree
pub sum_through : {X Y : Type 0} (f : X → ℕ) (g : Y → ℕ) (v : X → Y) (xs : List X) → ((x : X) → Contains xs x → f x ≡ g (v x)) → sum_by f xs ≡ sum_by g (map v xs)
sum_through f g v [] h = refl
sum_through f g v (x ∷ xs) h = omega (arith, sum_by-cons f x xs, sum_by-cons g (v x) (map v xs), h x (contains_front x xs), sum_through f g v xs (λ y c. h y (contains_behind x y xs c)))

module _ (ms : List NamedModule) where
  -- an include stands among those of its includer
  pub include_stands : (x y : Text) → Includes ms x y → Contains (included_by ms x) y
  include_stands x y h = Contains-from_any {eq = bytes_eq} (λ a b e. (bytes_eq-Decides a b).0 e) y (included_by ms x) h

  pub stands_include : (x y : Text) → Contains (included_by ms x) y → Includes ms x y
  stands_include x y c = list_any-from_Contains nat_list_eq_equiv y (included_by ms x) c

  -- who includes is a module
  includer_at : (x y : Text) (o : Option ℕ) → place_in ms x ≡ o → Includes ms x y → (i : ℕ) × (i < length ms) × (name_at ms i ≡ x)
  includer_at x y None e h =
      let none : false ≡ true = sym (ap (λ l. list_any (bytes_eq y) (flat_map (λ (m : NamedModule). includes m.tree.items) l)) (none_named x 0 ms e)) ∙ h in
      absurd (false≢true none)
  includer_at x y (Some i) e h = (i, place_within x i ms e, place_name x i ms e)

  pub includer : (x y : Text) → Includes ms x y → (i : ℕ) × (i < length ms) × (name_at ms i ≡ x)
  includer x y h = includer_at x y (place_in ms x) refl h

  begins : (x y : Text) → Reaches (Includes ms) x y → (i : ℕ) × (i < length ms) × (name_at ms i ≡ x)
  begins x y (by_one s) = includer x y s
  begins x z (by_more {a = a} {b = y} {c = c} s r) = includer x y s

  module _ (o : IsStrictlySortedBy text_cmp (map (λ (m : NamedModule). m.name) ms)) where
    pub not_missing : (i : ℕ) (x : Text) → i < length ms → name_at ms i ≡ x → ¬ IsMissing ms x
    not_missing i x l e none = let r = one_named ms o i l in let no : r.0 ∷ [] ≡ [] = sym r.2 ∙ ap (λ z. modules_named z ms) e ∙ none in cc

    -- what the module at a place includes
    pub included_at : (i : ℕ) (d : NamedModule) → i < length ms → included_by ms (name_at ms i) ≡ includes (get_or ms i d).tree.items
    included_at i d l =
        let r = one_named ms o i l in
        ap (flat_map (λ (m : NamedModule). includes m.tree.items)) r.2 ∙ append-nil (includes r.0.tree.items) ∙ ap (λ (m : NamedModule). includes m.tree.items) (sym (r.1 d))

    -- names rise with their numbers
    pub rise : (i j : ℕ) → i < j → j < length ms → text_cmp (name_at ms i) (name_at ms j) ≡ Less
    rise i j h l = Less-from_sorted text_cmp (map (λ (m : NamedModule). m.name) ms) i j [] o h (omega (arith, l, length-map ms (λ (m : NamedModule). m.name)))

    pub same_place : (i j : ℕ) → i < length ms → j < length ms → name_at ms i ≡ name_at ms j → i ≡ j
    same_place i j a b e = ⊎_elim (λ q. q) (⊎_elim
        (λ h. absurd (not_itself (name_at ms j) (subst (λ z. text_cmp z (name_at ms j) ≡ Less) e (rise i j h b))))
        (λ h. absurd (not_itself (name_at ms i) (subst (λ z. text_cmp z (name_at ms i) ≡ Less) (sym e) (rise j i h a))))) (cases_order i j)

    module _ (rows : List (List ℕ)) (h : AreInclusions ms rows) where
      -- an include leads from a row to a row
      step : (i : ℕ) (x y : Text) → i < length ms → name_at ms i ≡ x → Includes ms x y → (j : ℕ) × Contains (row rows i) j × (j < length ms) × (name_at ms j ≡ y)
      step i x y l e s =
          let among : Contains (map (name_at ms) (row rows i)) y = subst (λ zs. Contains zs y) (sym (h.named i l)) (subst (λ z. Contains (included_by ms z) y) (sym e) (include_stands x y s)) in
          let j = unmapped (name_at ms) (row rows i) y among in
          (j.0, j.1, omega (arith, h.graph i j.0 j.1, h.size), j.2)

      back : (i j : ℕ) → Contains (row rows i) j → Includes ms (name_at ms i) (name_at ms j)
      back i j c =
          let l : i < length ms = omega (arith, source_within rows i j c, h.size) in
          stands_include (name_at ms i) (name_at ms j) (subst (λ zs. Contains zs (name_at ms j)) (h.named i l) (mapped (name_at ms) (row rows i) j c))

      pub none_missing : (x w : Text) → ¬ Wants ms x w
      none_missing x w s = let i = includer x w s.0 in let j = step i.0 x w i.1 i.2 s.0 in not_missing j.0 w j.2 j.3 s.1

      -- ---- what comes back to itself

      leads : (x y : Text) (i : ℕ) → i < length ms → name_at ms i ≡ x → Reaches (Includes ms) x y → (j : ℕ) × (j < length ms) × (name_at ms j ≡ y) × Leads rows i j
      leads x y i l e (by_one s) = let j = step i x y l e s in (j.0, j.2, j.3, by_edge j.1)
      leads x z i l e (by_more {a = a} {b = y} {c = c} s r) =
          let j = step i x y l e s in
          let k = leads y z j.0 j.2 j.3 r in
          (k.0, k.1, k.2, lead_first j.1 k.3)

      reaches : (i j : ℕ) → Leads rows i j → Reaches (Includes ms) (name_at ms i) (name_at ms j)
      reaches i j (by_edge c) = by_one (back i j c)
      reaches i j (and_edge {x = x} {y = k} {z = z} l c) = reach_last (reaches i k l) (back k j c)

      loop_at : (y : Text) → Reaches (Includes ms) y y → (k : ℕ) × (k < length ms) × (name_at ms k ≡ y) × Leads rows k k
      loop_at y r =
          let k = begins y y r in
          let j = leads y y k.0 k.1 k.2 r in
          (k.0, k.1, k.2, subst (Leads rows k.0) (same_place j.0 k.0 j.1 k.1 (j.2 ∙ sym k.2)) j.3)

      pub no_cycle : HasNoLoop rows → (x : Text) → ¬ Reaches (Includes ms) x x
      no_cycle n x r = let k = loop_at x r in n k.0 k.3

      not_before : (i k : ℕ) → i < length ms → k < length ms → IsFirstLoop rows i → Leads rows k k → ¬ (text_cmp (name_at ms k) (name_at ms i) ≡ Less)
      not_before i k a b f l less = ⊎_elim (λ e. not_itself (name_at ms i) (subst (λ n. text_cmp (name_at ms n) (name_at ms i) ≡ Less) e less)) (⊎_elim
          (λ lt. f.least k lt l)
          (λ gt. text_no_less (name_at ms i) (name_at ms k) (rise i k gt b) less)) (cases_order k i)

      pub first_cycle : (i : ℕ) → i < length ms → IsFirstLoop rows i → IsLeast text_cmp (λ y. Reaches (Includes ms) y y) (name_at ms i)
      first_cycle i l f = record {
        holds = reaches i i f.holds;
        least = λ y r less. let k = loop_at y r in not_before i k.0 l k.1 f k.3 (subst (λ z. text_cmp z (name_at ms i) ≡ Less) (sym k.2) less);
      }

      -- ---- instances

      counted : (depth i : ℕ) → i < length ms → instances_of depth rows i ≡ instances_within depth ms (name_at ms i)
      counted zero i l = refl
      counted (suc depth) i l =
          ap (λ n. 1 + n) (sum_through (instances_of depth rows) (instances_within depth ms) (name_at ms) (row rows i) (λ j c. counted depth j (omega (arith, h.graph i j c, h.size))) ∙ ap (sum_by (instances_within depth ms)) (h.named i l))

      pub total : (depth : ℕ) (ns : List ℕ) → AllBelow (length ms) ns → map (name_at ms) ns ≡ map (λ (m : NamedModule). m.name) (roots ms)
          → sum_by (instances_of depth rows) ns ≡ sum_by (λ (m : NamedModule). instances_within depth ms m.name) (roots ms)
      total depth ns b e =
          sum_through (instances_of depth rows) (instances_within depth ms) (name_at ms) ns (λ n c. counted depth n (b n c))
          ∙ ap (sum_by (instances_within depth ms)) e
          ∙ sym (sum_through (λ (m : NamedModule). instances_within depth ms m.name) (instances_within depth ms) (λ (m : NamedModule). m.name) (roots ms) (λ m c. refl))
