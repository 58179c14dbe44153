-- An effective module found by its name.
use Rattle.std.proofs.Common.{◌≡◌, ℕ, ◌+◌, ◌<◌, inl, inr, List, [], length, get_or, Ok, Err, sym, ap, subst, ◌∙◌, arith}
use Rattle.std.specs.Borrow.{Bor}
use Rattle.std.specs.declared.cmp.Ordering.TheVariants.{Less, Equal, Greater}
use Rattle.std.specs.Ordering.{ordering_index, ordering_reverse}
use Rattle.std.specs.List.{Contains}
use Rattle.std.specs.List.Sorted.{IsBinarySearchResult, IsNonDecreasingBy}
use Rattle.std.proofs.lemmas.Bool.{cases_order}
use Rattle.std.proofs.lemmas.Cmp.{tied_itself, nat_list_cmp_total}
use Rattle.std.proofs.lemmas.List.{get_or-map, length-map}
use Rattle.std.proofs.lemmas.List.Sorted.{searchable_from_sorted}
use Rattle.std.proofs.lemmas.Map.Keys.{Less-from_sorted}
use Rattle.rn_text.specs.Texts.{text_cmp}
use Rattle.rn_modset.specs.Modules.{Module, module_cmp, module_of, modules_of, NamesRise}
use Rattle.rn_modset.proofs.OrderedMembers.MemberOrder.{texts_same}
use Rattle.rn_modset.proofs.TestAnswers.Orderings.{greater_not_less}

abbrev Lent : Type 0
Lent = Bor (List ℕ) × Bor (List ℕ)

module_at : (ms : List Lent) (k : ℕ) (d : Lent) (e : Module) → k < length ms → get_or (modules_of ms) k e ≡ module_of (get_or ms k d)
module_at ms k d e lt = get_or-map module_of ms k d e lt

-- the module at the place that the search answered
pub found_there : (ms : List Lent) (name : List ℕ) (at : ℕ) (m : Lent) → at < length ms → IsBinarySearchResult (λ (y : Lent). text_cmp y.0.now name) ms (Ok at) → m ≡ get_or ms at m → Contains (modules_of ms) (name, m.1.now)
found_there ms name at m lt h e =
    let same : m.0.now ≡ name = ap (λ (x : Lent). x.0.now) e ∙ texts_same (get_or ms at m).0.now name (h m) in
    (at, omega (arith, length-map ms module_of), module_at ms at m (name, m.1.now) lt ∙ ap module_of (sym e) ∙ (λ i. (same i, m.1.now)))

names_rise_at : (ms : List Lent) (i j : ℕ) (d : Lent) → NamesRise (modules_of ms) → i < j → j < length ms → text_cmp (get_or ms i d).0.now (get_or ms j d).0.now ≡ Less
names_rise_at ms i j d s lt high =
    let far : module_cmp (get_or (modules_of ms) i (module_of d)) (get_or (modules_of ms) j (module_of d)) ≡ Less = Less-from_sorted module_cmp (modules_of ms) i j (module_of d) s lt (omega (arith, length-map ms module_of)) in
    subst (λ (x : Module). module_cmp x (module_of (get_or ms j d)) ≡ Less) (module_at ms i d (module_of d) (omega arith))
    (subst (λ (x : Module). module_cmp (get_or (modules_of ms) i (module_of d)) x ≡ Less) (module_at ms j d (module_of d) high) far)

names_searchable : (ms : List Lent) (name : List ℕ) → NamesRise (modules_of ms) → IsNonDecreasingBy (λ (y : Lent). ordering_index (text_cmp y.0.now name)) ms
names_searchable ms name s = searchable_from_sorted nat_list_cmp_total (λ (y : Lent). y.0.now) ms name
    (λ k d low high. greater_not_less _ (nat_list_cmp_total.antisymm (get_or ms (k + 1) d).0.now (get_or ms k d).0.now ∙ ap ordering_reverse (names_rise_at ms k (k + 1) d s (omega arith) high)))

nobody : Lent
nobody = (record { ref_ptr = (0, 0); now = [] }, record { ref_ptr = (0, 0); now = [] })

-- no module has the name
pub found_nowhere : (ms : List Lent) (name : List ℕ) (at : ℕ) → NamesRise (modules_of ms) → IsBinarySearchResult (λ (y : Lent). text_cmp y.0.now name) ms (Err at) → (text : List ℕ) → ¬ (Contains (modules_of ms) (name, text))
found_nowhere ms name at s h text c =
    let parts = h (names_searchable ms name s) in
    let lt : c.0 < length ms = omega (arith, c.1, length-map ms module_of) in
    let same : (get_or ms c.0 nobody).0.now ≡ name = ap (λ (x : Module). x.0) (sym (module_at ms c.0 nobody (name, text) lt) ∙ c.2) in
    let tied : text_cmp (get_or ms c.0 nobody).0.now name ≡ Equal = ap (λ x. text_cmp x name) same ∙ tied_itself nat_list_cmp_total name in
    elim (cases_order c.0 at) [
      | inl e ↦ let k : Greater ≡ Equal = sym (parts.1 c.0 nobody (omega (arith, e)) lt) ∙ tied in cc
      | inr e ↦ elim e [
        | inl low ↦ let k : Less ≡ Equal = sym (parts.0 c.0 nobody (omega arith) low) ∙ tied in cc
        | inr high ↦ let k : Greater ≡ Equal = sym (parts.1 c.0 nobody (omega (arith, high)) lt) ∙ tied in cc
      ]
    ]
