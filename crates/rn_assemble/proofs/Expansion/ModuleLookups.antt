-- Modules by their names and by their places.
use Rattle.std.proofs.Common.{◌≡◌, ℕ, zero, suc, ◌+◌, ◌<◌, Bool, true, false, cond, List, [], ◌∷◌, length, get_or, map, Option, Some, None, refl, sym, ap, ◌∙◌, arith, Less, Equal, append-nil}
use Rattle.std.specs.Prelude.{flat_map, bytes_eq}
use Rattle.std.specs.List.{AllByRecursion, position_from}
use Rattle.std.specs.List.Sorted.{IsStrictlySortedBy}
use Rattle.std.proofs.lemmas.Cmp.{nat_list_cmp_total, tied_itself}
use Rattle.std.proofs.lemmas.Slice.Eq.{bytes_eq-Decides}
use Rattle.rn_text.specs.Texts.{Text, text_cmp}
use Rattle.rn_assemble.specs.Components.{NamedModule, components_within, module_components, modules_named}
use Rattle.rn_assemble.specs.inside.Contained.{place_in}
use Rattle.rn_assemble.specs.inside.Bringing.{included_in}
use Rattle.rn_assemble.specs.inside.ContentsOf.{name_at}
use Rattle.rn_assemble.proofs.Expansion.ModulePlaces.{differs}

-- a place that is found, or none
none_named_at : (b : Bool) (w : Text) (n : ℕ) (m : NamedModule) (ms : List NamedModule) → bytes_eq w m.name ≡ b → (position_from (λ (k : NamedModule). bytes_eq w k.name) (n + 1) ms ≡ None → modules_named w ms ≡ []) → cond b (Some n) (position_from (λ (k : NamedModule). bytes_eq w k.name) (n + 1) ms) ≡ None → cond b (m ∷ modules_named w ms) (modules_named w ms) ≡ []
none_named_at true w n m ms e ih h = cc
none_named_at false w n m ms e ih h = ih h

pub none_named : (w : Text) (n : ℕ) (ms : List NamedModule) → position_from (λ (k : NamedModule). bytes_eq w k.name) n ms ≡ None → modules_named w ms ≡ []
none_named w n [] h = refl
none_named w n (m ∷ ms) h = none_named_at (bytes_eq w m.name) w n m ms refl (none_named w (n + 1) ms) h

found_at : (b : Bool) (w : Text) (n k : ℕ) (m : NamedModule) (ms : List NamedModule) → bytes_eq w m.name ≡ b → (position_from (λ (j : NamedModule). bytes_eq w j.name) (n + 1) ms ≡ Some k → (i : ℕ) × (k ≡ n + 1 + i) × (i < length ms) × (name_at ms i ≡ w))
    → cond b (Some n) (position_from (λ (j : NamedModule). bytes_eq w j.name) (n + 1) ms) ≡ Some k → (i : ℕ) × (k ≡ n + i) × (i < length (m ∷ ms)) × (name_at (m ∷ ms) i ≡ w)
found_at true w n k m ms e ih h = (0, (let same : n ≡ k = cc in omega (arith, same)), omega arith, sym ((bytes_eq-Decides w m.name).0 e))
found_at false w n k m ms e ih h = let r = ih h in (suc r.0, omega (arith, r.1), omega (arith, r.2), r.3)

found_named : (w : Text) (n k : ℕ) (ms : List NamedModule) → position_from (λ (j : NamedModule). bytes_eq w j.name) n ms ≡ Some k → (i : ℕ) × (k ≡ n + i) × (i < length ms) × (name_at ms i ≡ w)
found_named w n k [] h = cc
found_named w n k (m ∷ ms) h = found_at (bytes_eq w m.name) w n k m ms refl (found_named w (n + 1) k ms) h

pub place_within : (w : Text) (k : ℕ) (ms : List NamedModule) → place_in ms w ≡ Some k → k < length ms
place_within w k ms h = let r = found_named w 0 k ms h in omega (arith, r.1, r.2)

pub place_name : (w : Text) (k : ℕ) (ms : List NamedModule) → place_in ms w ≡ Some k → name_at ms k ≡ w
place_name w k ms h = let r = found_named w 0 k ms h in let e : k ≡ r.0 = omega (arith, r.1) in ap (name_at ms) e ∙ r.3

nothing_there : (depth : ℕ) (ms : List NamedModule) (w v : Text) → modules_named w ms ≡ [] → [] ≡ components_within depth ms w v
nothing_there zero ms w v e = refl
nothing_there (suc depth) ms w v e = sym (ap (flat_map (λ (m : NamedModule). module_components (components_within depth ms) v m.tree)) e)

agree_at : (depth : ℕ) (ms : List NamedModule) (w v : Text) (o : Option ℕ) → place_in ms w ≡ o → included_in depth ms o v ≡ components_within depth ms w v
agree_at depth ms w v None e = nothing_there depth ms w v (none_named w 0 ms e)
agree_at depth ms w v (Some k) e = ap (λ x. components_within depth ms x v) (place_name w k ms e)

pub included_agrees : (depth : ℕ) (ms : List NamedModule) (w v : Text) → included_in depth ms (place_in ms w) v ≡ components_within depth ms w v
included_agrees depth ms w v = agree_at depth ms w v (place_in ms w) refl

-- the one module of a name
all_other : (x : Text) (ms : List NamedModule) → AllByRecursion (λ y. text_cmp x y ≡ Less) (map (λ (m : NamedModule). m.name) ms) → modules_named x ms ≡ []
all_other x [] h = refl
all_other x (m ∷ ms) h = ap (λ b. cond b (m ∷ modules_named x ms) (modules_named x ms)) (differs x m.name (λ e. let t : Less ≡ Equal = sym h.0 ∙ ap (text_cmp x) (sym e) ∙ tied_itself nat_list_cmp_total x in cc)) ∙ all_other x ms h.1

less_at : (x : Text) (ms : List NamedModule) (i : ℕ) → AllByRecursion (λ y. text_cmp x y ≡ Less) (map (λ (m : NamedModule). m.name) ms) → i < length ms → text_cmp x (name_at ms i) ≡ Less
less_at x [] i h l = absurd (omega (arith, l))
less_at x (m ∷ ms) zero h l = h.0
less_at x (m ∷ ms) (suc i) h l = less_at x ms i h.1 (omega (arith, l))

-- the module at a place, the one of its name
pub one_named : (ms : List NamedModule) → IsStrictlySortedBy text_cmp (map (λ (m : NamedModule). m.name) ms) → (i : ℕ) → i < length ms → (m : NamedModule) × ((d : NamedModule) → get_or ms i d ≡ m) × (modules_named (name_at ms i) ms ≡ m ∷ [])
unfolding IsStrictlySortedBy
one_named [] o i l = absurd (omega (arith, l))
one_named (m ∷ ms) o zero l = (m, λ d. refl, ap (λ b. cond b (m ∷ modules_named m.name ms) (modules_named m.name ms)) ((bytes_eq-Decides m.name m.name).1 refl) ∙ ap (λ l. m ∷ l) (all_other m.name ms o.0))
one_named (m ∷ ms) o (suc i) l =
    let r = one_named ms o.1 i (omega (arith, l)) in
    let x = name_at ms i in
    let above = less_at m.name ms i o.0 (omega (arith, l)) in
    (r.0, r.1, ap (λ b. cond b (m ∷ modules_named x ms) (modules_named x ms)) (differs x m.name (λ e. let t : Less ≡ Equal = sym above ∙ ap (text_cmp m.name) e ∙ tied_itself nat_list_cmp_total m.name in cc)) ∙ r.2)

pub expanded_is : (depth : ℕ) (ms : List NamedModule) (i : ℕ) (u : Text) (m : NamedModule) → modules_named (name_at ms i) ms ≡ m ∷ [] → components_within (suc depth) ms (name_at ms i) u ≡ module_components (components_within depth ms) u m.tree
expanded_is depth ms i u m e = ap (flat_map (λ (k : NamedModule). module_components (components_within depth ms) u k.tree)) e ∙ append-nil (module_components (components_within depth ms) u m.tree)
