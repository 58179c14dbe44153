-- The URIs that declarations and modules name, gathered one after the other.
use Rattle.std.proofs.Common.{◌≡◌, ◌<◌, ◌+◌, ℕ, zero, suc, arith, Bool, true, ◌||◌, List, [], ◌∷◌, ◌++◌, map, take, length, get_or, flat_map, refl, sym, ap, ◌∙◌, subst, append_assoc, append-nil}
use Rattle.std.specs.Prelude.{OnOk, Result, Ok, Err}
use Rattle.std.specs.BTreeSet.{BTreeSet, insert_key}
use Rattle.std.specs.Borrow.{Bor}
use Rattle.std.specs.List.{list_any}
use Rattle.std.specs.declared.cmp.Ordering.{Ordering}
use Rattle.std.proofs.lemmas.Bool.{or_right}
use Rattle.std.proofs.lemmas.Grind.{flat_map-append}
use Rattle.std.proofs.lemmas.List.{take_more, map-append}
use Rattle.std.proofs.lemmas.List.Folds.{list_any-append}
use Rattle.rn_text.specs.Texts.{Text, text_cmp}
use Rattle.rn_assemble.specs.inside.GatheredUris.{AreGathered, GathersUris}
use Rattle.rn_assemble.proofs.Renaming.TextSets.{gathered_more}

pub gathers_one : (cmp : Bor Text → Bor Text → Ordering) → ((k l : Bor Text) → cmp k l ≡ text_cmp k.now l.now) → (k : Bor Text) (a b : BTreeSet (Bor Text))
    → b.keys ≡ insert_key cmp a.keys k → GathersUris (k.now ∷ []) a b
gathers_one cmp is k a b h zs g = gathered_more (λ (s : Bor Text). s.now) cmp is k a.keys b.keys zs h g

pub gathers_then : (us vs : List Text) (a b c : BTreeSet (Bor Text)) → GathersUris us a b → GathersUris vs b c → GathersUris (us ++ vs) a c
gathers_then us vs a b c h k zs g = subst (λ ws. AreGathered ws c) (append_assoc zs us vs) (k (zs ++ us) (h zs g))

-- where the second may be refused
pub gathers_unless : {E : Type 0} (r : Result (Unit {0}) E) (us vs : List Text) (a b c : BTreeSet (Bor Text)) → GathersUris us a b → OnOk r (GathersUris vs b c) → OnOk r (GathersUris (us ++ vs) a c)
gathers_unless (Ok u) us vs a b c h k = gathers_then us vs a b c h k
gathers_unless (Err e) us vs a b c h k = tt

-- what is found in one thing more
pub found_more : {X Y : Type 0} (f : Y → List Text) (view : X → Y) (xs : List X) (i : ℕ) (x : X) → i < length xs → x ≡ get_or xs i x
    → flat_map f (map view (take (i + 1) xs)) ≡ flat_map f (map view (take i xs)) ++ f (view x)
found_more f view xs i x h e =
    ap (λ ys. flat_map f (map view ys)) (take_more xs i x h ∙ ap (λ y. take i xs ++ y ∷ []) (sym e))
    ∙ ap (flat_map f) (map-append view (take i xs) (x ∷ []))
    ∙ flat_map-append f (map view (take i xs)) (view x ∷ [])
    ∙ ap (λ us. flat_map f (map view (take i xs)) ++ us) (append-nil (f (view x)))

-- a text that passes is found where its thing is
pub found_in : {X Y : Type 0} (f : Y → List Text) (view : X → Y) (p : Text → Bool) (xs : List X) (i : ℕ) (x : X) → i < length xs → x ≡ get_or xs i x
    → list_any p (f (view x)) ≡ true → list_any p (flat_map f (map view xs)) ≡ true
found_in f view p [] i x l e h = absurd (omega (arith, l))
found_in f view p (y ∷ ys) zero x l e h =
    list_any-append p (f (view y)) (flat_map f (map view ys)) ∙ ap (λ b. b || list_any p (flat_map f (map view ys))) (ap (λ z. list_any p (f (view z))) (sym e) ∙ h)
found_in f view p (y ∷ ys) (suc i) x l e h =
    list_any-append p (f (view y)) (flat_map f (map view ys)) ∙ ap (λ b. list_any p (f (view y)) || b) (found_in f view p ys i x (omega (arith, l)) e h) ∙ or_right (list_any p (f (view y))) true refl
