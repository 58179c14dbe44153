-- Texts in order, each once: which they are, and that they differ.
use Rattle.std.proofs.Common.{◌≡◌, Bool, true, false, cond, List, [], ◌∷◌, ◌++◌, refl, sym, ap, ◌∙◌, subst, filter, map, append_assoc, ⊎_elim}
use Rattle.std.specs.Prelude.{String, string_bytes, bytes_eq, ◌||◌}
use Rattle.std.specs.List.{AllByRecursion, list_any}
use Rattle.std.specs.List.Sorted.{IsStrictlySortedBy}
use Rattle.std.specs.declared.alloc.Global.{Global}
use Rattle.std.specs.declared.cmp.Ordering.{Ordering}
use Rattle.std.specs.declared.cmp.Ordering.TheVariants.{Less, Equal, Greater}
use Rattle.std.specs.Ordering.{match_ordering, is_eq, ordering_reverse}
use Rattle.std.proofs.lemmas.Cmp.{nat_list_cmp_total}
use Rattle.std.proofs.lemmas.List.{map-append}
use Rattle.indexmap.specs.IndexSet.{insert_key}
use Rattle.std.proofs.lemmas.Map.Text.{is_eq-slice_cmp}
use Rattle.std.proofs.lemmas.Slice.Eq.{bytes_eq-Decides}
use Rattle.std.proofs.lemmas.Bool.{or_cases, or_left, or_right}
use Rattle.rn_text.specs.Texts.{Text, text_cmp}
use Rattle.rn_pattern.specs.Canonical.{put_once, sorted_once}
use Rattle.rn_pattern.proofs.Ordered.Orders.{text_same}

pub less_differs : (x y : Text) → text_cmp x y ≡ Less → bytes_eq x y ≡ false
less_differs x y e = sym (is_eq-slice_cmp x y) ∙ ap is_eq e

-- ---- what passes for all

put_all : (P : Text → Type 0) (x : Text) (ys : List Text) → P x → AllByRecursion P ys → AllByRecursion P (put_once text_cmp x ys)
put_all P x [] h a = (h, tt)
put_all P x (y ∷ ys) h a = go (put_all P x ys h a.1) (text_cmp x y)
  where
    go : AllByRecursion P (put_once text_cmp x ys) → (o : Ordering) → AllByRecursion P (match_ordering o (x ∷ y ∷ ys) (y ∷ ys) (y ∷ put_once text_cmp x ys))
    go more Less = (h, a)
    go more Equal = a
    go more Greater = (a.0, more)

pub sorted_all : (P : Text → Type 0) (xs : List Text) → AllByRecursion P xs → AllByRecursion P (sorted_once text_cmp xs)
sorted_all P [] a = tt
sorted_all P (x ∷ xs) a = put_all P x (sorted_once text_cmp xs) a.0 (sorted_all P xs a.1)

pub filter_all : (P : Text → Type 0) (t : Text → Bool) (xs : List Text) → AllByRecursion P xs → AllByRecursion (λ x. P x × (t x ≡ true)) (filter t xs)
filter_all P t [] a = tt
filter_all P t (x ∷ xs) a = go (filter_all P t xs a.1) (t x) refl
  where
    go : AllByRecursion (λ x. P x × (t x ≡ true)) (filter t xs) → (b : Bool) → t x ≡ b → AllByRecursion (λ x. P x × (t x ≡ true)) (cond b (x ∷ filter t xs) (filter t xs))
    go more true e = ((a.0, e), more)
    go more false e = more

-- ---- membership

put_keeps : (p : Text → Bool) (x : Text) (ys : List Text) → (p x || list_any p ys) ≡ true → list_any p (put_once text_cmp x ys) ≡ true
put_keeps p x [] e = e
put_keeps p x (y ∷ ys) e =
    go (⊎_elim (λ h. or_right (p y) _ (put_keeps p x ys (or_left (p x) _ h)))
    (λ h. ⊎_elim (λ k. or_left (p y) _ k) (λ k. or_right (p y) _ (put_keeps p x ys (or_right (p x) _ k))) (or_cases (p y) _ h)) (or_cases (p x) _ e)) (text_cmp x y) refl
  where
    go : list_any p (y ∷ put_once text_cmp x ys) ≡ true → (o : Ordering) → text_cmp x y ≡ o → list_any p (match_ordering o (x ∷ y ∷ ys) (y ∷ ys) (y ∷ put_once text_cmp x ys)) ≡ true
    go greater Less k = e
    go greater Equal k = ⊎_elim (λ h. or_left (p y) _ (ap p (sym (text_same x y k)) ∙ h)) (λ h. h) (or_cases (p x) _ e)
    go greater Greater k = greater

pub sorted_keeps : (p : Text → Bool) (xs : List Text) → list_any p xs ≡ true → list_any p (sorted_once text_cmp xs) ≡ true
sorted_keeps p [] e = e
sorted_keeps p (x ∷ xs) e = put_keeps p x (sorted_once text_cmp xs) (⊎_elim (λ h. or_left (p x) _ h) (λ h. or_right (p x) _ (sorted_keeps p xs h)) (or_cases (p x) _ e))

pub filter_keeps : (u : Text) (t : Text → Bool) (xs : List Text) → t u ≡ true → list_any (bytes_eq u) xs ≡ true → list_any (bytes_eq u) (filter t xs) ≡ true
filter_keeps u t [] k e = e
filter_keeps u t (x ∷ xs) k e = ⊎_elim
    (λ h. subst (λ b. list_any (bytes_eq u) (cond b (x ∷ filter t xs) (filter t xs)) ≡ true) (sym (ap t (sym ((bytes_eq-Decides u x).0 h)) ∙ k)) (or_left (bytes_eq u x) _ h))
    (λ h. go (t x) (filter_keeps u t xs k h))
    (or_cases (bytes_eq u x) _ e)
  where
    go : (b : Bool) → list_any (bytes_eq u) (filter t xs) ≡ true → list_any (bytes_eq u) (cond b (x ∷ filter t xs) (filter t xs)) ≡ true
    go true h = or_right (bytes_eq u x) _ h
    go false h = h

pub pick : (P : Text → Type 0) (u : Text) (xs : List Text) → AllByRecursion P xs → list_any (bytes_eq u) xs ≡ true → P u
pick P u [] a e = absurd (none e)
  where
    none : false ≡ true → ⊥
    none h = cc
pick P u (x ∷ xs) a e = ⊎_elim (λ h. subst P (sym ((bytes_eq-Decides u x).0 h)) a.0) (λ h. pick P u xs a.1 h) (or_cases (bytes_eq u x) _ e)

-- ---- each once

abbrev pub AreApart : List Text → Type 0
AreApart [] = Unit {0}
AreApart (x ∷ xs) = AllByRecursion (λ y. text_cmp x y ≡ Less) xs × AreApart xs

before_all : (x y : Text) (ys : List Text) → text_cmp x y ≡ Less → AllByRecursion (λ z. text_cmp y z ≡ Less) ys → AllByRecursion (λ z. text_cmp x z ≡ Less) ys
before_all x y [] e a = tt
before_all x y (z ∷ ys) e a = (nat_list_cmp_total.trans x y z e a.0, before_all x y ys e a.1)

put_apart : (x : Text) (ys : List Text) → AreApart ys → AreApart (put_once text_cmp x ys)
put_apart x [] a = (tt, tt)
put_apart x (y ∷ ys) a = go (put_apart x ys a.1) (text_cmp x y) refl
  where
    go : AreApart (put_once text_cmp x ys) → (o : Ordering) → text_cmp x y ≡ o → AreApart (match_ordering o (x ∷ y ∷ ys) (y ∷ ys) (y ∷ put_once text_cmp x ys))
    go more Less e = ((e, before_all x y ys e a.0), a)
    go more Equal e = a
    go more Greater e = (put_all (λ z. text_cmp y z ≡ Less) x ys (nat_list_cmp_total.antisymm y x ∙ ap ordering_reverse e) a.0, more)

pub sorted_apart : (xs : List Text) → AreApart (sorted_once text_cmp xs)
sorted_apart [] = tt
sorted_apart (x ∷ xs) = put_apart x (sorted_once text_cmp xs) (sorted_apart xs)

pub filter_only : (P : Text → Type 0) (t : Text → Bool) (xs : List Text) → AllByRecursion P xs → AllByRecursion P (filter t xs)
filter_only P t [] a = tt
filter_only P t (x ∷ xs) a = go (t x) (filter_only P t xs a.1)
  where
    go : (b : Bool) → AllByRecursion P (filter t xs) → AllByRecursion P (cond b (x ∷ filter t xs) (filter t xs))
    go true m = (a.0, m)
    go false m = m

pub filter_apart : (t : Text → Bool) (xs : List Text) → AreApart xs → AreApart (filter t xs)
filter_apart t [] a = tt
filter_apart t (x ∷ xs) a = go (t x) (filter_apart t xs a.1)
  where
    go : (b : Bool) → AreApart (filter t xs) → AreApart (cond b (x ∷ filter t xs) (filter t xs))
    go true m = (filter_only (λ y. text_cmp x y ≡ Less) t xs a.0, m)
    go false m = m

-- ---- taken one after the other

from_keys_all : (x : String Global) (ks : List (String Global)) → AllByRecursion (λ k. text_cmp (string_bytes x) (string_bytes k) ≡ Less) ks → AllByRecursion (λ y. text_cmp (string_bytes x) y ≡ Less) (map (λ u. string_bytes u) ks)
from_keys_all x [] a = tt
from_keys_all x (k ∷ ks) a = (a.0, from_keys_all x ks a.1)

-- the keys of a set
pub keys_apart : (ks : List (String Global)) → IsStrictlySortedBy (λ k l. text_cmp (string_bytes k) (string_bytes l)) ks → AreApart (map (λ u. string_bytes u) ks)
unfolding IsStrictlySortedBy
keys_apart [] a = tt
keys_apart (k ∷ ks) a = (from_keys_all k ks a.0, keys_apart ks a.1)

all_without : (P : Text → Type 0) (us xs : List Text) (x : Text) → AllByRecursion P (us ++ x ∷ xs) → P x × AllByRecursion P (us ++ xs)
all_without P [] xs x a = (a.0, a.1)
all_without P (u ∷ us) xs x a = let more = all_without P us xs x a.1 in (more.0, (a.0, more.1))

pub apart_without : (us xs : List Text) (x : Text) → AreApart (us ++ x ∷ xs) → AreApart (us ++ xs)
apart_without [] xs x a = a.1
apart_without (u ∷ us) xs x a = ((all_without (λ y. text_cmp u y ≡ Less) us xs x a.0).1, apart_without us xs x a.1)

greater_differs : (x y : Text) → text_cmp y x ≡ Less → bytes_eq x y ≡ false
greater_differs x y e = sym (is_eq-slice_cmp x y) ∙ ap is_eq (nat_list_cmp_total.antisymm x y ∙ ap ordering_reverse e)

-- what comes next isn't there yet
pub apart_new : (us xs : List Text) (x : Text) → AreApart (us ++ x ∷ xs) → list_any (bytes_eq x) us ≡ false
apart_new [] xs x a = refl
apart_new (u ∷ us) xs x a = (λ i. greater_differs x u (all_without (λ y. text_cmp u y ≡ Less) us xs x a.0).0 i || apart_new us xs x a.1 i)

pub kept_more : (t : Text → Bool) (us xs : List Text) (x : Text) → t x ≡ true → us ++ filter t (x ∷ xs) ≡ (us ++ x ∷ []) ++ filter t xs
kept_more t us xs x e = ap (λ b. us ++ cond b (x ∷ filter t xs) (filter t xs)) e ∙ sym (append_assoc us (x ∷ []) (filter t xs))

pub kept_none : (t : Text → Bool) (us xs : List Text) (x : Text) → t x ≡ false → us ++ filter t (x ∷ xs) ≡ us ++ filter t xs
kept_none t us xs x e = ap (λ b. us ++ cond b (x ∷ filter t xs) (filter t xs)) e

pub any_mapped : (p : Text → Bool) (ks : List (String Global)) → list_any p (map (λ u. string_bytes u) ks) ≡ list_any (λ k. p (string_bytes k)) ks
any_mapped p [] = refl
any_mapped p (k ∷ ks) = ap (λ b. p (string_bytes k) || b) (any_mapped p ks)

-- a key that isn't there goes last
pub inserted_last : (k : String Global) (ks : List (String Global)) → list_any (bytes_eq (string_bytes k)) (map (λ u. string_bytes u) ks) ≡ false
    → map (λ u. string_bytes u) (insert_key (λ j l. bytes_eq (string_bytes j) (string_bytes l)) ks k) ≡ map (λ u. string_bytes u) ks ++ string_bytes k ∷ []
inserted_last k ks e =
    let lacks : list_any (λ l. bytes_eq (string_bytes k) (string_bytes l)) ks ≡ false = sym (any_mapped (bytes_eq (string_bytes k)) ks) ∙ e in
    ap (λ b. map (λ (u : String Global). string_bytes u) (cond b ks (ks ++ k ∷ []))) lacks ∙ map-append (λ (u : String Global). string_bytes u) ks (k ∷ [])
