-- Short texts of URIs that ascend: they ascend too, a special URI among them stays, and each URI has one.
use Rattle.std.proofs.Common.{◌≡◌, ℕ, ◌+◌, ◌<◌, ◌^◌, ◌⊎◌, inl, inr, Bool, true, false, cond, List, [], ◌∷◌, ◌++◌, length, drop, map, append-nil, refl, sym, ap, ◌∙◌, subst, arith, Contains, IsSome, Ordering, Less, Equal, Greater}
use Rattle.std.specs.Prelude.{bytes_eq}
use Rattle.std.specs.List.{AllByRecursion}
use Rattle.std.specs.List.Sorted.{IsStrictlySortedBy}
use Rattle.std.specs.Map.{lookup, keys_of}
use Rattle.std.specs.Ordering.{is_le}
use Rattle.std.proofs.lemmas.Bool.{cond_both, false≢true}
use Rattle.std.proofs.lemmas.Cmp.{nat_list_cmp_total, nat_list_eq_equiv, tied_itself}
use Rattle.std.proofs.lemmas.List.Elements.{All-from_recursion}
use Rattle.std.proofs.lemmas.Map.Views.{IsSome-lookup_from_Contains, lookup-from_Contains}
use Rattle.std.proofs.lemmas.Simd.{map-map}
use Rattle.rn_text.specs.Texts.{Text, text_cmp}
use Rattle.rn_pattern.specs.NameRules.{declarations}
use Rattle.rn_pattern.proofs.Ordered.InOrder.{contains_front, contains_behind, contains_cases}
use Rattle.rn_syntax.specs.Places.{xml_uri, xsd_uri}
use Rattle.rn_assemble.specs.ShortTexts.{Stays, ShortsAscend, special_uris, front_of, digits_of, short_text_of, short_list}
use Rattle.rn_assemble.specs.inside.Covered.{swapped}
use Rattle.rn_assemble.proofs.Combined.Combinations.{same_text}
use Rattle.rn_assemble.proofs.Renaming.NumberDigits.{digits_behind, digits_low, digits_some}
use Rattle.rn_assemble.proofs.Renaming.ShortTables.{apart}

-- ---- the special URI before a URI

-- a text that isn't above another is below each greater one
rises_at : (o : Ordering) (s u v : Text) → text_cmp s u ≡ o → is_le o ≡ true → text_cmp u v ≡ Less → text_cmp s v ≡ Less
rises_at Less s u v e b h = nat_list_cmp_total.trans s u v e h
rises_at Equal s u v e b h = nat_list_cmp_total.congr s u v e ∙ h
rises_at Greater s u v e b h = absurd (false≢true b)

-- the text p isn't above u
abbrev IsUpTo : Text → Text → Type 0
IsUpTo u p = is_le (text_cmp p u) ≡ true

rises : (s u v : Text) → text_cmp u v ≡ Less → IsUpTo u s → text_cmp s v ≡ Less
rises s u v h b = rises_at (text_cmp s u) s u v refl b h

none_up_to : (u : Text) → IsUpTo u []
none_up_to [] = refl
none_up_to (c ∷ u) = refl

-- the front by the three tests
abbrev front_at : (xml xsd declares : Bool) → Text
front_at a b c = cond a xml_uri (cond b xsd_uri (cond c declarations []))

front_up_to : (u : Text) → IsUpTo u (front_of u)
front_up_to u =
    let declares = is_le (text_cmp declarations u) in
    let xsd = is_le (text_cmp xsd_uri u) in
    cond_both (is_le (text_cmp xml_uri u)) xml_uri (front_at false xsd declares) (IsUpTo u) (λ e. e)
    (λ a. cond_both xsd xsd_uri (front_at false false declares) (IsUpTo u) (λ e. e)
    (λ b. cond_both declares declarations [] (IsUpTo u) (λ e. e) (λ c. none_up_to u)))

-- ---- a short text as what is behind a front

abbrev short_behind : Text → ℕ → Text → Text
short_behind p n u = cond (bytes_eq u p) u (p ++ digits_of n)

abbrev IsTail : ℕ → Text → Type 0
IsTail n s = (s ≡ []) ⊎ (s ≡ digits_of n)

-- a short text is its front with nothing or the digits behind it
tail_at : (b : Bool) (p : Text) (n : ℕ) (u : Text) → bytes_eq u p ≡ b → (s : Text) × IsTail n s × (cond b u (p ++ digits_of n) ≡ p ++ s)
tail_at true p n u e = ([], inl refl, same_text u p e ∙ sym (append-nil p))
tail_at false p n u e = (digits_of n, inr refl, refl)

tail_of : (p : Text) (n : ℕ) (u : Text) → (s : Text) × IsTail n s × (short_behind p n u ≡ p ++ s)
tail_of p n u = tail_at (bytes_eq u p) p n u refl

-- whatever is behind them, the first front decides
abbrev IsBefore : Text → Text → Type 0
IsBefore p q = (n : ℕ) (s t : Text) → n < 2 ^ 64 → IsTail n s → text_cmp (p ++ s) (q ++ t) ≡ Less

none_before : (q : Text) → IsBefore [] (104 ∷ q)
none_before q n s t l (inl e) = ap (λ (w : Text). text_cmp w (104 ∷ q ++ t)) e
none_before q n s t l (inr e) = ap (λ (w : Text). text_cmp w (104 ∷ q ++ t)) e ∙ digits_low n l (q ++ t)

-- of two URIs in order the fronts are the same or in order
fronts : (a b c d e f : Bool) → (a ≡ true → d ≡ true) → (b ≡ true → e ≡ true) → (c ≡ true → f ≡ true)
    → (front_at a b c ≡ front_at d e f) ⊎ IsBefore (front_at a b c) (front_at d e f)
fronts true b c true e f h k l = inl refl
fronts true b c false e f h k l = absurd (false≢true (h refl))
fronts false true c true e f h k l = inr (λ n s t m w. refl)
fronts false true c false true f h k l = inl refl
fronts false true c false false f h k l = absurd (false≢true (k refl))
fronts false false true true e f h k l = inr (λ n s t m w. refl)
fronts false false true false true f h k l = inr (λ n s t m w. refl)
fronts false false true false false true h k l = inl refl
fronts false false true false false false h k l = absurd (false≢true (l refl))
fronts false false false true e f h k l = inr (none_before (drop 1 xml_uri))
fronts false false false false true f h k l = inr (none_before (drop 1 xsd_uri))
fronts false false false false false true h k l = inr (none_before (drop 1 declarations))
fronts false false false false false false h k l = inl refl

module _ (i j : ℕ) (in_turn : i < j) (fits : j < 2 ^ 64) (u v : Text) (h : text_cmp u v ≡ Less) where
  -- behind the same front
  same_front_at : (p : Text) → IsUpTo u p → (b c : Bool) → bytes_eq u p ≡ b → bytes_eq v p ≡ c
      → text_cmp (cond b u (p ++ digits_of i)) (cond c v (p ++ digits_of j)) ≡ Less
  same_front_at p l true true e f = h
  same_front_at p l true false e f = ap (λ (w : Text). text_cmp w (p ++ digits_of j)) (same_text u p e) ∙ digits_some p j fits
  same_front_at p l false true e f =
      let tied : Less ≡ Equal = sym (rises p u v h l) ∙ ap (text_cmp p) (same_text v p f) ∙ tied_itself nat_list_cmp_total p in cc
  same_front_at p l false false e f = digits_behind p i j in_turn fits

  -- behind fronts in order
  other_front : (p q : Text) → IsBefore p q → text_cmp (short_behind p i u) (short_behind q j v) ≡ Less
  other_front p q b =
      let s = tail_of p i u in
      let t = tail_of q j v in
      (λ k. text_cmp (s.2 k) (t.2 k)) ∙ b i s.0 t.0 (omega arith) s.1

  kept : (s : Text) → IsUpTo u s → IsUpTo v s
  kept s e = ap is_le (rises s u v h e)

  two_ascend : text_cmp (short_text_of i u) (short_text_of j v) ≡ Less
  two_ascend =
      elim (fronts (is_le (text_cmp xml_uri u)) (is_le (text_cmp xsd_uri u)) (is_le (text_cmp declarations u))
      (is_le (text_cmp xml_uri v)) (is_le (text_cmp xsd_uri v)) (is_le (text_cmp declarations v))
      (kept xml_uri) (kept xsd_uri) (kept declarations)) [
        | inl e ↦ ap (λ (q : Text). text_cmp (short_text_of i u) (short_behind q j v)) (sym e)
            ∙ same_front_at (front_of u) (front_up_to u) (bytes_eq u (front_of u)) (bytes_eq v (front_of u)) refl refl
        | inr b ↦ other_front (front_of u) (front_of v) b
      ]

-- the short text of a lesser URI, with a lesser number, is below all of the list
all_behind : (i n : ℕ) (u : Text) (us : List Text) → i < n → n + length us < 2 ^ 64 → AllByRecursion (λ v. text_cmp u v ≡ Less) us
    → AllByRecursion (λ t. text_cmp (short_text_of i u) t ≡ Less) (map (λ (e : Text × Text). e.0) (short_list n us))
all_behind i n u [] l m a = tt
all_behind i n u (v ∷ vs) l m a = (two_ascend i n l (omega arith) u v a.0, all_behind i (n + 1) u vs (omega arith) (omega arith) a.1)

-- short texts ascend with their URIs
pub shorts_ascend : (n : ℕ) (us : List Text) → n + length us < 2 ^ 64 → IsStrictlySortedBy text_cmp us → ShortsAscend (short_list n us)
unfolding IsStrictlySortedBy
shorts_ascend n [] l s = tt
shorts_ascend n (u ∷ us) l s = (all_behind n (n + 1) u us (omega arith) (omega arith) s.0, shorts_ascend (n + 1) us (omega arith) s.1)

-- ---- the list and its URIs

pub uris_listed : (n : ℕ) (us : List Text) → map (λ (e : Text × Text). e.1) (short_list n us) ≡ us
uris_listed n [] = refl
uris_listed n (u ∷ us) = ap (λ (vs : List Text). u ∷ vs) (uris_listed (n + 1) us)

pub list_more : (n : ℕ) (us : List Text) (u : Text) → short_list n (us ++ u ∷ []) ≡ short_list n us ++ (short_text_of (n + length us) u, u) ∷ []
list_more n [] u = ap (λ k. (short_text_of k u, u) ∷ []) (omega arith)
list_more n (v ∷ us) u =
    let here : n + 1 + length us ≡ n + length (v ∷ us) = omega arith in
    ap (λ es. (short_text_of n v, v) ∷ es) (list_more (n + 1) us u ∙ ap (λ k. short_list (n + 1) us ++ (short_text_of k u, u) ∷ []) here)

-- ---- a URI of the list

-- its short text is the URI, whatever its number
abbrev IsShort : Text → Type 0
IsShort s = (n : ℕ) → short_text_of n s ≡ s

specials_short : AllByRecursion IsShort special_uris
specials_short = (λ n. refl, (λ n. refl, (λ n. refl, (λ n. refl, tt))))

special_short : (s : Text) → Contains special_uris s → IsShort s
special_short s (k, l, e) = subst IsShort e (All-from_recursion IsShort special_uris specials_short k s l)

-- a URI of the list stands there with the short text of some number
member : (n : ℕ) (us : List Text) (s : Text) → Contains us s → (k : ℕ) × Contains (short_list n us) (short_text_of k s, s)
member n [] s (k, l, e) = absurd (omega (arith, l))
member n (u ∷ us) s c = elim (contains_cases u s us c) [
  | inl e ↦ (n, subst (λ (t : Text). Contains (short_list n (u ∷ us)) (short_text_of n t, t)) e (contains_front (short_text_of n u, u) (short_list (n + 1) us)))
  | inr d ↦ let r = member (n + 1) us s d in (r.0, contains_behind (short_text_of n u, u) (short_text_of r.0 s, s) (short_list (n + 1) us) r.1)
]

-- a special URI of the list stays
pub special_stays : (n : ℕ) (us : List Text) → ShortsAscend (short_list n us) → (s : Text) → Contains special_uris s → Contains us s → Stays (short_list n us) s
special_stays n us a s c d =
    let r = member n us s d in
    let here : Contains (short_list n us) (s, s) = subst (λ (t : Text). Contains (short_list n us) (t, s)) (special_short s c r.0) r.1 in
    lookup-from_Contains {eq = bytes_eq} nat_list_eq_equiv s s (short_list n us) (apart (keys_of (short_list n us)) a) here

-- a URI of the list has a short text
pub has_short : (n : ℕ) (us : List Text) (u : Text) → Contains us u → IsSome (lookup (bytes_eq u) (swapped (short_list n us)))
has_short n us u c =
    let listed : keys_of (swapped (short_list n us)) ≡ us = map-map (λ (e : Text × Text). e.0) (λ (e : Text × Text). (e.1, e.0)) (short_list n us) ∙ uris_listed n us in
    IsSome-lookup_from_Contains {eq = bytes_eq} nat_list_eq_equiv u (swapped (short_list n us)) (subst (λ (ts : List Text). Contains ts u) (sym listed) c)
