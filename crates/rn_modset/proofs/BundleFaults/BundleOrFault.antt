-- Bytes are a bundle or have a fault: what the next line is can be decided, and so what stands behind each front.
use Rattle.std.proofs.Common.{◌≡◌, ◌≢◌, ℕ, zero, suc, ◌<◌, ◌≤◌, ◌^◌, ◌⊎◌, inl, inr, Bool, true, false, not, ◌&&◌, ◌==◌, List, [], ◌∷◌, ◌++◌, length, codes, decimal, Some, None, refl, sym, ap, subst, ◌∙◌, arith, append_assoc, eqb-true, eq-eqb}
use Rattle.std.specs.List.{list_all, AllByRecursion}
use Rattle.std.specs.List.Sorted.{IsStrictlySortedBy}
use Rattle.std.specs.Str.{bytes_eq}
use Rattle.std.specs.Str.Parse.{digits_value}
use Rattle.std.specs.declared.cmp.Ordering.{Ordering}
use Rattle.std.specs.declared.cmp.Ordering.TheVariants.{Less, Equal, Greater}
use Rattle.std.proofs.lemmas.Bool.{cases_Bool, cases_lt, and_parts, and_from}
use Rattle.std.proofs.lemmas.Fmt.{decimal_is_IsNumeral}
use Rattle.std.proofs.lemmas.List.{length-append}
use Rattle.std.proofs.lemmas.Slice.Eq.{bytes_eq-Decides}
use Rattle.rn_modset.specs.declared.faults.BundleFault.{BundleFault}
use Rattle.rn_modset.specs.declared.faults.BundleFault.TheVariants.{Magic, Header, Order, Digest, Truncated, Trailing, Memory}
use Rattle.rn_modset.specs.Contributions.{Member, member_cmp, is_module_name, is_withdrawal, has_withdrawal, IsWithinLimits}
use Rattle.rn_modset.specs.Sets.{Rises}
use Rattle.rn_modset.specs.BundleGrammar.{Head, text_header, withdrawal_header, is_lower_hex, IsDigest, IsHeader, IsFirstLine, IsBundle}
use Rattle.rn_modset.specs.Bundles.{header_line, header_of, body_of, digest, entry, first_line, end_line}
use Rattle.rn_modset.specs.inside.Headers.{MayStand, IsNoHeader, AreNoTextFields}
use Rattle.rn_modset.specs.BundleFaults.{HasLine, Ends, IsTextFault, cut_short, no_line_feed, other_digest, IsEntryFault, no_header, bad_text, IsFaultBehind, no_line, more_bytes, bad_entry, out_of_order, HasBundleFault, no_first_line, behind}
use Rattle.rn_modset.proofs.TestAnswers.TruthValues.{differs}
use Rattle.rn_modset.proofs.LineParts.HeaderLines.{whole_line, IsCut, no_kind, no_name, bad_name, no_such_kind, text_by, withdrawal_by, AreCut, no_revision, no_length, bad_revision, bad_length, bad_limits}
use Rattle.rn_modset.proofs.BundlesWritten.SpelledBundles.{IsSpelledFront, front_by, first_spelled, header_spelled, last_by, last_spelled, entry_by, header_at, no_header_at, digest_spelled, bundle_at}
use Rattle.rn_modset.proofs.BundlesRead.EntryByEntry.{front_start, front_more, front_set, front_end}

-- P holds, or it doesn't
abbrev Decided : Type 0 → Type 0
Decided P = P ⊎ ¬ P

by_test : {P : Type 0} (b : Bool) → (b ≡ true → P) → (P → b ≡ true) → Decided P
by_test b then back = elim (cases_Bool b) [ inl e ↦ inl (then e) | inr e ↦ inr (λ p. differs e (back p)) ]

same_bytes : (x y : List ℕ) → Decided (x ≡ y)
same_bytes x y = by_test (bytes_eq x y) (bytes_eq-Decides x y).0 (bytes_eq-Decides x y).1

same_bool : (a b : Bool) → Decided (a ≡ b)
same_bool true true = inl refl
same_bool true false = inr (λ e. cc)
same_bool false true = inr (λ e. cc)
same_bool false false = inl refl

-- ---- lines and fields

-- the list cut at its first c
record CutAt (c : ℕ) (xs : List ℕ) : Type 0 where
  front : List ℕ
  rest : List ℕ
  is : xs ≡ front ++ c ∷ rest
  lacks : list_all (λ z. not (z == c)) front ≡ true

cut_more : (c x : ℕ) (xs : List ℕ) → (x == c) ≡ false → CutAt c xs → CutAt c (x ∷ xs)
cut_more c x xs e k = record { front = x ∷ k.front; rest = k.rest; is = ap (λ t. x ∷ t) k.is; lacks = and_from (not (x == c)) _ (ap not e) k.lacks }

cut_at : (c : ℕ) (xs : List ℕ) → CutAt c xs ⊎ (list_all (λ z. not (z == c)) xs ≡ true)
cut_at c [] = inr refl
cut_at c (x ∷ xs) = elim (cases_Bool (x == c)) [
  | inl e ↦ inl (record { front = []; rest = xs; is = ap (λ y. y ∷ xs) (eqb-true x c e); lacks = refl })
  | inr e ↦ elim (cut_at c xs) [
    | inl k ↦ inl (cut_more c x xs e k)
    | inr l ↦ inr (and_from (not (x == c)) _ (ap not e) l)
  ]
]

abbrev IsNumeral : List ℕ → Type 0
IsNumeral ds = (n : ℕ) × (n < 2 ^ 64) × (ds ≡ decimal n)

numeral_value : (ds : List ℕ) (n : ℕ) → n < 2 ^ 64 → ds ≡ decimal n → digits_value 10 ds ≡ n
numeral_value ds n small e = ap (digits_value 10) e ∙ (decimal_is_IsNumeral n small).1

numeral_by : (ds : List ℕ) (v : ℕ) → v ≡ digits_value 10 ds → (v < 2 ^ 64) ⊎ (2 ^ 64 ≤ v) → Decided (ds ≡ decimal v) → IsNumeral ds ⊎ ((n : ℕ) → n < 2 ^ 64 → ds ≢ decimal n)
numeral_by ds v is (inl small) (inl e) = inl (v, small, e)
numeral_by ds v is (inl small) (inr other) = inr (λ n fits e. other (e ∙ ap decimal (sym (is ∙ numeral_value ds n fits e))))
numeral_by ds v is (inr large) decided = inr (λ n fits e. let k = numeral_value ds n fits e in absurd (omega (arith, is, k, large, fits)))

numeral : (ds : List ℕ) → IsNumeral ds ⊎ ((n : ℕ) → n < 2 ^ 64 → ds ≢ decimal n)
numeral ds = let v = digits_value 10 ds in numeral_by ds v refl (cases_lt v (2 ^ 64)) (same_bytes ds (decimal v))

is_digest_decided : (digits : List ℕ) → Decided (IsDigest digits)
is_digest_decided digits = by_test ((length digits == 64) && list_all is_lower_hex digits)
    (λ e. let both = and_parts (length digits == 64) _ e in (eqb-true (length digits) 64 both.0, both.1))
    (λ d. and_from (length digits == 64) _ (eq-eqb (length digits) 64 d.0) d.1)

-- ---- headers

-- a header that the line spells
abbrev HeadOf : Bool → List ℕ → Type 0
HeadOf w line = (h : Head) × IsHeader w line h

abbrev HeadOrNone : Bool → List ℕ → Type 0
HeadOrNone w line = HeadOf w line ⊎ ((h : Head) → ¬ IsHeader w line h)

headless_by : (w : Bool) (line : List ℕ) → IsNoHeader w line → HeadOrNone w line
headless_by w line n = inr (no_header_at w line n)

module _ (w : Bool) (line kind name fields : List ℕ) (c : IsCut line kind name fields) where
  module _ (named : is_module_name name ≡ true) where
    module _ (is_text : kind ≡ codes "module") where
      no_text : AreNoTextFields fields → HeadOrNone w line
      no_text n = headless_by w line (text_by w line kind name fields None c is_text n)

      -- the fields behind a text's name, cut at both spaces
      module _ (revision len digits : List ℕ) (cut : AreCut fields revision len digits) where
        text_line : (r l : ℕ) → revision ≡ decimal r → len ≡ decimal l → line ≡ header_line (text_header name r l digits)
        text_line r l re le = whole_line line kind name fields c ∙ (λ i. is_text i ++ 32 ∷ (name ++ 32 ∷ cut.first i))
            ∙ (λ i. codes "module" ++ 32 ∷ (name ++ 32 ∷ (re i ++ 32 ∷ cut.second i)))
            ∙ (λ i. codes "module" ++ 32 ∷ (name ++ 32 ∷ (decimal r ++ 32 ∷ (le i ++ 32 ∷ digits))))

        text_header_or_none : (r l : ℕ) → r < 2 ^ 64 → revision ≡ decimal r → l < 2 ^ 64 → len ≡ decimal l → (4194304 < l) ⊎ (l ≤ 4194304) → Decided (IsDigest digits) → HeadOrNone w line
        text_header_or_none r l small re fits le (inl long) decided = no_text (bad_limits fields revision len digits l cut fits le (λ short d. absurd (omega (arith, long, short))))
        text_header_or_none r l small re fits le (inr short) (inl d) = inl (text_header name r l digits, header_at w line (text_header name r l digits) (text_line r l re le) (named, small, short, d))
        text_header_or_none r l small re fits le (inr short) (inr none) = no_text (bad_limits fields revision len digits l cut fits le (λ s d. none d))

        numbers_header_or_none : HeadOrNone w line
        numbers_header_or_none = elim (numeral revision) [
          | inl r ↦ elim (numeral len) [
            | inl l ↦ text_header_or_none r.0 l.0 r.1 r.2 l.1 l.2 (cases_lt 4194304 l.0) (is_digest_decided digits)
            | inr n ↦ no_text (bad_length fields revision len digits cut n)
          ]
          | inr n ↦ no_text (bad_revision fields revision len digits cut n)
        ]

      lengths_header_or_none : (a : CutAt 32 fields) → CutAt 32 a.rest ⊎ (list_all (λ z. not (z == 32)) a.rest ≡ true) → HeadOrNone w line
      lengths_header_or_none a (inl b) = numbers_header_or_none a.front b.front b.rest (record { rest = a.rest; first = a.is; revision_lacks = a.lacks; second = b.is; len_lacks = b.lacks })
      lengths_header_or_none a (inr l) = no_text (no_length fields a.front a.rest a.is a.lacks l)

      fields_header_or_none : HeadOrNone w line
      fields_header_or_none = elim (cut_at 32 fields) [
        | inl a ↦ lengths_header_or_none a (cut_at 32 a.rest)
        | inr l ↦ no_text (no_revision fields l)
      ]

    withdrawal_line : (r : ℕ) → kind ≡ codes "withdrawn" → fields ≡ decimal r → line ≡ header_line (withdrawal_header name r)
    withdrawal_line r is re = whole_line line kind name fields c ∙ (λ i. is i ++ 32 ∷ (name ++ 32 ∷ re i))

    withdrawal_header_or_none : w ≡ true → kind ≡ codes "withdrawn" → HeadOrNone w line
    withdrawal_header_or_none v is = elim (numeral fields) [
      | inl r ↦ inl (withdrawal_header name r.0, header_at w line (withdrawal_header name r.0) (withdrawal_line r.0 is r.2) (named, r.1, v))
      | inr n ↦ headless_by w line (subst (λ b. IsNoHeader b line) (sym v) (withdrawal_by line kind name fields None c is (λ r small e. n r small e)))
    ]

    kinds_header_or_none : Decided (kind ≡ codes "module") → Decided (kind ≡ codes "withdrawn") → Decided (w ≡ true) → HeadOrNone w line
    kinds_header_or_none (inl t) b v = fields_header_or_none t
    kinds_header_or_none (inr n) (inl b) (inl v) = withdrawal_header_or_none v b
    kinds_header_or_none (inr n) (inl b) (inr v) = headless_by w line (no_such_kind w line kind name fields c n (λ e. v))
    kinds_header_or_none (inr n) (inr m) v = headless_by w line (no_such_kind w line kind name fields c n (λ e. absurd (m e)))

  names_header_or_none : HeadOrNone w line
  names_header_or_none = elim (cases_Bool (is_module_name name)) [
    | inl e ↦ kinds_header_or_none e (same_bytes kind (codes "module")) (same_bytes kind (codes "withdrawn")) (same_bool w true)
    | inr e ↦ headless_by w line (bad_name w line kind name fields c e)
  ]

behind_kind : (w : Bool) (line : List ℕ) (a : CutAt 32 line) → CutAt 32 a.rest ⊎ (list_all (λ z. not (z == 32)) a.rest ≡ true) → HeadOrNone w line
behind_kind w line a (inl b) = names_header_or_none w line a.front b.front b.rest (record { rest = a.rest; first = a.is; kind_lacks = a.lacks; second = b.is; name_lacks = b.lacks })
behind_kind w line a (inr l) = headless_by w line (no_name w line a.front a.rest a.is a.lacks l)

head_or_none : (w : Bool) (line : List ℕ) → HeadOrNone w line
head_or_none w line = elim (cut_at 32 line) [
  | inl a ↦ behind_kind w line a (cut_at 32 a.rest)
  | inr l ↦ headless_by w line (no_kind w line l)
]

-- ---- texts

-- a front of that length, and what follows it
record FrontOf (n : ℕ) (xs : List ℕ) : Type 0 where
  front : List ℕ
  byte : ℕ
  rest : List ℕ
  long : length front ≡ n
  is : xs ≡ front ++ byte ∷ rest

front_of : (n : ℕ) (xs : List ℕ) → n < length xs → FrontOf n xs
front_of n [] h = absurd (omega (arith, h))
front_of zero (x ∷ xs) h = record { front = []; byte = x; rest = xs; long = refl; is = refl }
front_of (suc n) (x ∷ xs) h =
    let f = front_of n xs (omega (arith, h)) in
    record { front = x ∷ f.front; byte = f.byte; rest = f.rest; long = ap (λ k. suc k) f.long; is = ap (λ t. x ∷ t) f.is }

-- the text of that length and digest, and what is left
record TextOf (len : ℕ) (digits after : List ℕ) : Type 0 where
  text : List ℕ
  left : List ℕ
  long : length text ≡ len
  is : after ≡ text ++ 10 ∷ left
  summed : digits ≡ digest text

abbrev TextOrFault : ℕ → ℕ → List ℕ → List ℕ → Type 0
TextOrFault at len digits after = TextOf len digits after ⊎ ((f : BundleFault) × IsTextFault at len digits after f × (f ≢ Memory))

front_or_fault : (at len : ℕ) (digits after : List ℕ) (f : FrontOf len after) → Decided (f.byte ≡ 10) → Decided (digits ≡ digest f.front) → TextOrFault at len digits after
front_or_fault at len digits after f (inl e) (inl d) = inl (record { text = f.front; left = f.rest; long = f.long; is = f.is ∙ ap (λ b. f.front ++ b ∷ f.rest) e; summed = d })
front_or_fault at len digits after f (inl e) (inr n) = inr (Digest at, other_digest f.front f.rest f.long (f.is ∙ ap (λ b. f.front ++ b ∷ f.rest) e) (λ d. n (digest_spelled digits f.front d)), λ k. cc)
front_or_fault at len digits after f (inr n) decided = inr (Header at, no_line_feed f.front f.rest f.byte f.long f.is n, λ k. cc)

text_or_fault : (at len : ℕ) (digits after : List ℕ) → TextOrFault at len digits after
text_or_fault at len digits after = elim (cases_lt len (length after)) [
  | inl long ↦ let f = front_of len after long in front_or_fault at len digits after f (by_test (f.byte == 10) (λ e. eqb-true f.byte 10 e) (λ e. eq-eqb f.byte 10 e)) (same_bytes digits (digest f.front))
  | inr short ↦ inr (Truncated, cut_short short, λ k. cc)
]

-- ---- the order

less_decided : (r : Ordering) → Decided (r ≡ Less)
less_decided Less = inl refl
less_decided Equal = inr (λ e. cc)
less_decided Greater = inr (λ e. cc)

all_decided : (P : Member → Type 0) → ((m : Member) → Decided (P m)) → (ms : List Member) → Decided (AllByRecursion P ms)
all_decided P decided [] = inl tt
all_decided P decided (m ∷ ms) = elim (decided m) [
  | inl p ↦ elim (all_decided P decided ms) [ inl a ↦ inl (p, a) | inr n ↦ inr (λ a. n a.1) ]
  | inr n ↦ inr (λ a. n a.0)
]

rises_decided : (ms : List Member) → Decided (Rises ms)
unfolding IsStrictlySortedBy
rises_decided [] = inl tt
rises_decided (m ∷ ms) = elim (all_decided (λ y. member_cmp m y ≡ Less) (λ y. less_decided (member_cmp m y)) ms) [
  | inl a ↦ elim (rises_decided ms) [ inl s ↦ inl (a, s) | inr n ↦ inr (λ s. n s.1) ]
  | inr n ↦ inr (λ s. n s.0)
]

-- ---- entries

-- the next entry is good, and may stand here; so much is left
record NextEntry (w : Bool) (ms : List Member) (left : List ℕ) : Type 0 where
  m : Member
  rest : List ℕ
  is : left ≡ entry m ++ rest
  good : IsWithinLimits m
  few : length ms < 1024
  version : is_withdrawal m ≡ true → w ≡ true

abbrev EntryOrFault : Bool → List Member → List ℕ → Type 0
EntryOrFault w ms left = NextEntry w ms left ⊎ ((f : BundleFault) × IsFaultBehind w ms left f × (f ≢ Memory))

spelled_text : (left line after name digits text rest : List ℕ) (revision len : ℕ) → left ≡ line ++ 10 ∷ after → line ≡ header_line (text_header name revision len digits) → length text ≡ len → after ≡ text ++ 10 ∷ rest
    → digits ≡ digest text → left ≡ entry (record { name = name; revision = revision; text = Some text }) ++ rest
spelled_text left line after name digits text rest revision len e l n a d =
    e ∙ (λ i. l i ++ 10 ∷ a i) ∙ (λ i. header_line (text_header name revision (sym n i) (d i)) ++ 10 ∷ (text ++ 10 ∷ rest))
    ∙ ap (λ t. header_line (text_header name revision (length text) (digest text)) ++ 10 ∷ t) (sym (append_assoc text (10 ∷ []) rest))
    ∙ sym (append_assoc (header_line (text_header name revision (length text) (digest text))) (10 ∷ (text ++ 10 ∷ [])) rest)

spelled_withdrawal : (left line after name : List ℕ) (revision : ℕ) → left ≡ line ++ 10 ∷ after → line ≡ header_line (withdrawal_header name revision)
    → left ≡ entry (record { name = name; revision = revision; text = None }) ++ after
spelled_withdrawal left line after name revision e l =
    e ∙ (λ i. l i ++ 10 ∷ after) ∙ sym (append_assoc (header_line (withdrawal_header name revision)) (10 ∷ []) after)

module _ (w : Bool) (ms : List Member) (left line after : List ℕ) (has : HasLine left line after) (goes_on : ¬ (Ends w ms line)) where
  faulty : (f : BundleFault) → IsEntryFault w (length ms) line after f → f ≢ Memory → EntryOrFault w ms left
  faulty f x n = inr (f, bad_entry line after f has goes_on x, n)

  module _ (room : length ms < 1024) where
    headed_entry : (h : Head) → IsHeader w line h → (line ≡ header_line h) × MayStand w h → EntryOrFault w ms left
    headed_entry (withdrawal_header name revision) h s = inl (record {
      m = record { name = name; revision = revision; text = None };
      rest = after;
      is = spelled_withdrawal left line after name revision has.is s.0;
      good = record { name = s.1.0; revision = s.1.1; text = tt };
      few = room;
      version = λ e. s.1.2;
    })
    headed_entry (text_header name revision len digits) h s = elim (text_or_fault (length ms) len digits after) [
      | inl t ↦ inl (record {
        m = record { name = name; revision = revision; text = Some t.text };
        rest = t.left;
        is = spelled_text left line after name digits t.text t.left revision len has.is s.0 t.long t.is t.summed;
        good = record { name = s.1.0; revision = s.1.1; text = omega (arith, t.long, s.1.2) };
        few = room;
        version = λ e. cc;
      })
      | inr x ↦ faulty x.0 (bad_text name digits revision len x.0 (room, h) x.1) x.2
    ]

    headed_entry_or_fault : EntryOrFault w ms left
    headed_entry_or_fault = elim (head_or_none w line) [
      | inl h ↦ headed_entry h.0 h.1 (header_spelled w line h.0 h.1)
      | inr n ↦ faulty (Header (length ms)) (no_header (λ h x. n h x.1)) (λ e. cc)
    ]

  entry_or_fault : EntryOrFault w ms left
  entry_or_fault = elim (cases_lt (length ms) 1024) [
    | inl room ↦ headed_entry_or_fault room
    | inr full ↦ faulty (Header (length ms)) (no_header (λ h x. absurd (omega (arith, full, x.0)))) (λ e. cc)
  ]

-- ---- the bytes

abbrev Verdict : List ℕ → Type 0
Verdict bytes = ((s : List Member) × IsBundle bytes s) ⊎ ((f : BundleFault) × HasBundleFault bytes f × (f ≢ Memory))

module _ (bytes : List ℕ) (w : Bool) where
  faulty_behind : (ms : List Member) (left : List ℕ) → IsSpelledFront bytes w ms left → (f : BundleFault) → IsFaultBehind w ms left f → f ≢ Memory → Verdict bytes
  faulty_behind ms left front f x n = inr (f, behind w ms left f (front_by bytes w ms left front) x, n)

  last_line_verdict : (ms : List Member) (left line : List ℕ) (after : List ℕ) → IsSpelledFront bytes w ms left → HasLine left line after → Ends w ms line → Verdict bytes
  last_line_verdict ms left line [] front has ends = inl (ms, bundle_at bytes ms (front_set bytes left w ms front) (front_end bytes left line [] w ms front has.is (last_spelled w ms line front.few ends) refl))
  last_line_verdict ms left line (x ∷ xs) front has ends = faulty_behind ms left front Trailing (more_bytes line (x ∷ xs) has ends (λ e. cc)) (λ e. cc)

  shorter : (left rest : List ℕ) (m : Member) (n : ℕ) → left ≡ entry m ++ rest → length left ≤ suc n → length rest ≤ n
  shorter left rest m n e h = omega (arith, ap length e, length-append (entry m) rest, h, entry_long m)
    where
      entry_long : (m : Member) → 0 < length (entry m)
      entry_long m = omega (arith, length-append (header_line (header_of m.name m.revision m.text)) (10 ∷ body_of m.text))

  entry_verdict : (ms : List Member) (left : List ℕ) → IsSpelledFront bytes w ms left → (e : NextEntry w ms left) → (IsSpelledFront bytes w (ms ++ e.m ∷ []) e.rest → Verdict bytes) → Decided (Rises (ms ++ e.m ∷ [])) → Verdict bytes
  entry_verdict ms left front e go (inl rise) = go (front_more bytes left e.rest w ms e.m front e.is e.good e.few e.version rise)
  entry_verdict ms left front e go (inr none) = faulty_behind ms left front (Order (length ms)) (out_of_order e.m (entry e.m) e.rest e.is (entry_by e.m e.good) e.few e.version none) (λ k. cc)

  line_verdict : (ms : List Member) (left line after : List ℕ) → IsSpelledFront bytes w ms left → HasLine left line after → ((e : NextEntry w ms left) → IsSpelledFront bytes w (ms ++ e.m ∷ []) e.rest → Verdict bytes)
      → Decided (Ends w ms line) → Verdict bytes
  line_verdict ms left line after front has go (inl ends) = last_line_verdict ms left line after front has ends
  line_verdict ms left line after front has go (inr goes_on) = elim (entry_or_fault w ms left line after has goes_on) [
    | inl e ↦ entry_verdict ms left front e (go e) (rises_decided (ms ++ e.m ∷ []))
    | inr x ↦ faulty_behind ms left front x.0 x.1 x.2
  ]

  ends_decided : (ms : List Member) (line : List ℕ) → length ms ≤ 1024 → Decided (w ≡ has_withdrawal ms) → Decided (line ≡ end_line (length ms)) → Decided (Ends w ms line)
  ends_decided ms line few (inl v) (inl e) = inl (last_by w ms line few (v, e))
  ends_decided ms line few (inl v) (inr n) = inr (λ ends. n (last_spelled w ms line few ends).1)
  ends_decided ms line few (inr n) decided = inr (λ ends. n ends.0)

  -- what stands behind a front whose rest has at most so many bytes
  behind_verdict : (n : ℕ) (ms : List Member) (left : List ℕ) → length left ≤ n → IsSpelledFront bytes w ms left → Verdict bytes
  behind_verdict zero ms [] h front = faulty_behind ms [] front Truncated (no_line refl) (λ k. cc)
  behind_verdict zero ms (x ∷ xs) h front = absurd (omega (arith, h))
  behind_verdict (suc n) ms left h front = elim (cut_at 10 left) [
    | inl a ↦ line_verdict ms left a.front a.rest front (record { is = a.is; one = a.lacks }) (λ e more. behind_verdict n (ms ++ e.m ∷ []) e.rest (shorter left e.rest e.m n e.is h) more)
        (ends_decided ms a.front front.few (same_bool w (has_withdrawal ms)) (same_bytes a.front (end_line (length ms))))
    | inr l ↦ faulty_behind ms left front Truncated (no_line l) (λ k. cc)
  ]

  first_line_verdict : (left : List ℕ) → bytes ≡ first_line w ++ left → Verdict bytes
  first_line_verdict left e = behind_verdict (length left) [] left (omega arith) (front_start bytes left w e)

-- the list begins so, or it doesn't
front_found : (front xs : List ℕ) → ((rest : List ℕ) × (xs ≡ front ++ rest)) ⊎ ((rest : List ℕ) → xs ≢ front ++ rest)
front_found [] xs = inl (xs, refl)
front_found (c ∷ front) [] = inr (λ rest e. cc)
front_found (c ∷ front) (x ∷ xs) = elim (cases_Bool (x == c)) [
  | inl e ↦ elim (front_found front xs) [
    | inl f ↦ inl (f.0, (λ i. eqb-true x c e i ∷ f.1 i))
    | inr n ↦ inr (λ rest k. let t : xs ≡ front ++ rest = cc in n rest t)
  ]
  | inr e ↦ inr (λ rest k. let t : x ≡ c = cc in differs e (eq-eqb x c t))
]

none_first : (bytes : List ℕ) → ((rest : List ℕ) → bytes ≢ first_line false ++ rest) → ((rest : List ℕ) → bytes ≢ first_line true ++ rest) → (w : Bool) (first left : List ℕ) → IsFirstLine w first → bytes ≢ first ++ left
none_first bytes n m true first left h e = m left (e ∙ ap (λ z. z ++ left) (first_spelled true first h))
none_first bytes n m false first left h e = n left (e ∙ ap (λ z. z ++ left) (first_spelled false first h))

pub verdict : (bytes : List ℕ) → ((s : List Member) × IsBundle bytes s) ⊎ ((f : BundleFault) × HasBundleFault bytes f × (f ≢ Memory))
verdict bytes = elim (front_found (first_line false) bytes) [
  | inl a ↦ first_line_verdict bytes false a.0 a.1
  | inr n ↦ elim (front_found (first_line true) bytes) [
    | inl b ↦ first_line_verdict bytes true b.0 b.1
    | inr m ↦ inr (Magic, no_first_line (none_first bytes n m), λ k. cc)
  ]
]
