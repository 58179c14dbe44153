-- What the grammar allows is what is spelled: headers, entries, first and last lines, bundles, and fronts of them.
use Rattle.std.proofs.Common.{◌≡◌, ℕ, zero, suc, ◌≤◌, Bool, true, false, List, [], ◌∷◌, ◌++◌, length, codes, decimal, Option, Some, None, refl, sym, ap, subst, ◌∙◌, arith, append_assoc}
use Rattle.std.specs.List.{All}
use Rattle.sha2.specs.Sha256.{sha256}
use Rattle.rn_modset.specs.Contributions.{Member, has_withdrawal, IsWithinLimits}
use Rattle.rn_modset.specs.Sets.{Rises, IsSet}
use Rattle.rn_modset.specs.BundleGrammar.{Head, text_header, withdrawal_header, IsDigestOf, IsHeader, IsEntryOf, IsEntry, AreEntries, IsFirstLine, IsEndLine, IsBundle}
use Rattle.rn_modset.specs.Bundles.{header_line, digest, entry, entries, first_line, end_line, bundle}
use Rattle.rn_modset.specs.inside.Headers.{MayStand, IsNoHeader, IsLastLine}
use Rattle.rn_modset.specs.BundleFaults.{IsFront, Ends}
use Rattle.rn_modset.proofs.Numerals.GrammarDigits.{number_is, number_by, hex_is, hex_written}
use Rattle.rn_modset.proofs.Numerals.TextDigests.{digest_is, sha256_bytes}

pub digest_spelled : (digits text : List ℕ) → IsDigestOf digits text → digits ≡ digest text
digest_spelled digits text h = hex_is digits (sha256 text) h

pub digest_by : (text : List ℕ) → IsDigestOf (digest text) text
digest_by text = hex_written (sha256 text) (sha256_bytes text)

-- a header of the grammar is spelled so, and is within the limits
pub header_spelled : (w : Bool) (line : List ℕ) (h : Head) → IsHeader w line h → (line ≡ header_line h) × MayStand w h
header_spelled w line (text_header name revision len digits) h =
    let revises = number_is h.revision_digits revision h.is_revision h.is_small in
    let measures = number_is h.len_digits len h.is_len (omega (arith, h.is_short)) in (
      h.is ∙ ap (λ r. codes "module " ++ (name ++ 32 ∷ (r ++ 32 ∷ (h.len_digits ++ 32 ∷ digits)))) revises ∙ ap (λ l. codes "module " ++ (name ++ 32 ∷ (decimal revision ++ 32 ∷ (l ++ 32 ∷ digits)))) measures,
      (h.is_name, h.is_small, h.is_short, h.is_digest),
    )
header_spelled w line (withdrawal_header name revision) h =
    (h.0.is ∙ ap (λ r. codes "withdrawn " ++ (name ++ 32 ∷ r)) (number_is h.0.revision_digits revision h.0.is_revision h.0.is_small), (h.0.is_name, h.0.is_small, h.1))

pub header_by : (w : Bool) (h : Head) → MayStand w h → IsHeader w (header_line h) h
header_by w (text_header name revision len digits) m = record {
  revision_digits = decimal revision;
  len_digits = decimal len;
  is = refl;
  is_name = m.0;
  is_revision = number_by revision m.1;
  is_small = m.1;
  is_len = number_by len (omega (arith, m.2));
  is_short = m.2;
  is_digest = m.3;
}
header_by w (withdrawal_header name revision) m = (
  record {
    revision_digits = decimal revision;
    is = refl;
    is_name = m.0;
    is_revision = number_by revision m.1;
    is_small = m.1;
  },
  m.2,
)

-- the line is a header that may stand
pub header_at : (w : Bool) (line : List ℕ) (h : Head) → line ≡ header_line h → MayStand w h → IsHeader w line h
header_at w line h e m = subst (λ l. IsHeader w l h) (sym e) (header_by w h m)

pub no_header_at : (w : Bool) (line : List ℕ) → IsNoHeader w line → (h : Head) → ¬ (IsHeader w line h)
no_header_at w line n h i = let s = header_spelled w line h i in n h s.1 s.0

entry_of_spelled : (bytes name : List ℕ) (revision : ℕ) (text : Option (List ℕ)) → IsEntryOf bytes name revision text
    → (bytes ≡ entry (record { name = name; revision = revision; text = text })) × IsWithinLimits (record { name = name; revision = revision; text = text })
entry_of_spelled bytes name revision (Some t) h =
    let s = header_spelled true h.0 (text_header name revision (length t) h.1) h.3 in
    let digits = digest_spelled h.1 t h.4 in (
      h.2 ∙ ap (λ l. l ++ 10 ∷ (t ++ 10 ∷ [])) (s.0 ∙ ap (λ d. header_line (text_header name revision (length t) d)) digits),
      record { name = s.1.0; revision = s.1.1; text = s.1.2 },
    )
entry_of_spelled bytes name revision None h =
    let s = header_spelled true h.0 (withdrawal_header name revision) (h.2, refl) in
    (h.1 ∙ ap (λ l. l ++ 10 ∷ []) s.0, record { name = s.1.0; revision = s.1.1; text = tt })

-- an entry of the grammar is spelled so, and is good
pub entry_spelled : (bytes : List ℕ) (m : Member) → IsEntry bytes m → (bytes ≡ entry m) × IsWithinLimits m
entry_spelled bytes m h = entry_of_spelled bytes m.name m.revision m.text h

entry_of_by : (name : List ℕ) (revision : ℕ) (text : Option (List ℕ)) → IsWithinLimits (record { name = name; revision = revision; text = text })
    → IsEntryOf (entry (record { name = name; revision = revision; text = text })) name revision text
entry_of_by name revision (Some t) g =
    let h = header_by true (text_header name revision (length t) (digest t)) (g.name, g.revision, g.text, digest_is t) in
    (header_line (text_header name revision (length t) (digest t)), digest t, refl, h, digest_by t)
entry_of_by name revision None g =
    let h = header_by true (withdrawal_header name revision) (g.name, g.revision, refl) in
    (header_line (withdrawal_header name revision), refl, h.0)

pub entry_by : (m : Member) → IsWithinLimits m → IsEntry (entry m) m
entry_by m g = entry_of_by m.name m.revision m.text g

pub entries_spelled : (bytes : List ℕ) (ms : List Member) → AreEntries bytes ms → (bytes ≡ entries ms) × All IsWithinLimits ms
entries_spelled bytes [] h = (h, λ k d lt. absurd (omega arith))
entries_spelled bytes (m ∷ ms) h =
    let first = entry_spelled h.0 m h.3 in
    let rest = entries_spelled h.1 ms h.4 in
    (h.2 ∙ (λ i. first.0 i ++ rest.0 i), all_cons m ms first.1 rest.1)
  where
    all_cons : (m : Member) (ms : List Member) → IsWithinLimits m → All IsWithinLimits ms → All IsWithinLimits (m ∷ ms)
    all_cons m ms g a zero d lt = g
    all_cons m ms g a (suc k) d lt = a k d (omega arith)

pub entries_by : (ms : List Member) → All IsWithinLimits ms → AreEntries (entries ms) ms
entries_by [] g = refl
entries_by (m ∷ ms) g = (entry m, entries ms, refl, entry_by m (g 0 m (omega arith)), entries_by ms (λ k d lt. g (suc k) d (omega arith)))

pub first_spelled : (w : Bool) (bytes : List ℕ) → IsFirstLine w bytes → bytes ≡ first_line w
first_spelled true bytes h = h
first_spelled false bytes h = h

pub first_by : (w : Bool) → IsFirstLine w (first_line w)
first_by true = refl
first_by false = refl

pub end_spelled : (line : List ℕ) (n : ℕ) → IsEndLine line n → n ≤ 1024 → line ≡ end_line n
end_spelled line n h le = h.1 ∙ ap (λ d. codes "end " ++ d) (number_is h.0 n h.2 (omega arith))

pub end_by : (n : ℕ) → n ≤ 1024 → IsEndLine (end_line n) n
end_by n le = (decimal n, refl, number_by n (omega arith))

pub last_by : (w : Bool) (ms : List Member) (line : List ℕ) → length ms ≤ 1024 → IsLastLine w ms line → Ends w ms line
last_by w ms line le h = (h.0, subst (λ l. IsEndLine l (length ms)) (sym h.1) (end_by (length ms) le))

pub last_spelled : (w : Bool) (ms : List Member) (line : List ℕ) → length ms ≤ 1024 → Ends w ms line → IsLastLine w ms line
last_spelled w ms line le h = (h.0, end_spelled line (length ms) h.1 le)

-- a front as it is spelled
pub record IsSpelledFront (bytes : List ℕ) (w : Bool) (ms : List Member) (left : List ℕ) : Type 0 where
  pub is : bytes ≡ first_line w ++ (entries ms ++ left)
  pub good : All IsWithinLimits ms
  pub rises : Rises ms
  pub few : length ms ≤ 1024
  pub version : has_withdrawal ms ≡ true → w ≡ true

pub front_spelled : (bytes : List ℕ) (w : Bool) (ms : List Member) (left : List ℕ) → IsFront bytes w ms left → IsSpelledFront bytes w ms left
front_spelled bytes w ms left f =
    let first = first_spelled w f.first f.is_first in
    let middle = entries_spelled f.middle ms f.are_entries in
    record { is = f.is ∙ (λ i. first i ++ (middle.0 i ++ left)); good = middle.1; rises = f.rises; few = f.few; version = f.version }

pub front_by : (bytes : List ℕ) (w : Bool) (ms : List Member) (left : List ℕ) → IsSpelledFront bytes w ms left → IsFront bytes w ms left
front_by bytes w ms left f = record {
  first = first_line w;
  middle = entries ms;
  is = f.is;
  is_first = first_by w;
  are_entries = entries_by ms f.good;
  rises = f.rises;
  few = f.few;
  version = f.version;
}

flat : (s : List Member) → bundle s ≡ first_line (has_withdrawal s) ++ (entries s ++ (end_line (length s) ++ 10 ∷ []))
flat s = append_assoc (first_line (has_withdrawal s) ++ entries s) (end_line (length s)) (10 ∷ []) ∙ append_assoc (first_line (has_withdrawal s)) (entries s) (end_line (length s) ++ 10 ∷ [])

-- a bundle of the grammar is a set's, and is spelled so
pub bundle_spelled : (bytes : List ℕ) (s : List Member) → IsBundle bytes s → IsSet s × (bytes ≡ bundle s)
bundle_spelled bytes s b =
    let first = first_spelled (has_withdrawal s) b.first b.is_first in
    let middle = entries_spelled b.middle s b.are_entries in
    let last = end_spelled b.last (length s) b.is_last b.few in
    (record { rises = b.rises; few = b.few; good = middle.1 }, b.is ∙ (λ i. first i ++ (middle.0 i ++ (last i ++ 10 ∷ []))) ∙ sym (flat s))

pub bundle_by : (s : List Member) → IsSet s → IsBundle (bundle s) s
bundle_by s h = record {
  first = first_line (has_withdrawal s);
  middle = entries s;
  last = end_line (length s);
  is = flat s;
  is_first = first_by (has_withdrawal s);
  are_entries = entries_by s h.good;
  rises = h.rises;
  few = h.few;
  is_last = end_by (length s) h.few;
}

-- what is spelled as a set's bundle is its bundle
pub bundle_at : (bytes : List ℕ) (s : List Member) → IsSet s → bytes ≡ bundle s → IsBundle bytes s
bundle_at bytes s h e = subst (λ b. IsBundle b s) (sym e) (bundle_by s h)
