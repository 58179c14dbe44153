-- The grammar of bundles: which bytes are the bundle of which set, by cases on the bytes, apart from their writer and their reader.
use Rattle.std.specs.Prelude.{◌≡◌, ℕ, ◌+◌, ◌*◌, ◌<◌, ◌≤◌, ◌^◌, ◌⊎◌, ◌&&◌, ◌||◌, nat_le, Bool, true, false, List, [], ◌∷◌, ◌++◌, length, codes, Option, Some, None}
use Rattle.std.specs.List.{list_all}
use Rattle.sha2.specs.Sha256.{sha256}
use Rattle.rn_modset.specs.Limits.{max_contributions, max_text}
use Rattle.rn_modset.specs.Contributions.{Member, is_module_name, has_withdrawal}
use Rattle.rn_modset.specs.Sets.{Rises}

-- the decimal digit of a number below 10
abbrev pub IsDigit : ℕ → ℕ → Type 0
IsDigit c n = (n < 10) × (c ≡ 48 + n)

-- digits that go on behind those of a number, and the number of all
abbrev pub DigitsGoOn : ℕ → List ℕ → ℕ → Type 0
DigitsGoOn high [] n = n ≡ high
DigitsGoOn high (c ∷ cs) n = (low : ℕ) × IsDigit c low × DigitsGoOn (high * 10 + low) cs n

-- a decimal number: one digit, or several of which the first is not 0
abbrev pub IsNumber : List ℕ → ℕ → Type 0
IsNumber [] n = ⊥
IsNumber (c ∷ []) n = IsDigit c n
IsNumber (c ∷ d ∷ ds) n = (first : ℕ) × IsDigit c first × (0 < first) × DigitsGoOn first (d ∷ ds) n

-- the hexadecimal digit, in lower case, of a number below 16
abbrev pub IsHexDigit : ℕ → ℕ → Type 0
IsHexDigit c n = IsDigit c n ⊎ ((10 ≤ n) × (n < 16) × (c ≡ 87 + n))

-- the digits spell the bytes in hexadecimal, in lower case: two digits for each byte, the higher one first
abbrev pub SpellsBytes : List ℕ → List ℕ → Type 0
SpellsBytes [] [] = Unit {0}
SpellsBytes [] (b ∷ bytes) = ⊥
SpellsBytes (c ∷ []) bytes = ⊥
SpellsBytes (c ∷ d ∷ digits) [] = ⊥
SpellsBytes (c ∷ d ∷ digits) (b ∷ bytes) = (high : ℕ) × (low : ℕ) × IsHexDigit c high × IsHexDigit d low × (b ≡ high * 16 + low) × SpellsBytes digits bytes

-- the digits of the text's digest, SHA-256 (FIPS 180-4)
abbrev pub IsDigestOf : List ℕ → List ℕ → Type 0
IsDigestOf digits text = SpellsBytes digits (sha256 text)

-- whether the byte is a hexadecimal digit in lower case
abbrev pub is_lower_hex : ℕ → Bool
is_lower_hex c = (nat_le 48 c && nat_le c 57) || (nat_le 97 c && nat_le c 102)

-- the digits of a digest, whichever text it is of
abbrev pub IsDigest : List ℕ → Type 0
IsDigest digits = (length digits ≡ 64) × (list_all is_lower_hex digits ≡ true)

-- `module NAME REV LEN SHA256`, within the limits, without the line feed
pub record IsTextHeader (line name : List ℕ) (revision len : ℕ) (digits : List ℕ) : Type 0 where
  pub revision_digits : List ℕ
  pub len_digits : List ℕ
  pub is : line ≡ codes "module " ++ (name ++ 32 ∷ (revision_digits ++ 32 ∷ (len_digits ++ 32 ∷ digits)))
  pub is_name : is_module_name name ≡ true
  pub is_revision : IsNumber revision_digits revision
  pub is_small : revision < 2 ^ 64
  pub is_len : IsNumber len_digits len
  pub is_short : len ≤ max_text
  pub is_digest : IsDigest digits

-- `withdrawn NAME REV`, within the limits, without the line feed
pub record IsWithdrawalHeader (line name : List ℕ) (revision : ℕ) : Type 0 where
  pub revision_digits : List ℕ
  pub is : line ≡ codes "withdrawn " ++ (name ++ 32 ∷ revision_digits)
  pub is_name : is_module_name name ≡ true
  pub is_revision : IsNumber revision_digits revision
  pub is_small : revision < 2 ^ 64

-- what a header says: a module with a text of this length and digest, or a withdrawal
pub data Head : Type 0 where
  text_header : (name : List ℕ) (revision len : ℕ) (digest : List ℕ) → Head
  withdrawal_header : (name : List ℕ) (revision : ℕ) → Head

-- the line is a header that says so; that of a withdrawal only where withdrawals may stand
abbrev pub IsHeader : Bool → List ℕ → Head → Type 0
IsHeader withdrawals line (text_header name revision len digits) = IsTextHeader line name revision len digits
IsHeader withdrawals line (withdrawal_header name revision) = IsWithdrawalHeader line name revision × (withdrawals ≡ true)

-- the entry of a text is its header's line, the text and a line feed; that of a withdrawal is its header's line
abbrev pub IsEntryOf : List ℕ → List ℕ → ℕ → Option (List ℕ) → Type 0
IsEntryOf bytes name revision (Some text) = (line : List ℕ) × (digits : List ℕ) × (bytes ≡ line ++ 10 ∷ (text ++ 10 ∷ []))
    × IsTextHeader line name revision (length text) digits × IsDigestOf digits text
IsEntryOf bytes name revision None = (line : List ℕ) × (bytes ≡ line ++ 10 ∷ []) × IsWithdrawalHeader line name revision

abbrev pub IsEntry : List ℕ → Member → Type 0
IsEntry bytes m = IsEntryOf bytes m.name m.revision m.text

-- the bytes are the entries of the contributions, one after another
abbrev pub AreEntries : List ℕ → List Member → Type 0
AreEntries bytes [] = bytes ≡ []
AreEntries bytes (m ∷ ms) = (front : List ℕ) × (back : List ℕ) × (bytes ≡ front ++ back) × IsEntry front m × AreEntries back ms

-- the first line, with its line feed: in version 1 no withdrawal stands, in version 2 they may
abbrev pub IsFirstLine : Bool → List ℕ → Type 0
IsFirstLine false bytes = bytes ≡ codes "rncset 1\n"
IsFirstLine true bytes = bytes ≡ codes "rncset 2\n"

-- `end COUNT`, without the line feed
abbrev pub IsEndLine : List ℕ → ℕ → Type 0
IsEndLine line count = (digits : List ℕ) × (line ≡ codes "end " ++ digits) × IsNumber digits count

-- the bytes are the bundle of these contributions, which rise: version 2 exactly where one of them is a withdrawal
pub record IsBundle (bytes : List ℕ) (s : List Member) : Type 0 where
  pub first : List ℕ
  pub middle : List ℕ
  pub last : List ℕ
  pub is : bytes ≡ first ++ (middle ++ (last ++ 10 ∷ []))
  pub is_first : IsFirstLine (has_withdrawal s) first
  pub are_entries : AreEntries middle s
  pub rises : Rises s
  pub few : length s ≤ max_contributions
  pub is_last : IsEndLine last (length s)
