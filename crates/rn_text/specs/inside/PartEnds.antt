-- Where the parts of a text end: segments, symbols and prefixes.
use Rattle.std.specs.Prelude.{◌≡◌, ℕ, ◌≤◌, true, false, ◌==◌, ◌⊎◌, List, ◌∷◌, ◌++◌, length}
use Rattle.rn_text.specs.declared.parts.Kind.{Kind}
use Rattle.rn_text.specs.declared.parts.Kind.TheVariants.{Prefixed, AnyOf}
use Rattle.rn_text.specs.Characters.{is_name_char, is_name_start}
use Rattle.rn_text.specs.Segments.{after_run, is_delimited, opens_threefold}
use Rattle.rn_text.specs.Parts.{is_symbol}

-- a front of the text stands between delimiters
pub record IsDelimitedFront (text front after : List ℕ) : Type 0 where
  pub split : front ++ after ≡ text
  pub is : is_delimited front ≡ true
  pub threefold : opens_threefold text ≡ true → opens_threefold front ≡ true

abbrev pub IsNeverDelimited : List ℕ → Type 0
IsNeverDelimited text = (front after : List ℕ) → ¬ (IsDelimitedFront text front after)

-- c and the tail, with which the text begins, are the longest symbol that begins with c and goes on in the text
pub record IsLongestSymbol (c : ℕ) (text tail after : List ℕ) : Type 0 where
  pub split : tail ++ after ≡ text
  pub is : is_symbol (c ∷ tail) ≡ true
  pub longest : (longer rest : List ℕ) → longer ++ rest ≡ text → is_symbol (c ∷ longer) ≡ true → length longer ≤ length tail

-- what follows a name makes it no prefix
abbrev pub IsNoPrefix : List ℕ → Type 0
IsNoPrefix text = (c : ℕ) (cs : List ℕ) → text ≡ 58 ∷ c ∷ cs → ((c == 42) ≡ false) × (is_name_start c ≡ false)

-- what follows a name makes it the prefix of a token of this kind, behind which the rest follows
abbrev pub IsPrefixEnd : List ℕ → Kind → List ℕ → Type 0
IsPrefixEnd text kind rest = (c : ℕ) × (cs : List ℕ) × (text ≡ 58 ∷ c ∷ cs)
    × (((kind ≡ AnyOf) × (c ≡ 42) × (rest ≡ cs)) ⊎ ((kind ≡ Prefixed) × (is_name_start c ≡ true) × (rest ≡ after_run is_name_char cs)))
