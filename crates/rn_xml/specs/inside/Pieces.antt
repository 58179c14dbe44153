-- Pieces of a document, as private readers find them.
use Rattle.std.specs.Prelude.{◌≡◌, ◌≢◌, ◌⊎◌, ℕ, Bool, true, not, ◌==◌, if◌then◌else◌, List, [], ◌∷◌, ◌++◌, Option, option_to_list}
use Rattle.std.specs.Str.{chars}
use Rattle.std.specs.Str.Parse.{AllDigits, digits_value}
use Rattle.rn_text.specs.Characters.{is_xml_char}
use Rattle.rn_text.specs.Segments.{begins_with, is_line_end}
use Rattle.rn_text.specs.Texts.{Text}
use Rattle.rn_xml.specs.XmlCharacters.{IsSpace, IsComment, IsInstruction, IsValue}
use Rattle.rn_xml.specs.XmlTags.{IsEq, IsQName}
use Rattle.rn_xml.specs.XmlDocuments.{IsQuoted}
use Rattle.rn_xml.specs.declared.characters.QName.{QName}

-- a character and those that follow it, where it is none of a line end
abbrev pub is_inner : ℕ → Bool
is_inner c = not (is_line_end c)

-- what the first character is, where each line end is one line feed: nothing before the line feed that ends the same line
abbrev pub normal : ℕ → List ℕ → List ℕ
normal c cs = if c == 13 then (if begins_with (λ d. d == 10) cs then [] else 10 ∷ []) else c ∷ []

-- characters of XML up to the first such end, and what follows that
pub data IsUpTo (end : List ℕ) : List ℕ → List ℕ → List ℕ → Type 0 where
  here : {rest : List ℕ} → IsUpTo end (end ++ rest) [] rest
  further : {c : ℕ} {cs inside rest : List ℕ} → is_xml_char c ≡ true → ((behind : List ℕ) → c ∷ cs ≢ end ++ behind) → IsUpTo end cs inside rest
      → IsUpTo end (c ∷ cs) (c ∷ inside) rest

-- digits, a semicolon, and the character of XML that the digits number
pub record IsNumber (radix : ℕ) (cs : List ℕ) (c : ℕ) (rest : List ℕ) : Type 0 where
  pub digits : List ℕ
  pub splits : cs ≡ digits ++ 59 ∷ rest
  pub some : digits ≢ []
  pub each : AllDigits radix digits
  pub value : c ≡ digits_value radix digits
  pub is_legal : is_xml_char c ≡ true

-- a comment or a processing instruction
abbrev pub IsPiece : List ℕ → List ℕ → Type 0
IsPiece cs rest = IsComment cs rest ⊎ IsInstruction cs rest

-- a value from these characters on is that of the rest behind what is found
abbrev pub ContinuesValue : ℕ → List ℕ → Option ℕ → List ℕ → Type 0
ContinuesValue quote cs found rest = (value after : List ℕ) → IsValue quote rest value after → IsValue quote cs (option_to_list found ++ value) after

-- characters are put behind those of a text
abbrev pub Appends : Text → Text → (List ℕ → Type 0) → Type 0
Appends old new P = (added : List ℕ) × (chars new ≡ chars old ++ added) × P added

-- a name, as it is written, and what follows it
pub record SplitsName (cs : List ℕ) (name : QName) (rest : List ℕ) : Type 0 where
  pub written : List ℕ
  pub is_name : IsQName written (chars name.prefix.now) (chars name.local.now)
  pub splits : cs ≡ written ++ rest

-- a field of the XML declaration with this name, its value, and what follows it
pub record IsNamedField (name cs value rest : List ℕ) : Type 0 where
  pub mid : List ℕ
  pub after : List ℕ
  pub space : IsSpace cs (name ++ mid)
  pub equals : IsEq mid after
  pub quoted : IsQuoted after value rest
