-- Characters of an XML document (XML 1.0 Fifth Edition, 2.4, 2.11 and 3.3.3), as far as they are read in fewer ways than all documents. A
-- production is a relation: `N cs x rest` says that the characters cs are an N, which stands for x, and then rest.
use Rattle.std.specs.Prelude.{◌≡◌, ◌≢◌, ℕ, Bool, true, false, not, ◌||◌, ◌==◌, List, [], ◌∷◌, ◌++◌}
use Rattle.std.specs.List.{list_all}
use Rattle.rn_text.specs.Texts.{is_white}
use Rattle.rn_text.specs.Segments.{begins_with}
use Rattle.rn_xml.specs.XmlCharacters.{IsReference}

-- the first characters, with each line end as one line feed, are the second (2.11)
pub data HasLines : List ℕ → List ℕ → Type 0 where
  none : HasLines [] []
  pair : {cs ds : List ℕ} → HasLines cs ds → HasLines (13 ∷ 10 ∷ cs) (10 ∷ ds)
  lone : {cs ds : List ℕ} → begins_with (λ c. c == 10) cs ≡ false → HasLines cs ds → HasLines (13 ∷ cs) (10 ∷ ds)
  itself : {c : ℕ} {cs ds : List ℕ} → (c == 13) ≡ false → HasLines cs ds → HasLines (c ∷ cs) (c ∷ ds)

-- a character that may stand in character data: neither `<` nor `&`
abbrev pub is_data_char : ℕ → Bool
is_data_char c = not (c == 60 || c == 38)

-- CharData ::= [^<&]* - ([^<&]* ']]>' [^<&]*) (production 14)
pub record IsCharData (cs : List ℕ) : Type 0 where
  pub plain : list_all is_data_char cs ≡ true
  pub ends_no_section : (front behind : List ℕ) → cs ≢ front ++ 93 ∷ 93 ∷ 62 ∷ behind

-- CharData? (Reference CharData?)* , what stands between the tags of a content (of production 43), and its character
-- information items
pub data IsCharacters : List ℕ → List ℕ → List ℕ → Type 0 where
  plain : {text rest : List ℕ} → IsCharData text → IsCharacters (text ++ rest) text rest
  reference : {text cs mid rest more : List ℕ} {c : ℕ} → IsCharData text → IsReference cs c mid → IsCharacters mid more rest
      → IsCharacters (text ++ cs) (text ++ c ∷ more) rest

-- a character that is itself in a value between these quotes: no `<`, no `&`, no such quote and no white space
abbrev pub is_value_char : ℕ → ℕ → Bool
is_value_char quote c = not (c == 60 || c == 38 || c == quote || is_white c)

-- what stands behind the opening quote of a value, without the end of it: `([^<&"] | Reference)* '"'`, the same for `'` (of production 10,
-- with the constraint No < in Attribute Values), and the normalised text, in which white space that is no reference is a space (3.3.3)
pub data IsValue (quote : ℕ) : List ℕ → List ℕ → List ℕ → Type 0 where
  close : {behind : List ℕ} → IsValue quote (quote ∷ behind) [] behind
  itself : {c : ℕ} {cs text behind : List ℕ} → is_value_char quote c ≡ true → IsValue quote cs text behind → IsValue quote (c ∷ cs) (c ∷ text) behind
  white : {c : ℕ} {cs text behind : List ℕ} → is_white c ≡ true → IsValue quote cs text behind → IsValue quote (c ∷ cs) (32 ∷ text) behind
  reference : {c : ℕ} {cs mid text behind : List ℕ} → IsReference cs c mid → IsValue quote mid text behind → IsValue quote cs (c ∷ text) behind

-- AttValue: a value between two quotes, or between two apostrophes (production 10)
pub data IsAttValue : List ℕ → List ℕ → List ℕ → Type 0 where
  double : {cs text behind : List ℕ} → IsValue 34 cs text behind → IsAttValue (34 ∷ cs) text behind
  single : {cs text behind : List ℕ} → IsValue 39 cs text behind → IsAttValue (39 ∷ cs) text behind
