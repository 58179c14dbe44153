-- Characters of an XML document (XML 1.0 Fifth Edition, 2.2 to 2.7, 2.11, 3.3.3, 4.1 and 4.6). A production is a relation:
-- `N cs x rest` says that the characters cs are an N, which stands for x, and then rest.
use Rattle.std.specs.Prelude.{◌≡◌, ◌≢◌, ◌⊎◌, ℕ, Bool, true, not, ◌&&◌, ◌||◌, ◌==◌, if◌then◌else◌, List, [], ◌∷◌, ◌++◌, codes}
use Rattle.std.specs.List.{list_all}
use Rattle.std.specs.Char.{is_ascii_digit, is_ascii_hexdigit}
use Rattle.std.specs.Str.Parse.{digits_value}
use Rattle.rn_text.specs.Texts.{is_white}
use Rattle.rn_text.specs.Characters.{is_xml_char, is_ncname}
use Rattle.rn_text.specs.Segments.{begins_with}

-- the characters with each line end as one line feed (2.11)
abbrev pub lines_of : List ℕ → List ℕ
lines_of [] = []
lines_of (c ∷ cs) = if c == 13 then (if begins_with (λ d. d == 10) cs then lines_of cs else 10 ∷ lines_of cs) else c ∷ lines_of cs

-- S? , where S ::= (#x20 | #x9 | #xD | #xA)+ (production 3)
pub data MaySpace : List ℕ → List ℕ → Type 0 where
  none : {rest : List ℕ} → MaySpace rest rest
  white : {c : ℕ} {cs rest : List ℕ} → is_white c ≡ true → MaySpace cs rest → MaySpace (c ∷ cs) rest

-- S
pub data IsSpace : List ℕ → List ℕ → Type 0 where
  white : {c : ℕ} {cs rest : List ℕ} → is_white c ≡ true → MaySpace cs rest → IsSpace (c ∷ cs) rest

-- the predefined entities: no others are declared in a document without a document type declaration (4.6)
pub data IsEntity : List ℕ → ℕ → Type 0 where
  amp : IsEntity (codes "amp") 38
  lt : IsEntity (codes "lt") 60
  gt : IsEntity (codes "gt") 62
  apos : IsEntity (codes "apos") 39
  quot : IsEntity (codes "quot") 34

-- Reference ::= EntityRef | CharRef, EntityRef ::= '&' Name ';', CharRef ::= '&#' [0-9]+ ';' | '&#x' [0-9a-fA-F]+ ';'
-- (productions 66 to 68, with the constraint Legal Character)
pub data IsReference : List ℕ → ℕ → List ℕ → Type 0 where
  entity : {name rest : List ℕ} {c : ℕ} → IsEntity name c → IsReference (38 ∷ (name ++ 59 ∷ rest)) c rest
  decimal : {digits rest : List ℕ} → digits ≢ [] → list_all is_ascii_digit digits ≡ true → is_xml_char (digits_value 10 digits) ≡ true
      → IsReference (38 ∷ 35 ∷ (digits ++ 59 ∷ rest)) (digits_value 10 digits) rest
  hexadecimal : {digits rest : List ℕ} → digits ≢ [] → list_all is_ascii_hexdigit digits ≡ true → is_xml_char (digits_value 16 digits) ≡ true
      → IsReference (38 ∷ 35 ∷ 120 ∷ (digits ++ 59 ∷ rest)) (digits_value 16 digits) rest

-- a character that is itself in a value between these quotes: no `<`, no `&`, no such quote and no white space
abbrev pub is_value_char : ℕ → ℕ → Bool
is_value_char quote c = is_xml_char c && not (c == 60 || c == 38 || c == quote || is_white c)

-- ([^<&"] | Reference)* '"' , the same for `'` (of production 10, with the constraint No < in Attribute Values), and the normalised
-- value: white space that is no reference is a space (3.3.3)
pub data IsValue (quote : ℕ) : List ℕ → List ℕ → List ℕ → Type 0 where
  close : {rest : List ℕ} → IsValue quote (quote ∷ rest) [] rest
  itself : {c : ℕ} {cs value rest : List ℕ} → is_value_char quote c ≡ true → IsValue quote cs value rest → IsValue quote (c ∷ cs) (c ∷ value) rest
  white : {c : ℕ} {cs value rest : List ℕ} → is_white c ≡ true → IsValue quote cs value rest → IsValue quote (c ∷ cs) (32 ∷ value) rest
  reference : {c : ℕ} {cs mid value rest : List ℕ} → IsReference cs c mid → IsValue quote mid value rest → IsValue quote cs (c ∷ value) rest

-- AttValue ::= '"' ([^<&"] | Reference)* '"' | "'" ([^<&'] | Reference)* "'" (production 10)
pub data IsAttValue : List ℕ → List ℕ → List ℕ → Type 0 where
  double : {cs value rest : List ℕ} → IsValue 34 cs value rest → IsAttValue (34 ∷ cs) value rest
  single : {cs value rest : List ℕ} → IsValue 39 cs value rest → IsAttValue (39 ∷ cs) value rest

-- the characters have no such part
abbrev pub Lacks : List ℕ → List ℕ → Type 0
Lacks part cs = (front behind : List ℕ) → cs ≢ front ++ (part ++ behind)

-- Comment ::= '<!--' ((Char - '-') | ('-' (Char - '-')))* '-->' (production 15)
pub data IsComment : List ℕ → List ℕ → Type 0 where
  comment : (inside : List ℕ) {rest : List ℕ} → list_all is_xml_char inside ≡ true → Lacks (codes "--") (inside ++ codes "-")
      → IsComment (codes "<!--" ++ (inside ++ (codes "-->" ++ rest))) rest

-- PITarget ::= Name - (('X' | 'x') ('M' | 'm') ('L' | 'l')) (production 17), of names without a colon (Namespaces in XML 1.0, 7)
pub record IsTarget (name : List ℕ) : Type 0 where
  pub is_name : is_ncname name ≡ true
  pub not_reserved : (x m l : ℕ) → (x ≡ 88) ⊎ (x ≡ 120) → (m ≡ 77) ⊎ (m ≡ 109) → (l ≡ 76) ⊎ (l ≡ 108) → name ≢ x ∷ m ∷ l ∷ []

-- PI ::= '<?' PITarget (S (Char* - (Char* '?>' Char*)))? '?>' (production 16)
pub data IsInstruction : List ℕ → List ℕ → Type 0 where
  bare : (name : List ℕ) {rest : List ℕ} → IsTarget name → IsInstruction (codes "<?" ++ (name ++ (codes "?>" ++ rest))) rest
  full : (name : List ℕ) (c : ℕ) (inside : List ℕ) {rest : List ℕ} → IsTarget name → is_white c ≡ true → list_all is_xml_char inside ≡ true → Lacks (codes "?>") inside
      → IsInstruction (codes "<?" ++ (name ++ (c ∷ (inside ++ (codes "?>" ++ rest))))) rest

-- Misc* , where Misc ::= Comment | PI | S (production 27)
pub data AreMisc : List ℕ → List ℕ → Type 0 where
  none : {rest : List ℕ} → AreMisc rest rest
  white : {c : ℕ} {cs rest : List ℕ} → is_white c ≡ true → AreMisc cs rest → AreMisc (c ∷ cs) rest
  comment : {cs mid rest : List ℕ} → IsComment cs mid → AreMisc mid rest → AreMisc cs rest
  instruction : {cs mid rest : List ℕ} → IsInstruction cs mid → AreMisc mid rest → AreMisc cs rest

-- CDSect ::= '<![CDATA[' (Char* - (Char* ']]>' Char*)) ']]>' (productions 18 to 21), and what is in it
pub data IsSection : List ℕ → List ℕ → List ℕ → Type 0 where
  section : {inside rest : List ℕ} → list_all is_xml_char inside ≡ true → Lacks (codes "]]>") inside
      → IsSection (codes "<![CDATA[" ++ (inside ++ (codes "]]>" ++ rest))) inside rest

-- a character that may stand in character data: neither `<` nor `&` (of production 14)
abbrev pub is_data_char : ℕ → Bool
is_data_char c = is_xml_char c && not (c == 60 || c == 38)

-- (CharData | Reference | CDSect | PI | Comment)* , what is between the tags of a content (of production 43), and its characters.
-- CharData ::= [^<&]* - ([^<&]* ']]>' [^<&]*) (production 14)
pub data IsCharacters : List ℕ → List ℕ → List ℕ → Type 0 where
  none : {rest : List ℕ} → IsCharacters rest [] rest
  itself : {c : ℕ} {cs text rest : List ℕ} → is_data_char c ≡ true → ((behind : List ℕ) → c ∷ cs ≢ codes "]]>" ++ behind) → IsCharacters cs text rest
      → IsCharacters (c ∷ cs) (c ∷ text) rest
  reference : {c : ℕ} {cs mid text rest : List ℕ} → IsReference cs c mid → IsCharacters mid text rest → IsCharacters cs (c ∷ text) rest
  section : {cs mid inside text rest : List ℕ} → IsSection cs inside mid → IsCharacters mid text rest → IsCharacters cs (inside ++ text) rest
  comment : {cs mid text rest : List ℕ} → IsComment cs mid → IsCharacters mid text rest → IsCharacters cs text rest
  instruction : {cs mid text rest : List ℕ} → IsInstruction cs mid → IsCharacters mid text rest → IsCharacters cs text rest
