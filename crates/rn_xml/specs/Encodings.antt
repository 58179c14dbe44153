-- The characters that the bytes of a file are, and how a file of XML begins (XML 1.0 Fifth Edition, 4.3.3 and appendix F).
use Rattle.std.specs.Prelude.{◌≡◌, ◌⊎◌, ℕ, ◌/◌, ◌%◌, Bool, true, if◌then◌else◌, List, [], ◌∷◌, ◌++◌, ◌==◌, drop, flat_map, nat_eq, codes, encode_utf8_all}
use Rattle.std.specs.Char.{is_ascii}
use Rattle.std.specs.Char.Escape.{encode_utf16}
use Rattle.std.specs.List.{starts_with, list_all}
use Rattle.std.specs.Str.{chars, IsUtf8, str_eq_ignore_ascii_case}
use Rattle.rn_text.specs.Segments.{after_run, begins_with}
use Rattle.rn_text.specs.Texts.{Text, is_white}
use Rattle.rn_xml.specs.XmlDocuments.{IsVersionInfo, IsQuoted, IsEncName}
use Rattle.rn_xml.specs.XmlCharacters.{lines_of, IsSpace}
use Rattle.rn_xml.specs.XmlTags.{IsEq}
use Rattle.rn_xml.specs.declared.xml_fault.Encoding.{Encoding}
use Rattle.rn_xml.specs.declared.xml_fault.Encoding.TheVariants.{Utf8, Utf16, Latin1, Ascii}

-- the first byte behind white space is `<`
abbrev pub begins_tag : List ℕ → Bool
begins_tag bytes = begins_with (λ b. b == 60) (after_run is_white bytes)

-- the bytes begin with a mark of UTF-16, or with `<` behind a mark of UTF-8 and white space
abbrev pub may_be_xml : List ℕ → Bool
may_be_xml bytes =
    if starts_with nat_eq bytes (0xFE ∷ 0xFF ∷ []) then true
    else (if starts_with nat_eq bytes (0xFF ∷ 0xFE ∷ []) then true
    else (if starts_with nat_eq bytes (0xEF ∷ 0xBB ∷ 0xBF ∷ []) then begins_tag (drop 3 bytes)
    else begins_tag bytes))

-- the bytes of a unit of UTF-16, the more significant one first, or last (RFC 2781, 3.1)
abbrev pub big_endian : ℕ → List ℕ
big_endian unit = unit / 0x100 ∷ unit % 0x100 ∷ []

abbrev pub little_endian : ℕ → List ℕ
little_endian unit = unit % 0x100 ∷ unit / 0x100 ∷ []

-- the bytes of characters in UTF-16: those of their units (RFC 2781, 2.1)
abbrev pub utf16_bytes : (ℕ → List ℕ) → List ℕ → List ℕ
utf16_bytes unit_bytes cs = flat_map unit_bytes (flat_map encode_utf16 cs)

-- the bytes behind a mark of UTF-8, or all where there is none
abbrev pub unmarked : List ℕ → List ℕ
unmarked bytes = if starts_with nat_eq bytes (0xEF ∷ 0xBB ∷ 0xBF ∷ []) then drop 3 bytes else bytes

-- the bytes are these characters in this encoding. UTF-16 stands behind its mark. In ISO-8859-1 and US-ASCII each byte is the code of its
-- character
abbrev pub IsIn : Encoding → List ℕ → List ℕ → Type 0
IsIn Utf8 bytes cs = unmarked bytes ≡ encode_utf8_all cs
IsIn Utf16 bytes cs = (bytes ≡ 0xFE ∷ 0xFF ∷ utf16_bytes big_endian cs) ⊎ (bytes ≡ 0xFF ∷ 0xFE ∷ utf16_bytes little_endian cs)
IsIn Latin1 bytes cs = unmarked bytes ≡ cs
IsIn Ascii bytes cs = (unmarked bytes ≡ cs) × (list_all is_ascii cs ≡ true)

-- what an encoding is called
abbrev pub encoding_name : Encoding → Text
encoding_name Utf8 = codes "UTF-8"
encoding_name Utf16 = codes "UTF-16"
encoding_name Latin1 = codes "ISO-8859-1"
encoding_name Ascii = codes "US-ASCII"

-- the name is that of the encoding, in any case
abbrev pub IsCalled : Encoding → List ℕ → Type 0
IsCalled encoding name = str_eq_ignore_ascii_case name (encoding_name encoding) ≡ true

-- '<?xml' VersionInfo EncodingDecl, the front of an XML declaration that names this encoding (productions 23 and 80)
pub data NamesEncoding : List ℕ → List ℕ → Type 0 where
  names : {cs mid after behind name rest : List ℕ} → IsVersionInfo cs mid → IsSpace mid (codes "encoding" ++ after) → IsEq after behind
      → IsQuoted behind name rest → IsEncName name → NamesEncoding (codes "<?xml" ++ cs) name

-- the text that the bytes are, in UTF-8: in the encoding that its declaration names. Where none is named, that is UTF-16 behind its mark,
-- and else UTF-8
pub record IsDecoded (bytes : List ℕ) (text : Text) : Type 0 where
  pub encoding : Encoding
  pub is_text : IsUtf8 text
  pub is_in : IsIn encoding bytes (chars text)
  pub declared : ((name : List ℕ) × NamesEncoding (lines_of (chars text)) name × IsCalled encoding name)
      ⊎ (((name : List ℕ) → ¬ NamesEncoding (lines_of (chars text)) name) × ((encoding ≡ Utf8) ⊎ (encoding ≡ Utf16)))
