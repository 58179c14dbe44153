-- The text of a root is a document of XML with the root as its infoset.
use Rattle.std.proofs.Common.{◌≡◌, ◌≢◌, ℕ, false, List, [], ◌∷◌, ◌++◌, refl, sym, ap, ◌∙◌, subst, append-nil}
use Rattle.std.specs.Prelude.{codes, encode_utf8_all}
use Rattle.std.specs.Str.{chars}
use Rattle.std.proofs.lemmas.Str.{encodes-chars}
use Rattle.std.proofs.Math.Utf8.{encode}
use Rattle.rn_text.specs.Texts.{Text}
use Rattle.rn_pattern.specs.Document.{Attribute, Item, node, Items}
use Rattle.rn_assemble.specs.WritableTexts.{IsName}
use Rattle.rn_rng.specs.Translation.{rng_uri}
use Rattle.rn_rng.specs.Layout.{tag_front, end_tag, holds_text, items_text, xmlns as root_declaration, declaration_text, xml_text}
use Rattle.rn_xml.specs.XmlCharacters as spaces
use Rattle.rn_xml.specs.XmlDocuments as documents
use Rattle.rn_xml.specs.XmlTags as tags
use Rattle.rn_rng.specs.XmlTags.{Written, xmlns, default_inside, ordinary}
use Rattle.rn_rng.specs.XmlDocument as d
use Rattle.rn_rng.specs.XmlDocument.{IsElement, IsContent, IsXmlDecl, IsDocument, IsXml, without_white, without_white_in}
use Rattle.rn_rng.specs.SpellableItems.{AreSpellableAttributes, AreSpellableItems, IsSpellableRoot, root}
use Rattle.rn_rng.proofs.Documents.Tags.{attributes_chars, all_written, same_attributes, root_read, end_read}
use Rattle.rn_rng.proofs.Documents.Elements.{items_chars, spaced_in, items_read}
use Rattle.rn_rng.proofs.Documents.Spaces.{unheld, items_stay}
use Rattle.rn_rng.proofs.Documents.Bytes.{document_bytes}
use Rattle.rn_rng.proofs.Documents.Legal.{document_kept, kept_is_legal, kept_has_lines}

some_digit : codes "0" ≢ []
some_digit e = cc

-- the declaration, and the line feed behind it
declaration_read : (rest : List ℕ) → IsXmlDecl (declaration_text ++ rest) (10 ∷ rest)
declaration_read rest = d.declares
    (documents.version {number = codes "1.0"} (spaces.white refl spaces.none) (tags.equals spaces.none spaces.none) documents.double (documents.number some_digit refl))
    (d.encoding (spaces.white refl spaces.none) (tags.equals spaces.none spaces.none) documents.double) spaces.none

module _ (local : Text) (a : List Attribute) (k : Items) where
  -- the lines of what the root holds, with their white space
  abbrev inside : Items
  inside = spaced_in (10 ∷ []) 1 0 k

  abbrev written : List Written
  written = record { name = xmlns; value = rng_uri } ∷ all_written a

  root_is : IsName local → AreSpellableAttributes a → node (default_inside [] written) (encode_utf8_all (chars local)) (ordinary written) inside ≡ node rng_uri local a inside
  unfolding encode
  root_is n h = ap (λ l. node rng_uri l (ordinary (all_written a)) inside) (encodes-chars local n.utf8) ∙ ap (λ b. node rng_uri local b inside) (same_attributes a h.each)

  -- the root behind the declaration
  abbrev root_text : List ℕ
  root_text = tag_front 0 (chars local) (root_declaration rng_uri ∷ attributes_chars a) ++ (codes ">\n" ++ (items_text 1 (items_chars k) ++ end_tag (chars local)))

  end_is : end_tag (chars local) ++ [] ≡ end_tag (chars local)
  end_is = append-nil (end_tag (chars local))

  content_read : AreSpellableItems k → IsContent rng_uri (10 ∷ (items_text 1 (items_chars k) ++ (end_tag (chars local) ++ []))) inside (end_tag (chars local) ++ [])
  content_read inner = items_read k inner 1 0 (10 ∷ []) (end_tag (chars local) ++ []) refl

  element_read : IsName local → AreSpellableAttributes a → AreSpellableItems k → IsElement [] root_text (node rng_uri local a inside) (10 ∷ [])
  unfolding encode
  element_read n h inner = subst (λ cs. IsElement [] (tag_front 0 (chars local) (root_declaration rng_uri ∷ attributes_chars a) ++ (codes ">\n" ++ (items_text 1 (items_chars k) ++ cs))) (node rng_uri local a inside) (10 ∷ [])) end_is
      (subst (λ y. IsElement [] (tag_front 0 (chars local) (root_declaration rng_uri ∷ attributes_chars a) ++ (codes ">\n" ++ (items_text 1 (items_chars k) ++ (end_tag (chars local) ++ [])))) y (10 ∷ [])) (root_is n h)
      (d.tags (root_read (chars local) a (62 ∷ 10 ∷ (items_text 1 (items_chars k) ++ (end_tag (chars local) ++ []))) n.is h) (content_read inner) (end_read (chars local) [])))

  document_read : IsName local → AreSpellableAttributes a → AreSpellableItems k → IsDocument (declaration_text ++ root_text) (node rng_uri local a inside)
  document_read n h inner = d.declared (declaration_read root_text) (spaces.white refl spaces.none) (element_read n h inner) (spaces.white refl spaces.none)

  inside_stays : holds_text local ≡ false → AreSpellableItems k → without_white (node rng_uri local a inside) ≡ node rng_uri local a k
  inside_stays holds inner = ap (λ b. node rng_uri local a (without_white_in b inside)) (unheld local holds) ∙ ap (λ c. node rng_uri local a c) (items_stay k inner (10 ∷ []) 1 0 refl)

  is_xml : IsName local → AreSpellableAttributes a → holds_text local ≡ false → AreSpellableItems k → IsXml (xml_text (node rng_uri local a k)) (node rng_uri local a k)
  is_xml n h holds inner = let kept = document_kept local a k n h.each inner in record {
    characters = declaration_text ++ root_text;
    are = document_bytes local a k n h.each inner;
    legal = kept_is_legal (declaration_text ++ root_text) kept;
    lines = declaration_text ++ root_text;
    has_lines = kept_has_lines (declaration_text ++ root_text) kept;
    whole = node rng_uri local a inside;
    is_document = document_read n h inner;
    is = sym (inside_stays holds inner);
  }

-- the text of a root is a document with that infoset
pub xml_is_a_document : (i : Item) → IsSpellableRoot i → IsXml (xml_text i) i
xml_is_a_document i (root {local = local} {attributes = attributes} {content = content} n h holds inner) = is_xml local attributes content n h holds inner
