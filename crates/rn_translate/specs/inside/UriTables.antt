-- The table of URIs: namespaces (RELAX NG 2001, 4.9) and datatype libraries (4.3), by their indices.
use Rattle.std.specs.Prelude.{◌≡◌, ℕ, ◌<◌, Bool, true, ◌||◌, [], ◌∷◌, ◌++◌, Option, Some, None, All, option_map, slice_get, string_bytes, bytes_eq, codes}
use Rattle.std.specs.BTreeMap.{get_by}
use Rattle.std.specs.Borrow.{Bor}
use Rattle.std.specs.Cmp.Lexicographic.{slice_cmp}
use Rattle.std.specs.Ordering.{nat_cmp}
use Rattle.rn_text.specs.Texts.{Text}
use Rattle.rn_xml.specs.XmlTags.{xml_uri}
use Rattle.rn_xml.specs.declared.document.XmlDocument.{XmlDocument}
use Rattle.rn_translate.specs.SchemaTokens.{xsd_uri}
use Rattle.rn_translate.specs.declared.uris.Uri.{Uri}
use Rattle.rn_translate.specs.declared.uris.Uris.{Uris}

-- no namespace
abbrev pub empty_uri : Uri
empty_uri = record { index = 1 }

-- the text of this index
abbrev pub text_at : Uris → ℕ → Option Text
text_at uris k = option_map (λ text. text.now) (slice_get uris.texts.items k)

-- the index of a text
abbrev pub index_of : Uris → Text → Option ℕ
index_of uris q = get_by (λ text. slice_cmp nat_cmp q text.now) uris.indices

-- the text has an index
abbrev pub HasUri : Uris → Text → Type 0
HasUri uris q = (k : ℕ) × (index_of uris q ≡ Some k)

-- each text behind the first, which is that of the inherited namespace, stands once and is found
pub record AreIndexed (uris : Uris) : Type 0 where
  pub inherited : text_at uris 0 ≡ Some []
  pub is_there : (q : Text) (k : ℕ) → index_of uris q ≡ Some k → (0 < k) × (text_at uris k ≡ Some q)
  pub is_known : (q : Text) (k : ℕ) → 0 < k → text_at uris k ≡ Some q → index_of uris q ≡ Some k

-- the first of them mean something by themselves
pub record IsTable (uris : Uris) : Type 0 where
  pub indexed : AreIndexed uris
  pub empty : text_at uris 1 ≡ Some []
  pub xml : text_at uris 2 ≡ Some xml_uri
  pub xsd : text_at uris 3 ≡ Some xsd_uri

-- the new table has this text too, behind the others if it wasn't there
pub record HasAdded (old new : Uris) (text : Bor Text) : Type 0 where
  pub kept : (k : ℕ) (q : Text) → text_at old k ≡ Some q → text_at new k ≡ Some q
  pub fresh : index_of old text.now ≡ None → new.texts.items ≡ old.texts.items ++ text ∷ []
  pub indexed : AreIndexed new
  pub has : HasUri new text.now

-- whether an attribute of this local name may give the URI of a namespace or a library
abbrev pub gives_uri : Text → Bool
gives_uri local = bytes_eq local (codes "ns") || bytes_eq local (codes "datatypeLibrary")

-- the table has the URIs of a document
pub record HasUrisOf (uris : Uris) (d : XmlDocument) : Type 0 where
  pub namespaces : All (λ s. HasUri uris (string_bytes s)) d.uris.items
  pub given : All (λ a. gives_uri a.name.local.now ≡ true → HasUri uris (string_bytes a.value)) d.attributes.items
