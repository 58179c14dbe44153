-- Texts that have indices.
use Rattle.std.specs.Prelude.{◌≡◌, ◌<◌, ℕ, Option, Some, [], slice_get, string_bytes}
use Rattle.std.specs.BTreeMap.{get_by_text, btree_map_len}
use Rattle.std.specs.Option.{option_map}
use Rattle.rn_text.specs.Texts.{Text}
use Rattle.rn_xml.specs.XmlTags.{xml_uri}
use Rattle.rn_xml.specs.DocumentTrees.{uri_at_index}
use Rattle.rn_xml.specs.declared.document.XmlDocument.{XmlDocument}
use Rattle.rn_xml.specs.declared.indices.Indices.{Indices}
use Rattle.rn_xml.specs.declared.tables.Tables.{Tables}

-- the index of a text
abbrev pub index_in : Indices → Text → Option ℕ
index_in indices q = get_by_text indices.known q

-- the name of a namespace in the table
abbrev pub uri_in_table : XmlDocument → ℕ → Option Text
uri_in_table d i = option_map (λ s. string_bytes s) (slice_get d.uris.items i)

-- the names of namespaces are known by their indices, each once; the first is none, and the second that of `xml:`
pub record KnowsUris (t : Tables) : Type 0 where
  pub is_there : (q : Text) (i : ℕ) → index_in t.uris q ≡ Some i → uri_in_table t.document i ≡ Some q
  pub is_known : (q : Text) (i : ℕ) → uri_in_table t.document i ≡ Some q → index_in t.uris q ≡ Some i
  pub none : uri_at_index t.document 0 ≡ []
  pub xml : uri_at_index t.document 1 ≡ xml_uri

-- equal texts have one index, and other ones another; each is below the number of texts
pub record AreApart (indices : Indices) : Type 0 where
  pub apart : (p q : Text) (i : ℕ) → index_in indices p ≡ Some i → index_in indices q ≡ Some i → p ≡ q
  pub below : (q : Text) (i : ℕ) → index_in indices q ≡ Some i → i < btree_map_len indices.known
