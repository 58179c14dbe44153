-- Rows of attributes that get their namespaces.
use Rattle.std.specs.Prelude.{◌≡◌, ◌⊎◌, ℕ, ◌<◌, true, false, Some, None, slice_get, slice_set, vec_len}
use Rattle.std.specs.BTreeSet.{BTreeSet}
use Rattle.rn_text.specs.Texts.{Text}
use Rattle.rn_xml.specs.declared.document.XmlAttribute.{XmlAttribute}
use Rattle.rn_xml.specs.declared.tags.TagReader.{TagReader}
use Rattle.rn_xml.specs.inside.KnownTexts.{index_in}
use Rattle.rn_xml.specs.inside.SeenPairs.{has_pair}
use Rattle.rn_xml.specs.inside.TagTables.{attribute_index}

-- the row with the namespace of this index
abbrev pub row_named : XmlAttribute → ℕ → XmlAttribute
row_named a uri = record a { name = record a.name { uri = uri } }

-- the new reader has what the old one has but for its attributes
pub record KeepsTag (old new : TagReader) : Type 0 where
  pub rest : new.tables.document ≡ record old.tables.document { attributes = new.tables.document.attributes }
  pub indices : new.tables.uris ≡ old.tables.uris
  pub scopes : new.scopes ≡ old.scopes
  pub opened : new.opened ≡ old.opened
  pub len : new.len ≡ old.len
  pub locals : (q : Text) (i : ℕ) → index_in old.locals q ≡ Some i → index_in new.locals q ≡ Some i

-- the attribute of this index gets its namespace; its name wasn't seen before, and is seen now
pub record NamesRow (old new : TagReader) (index : ℕ) (seen newer : BTreeSet (ℕ × ℕ)) : Type 0 where
  pub keeps : KeepsTag old new
  pub row : XmlAttribute
  pub uri : ℕ
  pub local : ℕ
  pub there : slice_get old.tables.document.attributes.items index ≡ Some row
  pub means : attribute_index old row.name.prefix.now ≡ Some uri
  pub within : uri < vec_len old.tables.document.uris
  pub items : new.tables.document.attributes.items ≡ slice_set old.tables.document.attributes.items index (row_named row uri)
  pub known : index_in new.locals row.name.local.now ≡ Some local
  pub fresh : has_pair seen (uri, local) ≡ false
  pub seen_now : has_pair newer (uri, local) ≡ true
  pub seen_still : (p : ℕ × ℕ) → has_pair seen p ≡ true → has_pair newer p ≡ true
  pub seen_only : (p : ℕ × ℕ) → has_pair newer p ≡ true → ((p.0 ≡ uri) × (p.1 ≡ local)) ⊎ (has_pair seen p ≡ true)

-- the row has a name that was seen, where the new reader knows the old one's local names
pub record RepeatsName (old new : TagReader) (row : XmlAttribute) (seen : BTreeSet (ℕ × ℕ)) : Type 0 where
  pub uri : ℕ
  pub local : ℕ
  pub means : attribute_index old row.name.prefix.now ≡ Some uri
  pub known : index_in new.locals row.name.local.now ≡ Some local
  pub locals : (q : Text) (i : ℕ) → index_in old.locals q ≡ Some i → index_in new.locals q ≡ Some i
  pub has : has_pair seen (uri, local) ≡ true

-- the attribute of this index can't have a name: its prefix means nothing, or its name was seen
pub record CannotName (old new : TagReader) (index : ℕ) (seen : BTreeSet (ℕ × ℕ)) : Type 0 where
  pub row : XmlAttribute
  pub there : slice_get old.tables.document.attributes.items index ≡ Some row
  pub why : (attribute_index old row.name.prefix.now ≡ None) ⊎ RepeatsName old new row seen
