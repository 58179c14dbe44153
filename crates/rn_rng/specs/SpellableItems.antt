-- Elements of RELAX NG that can be written: names that are names, texts of XML characters, and what an element holds is one text or
-- elements alone.
use Rattle.std.specs.Prelude.{◌≡◌, ◌≢◌, true, false, not, ◌||◌, List, [], ◌∷◌, codes, ⊤}
use Rattle.std.specs.List.{list_all, AllByRecursion}
use Rattle.rn_text.specs.Texts.{Text, is_white}
use Rattle.rn_pattern.specs.Document.{Attribute, Item, node, string, Items, no_items, more_items}
use Rattle.rn_assemble.specs.WritableTexts.{IsName, IsXml as IsXmlText}
use Rattle.rn_rng.specs.Translation.{rng_uri}
use Rattle.rn_rng.specs.Layout.{holds_text}
use Rattle.rn_rng.specs.XmlDocument.{keeps_white}

-- an attribute without namespace, which declares none
pub record IsSpellableAttribute (a : Attribute) : Type 0 where
  pub no_namespace : a.uri ≡ []
  pub name : IsName a.local
  pub no_declaration : a.local ≢ codes "xmlns"
  pub text : IsXmlText a.content

-- the attributes have distinct names
abbrev pub HaveUniqueNames : List Attribute → Type 0
HaveUniqueNames [] = ⊤
HaveUniqueNames (a ∷ others) = AllByRecursion (λ b. a.local ≢ b.local) others × HaveUniqueNames others

-- attributes of one tag
pub record AreSpellableAttributes (attributes : List Attribute) : Type 0 where
  pub each : AllByRecursion IsSpellableAttribute attributes
  pub distinct : HaveUniqueNames attributes

-- what an element of this name holds is one text, which isn't white space that counts for nothing, or nothing
pub data IsSpellableText (local : Text) : Items → Type 0 where
  none : IsSpellableText local no_items
  one : {s : Text} → IsXmlText s → s ≢ [] → (keeps_white rng_uri local || not (list_all is_white s)) ≡ true → IsSpellableText local (more_items (string s) no_items)

mutual
  pub data IsSpellableItem : Item → Type 0 where
    line : {local : Text} {attributes : List Attribute} {content : Items} → IsName local → AreSpellableAttributes attributes
        → holds_text local ≡ true → IsSpellableText local content → IsSpellableItem (node rng_uri local attributes content)
    block : {local : Text} {attributes : List Attribute} {content : Items} → IsName local → AreSpellableAttributes attributes
        → holds_text local ≡ false → AreSpellableItems content → IsSpellableItem (node rng_uri local attributes content)

  pub data AreSpellableItems : Items → Type 0 where
    none : AreSpellableItems no_items
    more : {x : Item} {k : Items} → IsSpellableItem x → AreSpellableItems k → AreSpellableItems (more_items x k)

-- a root, which holds elements
pub data IsSpellableRoot : Item → Type 0 where
  root : {local : Text} {attributes : List Attribute} {content : Items} → IsName local → AreSpellableAttributes attributes
      → holds_text local ≡ false → AreSpellableItems content → IsSpellableRoot (node rng_uri local attributes content)
