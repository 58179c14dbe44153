-- Modules in which no include is among an include's own items, and what such modules consist of.
use Rattle.std.specs.Prelude.{◌≡◌, [], ⊤}
use Rattle.rn_syntax.specs.Tree as t
use Rattle.rn_syntax.specs.Tree.{Item, Items, includes}
pub use Rattle.rn_assemble.specs.Written.{WrittenComponent, Inclusion, place_in, item_written_components, written_components, item_inclusions, inclusions}

-- no include is among an include's own items
abbrev mutual
  pub IsFlat : Item → Type 0
  IsFlat (t.define x m p) = ⊤
  IsFlat (t.start m p) = ⊤
  IsFlat (t.div xs) = AreFlat xs
  IsFlat (t.include wanted inherit xs) = includes xs ≡ []

  pub AreFlat : Items → Type 0
  AreFlat t.no_items = ⊤
  AreFlat (t.item x xs) = IsFlat x × AreFlat xs
