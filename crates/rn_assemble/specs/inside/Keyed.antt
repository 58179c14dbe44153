-- The names that modules define, and the numbers of keys: the start is 0, and the names follow in their order.
use Rattle.std.specs.Prelude.{ℕ, zero, suc, ◌<◌, ◌≡◌, ◌↔◌, List, [], ◌∷◌, ◌++◌, length, map, flat_map, slice_index_or, Contains, Option, Some, None}
use Rattle.std.specs.List.{AllByRecursion}
use Rattle.std.specs.List.Sorted.{IsStrictlySortedBy}
use Rattle.std.specs.Borrow.{Bor}
use Rattle.rn_text.specs.Texts.{Text, text_cmp}
use Rattle.rn_syntax.specs.Tree as t
use Rattle.rn_syntax.specs.Tree.{Item, Items}
use Rattle.rn_assemble.specs.Components.{Key, start_key, name_key, NamedModule}
use Rattle.rn_assemble.specs.declared.reading.keys.KeyId.{KeyId}

-- the names that items define, those of includes' own items among them
abbrev mutual
  pub item_defines : Item → List Text
  item_defines (t.define x m p) = x ∷ []
  item_defines (t.start m p) = []
  item_defines (t.div xs) = defines xs
  item_defines (t.include wanted inherit xs) = defines xs

  pub defines : Items → List Text
  defines t.no_items = []
  defines (t.item x xs) = item_defines x ++ defines xs

-- the texts that are borrowed
abbrev pub texts_of : List (Bor (List ℕ)) → List Text
texts_of xs = map (λ (s : Bor (List ℕ)). s.now) xs

-- all names that the modules define, each once, in their order
pub record AreNames (modules : List NamedModule) (names : List Text) : Type 0 where
  pub in_order : IsStrictlySortedBy text_cmp names
  pub defined : (x : Text) → Contains names x ↔ Contains (flat_map (λ (m : NamedModule). defines m.tree.items) modules) x

-- each of the texts is one of the names
abbrev pub AreAmong : List Text → List Text → Type 0
AreAmong names xs = AllByRecursion (Contains names) xs

-- the key of that number
abbrev pub key_at : List Text → ℕ → Key
key_at names zero = start_key
key_at names (suc n) = name_key (slice_index_or names n [])

-- the name of that number; none of the start, and none where there are fewer
abbrev pub name_at : List Text → ℕ → Text
name_at names zero = []
name_at names (suc n) = slice_index_or names n []

-- the number is that of the name's key
pub record IsNameNumber (names : List Text) (x : Text) (n : ℕ) : Type 0 where
  pub above : 0 < n
  pub within : n < suc (length names)
  pub is : key_at names n ≡ name_key x

-- the number of the name, where it is one of the names
abbrev pub IsFound : List Text → Text → Option KeyId → Type 0
IsFound names x None = ¬ Contains names x
IsFound names x (Some k) = IsNameNumber names x k.0
