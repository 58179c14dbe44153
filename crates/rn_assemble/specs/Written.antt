-- What a module consists of as it is written, with each div replaced by its children (RELAX NG 2001, 4.7, 4.11): its components in the order of the text, and its includes, each with the place of its own components among them.
use Rattle.std.specs.Prelude.{ℕ, ◌+◌, List, [], ◌∷◌, ◌++◌, length, bytes_eq, slice_get, Option}
use Rattle.std.specs.List.{position_from}
use Rattle.std.specs.Option.{option_map_or}
use Rattle.rn_text.specs.Texts.{Text}
use Rattle.rn_syntax.specs.declared.tree.Method.{Method}
use Rattle.rn_syntax.specs.Tree as t
use Rattle.rn_syntax.specs.Tree.{Item, Items, Pattern, Patterns}
use Rattle.rn_assemble.specs.Components.{Key, start_key, name_key, NamedModule}

-- a component as it is written
pub record WrittenComponent : Type 0 where
  pub key : Key
  pub method : Method
  pub pattern : Pattern

-- an include: the place of the module that it names, if there is one, its prefix, and its own components by their places
pub record Inclusion : Type 0 where
  pub module_at : Option ℕ
  pub inherit : Option (Text × ℕ)
  pub first : ℕ
  pub end : ℕ

-- the place of the module of that name
abbrev pub place_in : List NamedModule → Text → Option ℕ
place_in modules x = position_from (λ (m : NamedModule). bytes_eq x m.name) 0 modules

abbrev mutual
  pub item_written_components : Item → List WrittenComponent
  item_written_components (t.define x m p) = record { key = name_key x; method = m; pattern = p } ∷ []
  item_written_components (t.start m p) = record { key = start_key; method = m; pattern = p } ∷ []
  item_written_components (t.div xs) = written_components xs
  item_written_components (t.include wanted inherit xs) = written_components xs

  pub written_components : Items → List WrittenComponent
  written_components t.no_items = []
  written_components (t.item x xs) = item_written_components x ++ written_components xs

-- the includes, where the first component has that place
module _ (modules : List NamedModule) where
  abbrev mutual
    pub item_inclusions : ℕ → Item → List Inclusion
    item_inclusions n (t.define x m p) = []
    item_inclusions n (t.start m p) = []
    item_inclusions n (t.div xs) = inclusions n xs
    item_inclusions n (t.include wanted inherit xs) = inclusions n xs ++ record { module_at = place_in modules wanted; inherit = inherit; first = n; end = n + length (written_components xs) } ∷ []

    pub inclusions : ℕ → Items → List Inclusion
    inclusions n t.no_items = []
    inclusions n (t.item x xs) = item_inclusions n x ++ inclusions (n + length (item_written_components x)) xs

-- the names that a pattern refers to, in the order of the text, each as often as it stands there
abbrev mutual
  pub referred : Pattern → List Text
  referred (t.element c p) = referred p
  referred (t.attribute c p) = referred p
  referred (t.list p) = referred p
  referred (t.mixed p) = referred p
  referred t.empty = []
  referred t.not_allowed = []
  referred t.text = []
  referred (t.ref x) = x ∷ []
  referred (t.value d s) = []
  referred (t.datum d ps) = []
  referred (t.datum_but d ps i p) = referred p
  referred (t.repeated s p) = referred p
  referred (t.chain o ps) = all_referred ps

  pub all_referred : Patterns → List Text
  all_referred t.no_patterns = []
  all_referred (t.pattern p ps) = referred p ++ all_referred ps

-- the components of the module at a place
abbrev pub written_at : List NamedModule → ℕ → List WrittenComponent
written_at modules i = option_map_or (λ (m : NamedModule). written_components m.tree.items) (slice_get modules i) []

-- the includes of the module at a place
abbrev pub inclusions_at : List NamedModule → ℕ → List Inclusion
inclusions_at modules i = option_map_or (λ (m : NamedModule). inclusions modules 0 m.tree.items) (slice_get modules i) []
