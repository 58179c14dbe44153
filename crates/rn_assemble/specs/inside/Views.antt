-- What values of the code stand for.
use Rattle.std.specs.Prelude.{◌≡◌, ℕ, List, [], ◌∷◌, ◌++◌, Option, map, option_map, Vec}
use Rattle.std.specs.declared.alloc.Global.{Global}
use Rattle.std.specs.List.Sorted.{IsStrictlySortedBy}
use Rattle.rn_text.specs.Texts.{Text, text_cmp}
use Rattle.rn_syntax.specs.View.{declaration_view, items_view, module_view, prefix_view}
use Rattle.rn_syntax.specs.declared.tree.Item.{Item}
use Rattle.rn_assemble.specs.declared.reading.named_modules.ModuleId.{ModuleId}
use Rattle.rn_assemble.specs.declared.reading.named_modules.NamedModule as code_module
use Rattle.rn_assemble.specs.declared.reading.keys.KeyId.{KeyId}
use Rattle.rn_assemble.specs.declared.reading.keys.Keys.{Keys}
use Rattle.rn_assemble.specs.declared.reading.contents.Contents.{Contents}
use Rattle.rn_assemble.specs.declared.reading.contents.Include.{Include}
use Rattle.rn_assemble.specs.Components.{NamedModule}
pub use Rattle.rn_assemble.specs.inside.Keyed.{texts_of}
use Rattle.rn_assemble.specs.inside.Contained.{Inclusion}

-- the numbers of modules and of keys
abbrev pub module_number : Option ModuleId → Option ℕ
module_number m = option_map (λ (i : ModuleId). i.0) m

abbrev pub module_numbers : List ModuleId → List ℕ
module_numbers ms = map (λ (i : ModuleId). i.0) ms

abbrev pub key_number : Option KeyId → Option ℕ
key_number k = option_map (λ (i : KeyId). i.0) k

abbrev pub key_numbers : List KeyId → List ℕ
key_numbers ks = map (λ (i : KeyId). i.0) ks

-- the names of the keys, in the order of their numbers
abbrev pub names_of : Keys → List Text
names_of keys = texts_of keys.names.keys

abbrev pub named_module_view : code_module.NamedModule → NamedModule
named_module_view m = record { name = m.name.now; tree = module_view m.tree }

abbrev pub modules_view : List code_module.NamedModule → List NamedModule
modules_view modules = map named_module_view modules

abbrev pub module_names : List code_module.NamedModule → List Text
module_names modules = map (λ (m : code_module.NamedModule). m.name.now) modules

-- the module with these items in the place of its own
abbrev pub module_with : code_module.NamedModule → Vec Item Global → NamedModule
module_with m xs = record { name = m.name.now; tree = record { declarations = map declaration_view m.tree.decls.items; items = items_view xs.items } }

-- the modules with these items in the place of their own
abbrev pub with_items : List code_module.NamedModule → List (Vec Item Global) → List NamedModule
with_items (m ∷ ms) (xs ∷ xss) = module_with m xs ∷ with_items ms xss
with_items _ _ = []

-- the code's modules have the names of these, in their order
abbrev pub AreNamed : List NamedModule → List code_module.NamedModule → Type 0
AreNamed ms modules = map (λ (m : NamedModule). m.name) ms ≡ module_names modules

-- the modules come in the order of their names, each name once
abbrev pub AreInOrder : List code_module.NamedModule → Type 0
AreInOrder modules = IsStrictlySortedBy text_cmp (module_names modules)

abbrev pub inclusion_view : Include → Inclusion
inclusion_view i = record { module_at = module_number i.module; inherit = prefix_view i.inherit; first = i.from; end = i.to }

-- contents have got these includes behind the old ones
abbrev pub AddsIncludes : (old new : Contents) → List Inclusion → Type 0
AddsIncludes old new added = map inclusion_view new.includes.items ≡ map inclusion_view old.includes.items ++ added
