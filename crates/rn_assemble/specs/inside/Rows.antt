-- The components that modules define, by their keys, as they lie in the code.
use Rattle.std.specs.Prelude.{ℕ, suc, ◌<◌, ◌≡◌, ◌≢◌, List, [], ◌∷◌, ◌++◌, length, map, filter, slice_get, Vec}
use Rattle.std.specs.Option.{option_map_or}
use Rattle.std.specs.declared.alloc.Global.{Global}
use Rattle.rn_text.specs.Texts.{Text}
use Rattle.rn_syntax.specs.View.{boxed_view}
use Rattle.rn_assemble.specs.Components.{Key, NamedModule, same_key}
use Rattle.rn_assemble.specs.declared.reading.key_rows.WrittenComponent as code
use Rattle.rn_assemble.specs.inside.Contained.{WrittenComponent, written_components}
use Rattle.rn_assemble.specs.inside.Keyed.{AreNames, key_at}

-- a component, with the place of its module and its place among the module's components
pub record Placed : Type 0 where
  pub module_at : ℕ
  pub number : ℕ
  pub component : WrittenComponent

-- the components of the module m, of which the first one has the place n
abbrev pub placed_from : (m n : ℕ) → List WrittenComponent → List Placed
placed_from m n [] = []
placed_from m n (w ∷ ws) = record { module_at = m; number = n; component = w } ∷ placed_from m (suc n) ws

-- the components of modules, of which the first one has the place m
abbrev pub placed_in : (m : ℕ) → List NamedModule → List Placed
placed_in m [] = []
placed_in m (x ∷ xs) = placed_from m 0 (written_components x.tree.items) ++ placed_in (suc m) xs

-- the components of all modules: module by module, and in the order of the text
abbrev pub all_placed : List NamedModule → List Placed
all_placed modules = placed_in 0 modules

-- those of a key
abbrev pub with_key : Key → List Placed → List Placed
with_key k ps = filter (λ (p : Placed). same_key k p.component.key) ps

-- a component of the code, under its key
abbrev pub placed_view : Key → code.WrittenComponent → Placed
placed_view k w = record { module_at = w.module.0; number = w.number; component = record { key = k; method = w.method; pattern = boxed_view w.body } }

-- the row of that number
abbrev pub row_at : List (Vec code.WrittenComponent Global) → ℕ → List code.WrittenComponent
row_at rows n = option_map_or (λ (v : Vec code.WrittenComponent Global). v.items) (slice_get rows n) []

-- the row has the components that modules define under the key
abbrev pub IsRowOf : List NamedModule → Key → List code.WrittenComponent → Type 0
IsRowOf modules k row = map (placed_view k) row ≡ with_key k (all_placed modules)

-- the names are those that the modules define, and each key has its row
pub record AreRows (modules : List NamedModule) (names : List Text) (rows : List (Vec code.WrittenComponent Global)) : Type 0 where
  pub names_are : AreNames modules names
  pub size : length rows ≡ suc (length names)
  pub each : (n : ℕ) → n < length rows → IsRowOf modules (key_at names n) (row_at rows n)

-- all other rows are as they were
pub record KeepsRowsBut (n : ℕ) (old new : List (Vec code.WrittenComponent Global)) : Type 0 where
  pub size : length new ≡ length old
  pub others : (m : ℕ) → m ≢ n → row_at new m ≡ row_at old m

-- the components of modules are added to the rows of their keys, behind those that were there
pub record AddsRows (names : List Text) (old new : List (Vec code.WrittenComponent Global)) (added : List Placed) : Type 0 where
  pub size : length new ≡ length old
  pub each : (n : ℕ) → n < length old → map (placed_view (key_at names n)) (row_at new n) ≡ map (placed_view (key_at names n)) (row_at old n) ++ with_key (key_at names n) added

-- each key of a name has its row
pub record AreNameRows (modules : List NamedModule) (names : List Text) (rows : List (Vec code.WrittenComponent Global)) : Type 0 where
  pub size : length rows ≡ suc (length names)
  pub each : (n : ℕ) → 0 < n → n < length rows → IsRowOf modules (key_at names n) (row_at rows n)
