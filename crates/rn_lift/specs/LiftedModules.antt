-- The modules that files become, and their texts.
use Rattle.std.specs.Prelude.{◌≡◌, ◌≢◌, ℕ, ◌<◌, ◌⊎◌, false, ⊤, List, [], ◌++◌, All, Contains, Option, Some, None, codes, length, map, slice_get, slice_range, string_bytes}
use Rattle.std.specs.List.{AllByRecursion, list_any}
use Rattle.rn_outline.specs.Links.{targets_of}
use Rattle.rn_outline.specs.declared.file_parts.FilePart.{FilePart}
use Rattle.rn_outline.specs.declared.file_parts.FilePartKind.{FilePartKind}
use Rattle.rn_outline.specs.declared.file_parts.FilePartKind.TheVariants.{Define, Start, Reference}
use Rattle.rn_outline.specs.declared.file_parts.Span.{Span}
use Rattle.rn_scopes.specs.declared.input_files.Lifting.{Lifting}
use Rattle.rn_lift.specs.Edits.{AreInTurn, edited_bytes}
use Rattle.rn_lift.specs.Lifts.{bringing_bytes}
use Rattle.rn_lift.specs.StandIns.{IsEdit, Modules, Scopes, Stays}
use Rattle.rn_lift.specs.declared.edits.Edit.{Edit}
use Rattle.rn_lift.specs.declared.lifted.Basis.{Basis}
use Rattle.rn_lift.specs.declared.lifted.LiftedModule.{LiftedModule}

-- a text that begins with this one, and goes on with these bytes of a source, but for what is edited
pub record IsEditedBehind (front source : List ℕ) (from to : ℕ) (edits : List Edit) (text : List ℕ) : Type 0 where
  pub in_turn : AreInTurn from to edits
  pub is_text : text ≡ front ++ edited_bytes source from to edits

-- the declarations of a file, and further ones
abbrev pub front : Lifting → List ℕ → List ℕ
front file added = slice_range file.text.now 0 file.outline.now.body.from ++ (codes "\n" ++ added)

-- the whole file, as it is
abbrev pub IsWhole : Basis → List ℕ → Type 0
IsWhole b added = (b.grammar ≡ 0) × (added ≡ [])

-- each part of the grammar stays as it is, or an edit is for it
pub record OthersStay (b : Basis) (parts : List FilePart) (edits : List Edit) : Type 0 where
  pub each : (n : ℕ) (p : FilePart) → slice_get parts n ≡ Some p → p.grammar ≡ b.grammar → Stays b.scope p ⊎ Contains (map (λ e. e.part) edits) n

-- The text of a module that is made of a file or of a grammar in it: each byte is as it is in the file, but for what stands in the
-- place of parts. That of a nested grammar is what stands between its braces, behind the declarations of the file. Declarations are
-- added only for parts that are excepted. Each part of a file's own grammar stays, or something else stands in its place.
pub record IsModuleOf (modules : Modules) (scopes : Scopes) (start : List ℕ) (file : Lifting) (named : List (Option ℕ)) (b : Basis) (text : List ℕ) : Type 0 where
  pub edits : List Edit
  pub added : List ℕ
  pub inside : Span
  pub are_edits : All (IsEdit modules scopes start b file.outline.now.parts.items named) edits
  pub others_stay : b.grammar ≡ 0 → OthersStay b file.outline.now.parts.items edits
  pub added_for : list_any (λ p. p.in_except) file.outline.now.parts.items ≡ false → added ≡ []
  pub whole : IsWhole b added → IsEditedBehind [] file.text.now 0 (length file.text.now) edits text
  pub headed : (IsWhole b added → ⊥) → IsEditedBehind (front file added) file.text.now inside.from inside.to edits text
  pub of_file : b.grammar ≡ 0 → inside ≡ record { from = file.outline.now.body.from; to = length file.text.now }

-- no other text stands in the place of a part like this in the scope of the roots
abbrev pub IsKeptKind : FilePartKind → Type 0
IsKeptKind (Define _ _ _ _ _) = ⊤
IsKeptKind (Start word _ _ _ _) = word.from < word.to
IsKeptKind (Reference _) = ⊤
IsKeptKind _ = ⊥

abbrev pub IsKept : FilePart → Type 0
IsKept p = (p.in_except ≡ false) × IsKeptKind p.kind

-- a file that includes nothing and has nothing that is lifted
abbrev pub IsPlain : Lifting → Type 0
IsPlain file = AllByRecursion IsKept file.outline.now.parts.items

-- a module that is a plain file in the scope of the roots has the file's text
abbrev pub KeepsText : List Lifting → LiftedModule → Type 0
KeepsText files m = (n : ℕ) (file : Lifting) → m.basis ≡ Some (record { file = n; grammar = 0; scope = 0 }) → slice_get files n ≡ Some file → IsPlain file → string_bytes m.text ≡ file.text.now

-- one of these modules has this name, and was made of this
abbrev pub HasModule : List LiftedModule → Modules
HasModule ms name b = (m : LiftedModule) × Contains ms m × (string_bytes m.name ≡ name) × (m.basis ≡ Some b)

-- a module of which this is all: it brings in a module of this name, and hands a namespace to it
pub record BringsIn (name : List ℕ) (m : LiftedModule) : Type 0 where
  pub namespace : List ℕ
  pub is_text : string_bytes m.text ≡ bringing_bytes namespace name
  pub has_no_basis : m.basis ≡ None

-- a scope that is not that of the roots: its number, its stem, and its first module, which one of these modules brings in
abbrev pub HasScope : List LiftedModule → List (List ℕ) → Scopes
HasScope ms stems number stem name = (number ≢ 0) × (slice_get stems number ≡ Some stem) × ((m : LiftedModule) × Contains ms m × BringsIn name m)

-- a module has the text of the file, or of the grammar, that it is made of, with what stands for parts in their place; the scopes
-- have these stems, and a start has this name in them
abbrev pub IsMadeOfFile : List Lifting → List LiftedModule → List (List ℕ) → List ℕ → LiftedModule → Type 0
IsMadeOfFile files ms stems start m = (b : Basis) → m.basis ≡ Some b → (file : Lifting) × (slice_get files b.file ≡ Some file) × IsModuleOf (HasModule ms) (HasScope ms stems) start file (targets_of file.outline.now.parts.items file.targets.now) b (string_bytes m.text)

-- all modules are made of the files, and scopes have stems by which their names are told
abbrev pub AreMadeOfFiles : List Lifting → List LiftedModule → List ℕ → Type 0
AreMadeOfFiles files ms start = (stems : List (List ℕ)) × All (IsMadeOfFile files ms stems start) ms
