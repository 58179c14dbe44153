-- What stands in the place of parts of a file (RELAX NG 2001, 4.6, 4.7, 4.18).
use Rattle.std.specs.Prelude.{◌≡◌, ◌≢◌, ℕ, ◌<◌, ◌≤◌, ◌⊎◌, false, ⊤, List, [], ◌∷◌, ◌++◌, Option, Some, slice_get, string_bytes, unwrap_or, None}
use Rattle.rn_text.specs.Literals.{literal_bytes}
use Rattle.rn_outline.specs.Spans.{mark}
use Rattle.rn_outline.specs.declared.file_parts.FilePart.{FilePart}
use Rattle.rn_outline.specs.declared.file_parts.FilePartKind.{FilePartKind}
use Rattle.rn_outline.specs.declared.file_parts.FilePartKind.TheVariants.{Define, Start, Reference, Parent, External, Include, Grammar}
use Rattle.rn_lift.specs.declared.edits.Edit.{Edit}
use Rattle.rn_lift.specs.declared.lifted.Basis.{Basis}

-- modules by their names and what they were made of, and scopes by their numbers, their stems and the names of their first modules
abbrev pub Modules : Type 1
Modules = List ℕ → Basis → Type 0

abbrev pub Scopes : Type 1
Scopes = ℕ → List ℕ → List ℕ → Type 0

-- the literal of the name of a module: that of this file's own grammar in this scope
pub record IsIncluded (modules : Modules) (scope : ℕ) (named : Option ℕ) (text : List ℕ) : Type 0 where
  pub file : ℕ
  pub is_named : named ≡ Some file
  pub name : List ℕ
  pub is_module : modules name (record { file = file; grammar = 0; scope = scope })
  pub is_literal : text ≡ literal_bytes name

-- a reference to the start of a scope: one of which the first module is that of this grammar of this file
pub record IsLifted (modules : Modules) (scopes : Scopes) (start : List ℕ) (named : Option ℕ) (grammar : ℕ) (text : List ℕ) : Type 0 where
  pub file : ℕ
  pub is_named : named ≡ Some file
  pub scope : ℕ
  pub stem : List ℕ
  pub name : List ℕ
  pub is_scope : scopes scope stem name
  pub is_module : modules name (record { file = file; grammar = grammar; scope = scope })
  pub is_reference : text ≡ (stem ++ (46 ∷ start)) ++ (32 ∷ [])

-- what may stand in the place of a part that is not excepted, where the module is of this file and this scope: an include's literal,
-- the reference that an external and a nested grammar become, and names in a scope that is not that of the roots
abbrev pub StandsForKind : Modules → Scopes → List ℕ → Basis → Option ℕ → FilePartKind → List ℕ → Type 0
StandsForKind modules scopes start b named (Include _ _ _) text = IsIncluded modules b.scope named text
StandsForKind modules scopes start b named (External _ _ _) text = IsLifted modules scopes start named 0 text
StandsForKind modules scopes start b named (Grammar number _) text = IsLifted modules scopes start (Some b.file) number text
StandsForKind modules scopes start b named (Parent _) text = ⊤
StandsForKind modules scopes start b named (Start word _ _ _ _) text = (b.scope ≢ 0) ⊎ (word.to ≤ word.from)
StandsForKind modules scopes start b named _ text = b.scope ≢ 0

-- a part of which nothing is replaced: a definition and a start in the scope of the roots, and a reference
abbrev pub KindStays : ℕ → FilePartKind → Type 0
KindStays scope (Define _ _ _ _ _) = scope ≡ 0
KindStays scope (Start word _ _ _ _) = (scope ≡ 0) × (word.from < word.to)
KindStays scope (Reference _) = ⊤
KindStays scope _ = ⊥

abbrev pub StandsFor : Modules → Scopes → List ℕ → Basis → Option ℕ → FilePart → List ℕ → Type 0
StandsFor modules scopes start b named p text = p.in_except ≡ false → StandsForKind modules scopes start b named p.kind text

abbrev pub Stays : ℕ → FilePart → Type 0
Stays scope p = (p.in_except ≡ false) × KindStays scope p.kind

-- an edit puts in the place of a part of the grammar, or of its name, what stands for it; these are all parts of the file, and what
-- each names
pub record IsEdit (modules : Modules) (scopes : Scopes) (start : List ℕ) (b : Basis) (parts : List FilePart) (named : List (Option ℕ)) (e : Edit) : Type 0 where
  pub part : FilePart
  pub is_part : slice_get parts e.part ≡ Some part
  pub in_grammar : part.grammar ≡ b.grammar
  pub at_mark : e.span ≡ mark part
  pub stands : StandsFor modules scopes start b (unwrap_or (slice_get named e.part) None) part (string_bytes e.text)
