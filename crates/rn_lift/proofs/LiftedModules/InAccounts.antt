-- What is said of modules and scopes by one account of them holds by another that has them all.
use Rattle.std.proofs.Common.{ℕ, List, Option, Some, None}
use Rattle.std.specs.Prelude.{unwrap_or, slice_get, string_bytes}
use Rattle.std.proofs.lemmas.List.Elements.{All-weaker}
use Rattle.rn_outline.specs.declared.file_parts.FilePart.{FilePart}
use Rattle.rn_outline.specs.declared.file_parts.FilePartKind.{FilePartKind}
use Rattle.rn_outline.specs.declared.file_parts.FilePartKind.TheVariants.{Define, Start, Reference, Parent, External, Include, Grammar}
use Rattle.rn_scopes.specs.declared.input_files.Lifting.{Lifting}
use Rattle.rn_lift.specs.LiftedModules.{IsModuleOf}
use Rattle.rn_lift.specs.StandIns.{IsEdit, IsIncluded, IsLifted, Modules, Scopes, StandsForKind}
use Rattle.rn_lift.specs.declared.edits.Edit.{Edit}
use Rattle.rn_lift.specs.declared.lifted.Basis.{Basis}

-- all modules of one account are modules of another
abbrev pub Carries : Modules → Modules → Type 0
Carries m n = (name : List ℕ) (b : Basis) → m name b → n name b

abbrev pub CarriesScopes : Scopes → Scopes → Type 0
CarriesScopes s t = (number : ℕ) (stem name : List ℕ) → s number stem name → t number stem name

included : (m n : Modules) → Carries m n → (scope : ℕ) (named : Option ℕ) (text : List ℕ) → IsIncluded m scope named text → IsIncluded n scope named text
included m n f scope named text h = record {
  file = h.file;
  is_named = h.is_named;
  name = h.name;
  is_module = f h.name (record { file = h.file; grammar = 0; scope = scope }) h.is_module;
  is_literal = h.is_literal;
}

lifted : (m n : Modules) (s t : Scopes) → Carries m n → CarriesScopes s t → (start : List ℕ) (named : Option ℕ) (grammar : ℕ) (text : List ℕ) → IsLifted m s start named grammar text → IsLifted n t start named grammar text
lifted m n s t f g start named grammar text h = record {
  file = h.file;
  is_named = h.is_named;
  scope = h.scope;
  stem = h.stem;
  name = h.name;
  is_scope = g h.scope h.stem h.name h.is_scope;
  is_module = f h.name (record { file = h.file; grammar = grammar; scope = h.scope }) h.is_module;
  is_reference = h.is_reference;
}

stands : (m n : Modules) (s t : Scopes) → Carries m n → CarriesScopes s t → (start : List ℕ) (b : Basis) (named : Option ℕ) (kind : FilePartKind) (text : List ℕ) → StandsForKind m s start b named kind text → StandsForKind n t start b named kind text
stands m n s t f g start b named (Include l a i) text h = included m n f b.scope named text h
stands m n s t f g start b named (External l a i) text h = lifted m n s t f g start named 0 text h
stands m n s t f g start b named (Grammar number i) text h = lifted m n s t f g start (Some b.file) number text h
stands m n s t f g start b named (Parent i) text h = h
stands m n s t f g start b named (Start w i j k l) text h = h
stands m n s t f g start b named (Define w i j k l) text h = h
stands m n s t f g start b named (Reference i) text h = h

edit : (m n : Modules) (s t : Scopes) → Carries m n → CarriesScopes s t → (start : List ℕ) (b : Basis) (parts : List FilePart) (named : List (Option ℕ)) (e : Edit) → IsEdit m s start b parts named e → IsEdit n t start b parts named e
edit m n s t f g start b parts named e h = record {
  part = h.part;
  is_part = h.is_part;
  in_grammar = h.in_grammar;
  at_mark = h.at_mark;
  stands = λ q. stands m n s t f g start b (unwrap_or (slice_get named e.part) None) h.part.kind (string_bytes e.text) (h.stands q);
}

-- a module's text
pub carried : (m n : Modules) (s t : Scopes) → Carries m n → CarriesScopes s t → (start : List ℕ) (file : Lifting) (named : List (Option ℕ)) (b : Basis) (text : List ℕ) → IsModuleOf m s start file named b text → IsModuleOf n t start file named b text
carried m n s t f g start file named b text h = record {
  edits = h.edits;
  added = h.added;
  inside = h.inside;
  are_edits = All-weaker (IsEdit m s start b file.outline.now.parts.items named) (IsEdit n t start b file.outline.now.parts.items named) (edit m n s t f g start b file.outline.now.parts.items named) h.edits h.are_edits;
  others_stay = h.others_stay;
  added_for = h.added_for;
  whole = h.whole;
  headed = h.headed;
  of_file = h.of_file;
}
