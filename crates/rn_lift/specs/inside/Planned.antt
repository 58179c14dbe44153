-- Modules and scopes as they are planned.
use Rattle.std.specs.Prelude.{◌≡◌, ◌≢◌, ℕ, ◌⊎◌, List, All, Contains, map, Option, Some, slice_get, string_bytes}
use Rattle.rn_scopes.specs.UnitFiles.{target_of}
use Rattle.rn_scopes.specs.ScopeEntries.{entry_of}
use Rattle.rn_scopes.specs.declared.input_files.InputFile.{InputFile}
use Rattle.rn_scopes.specs.declared.scopes.PlacedUnit.{PlacedUnit}
use Rattle.rn_scopes.specs.declared.scopes.Plan.{Plan}
use Rattle.rn_scopes.specs.declared.scopes.Scope.{Scope}
use Rattle.rn_scopes.specs.declared.units.Unit.{Unit}
use Rattle.rn_scopes.specs.declared.units.Units.{Units}
use Rattle.rn_outline.specs.declared.file_parts.FilePart.{FilePart}
use Rattle.rn_outline.specs.declared.file_parts.FilePartKind.{FilePartKind}
use Rattle.rn_lift.specs.LiftedModules.{BringsIn, IsModuleOf}
use Rattle.rn_lift.specs.StandIns.{IsEdit, Stays, StandsFor, StandsForKind}
use Rattle.rn_lift.specs.declared.edits.Edit.{Edit}
use Rattle.rn_lift.specs.declared.lifted.Basis.{Basis}
use Rattle.rn_lift.specs.declared.lifted.LiftedModule.{LiftedModule}
use Rattle.rn_lift.specs.declared.module_texts.PlaceView.{PlaceView}

-- what the module of a place is made of
abbrev pub basis_of : Unit → PlacedUnit → Basis
basis_of unit place = record { file = unit.file; grammar = unit.grammar; scope = place.scope }

-- there will be a module of this name, made of this
pub record IsPlanned (units : Units) (plan : Plan) (name : List ℕ) (b : Basis) : Type 0 where
  pub number : ℕ
  pub place : PlacedUnit
  pub unit : Unit
  pub is_place : slice_get plan.places.items number ≡ Some place
  pub is_unit : slice_get units.units.items place.unit ≡ Some unit
  pub is_name : string_bytes place.module ≡ name
  pub is_basis : basis_of unit place ≡ b

-- there will be a scope of this number, this stem and a first module of this name
pub record IsPlannedScope (plan : Plan) (number : ℕ) (stem name : List ℕ) : Type 0 where
  pub scope : Scope
  pub is_scope : slice_get plan.scopes.items number ≡ Some scope
  pub is_stem : string_bytes scope.stem ≡ stem
  pub is_entry : entry_of plan scope ≡ name
  pub is_no_root : number ≢ 0

-- a place in this scope, of this grammar of this file
pub record IsPlaceOf (v : PlaceView) (scope : ℕ) (named : Option ℕ) (grammar : ℕ) (place : PlacedUnit) : Type 0 where
  pub number : ℕ
  pub unit : Unit
  pub is_place : slice_get v.plan.now.places.items number ≡ Some place
  pub is_unit : slice_get v.units.now.units.items place.unit ≡ Some unit
  pub is_named : named ≡ Some unit.file
  pub is_grammar : unit.grammar ≡ grammar
  pub in_scope : place.scope ≡ scope

-- a scope of which the first place is of this grammar of this file
pub record IsScopeOf (v : PlaceView) (named : Option ℕ) (grammar : ℕ) (scope : Scope) : Type 0 where
  pub number : ℕ
  pub place : PlacedUnit
  pub is_scope : slice_get v.plan.now.scopes.items number ≡ Some scope
  pub is_no_root : number ≢ 0
  pub is_entry : slice_get v.plan.now.places.items scope.entry ≡ Some place
  pub is_place : IsPlaceOf v number named grammar place

-- what may stand in the place of a part of this number in a module that is planned
abbrev pub StandsForKindAt : PlaceView → ℕ → FilePartKind → List ℕ → Type 0
StandsForKindAt v number kind text = StandsForKind (IsPlanned v.units.now v.plan.now) (IsPlannedScope v.plan.now) (string_bytes v.plan.now.names.start) v.basis (target_of v.given.now number) kind text

abbrev pub StandsForAt : PlaceView → ℕ → FilePart → List ℕ → Type 0
StandsForAt v number p text = StandsFor (IsPlanned v.units.now v.plan.now) (IsPlannedScope v.plan.now) (string_bytes v.plan.now.names.start) v.basis (target_of v.given.now number) p text

-- what is put in the place of a part of a module that is planned
abbrev pub IsEditOf : PlaceView → Edit → Type 0
IsEditOf v e = IsEdit (IsPlanned v.units.now v.plan.now) (IsPlannedScope v.plan.now) (string_bytes v.plan.now.names.start) v.basis v.given.now.file.outline.now.parts.items v.given.now.targets.items e

-- nothing stands for the part of this number, if it is of the grammar
abbrev pub StaysAt : PlaceView → ℕ → Type 0
StaysAt v n = (p : FilePart) → slice_get v.given.now.file.outline.now.parts.items n ≡ Some p → p.grammar ≡ v.basis.grammar → Stays v.basis.scope p

-- the part of this number stays, or an edit is for it
abbrev pub IsCovered : PlaceView → List Edit → ℕ → Type 0
IsCovered v es n = (p : FilePart) → slice_get v.given.now.file.outline.now.parts.items n ≡ Some p → p.grammar ≡ v.basis.grammar → Stays v.basis.scope p ⊎ Contains (map (λ e. e.part) es) n

-- what is put in the place of the part of this number is added, if something is
pub record AddsEdit (v : PlaceView) (number : ℕ) (old new : List Edit) : Type 0 where
  pub are_edits : All (IsEditOf v) old → All (IsEditOf v) new
  pub kept : (n : ℕ) → IsCovered v old n → IsCovered v new n
  pub covered : IsCovered v new number

-- the text of a module that is planned
abbrev pub IsModuleAt : PlaceView → List ℕ → Type 0
IsModuleAt v text = IsModuleOf (IsPlanned v.units.now v.plan.now) (IsPlannedScope v.plan.now) (string_bytes v.plan.now.names.start) v.given.now.file v.given.now.targets.items v.basis text

-- a place, with its unit and its file
pub record IsPlaceWithFile (units : Units) (plan : Plan) (number : ℕ) (place : PlacedUnit) (unit : Unit) (given : InputFile) : Type 0 where
  pub is_place : slice_get plan.places.items number ≡ Some place
  pub is_unit : slice_get units.units.items place.unit ≡ Some unit
  pub is_given : slice_get units.files.items unit.file ≡ Some given

-- the module of a place, as it is planned
pub record IsModuleOfPlace (units : Units) (plan : Plan) (number : ℕ) (m : LiftedModule) : Type 0 where
  pub place : PlacedUnit
  pub unit : Unit
  pub given : InputFile
  pub is_place_with_file : IsPlaceWithFile units plan number place unit given
  pub is_name : string_bytes m.name ≡ string_bytes place.module
  pub is_basis : m.basis ≡ Some (basis_of unit place)
  pub is_module : IsModuleOf (IsPlanned units plan) (IsPlannedScope plan) (string_bytes plan.names.start) given.file given.targets.items (basis_of unit place) (string_bytes m.text)

-- the module of some place
abbrev pub IsModuleOfSomePlace : Units → Plan → LiftedModule → Type 0
IsModuleOfSomePlace units plan m = (number : ℕ) × IsModuleOfPlace units plan number m

-- the module of this place is among these
abbrev pub HasPlace : Units → Plan → List LiftedModule → ℕ → Type 0
HasPlace units plan ms number = (m : LiftedModule) × Contains ms m × IsModuleOfPlace units plan number m

-- a module that brings in this scope is among these
abbrev pub IsBrought : Plan → List LiftedModule → Scope → Type 0
IsBrought plan ms scope = (m : LiftedModule) × Contains ms m × BringsIn (entry_of plan scope) m
