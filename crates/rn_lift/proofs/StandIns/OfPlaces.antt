-- What stands for the parts of a place that lead somewhere.
use Rattle.std.proofs.Common.{◌≡◌, ℕ, ◌<◌, List, [], ◌∷◌, ◌++◌, Option, Some, length, get_or, refl, ap, subst, ◌∙◌}
use Rattle.std.specs.Prelude.{slice_get, string_bytes}
use Rattle.std.proofs.lemmas.Option.{slice_get_read}
use Rattle.rn_text.specs.Literals.{literal_bytes}
use Rattle.rn_scopes.specs.ScopeEntries.{module_of}
use Rattle.rn_scopes.specs.declared.scopes.PlacedUnit.{PlacedUnit}
use Rattle.rn_scopes.specs.declared.scopes.Scope.{Scope}
use Rattle.rn_lift.specs.inside.Planned.{IsPlaceOf, IsPlanned, IsPlannedScope, IsScopeOf}
use Rattle.rn_lift.specs.StandIns.{IsIncluded, IsLifted}
use Rattle.rn_lift.specs.declared.lifted.Basis.{Basis}
use Rattle.rn_lift.specs.declared.module_texts.PlaceView.{PlaceView}

-- what was read at an index
pub read : {X : Type 0} (l xs : List X) (i : ℕ) (x : X) → l ≡ xs → i < length l → x ≡ get_or l i x → slice_get xs i ≡ Some x
read {X} l xs i x e h g = subst (λ (t : List X). slice_get t i ≡ Some x) e (slice_get_read l (length l) i x refl h g)

abbrev basis : ℕ → ℕ → ℕ → Basis
basis file g s = record { file = file; grammar = g; scope = s }

basis_at : (file g h s t : ℕ) → g ≡ h → s ≡ t → basis file g s ≡ basis file h t
basis_at file g h s t e f =
    let i : basis file g s ≡ basis file h s = ap (λ (x : ℕ). basis file x s) e in
    let j : basis file h s ≡ basis file h t = ap (λ (y : ℕ). basis file h y) f in
    i ∙ j

-- the module of a place is planned
planned : (v : PlaceView) (scope : ℕ) (named : Option ℕ) (grammar : ℕ) (place : PlacedUnit) → (p : IsPlaceOf v scope named grammar place) → IsPlanned v.units.now v.plan.now (string_bytes place.module) (record { file = p.unit.file; grammar = grammar; scope = scope })
planned v scope named grammar place p = record {
  number = p.number;
  place = place;
  unit = p.unit;
  is_place = p.is_place;
  is_unit = p.is_unit;
  is_name = refl;
  is_basis = basis_at p.unit.file p.unit.grammar grammar place.scope scope p.is_grammar p.in_scope;
}

-- the literal of its name stands for an include
pub included : (v : PlaceView) (scope : ℕ) (named : Option ℕ) (place : PlacedUnit) (text : List ℕ) → IsPlaceOf v scope named 0 place → text ≡ literal_bytes (string_bytes place.module) → IsIncluded (IsPlanned v.units.now v.plan.now) scope named text
included v scope named place text p e = record {
  file = p.unit.file;
  is_named = p.is_named;
  name = string_bytes place.module;
  is_module = planned v scope named 0 place p;
  is_literal = e;
}

-- a reference to the start of a scope stands for what is lifted into it
pub lifted : (v : PlaceView) (named : Option ℕ) (grammar : ℕ) (scope : Scope) (text : List ℕ) → IsScopeOf v named grammar scope → text ≡ (string_bytes scope.stem ++ (46 ∷ string_bytes v.plan.now.names.start)) ++ (32 ∷ []) → IsLifted (IsPlanned v.units.now v.plan.now) (IsPlannedScope v.plan.now) (string_bytes v.plan.now.names.start) named grammar text
lifted v named grammar scope text p e = record {
  file = p.is_place.unit.file;
  is_named = p.is_place.is_named;
  scope = p.number;
  stem = string_bytes scope.stem;
  name = string_bytes p.place.module;
  is_scope = record {
    scope = scope;
    is_scope = p.is_scope;
    is_stem = refl;
    is_entry = ap (λ (o : Option PlacedUnit). module_of o) p.is_entry;
    is_no_root = p.is_no_root;
  };
  is_module = planned v p.number named grammar p.place p.is_place;
  is_reference = e;
}
