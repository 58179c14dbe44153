-- What is made of a plan is made of its files.
use Rattle.std.proofs.Common.{◌≡◌, ◌≢◌, ℕ, zero, suc, ◌<◌, ◌⊎◌, inl, inr, List, ◌∷◌, [], Option, Some, None, option_map, All, map, length, drop, refl, sym, ap, subst, ◌∙◌}
use Rattle.std.specs.Prelude.{Contains, IfOk, IsPermutation, Ok, Err, Result, String, slice_get, string_bytes}
use Rattle.std.specs.declared.alloc.Global.{Global}
use Rattle.std.proofs.lemmas.Option.{slice_get_within, slice_get-map, get_or_from_slice_get}
use Rattle.std.proofs.lemmas.List.Elements.{All-weaker, All-contains, All-get_or}
use Rattle.std.proofs.lemmas.List.Sorted.{All-permutation, Contains-permutation}
use Rattle.rn_outline.specs.Links.{targets_of}
use Rattle.rn_scopes.specs.UnitFiles.{HasTargets, files_of}
use Rattle.rn_scopes.specs.declared.lift_fault.LiftFault.{LiftFault}
use Rattle.rn_scopes.specs.declared.input_files.InputFile.{InputFile}
use Rattle.rn_scopes.specs.declared.input_files.Lifting.{Lifting}
use Rattle.rn_scopes.specs.declared.scopes.PlacedUnit.{PlacedUnit}
use Rattle.rn_scopes.specs.declared.scopes.Plan.{Plan}
use Rattle.rn_scopes.specs.declared.scopes.Scope.{Scope}
use Rattle.rn_scopes.specs.declared.units.Unit.{Unit}
use Rattle.rn_scopes.specs.declared.units.Units.{Units}
use Rattle.rn_lift.specs.LiftedModules.{AreMadeOfFiles, BringsIn, HasModule, HasScope, IsMadeOfFile, IsModuleOf}
use Rattle.rn_lift.specs.inside.Planned.{HasPlace, IsBrought, IsModuleOfPlace, basis_of, IsModuleOfSomePlace, IsPlanned, IsPlannedScope}
use Rattle.rn_lift.specs.declared.lifted.Basis.{Basis}
use Rattle.rn_lift.specs.declared.lifted.Lifted.{Lifted}
use Rattle.rn_lift.specs.declared.lifted.LiftedModule.{LiftedModule}
use Rattle.rn_lift.proofs.LiftedModules.InAccounts.{carried}

-- the stems of scopes
abbrev pub stems_of : Plan → List (List ℕ)
stems_of plan = map (λ s. string_bytes s.stem) plan.scopes.items

some_none : (b : Basis) → Some b ≡ None → ⊥
some_none b e = cc

same_name : (p q : PlacedUnit) (name : List ℕ) → p ≡ q → string_bytes q.module ≡ name → string_bytes p.module ≡ name
same_name p q name e h = ap (λ (x : PlacedUnit). string_bytes x.module) e ∙ h

same_basis : (u v : Unit) (p q : PlacedUnit) (b : Basis) → u ≡ v → p ≡ q → basis_of v q ≡ b → basis_of u p ≡ b
same_basis u v p q b e f h =
    let i : basis_of u p ≡ basis_of v p = ap (λ (x : Unit). basis_of x p) e in
    let j : basis_of v p ≡ basis_of v q = ap (λ (y : PlacedUnit). basis_of v y) f in
    i ∙ j ∙ h

same_place : (units : Units) (plan : Plan) (name : List ℕ) (b : Basis) (h : IsPlanned units plan name b) (m : LiftedModule) (w : IsModuleOfPlace units plan h.number m) → w.place ≡ h.place
same_place units plan name b h m w = cc (w.is_place_with_file.is_place, h.is_place)

same_unit : (units : Units) (plan : Plan) (name : List ℕ) (b : Basis) (h : IsPlanned units plan name b) (m : LiftedModule) (w : IsModuleOfPlace units plan h.number m) → w.unit ≡ h.unit
same_unit units plan name b h m w =
    let f : slice_get units.units.items w.place.unit ≡ slice_get units.units.items h.place.unit = ap (λ (p : PlacedUnit). slice_get units.units.items p.unit) (same_place units plan name b h m w) in
    cc (w.is_place_with_file.is_unit, h.is_unit, f)

made_name : (units : Units) (plan : Plan) (name : List ℕ) (b : Basis) (h : IsPlanned units plan name b) (m : LiftedModule) (w : IsModuleOfPlace units plan h.number m) → string_bytes m.name ≡ name
made_name units plan name b h m w = w.is_name ∙ same_name w.place h.place name (same_place units plan name b h m w) h.is_name

made_basis : (units : Units) (plan : Plan) (name : List ℕ) (b : Basis) (h : IsPlanned units plan name b) (m : LiftedModule) (w : IsModuleOfPlace units plan h.number m) → m.basis ≡ Some b
made_basis units plan name b h m w =
    let e = same_basis w.unit h.unit w.place h.place b (same_unit units plan name b h m w) (same_place units plan name b h m w) h.is_basis in
    w.is_basis ∙ ap (λ (x : Basis). Some x) e

has_module : (units : Units) (plan : Plan) (ms : List LiftedModule) → ((k : ℕ) → k < length plan.places.items → HasPlace units plan ms k) → (name : List ℕ) (b : Basis) → IsPlanned units plan name b → HasModule ms name b
has_module units plan ms each name b h =
    let w = each h.number (slice_get_within plan.places.items h.number h.place h.is_place) in
    (w.0, w.1, made_name units plan name b h w.0 w.2, made_basis units plan name b h w.0 w.2)

beyond_first : {X : Type 0} (P : X → Type 0) (xs : List X) → All P (drop 1 xs) → (n : ℕ) (x : X) → n ≢ 0 → slice_get xs n ≡ Some x → P x
beyond_first P [] h n x k e = cc
beyond_first P (y ∷ ys) h zero x k e = absurd (k refl)
beyond_first P (y ∷ ys) h (suc n) x k e = subst P (get_or_from_slice_get ys n x x e) (All-get_or P ys n x (slice_get_within ys n x e) h)

has_scope : (plan : Plan) (ms : List LiftedModule) → All (IsBrought plan ms) (drop 1 plan.scopes.items) → (number : ℕ) (stem name : List ℕ) → IsPlannedScope plan number stem name → HasScope ms (stems_of plan) number stem name
has_scope plan ms h number stem name p =
    let stem_is : slice_get (stems_of plan) number ≡ Some stem = slice_get-map (λ (s : Scope). string_bytes s.stem) plan.scopes.items number ∙ ap (λ (o : Option Scope). option_map (λ (s : Scope). string_bytes s.stem) o) p.is_scope ∙ ap (λ (x : List ℕ). Some x) p.is_stem in
    (p.is_no_root, stem_is, subst (λ (n : List ℕ). (m : LiftedModule) × Contains ms m × BringsIn n m) p.is_entry (beyond_first (IsBrought plan ms) plan.scopes.items h number p.scope p.is_no_root p.is_scope))

brought_again : (plan : Plan) (ms ns : List LiftedModule) → IsPermutation ms ns → (s : Scope) → IsBrought plan ms s → IsBrought plan ns s
brought_again plan ms ns p s h = (h.0, Contains-permutation ms ns h.0 p h.1, h.2)

-- a module of a place says by the files what it says by the plan
by_files : (units : Units) (plan : Plan) (files : List Lifting) (ms : List LiftedModule) → files_of units ≡ files → All HasTargets units.files.items → ((k : ℕ) → k < length plan.places.items → HasPlace units plan ms k) → All (IsBrought plan ms) (drop 1 plan.scopes.items) → (m : LiftedModule) → IsModuleOfSomePlace units plan m → IsMadeOfFile files ms (stems_of plan) (string_bytes plan.names.start) m
by_files units plan files ms e targets each brought m w b is_basis =
    let basis : Basis = basis_of w.1.unit w.1.place in
    let same : basis ≡ b = cc (w.1.is_basis, is_basis) in
    let g = w.1.given in
    let is_file : slice_get files basis.file ≡ Some g.file = ap (λ (fs : List Lifting). slice_get fs basis.file) (sym e) ∙ slice_get-map (λ (x : InputFile). x.file) units.files.items basis.file ∙ ap (λ (o : Option InputFile). option_map (λ (x : InputFile). x.file) o) w.1.is_place_with_file.is_given in
    let named : HasTargets g = subst HasTargets (get_or_from_slice_get units.files.items basis.file g g w.1.is_place_with_file.is_given) (All-get_or HasTargets units.files.items basis.file g (slice_get_within units.files.items basis.file g w.1.is_place_with_file.is_given) targets) in
    let made = carried (IsPlanned units plan) (HasModule ms) (IsPlannedScope plan) (HasScope ms (stems_of plan)) (has_module units plan ms each) (has_scope plan ms brought) (string_bytes plan.names.start) g.file g.targets.items basis (string_bytes m.text) w.1.is_module in
    let by_targets = subst (λ (ts : List (Option ℕ)). IsModuleOf (HasModule ms) (HasScope ms (stems_of plan)) (string_bytes plan.names.start) g.file ts basis (string_bytes m.text)) named made in
    subst (λ (b : Basis). (file : Lifting) × (slice_get files b.file ≡ Some file) × IsModuleOf (HasModule ms) (HasScope ms (stems_of plan)) (string_bytes plan.names.start) file (targets_of file.outline.now.parts.items file.targets.now) b (string_bytes m.text)) same (g.file, is_file, by_targets)

-- a module of a place, or one that brings in a scope
from_either : (units : Units) (plan : Plan) (files : List Lifting) (placed ms : List LiftedModule) → files_of units ≡ files → All HasTargets units.files.items → ((k : ℕ) → k < length plan.places.items → HasPlace units plan ms k) → All (IsBrought plan ms) (drop 1 plan.scopes.items) → All (IsModuleOfSomePlace units plan) placed → (m : LiftedModule) → Contains placed m ⊎ (m.basis ≡ None) → IsMadeOfFile files ms (stems_of plan) (string_bytes plan.names.start) m
from_either units plan files placed ms e targets each brought of_places m (inl h) = by_files units plan files ms e targets each brought m (All-contains (IsModuleOfSomePlace units plan) placed m of_places h)
from_either units plan files placed ms e targets each brought of_places m (inr h) = λ b is_basis. absurd (some_none b (sym is_basis ∙ h))

-- the modules of the places, those that bring in scopes, and all in another order
pub made : (units : Units) (plan : Plan) (files : List Lifting) (placed all sorted : List LiftedModule) → files_of units ≡ files → All HasTargets units.files.items → All (IsModuleOfSomePlace units plan) placed → ((k : ℕ) → k < length plan.places.items → HasPlace units plan placed k) → ((m : LiftedModule) → Contains placed m → Contains all m) → All (λ m. Contains placed m ⊎ (m.basis ≡ None)) all → All (IsBrought plan all) (drop 1 plan.scopes.items) → IsPermutation all sorted → AreMadeOfFiles files sorted (string_bytes plan.names.start)
made units plan files placed all sorted e targets of_places each kept others brought p =
    let keeps : (m : LiftedModule) → Contains placed m → Contains sorted m = λ m h. Contains-permutation all sorted m p (kept m h) in
    let each_sorted : (k : ℕ) → k < length plan.places.items → HasPlace units plan sorted k = λ k h. let w = each k h in (w.0, keeps w.0 w.1, w.2) in
    let brought_sorted = All-weaker (IsBrought plan all) (IsBrought plan sorted) (brought_again plan all sorted p) (drop 1 plan.scopes.items) brought in
    let P : LiftedModule → Type 0 = IsMadeOfFile files sorted (stems_of plan) (string_bytes plan.names.start) in
    let one : (m : LiftedModule) → Contains placed m ⊎ (m.basis ≡ None) → P m = λ m h. from_either units plan files placed sorted e targets each_sorted brought_sorted of_places m h in
    (stems_of plan, All-permutation P all sorted p (All-weaker (λ m. Contains placed m ⊎ (m.basis ≡ None)) P one all others))

-- what is answered, if it is modules
pub made_ok : (units : Units) (plan : Plan) (files : List Lifting) (placed all : List LiftedModule) → files_of units ≡ files → All HasTargets units.files.items → All (IsModuleOfSomePlace units plan) placed → ((k : ℕ) → k < length plan.places.items → HasPlace units plan placed k) → ((m : LiftedModule) → Contains placed m → Contains all m) → All (λ m. Contains placed m ⊎ (m.basis ≡ None)) all → All (IsBrought plan all) (drop 1 plan.scopes.items) → (r : Result Lifted LiftFault) → IfOk r (λ l. IsPermutation all l.modules.items) → IfOk r (λ l. l.start ≡ plan.names.start) → IfOk r (λ l. AreMadeOfFiles files l.modules.items (string_bytes l.start))
made_ok units plan files placed all e targets of_places each kept others brought (Ok l) p s = subst (λ (t : String Global). AreMadeOfFiles files l.modules.items (string_bytes t)) (sym s) (made units plan files placed all l.modules.items e targets of_places each kept others brought p)
made_ok units plan files placed all e targets of_places each kept others brought (Err f) p s = p
