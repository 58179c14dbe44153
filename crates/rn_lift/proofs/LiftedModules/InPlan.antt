-- Modules of places and modules that bring in scopes, added one by one.
use Rattle.std.proofs.Common.{◌≡◌, ℕ, ◌<◌, ◌+◌, List, [], ◌∷◌, ◌++◌, All, length, get_or, take, subst, below_more}
use Rattle.std.proofs.lemmas.List.Elements.{All-more, All-weaker}
use Rattle.rn_scopes.specs.ScopeEntries.{entry_of}
use Rattle.rn_scopes.specs.declared.scopes.Plan.{Plan}
use Rattle.rn_scopes.specs.declared.scopes.Scope.{Scope}
use Rattle.rn_scopes.specs.declared.units.Units.{Units}
use Rattle.rn_lift.specs.LiftedModules.{BringsIn}
use Rattle.rn_lift.specs.inside.Planned.{HasPlace, IsBrought, IsModuleOfPlace}
use Rattle.rn_lift.specs.declared.lifted.LiftedModule.{LiftedModule}
use Rattle.rn_lift.proofs.ListsWithOneMore.{last_there, still_there}

-- the scopes so far, and one more
pub brought_more : (plan : Plan) (ms ns : List LiftedModule) (m : LiftedModule) (ss : List Scope) (i : ℕ) (s : Scope) → ns ≡ ms ++ m ∷ [] → i < length ss → s ≡ get_or ss i s → BringsIn (entry_of plan s) m → All (IsBrought plan ms) (take i ss) → All (IsBrought plan ns) (take (i + 1) ss)
brought_more plan ms ns m ss i s e l r b a =
    let weaker : (t : Scope) → IsBrought plan ms t → IsBrought plan ns t = λ t h. (h.0, still_there ms ns m h.0 e h.1, h.2) in
    let here : IsBrought plan ns s = (m, last_there ms ns m e, b) in
    All-more (IsBrought plan ns) ss i s l (All-weaker (IsBrought plan ms) (IsBrought plan ns) weaker (take i ss) a) (subst (IsBrought plan ns) r here)

-- the places so far, and one more
pub has_places : (units : Units) (plan : Plan) (ms ns : List LiftedModule) (m : LiftedModule) (i : ℕ) → ns ≡ ms ++ m ∷ [] → IsModuleOfPlace units plan i m → ((k : ℕ) → k < i → HasPlace units plan ms k) → (k : ℕ) → k < i + 1 → HasPlace units plan ns k
has_places units plan ms ns m i e made h =
    let before : (k : ℕ) → k < i → HasPlace units plan ns k = λ k l. let w = h k l in (w.0, still_there ms ns m w.0 e w.1, w.2) in
    below_more (HasPlace units plan ns) i before (m, last_there ms ns m e, made)
