-- The set of the first modules of a list, with one module more at a time.
use Rattle.std.proofs.Common.{◌≡◌, ℕ, suc, ◌+◌, ◌<◌, List, [], ◌∷◌, length, map, take, get_or, sym, ap, ◌∙◌, arith}
use Rattle.std.proofs.Math.Seq.{take-suc}
use Rattle.std.proofs.lemmas.List.{map-append}
use Rattle.rn_modset.specs.Sets.{union, with_member}
use Rattle.rn_modset.proofs.Unions.UnionMembers.{union_push}
use Rattle.rn_lift.specs.declared.lifted.LiftedModule.{LiftedModule}
use Rattle.rn_flat.specs.ModuleSets.{lifted_member, set_of_modules}

-- with the next module it is the set of one more
pub next_set : (modules : List LiftedModule) (i : ℕ) (m : LiftedModule) → i < length modules
    → with_member (set_of_modules (take i modules)) (lifted_member (get_or modules i m)) ≡ set_of_modules (take (i + 1) modules)
next_set modules i m h =
    let one_more : i + 1 ≡ suc i = omega arith in
    sym (ap (λ k. set_of_modules (take k modules)) one_more
    ∙ ap set_of_modules (take-suc modules i m h)
    ∙ ap (union []) (map-append lifted_member (take i modules) (get_or modules i m ∷ []))
    ∙ union_push [] (map lifted_member (take i modules)) (lifted_member (get_or modules i m)))
