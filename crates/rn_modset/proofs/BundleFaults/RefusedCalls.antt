-- What a refused call hands on.
use Rattle.std.proofs.Common.{◌≡◌, Result, Ok, Err, IfErr, sym, subst}
use Rattle.std.specs.Result.{IsErrAnd}
use Rattle.rn_modset.specs.declared.faults.AddFault.{AddFault}
use Rattle.rn_modset.specs.declared.faults.BundleFault.{BundleFault}

-- the answer is this fault
pub refused_by : {T : Type 0} (P : BundleFault → Type 0) (r : Result T BundleFault) (fault : BundleFault) → IsErrAnd r (λ f. f ≡ fault) → P fault → IfErr r P
refused_by P (Ok x) fault h p = tt
refused_by P (Err e) fault h p = subst P (sym h) p

pub not_joined_by : {T : Type 0} (P : AddFault → Type 0) (r : Result T AddFault) (fault : AddFault) → IsErrAnd r (λ f. f ≡ fault) → P fault → IfErr r P
not_joined_by P (Ok x) fault h p = tt
not_joined_by P (Err e) fault h p = subst P (sym h) p
