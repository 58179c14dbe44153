use Rattle.std.proofs.Common.{length, refl, sym, arith}
use Rattle.std.proofs.lemmas.Bool.{ltb-true}
use Rattle.std.proofs.lemmas.Option.{get_or_from_slice_get, slice_get_read}
use Rattle.rn_simplify.proofs.repeated_members.first_of.Goals as goal

pub returns-in-Some : goal.returns-in-Some
returns-in-Some c = λ members p tied e.
    let firsts = c.args.firsts.now in
    let first = c.in-Some.first.now in
    tied c.args.index first p (slice_get_read firsts (length firsts) c.args.index first refl (ltb-true c.args.index (length firsts) (sym c.in-Some.ensures.lookup.0)) c.in-Some.ensures.lookup.1) e

pub returns-in-None : goal.returns-in-None
returns-in-None c = λ members p tied e. (omega arith, get_or_from_slice_get members c.args.index p p e)
