use Rattle.std.proofs.Common.{arith}
use Rattle.rn_scopes.proofs.NamesOfNoStem.{no_own}
use Rattle.rn_scopes.proofs.free_names.is_own.Goals as goal

pub returns : goal.returns
returns c = λ _. no_own c.args.own.now c.args.name.now (λ k h i. c.loop-at.invariant k (omega (arith, h)) i)
