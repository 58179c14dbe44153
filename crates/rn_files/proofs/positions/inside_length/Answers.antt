use Rattle.std.proofs.Common.{◌≡◌, false, get_or, arith, sym}
use Rattle.std.proofs.lemmas.List.Sums.{prefix_len_is}
use Rattle.rn_files.specs.TextLines.{is_inside}
use Rattle.rn_files.proofs.positions.inside_length.Goals as goal

pub returns-then-not-is_inside-clause-is : goal.returns-then-not-is_inside-clause-is
returns-then-not-is_inside-clause-is c =
    let stop : is_inside (get_or c.args.bytes.now c.loop-i.i 0) ≡ false = grind (arith, c.is_inside.ensures) in
    sym (prefix_len_is is_inside c.args.bytes.now c.loop-i.i 0 (omega arith) c.loop-i.invariant (λ _. stop))

pub returns-clause-is : goal.returns-clause-is
returns-clause-is c =
    sym (prefix_len_is is_inside c.args.bytes.now _ 0 (omega arith) (λ k h. c.loop-i.invariant k (omega arith)) (λ h. let never : ⊥ = omega (arith, h) in absurd never))
