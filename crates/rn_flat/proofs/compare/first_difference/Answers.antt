use Rattle.std.proofs.Common.{◌≡◌, ◌<◌, ◌≤◌, length, take, refl, subst, arith}
use Rattle.rn_flat.proofs.SharedFronts.{shared_next, other_byte, other_end, same_texts}
use Rattle.rn_flat.proofs.compare.first_difference.Goals as goal

pub loop-at-init : goal.loop-at-init
loop-at-init c = refl

pub returns-then-found-at : goal.returns-then-found-at
returns-then-found-at c =
    let h : c.loop-at.at < length c.args.found.now = omega (arith, c.min-shorter.ensures) in
    let k : c.loop-at.at < length c.args.wanted.now = omega (arith, c.min-shorter.ensures) in
    other_byte c.args.found.now c.args.wanted.now c.loop-at.at h k c.loop-at.invariant c.if-found-at.true

pub loop-at-preserved : goal.loop-at-preserved
loop-at-preserved c =
    let h : c.loop-at.at < length c.args.found.now = omega (arith, c.min-shorter.ensures) in
    let k : c.loop-at.at < length c.args.wanted.now = omega (arith, c.min-shorter.ensures) in
    shared_next c.args.found.now c.args.wanted.now c.loop-at.at h k c.loop-at.invariant c.if-found-at.false

pub returns-then-found-wanted : goal.returns-then-found-wanted
returns-then-found-wanted c =
    let h : length c.args.found.now ≤ c.loop-at.at = omega (arith, c.min-shorter.ensures, c.if-found-wanted.true, c.loop-at-test.false) in
    same_texts c.args.found.now c.args.wanted.now c.loop-at.at c.if-found-wanted.true h c.loop-at.invariant

pub returns-else-found-wanted : goal.returns-else-found-wanted
returns-else-found-wanted c =
    let e : c.loop-at.at ≡ c.min-shorter.result = omega (arith, c.loop-at.auto.at-end, c.loop-at-test.false) in
    other_end c.args.found.now c.args.wanted.now c.min-shorter.result c.min-shorter.ensures c.if-found-wanted.false
    (subst (λ n. take n c.args.found.now ≡ take n c.args.wanted.now) e c.loop-at.invariant)
