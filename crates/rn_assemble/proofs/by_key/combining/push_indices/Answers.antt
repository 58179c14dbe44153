use Rattle.std.proofs.Common.{◌≡◌, ◌+◌, ◌∷◌, ◌++◌, [], append_assoc, sym, ap, ◌∙◌, arith}
use Rattle.rn_assemble.specs.inside.Patterns.{numbers_from}
use Rattle.rn_assemble.proofs.Joining.MembersSoFar.{numbers_more}
use Rattle.rn_assemble.proofs.by_key.combining.push_indices.Goals as goal

pub loop-offset-preserved : goal.loop-offset-preserved
loop-offset-preserved c =
    let b = c.args.begin in
    let n = c.loop-offset.offset in
    let olds = c.args.firsts.now.items in
    let is : c.in-Ok.index ≡ b + n = omega (arith, c.in-Ok.ensures.1, c.in-Ok.ensures.0, c.saturating_add.ensures) in
    c.in_ok-push.ensures.items ∙ (λ k. c.loop-offset.invariant k ++ is k ∷ []) ∙ append_assoc olds (numbers_from b n) ((b + n) ∷ []) ∙ ap (λ ms. olds ++ ms) (sym (numbers_more b n))
