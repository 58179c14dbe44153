use Rattle.std.proofs.Common.{◌≡◌, ap, sym, ◌∙◌, arith, map}
use Rattle.std.specs.Rc.{rc_str_bytes}
use Rattle.std.proofs.lemmas.List.{take_all}
use Rattle.std.proofs.lemmas.Result.{IfOk-weaker}
use Rattle.rn_pattern.specs.Tree.{trees_of}
use Rattle.rn_pattern.specs.View as resolved_view
use Rattle.rn_syntax.specs.declared.tree.Pat.{Pat}
use Rattle.rn_syntax.specs.View.{pattern_view, patterns_view}
use Rattle.rn_assemble.specs.Resolve.{resolved_pattern, resolved_patterns, repetition, operator_node}
use Rattle.rn_assemble.proofs.Joining.ResolvedLists.{patterns_resolved, repeated_seen, chain_seen}
use Rattle.rn_assemble.proofs.resolving.resolution.+pattern.Goals as goal

pub patterns-returns : goal.patterns-returns
patterns-returns t c = λ ds b.
    let f = λ (k : Pat). resolved_pattern (rc_str_bytes c.args.context.inherited.now) ds (pattern_view k) in
    ap trees_of (c.loop-member.invariant ds b ∙ ap (map f) (take_all c.loop-member.member-index c.args.written.now (omega arith)))
    ∙ patterns_resolved (rc_str_bytes c.args.context.inherited.now) ds c.args.written.now

pub resolve_pattern-returns-in-Repeated : goal.resolve_pattern-returns-in-Repeated
resolve_pattern-returns-in-Repeated t c = λ ds b.
    let i = (rc_str_bytes c.args.context.inherited.now) in
    let r = c.in-Repeated.postfix in
    let seen = ap (λ p. resolved_pattern i ds (pattern_view p)) c.in-Repeated.is ∙ ap (resolved_pattern i ds) (repeated_seen r c.in-Repeated.content) in
    let inner = ap (λ p. resolved_pattern i ds (pattern_view p)) c.deref-in-Repeated.ensures in
    IfOk-weaker c.repetition.result (λ p. resolved_view.pattern_view p ≡ repetition i ds r (resolved_pattern i ds (pattern_view c.deref-in-Repeated.result.now))) _
    (λ p h. h ∙ ap (repetition i ds r) inner ∙ sym seen) (c.repetition.ensures ds b)

pub resolve_pattern-returns-in_ok-members-in-Chain : goal.resolve_pattern-returns-in_ok-members-in-Chain
resolve_pattern-returns-in_ok-members-in-Chain t c = λ ds b.
    let i = (rc_str_bytes c.args.context.inherited.now) in
    let o = c.in-Chain.operator in
    let seen = ap (λ p. resolved_pattern i ds (pattern_view p)) c.in-Chain.is ∙ ap (resolved_pattern i ds) (chain_seen o c.in-Chain.members) in
    let inner = c.in_ok-members-in-Chain.ensures ds b ∙ ap (λ ps. resolved_patterns i ds (patterns_view ps)) c.deref-in-Chain.ensures.value in
    c.chain.ensures i ds ∙ ap (operator_node i ds o) inner ∙ sym seen
