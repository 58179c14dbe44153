use Rattle.std.proofs.Common.{◌≡◌, ap, sym, ◌∙◌}
use Rattle.std.specs.Rc.{rc_str_bytes}
use Rattle.std.specs.Cow.{cow_str_bytes}
use Rattle.std.proofs.lemmas.Result.{IfOk-weaker}
use Rattle.rn_pattern.specs.Tree as tree
use Rattle.rn_pattern.specs.View.{pattern_view}
use Rattle.rn_syntax.specs.View.{type_view}
use Rattle.rn_assemble.specs.Resolve as resolve
use Rattle.rn_assemble.proofs.resolving.resolution.value.Goals as goal

pub returns-in-Some : goal.returns-in-Some
returns-in-Some c = λ ds b.
    let i = (rc_str_bytes c.args.context.inherited.now) in
    let l = c.library.ensures ds b in
    let n = c.type_name.ensures i ds in
    let s = c.as_str-text.ensures.value in
    IfOk-weaker c.typed_value.result (λ p. pattern_view p ≡ tree.value (rc_str_bytes c.library.result.now) c.type_name.result.now c.as_str-text.result.now) _
    (λ p h. h ∙ (λ j. tree.value (l j) (n j) (s j)) ∙ sym (ap (λ d. resolve.typed_value i ds (type_view d) (cow_str_bytes c.args.value.now.text)) c.in-Some.is)) c.typed_value.ensures
