use Rattle.std.proofs.Common.{◌≡◌, ap, ◌∙◌}
use Rattle.std.specs.Rc.{rc_str_bytes}
use Rattle.std.proofs.lemmas.Result.{IfOk-weaker}
use Rattle.rn_pattern.specs.Tree as tree
use Rattle.rn_pattern.specs.View.{parameters_view, pattern_view}
use Rattle.rn_syntax.specs.View.{params_view}
use Rattle.rn_assemble.proofs.resolving.resolution.datum.Goals as goal

pub returns : goal.returns
returns c = λ ds b.
    let l = c.library.ensures ds b in
    let n = c.type_name.ensures (rc_str_bytes c.args.context.inherited.now) ds in
    let ps = c.in_ok-params.ensures ∙ ap params_view c.deref.ensures.value in
    IfOk-weaker c.typed_datum.result (λ p. pattern_view p ≡ tree.datum (rc_str_bytes c.library.result.now) c.type_name.result.now (parameters_view c.in_ok-params.params.items)) _
    (λ p h. h ∙ (λ i. tree.datum (l i) (n i) (ps i))) c.typed_datum.ensures
