use Rattle.std.proofs.Common.{ap, ◌∙◌}
use Rattle.std.specs.Prelude.{string_bytes}
use Rattle.std.specs.Rc.{rc_str_bytes}
use Rattle.rn_pattern.proofs.Stores.Copied.{parameters_copied}
use Rattle.rn_pattern.proofs.Ordered.PatternKinds.{datum_of, datum_seen}
use Rattle.rn_pattern.specs.View.{excepted_view, parameters_view}
use Rattle.rn_pattern.specs.declared.tree.Data.{Data}
use Rattle.rn_simplify.proofs.Simplified.NodeKinds.{datum_alike}
use Rattle.rn_simplify.proofs.rebuilding.datum_pattern.Goals as goal

pub returns : goal.returns
returns c =
    let params = c.in_ok-to_vec.field-0 in
    let l = c.in_ok-clone.ensures.cases in
    let x = c.in_ok-clone-2.ensures.cases in
    let ps = parameters_copied c.args.params.now params.items c.in_ok-to_vec.ensures.ok in
    datum_seen c.in_ok-new_box.field-0 c.args.except
    ∙ ap (λ (d : Data). datum_of (rc_str_bytes d.library) (string_bytes d.type_name) (parameters_view d.params.items) (excepted_view c.args.except)) c.in_ok-new_box.ensures
    ∙ (λ i. datum_of (l i) (x i) (ps i) (excepted_view c.args.except))
    ∙ datum_alike (rc_str_bytes c.args.library.now) (string_bytes c.args.type_name.now) (parameters_view c.args.params.now) c.args.except
