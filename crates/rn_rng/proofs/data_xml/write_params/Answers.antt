use Rattle.rn_syntax.specs.declared.tree.Param.{Param}
use Rattle.rn_syntax.specs.View.{param_view}
use Rattle.rn_rng.specs.Layout.{item_text}
use Rattle.rn_rng.specs.Translation.{param_element}
use Rattle.rn_rng.proofs.Rows.{param_rows}
use Rattle.rn_rng.proofs.Writing.{writes_all, writes_as, writes_more, writes_nil}
use Rattle.rn_rng.proofs.data_xml.write_params.Goals as goal

pub loop-param-init : goal.loop-param-init
loop-param-init c = writes_nil c.args.writer.now

pub loop-param-preserved : goal.loop-param-preserved
loop-param-preserved c =
    let f = λ (p : Param). item_text c.args.level (param_element (param_view p)) in
    writes_more f c.args.params.now c.loop-param.param-index c.param-item.result c.loop-param-test.true c.param-item.is c.loop-param.invariant c.write_param.ensures

pub returns : goal.returns
returns c =
    let f = λ (p : Param). item_text c.args.level (param_element (param_view p)) in
    writes_as (param_rows c.args.level c.args.params.now) (writes_all f c.args.params.now c.loop-param.param-index c.loop-param-test.false c.loop-param.invariant)
