use Rattle.std.proofs.Common.{take}
use Rattle.std.specs.Prelude.{flat_map}
use Rattle.rn_syntax.specs.declared.tree.Param.{Param}
use Rattle.rn_syntax.specs.View.{param_view}
use Rattle.rn_rng.specs.Layout.{item_text}
use Rattle.rn_rng.specs.Translation.{param_element}
use Rattle.rn_rng.specs.inside.Writes.{Writes}
use Rattle.rn_rng.proofs.data_xml.write_params.Given as goal

abbrev pub invariant-loop-param : goal.invariant-loop-param
invariant-loop-param l = Writes (flat_map (λ (p : Param). item_text l.level (param_element (param_view p))) (take l.param-index l.params)) l.initial.writer l.writer
