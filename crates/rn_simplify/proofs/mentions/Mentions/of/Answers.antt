use Rattle.rn_pattern.specs.View.{pattern_view}
use Rattle.rn_assemble.specs.GrammarView.{definitions_view}
use Rattle.rn_simplify.proofs.Texts.GatheredForms.{gathered_with}
use Rattle.rn_simplify.proofs.mentions.Mentions.of.Goals as goal

pub returns : goal.returns
returns c = gathered_with (pattern_view c.args.start.now) (definitions_view c.args.defs.now) c.in_ok-mentions.mentions c.add_definitions.new.self c.in_ok-mentions.ensures c.in_ok-add_definitions.ensures
