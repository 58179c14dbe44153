use Rattle.std.proofs.Common.{sym, subst}
use Rattle.rn_assemble.specs.GrammarView.{grammar_view}
use Rattle.rn_assemble.specs.SettlingOrder.{IsSettlingOrder}
use Rattle.rn_assemble.proofs.grammar.Grammar.settling_order.Goals as goal

pub returns : goal.returns
returns c = subst (IsSettlingOrder (grammar_view c.args.self.now)) (sym c.as_slice.ensures.value) c.args.self.now.in_order
