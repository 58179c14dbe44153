use Rattle.std.proofs.Common.{sym, subst}
use Rattle.rn_pattern.specs.View.{pattern_view}
use Rattle.rn_assemble.specs.Firsts.{AreFirsts, joined_members}
use Rattle.rn_assemble.proofs.Joining.FirstMembers.{tied_same}
use Rattle.rn_assemble.proofs.grammar.Grammar.start_firsts.Goals as goal

pub returns : goal.returns
returns c = subst (λ is. AreFirsts is (joined_members (pattern_view c.args.self.now.start))) (sym c.as_slice.ensures.value) (tied_same _ _ c.args.self.now.start_tied)
