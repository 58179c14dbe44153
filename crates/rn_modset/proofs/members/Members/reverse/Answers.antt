-- Both lists are turned round.
use Rattle.std.proofs.Common.{◌∙◌, ap, sym}
use Rattle.rn_modset.proofs.Numerals.TextDigests.{digests_reverse, digests_of}
use Rattle.rn_modset.proofs.members.Members.reverse.Goals as goal

pub returns-clause-digested : goal.returns-clause-digested
returns-clause-digested c =
    c.reverse-2.ensures.items ∙ digests_reverse c.args.self.now.digests.items c.args.self.now.contributions.items c.requires ∙ sym (ap digests_of c.reverse.ensures.items)
