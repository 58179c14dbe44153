use Rattle.std.proofs.Common.{ap, sym, ◌∙◌}
use Rattle.rn_files.proofs.WalkedSegments.{pushed, texts}
use Rattle.rn_files.proofs.references.paths.enter.Goals as goal

pub returns : goal.returns
returns c =
    ap texts c.in_ok-push.ensures.items
    ∙ pushed c.args.folder.now.items c.args.segment (sym c.is_here.ensures ∙ c.if-is_here.false) (sym c.is_up.ensures ∙ c.if-is_up.false)
