use Rattle.rn_files.proofs.WalkedSegments.{joined_all}
use Rattle.rn_files.proofs.references.paths.joined_path.Goals as goal

pub returns : goal.returns
returns c =
    joined_all c.args.segments.now _ _ _ c.in-len1-up.len_at_least c.in_ok-path.ensures.ok c.in_ok-push_behind.ensures
