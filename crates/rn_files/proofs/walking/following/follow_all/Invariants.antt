use Rattle.std.proofs.Common.{All}
use Rattle.rn_files.specs.inside.Following.{IsFollowed, IsReadBy}
use Rattle.rn_files.proofs.walking.following.follow_all.Given as goal

-- what was read so far is what is given, and may be read
abbrev pub invariant-loop-file : goal.invariant-loop-file
invariant-loop-file g l =
    All (IsFollowed (IsReadBy (g.F.Files.leads l.files) (g.F.Files.gives l.files) l.ways)) l.followed.items
