use Rattle.std.proofs.Common.{◌≤◌, vec_len}
use Rattle.rn_files.proofs.walking.following.follow_links.Given as goal

abbrev pub invariant-loop-part : goal.invariant-loop-part
invariant-loop-part g l = vec_len l.initial.walk.entries ≤ vec_len l.walk.entries
