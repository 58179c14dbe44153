use Rattle.std.proofs.Common.{◌≡◌, ◌≤◌, ◌<◌, ◌-◌, false, length, vec_len}
use Rattle.std.specs.Io.KnownBytes.{Consumes}
use Rattle.rn_merge.proofs.streams.read_input.Given as goal

abbrev pub invariant-loop-given : goal.invariant-loop-given
invariant-loop-given g l = record {
  sound : g.S.Source.has_failed l.source ≡ false;
  unended : g.S.Source.has_ended l.source ≡ false;
  few : length l.bytes.items ≤ l.limit;
  piece : 0 < vec_len l.piece;
  given : Consumes (g.S.Source.remaining l.initial.source) (g.S.Source.remaining l.source) l.bytes.items;
}

abbrev pub decreases-loop-given : goal.decreases-loop-given
decreases-loop-given g l = l.limit - vec_len l.bytes
