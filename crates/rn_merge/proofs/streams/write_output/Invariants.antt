use Rattle.std.proofs.Common.{◌≡◌, ◌++◌, ℕ, false, List, length}
use Rattle.std.specs.Io.KnownBytes.{Appends}
use Rattle.rn_merge.proofs.streams.write_output.Given as goal

abbrev pub invariant-loop-rest : goal.invariant-loop-rest
invariant-loop-rest g l = record {
  sound : g.W.Sink.has_failed l.out ≡ false;
  front : (front : List ℕ) × (l.bytes ≡ front ++ l.rest) × Appends (g.W.Sink.contents l.initial.out) (g.W.Sink.contents l.out) front;
}

abbrev pub decreases-loop-rest : goal.decreases-loop-rest
decreases-loop-rest g l = length l.rest
