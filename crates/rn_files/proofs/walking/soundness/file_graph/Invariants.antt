use Rattle.std.proofs.Common.{◌≡◌, take}
use Rattle.rn_graph.specs.Graph.{rows_of}
use Rattle.rn_files.specs.Sources.{edges_of}
use Rattle.rn_files.proofs.walking.soundness.file_graph.Given as goal

abbrev pub invariant-loop-source : goal.invariant-loop-source
invariant-loop-source l = rows_of l.edges ≡ edges_of (take l.source-index l.files)
