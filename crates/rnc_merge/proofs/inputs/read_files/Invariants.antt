use Rattle.std.proofs.Common.{map, take, string_bytes}
use Rattle.std.specs.List.{AllZip}
use Rattle.rn_merge.specs.Runs.{bundles_view}
use Rattle.rnc_merge.proofs.inputs.read_files.Given as goal

abbrev pub invariant-loop-index : goal.invariant-loop-index
invariant-loop-index g l = AllZip (g.I.Inputs.gives l.inputs) (take l.index (map string_bytes l.files)) (bundles_view l.read.items)
