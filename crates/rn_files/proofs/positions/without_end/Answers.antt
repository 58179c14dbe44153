use Rattle.rn_files.proofs.LineCuts.{cut_at_end}
use Rattle.rn_files.proofs.positions.without_end.Goals as goal

pub range-requires-clause-end_boundary : goal.range-requires-clause-end_boundary
range-requires-clause-end_boundary c =
    cut_at_end c.as_bytes.result.now c.args.text.now c.inside_length-inside.result c.as_bytes.ensures.value
    c.inside_length-inside.ensures.within c.inside_length-inside.ensures.stops
