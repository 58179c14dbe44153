use Rattle.std.proofs.Common.{ℕ, List, subst}
use Rattle.std.specs.Str.{IsCharBoundary}
use Rattle.rn_files.proofs.LineCuts.{cut_at_line}
use Rattle.rn_files.proofs.positions.line_of.Goals as goal

pub rest_from-requires : goal.rest_from-requires
rest_from-requires c =
    let P : List ℕ → Type 0 = λ bs. IsCharBoundary bs c.line_at-start.result.1 in
    subst P c.as_bytes.ensures.value
    (cut_at_line c.as_bytes.result.now c.line_at-start.result.1 c.as_bytes.ensures.utf8 c.line_at-start.ensures.within
    c.line_at-start.ensures.ascii)
