use Rattle.std.proofs.Common.{◌≡◌, get_or, ap, ◌∙◌}
use Rattle.std.proofs.Math.Seq.{map-set_same}
use Rattle.rn_flat.specs.inside.ToldFiles.{told_of}
use Rattle.rn_flat.proofs.jobs.give_up_outlines.Goals as goal

pub loop-number-preserved : goal.loop-number-preserved
loop-number-preserved c =
    let files = c.loop-number.files.items in
    let n = c.loop-number.number in
    let was = c.index_mut.result.now in
    let is : was ≡ get_or files n was = c.index_mut.ensures.value in
    map-set_same told_of files n c.give_up_outline.new.file was (c.give_up_outline.ensures ∙ ap told_of is) ∙ c.loop-number.invariant
