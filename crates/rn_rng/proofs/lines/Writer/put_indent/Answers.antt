use Rattle.rn_rng.proofs.Writing.{indent_more, writes_as, writes_nil, writes_then}
use Rattle.rn_rng.proofs.lines.Writer.put_indent.Goals as goal

pub loop-done-init : goal.loop-done-init
loop-done-init c = writes_nil c.args.self.now

pub loop-done-preserved : goal.loop-done-preserved
loop-done-preserved c = writes_as (indent_more c.loop-done.done) (writes_then c.loop-done.invariant c.put.ensures)
