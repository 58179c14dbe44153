use Rattle.rn_xml.proofs.Refusals.RefusedReferences.{out_illegal}
use Rattle.rn_xml.proofs.references.char_of.Goals as goal

pub returns-in_err-c : goal.returns-in_err-c
returns-in_err-c c = rw c.from_residual.ensures (out_illegal c.args.number c.in_err-c.ensures.cases)
