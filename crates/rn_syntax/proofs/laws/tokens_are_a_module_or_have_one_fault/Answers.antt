use Rattle.rn_syntax.proofs.FaultPlaces.OneFault.{never_neither, no_fault, one_fault}
use Rattle.rn_syntax.proofs.laws.tokens_are_a_module_or_have_one_fault.Goals as goal

pub returns : goal.returns
returns c = record {
  never_neither = λ xs s h. never_neither xs s h.0 h.1;
  not_both = λ xs m fault s sound h. no_fault xs s m fault sound.0 sound.1 sound.2 h;
  one = λ xs fault other s h k p q. one_fault xs s fault other h k p q;
}
