use Rattle.std.proofs.Common.{refl, subst}
use Rattle.rn_text.specs.Tokens.{HasFault}
use Rattle.rn_syntax.specs.declared.fault.FaultKind.TheVariants as kind
use Rattle.rn_assemble.proofs.Refusals.TextFaults.{first_lexical}
use Rattle.rn_assemble.proofs.reading.named_modules.refusal_of_text_fault.Goals as goal

pub returns-in-Lexical : goal.returns-in-Lexical
returns-in-Lexical c = λ text h. let k = subst (HasFault text) c.in-Lexical.is h in (kind.Lexical, refl, first_lexical text k.0 c.in-Lexical.at k.1)
