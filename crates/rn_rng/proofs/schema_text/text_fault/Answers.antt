use Rattle.std.proofs.Common.{subst}
use Rattle.rn_text.specs.Tokens.{HasFault}
use Rattle.rn_syntax.specs.declared.fault.FaultKind.TheVariants as kind
use Rattle.rn_assemble.proofs.Refusals.TextFaults.{first_lexical}
use Rattle.rn_rng.proofs.schema_text.text_fault.Goals as goal

pub returns-in-Encoding : goal.returns-in-Encoding
returns-in-Encoding c = λ text h. let k = subst (HasFault text) c.in-Encoding.is h in (kind.Encoding, k.0)

pub returns-in-Lexical : goal.returns-in-Lexical
returns-in-Lexical c = λ text h. let k = subst (HasFault text) c.in-Lexical.is h in (kind.Lexical, (first_lexical text k.0 c.in-Lexical.at k.1).0)
