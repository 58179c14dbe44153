use Rattle.std.proofs.Common.{IfSome, ◌∙◌, sym, subst}
use Rattle.rn_assemble.specs.Refusal.{IsFirstFault}
use Rattle.rn_assemble.proofs.Refusals.TextFaults.{first_of_tokens, of_refusal}
use Rattle.rn_assemble.proofs.reading.named_modules.refusal_of_syntax_fault.Goals as goal

pub returns-in-Some : goal.returns-in-Some
returns-in-Some c = λ text tokens utf8 has h.
    of_refusal _ text _ c.in-Some.kind c.of_fault.ensures
    (subst (λ o. IfSome o (λ k. IsFirstFault text k.0)) (sym c.kind_and_place.ensures ∙ c.in-Some.is) (first_of_tokens text tokens utf8 has _ h))
