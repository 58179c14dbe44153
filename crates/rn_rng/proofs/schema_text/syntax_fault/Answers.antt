use Rattle.std.proofs.Common.{IfSome, ◌∙◌, sym, subst}
use Rattle.rn_assemble.specs.Refusal.{IsFirstFault}
use Rattle.rn_assemble.proofs.Refusals.TextFaults.{first_of_tokens}
use Rattle.rn_rng.proofs.schema_text.syntax_fault.Goals as goal

pub returns-in-Some : goal.returns-in-Some
returns-in-Some c = λ text tokens utf8 has h.
    let first = subst (λ o. IfSome o (λ k. IsFirstFault text k.0)) (sym c.kind_and_place.ensures ∙ c.in-Some.is) (first_of_tokens text tokens utf8 has _ h) in
    (c.in-Some.field-0.0, first.0)
