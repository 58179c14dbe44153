-- One number has one spelling.
use Rattle.std.proofs.Common.{rules, decimal, sym, ap, ◌∙◌, eqb-true, eq-eqb}
use Rattle.std.proofs.lemmas.Fmt.{decimal_injective}
use Rattle.rn_modset.proofs.reading.is_number.Goals as goal

pub returns-in-Some : goal.returns-in-Some
returns-in-Some c = (
  λ h. c.in-Some.ensures ∙ ap decimal (eqb-true c.in-Some.found c.args.n h),
  λ e. eq-eqb c.in-Some.found c.args.n (decimal_injective c.in-Some.found c.args.n (search rules) (search rules) (sym c.in-Some.ensures ∙ e)),
)
