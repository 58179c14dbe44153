use Rattle.std.proofs.Common.{sym, ◌∙◌}
use Rattle.std.proofs.lemmas.Bool.{false≢true}
use Rattle.rn_lift.proofs.ExceptedParts.{none_excepted}
use Rattle.rn_lift.proofs.excepts.Excepts.splice.Goals as goal

pub returns : goal.returns
returns c = λ none. absurd (false≢true (sym (none_excepted c.args.outline.now.parts.items none c.args.unit.now.parts.items) ∙ sym c.has_excepts.ensures ∙ c.if-not-has_excepts.false))
