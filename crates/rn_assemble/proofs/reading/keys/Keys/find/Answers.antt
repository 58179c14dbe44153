use Rattle.std.proofs.Common.{sym, ap, ◌∙◌}
use Rattle.std.specs.Option.{is_some}
use Rattle.rn_assemble.proofs.Referring.KeyNames.{found_number, not_found}
use Rattle.rn_assemble.proofs.reading.keys.Keys.find.Goals as goal

pub returns-in-None-clause-found : goal.returns-in-None-clause-found
returns-in-None-clause-found c = not_found c.args.name.now c.args.self.now.names.keys (sym c.get_index_of.ensures.found ∙ ap (λ o. is_some o) c.in-None.is)

pub returns-in-Some-clause-found : goal.returns-in-Some-clause-found
returns-in-Some-clause-found c = found_number c.args.name.now c.args.self.now.names.keys c.in-Some.at (sym c.get_index_of.ensures.index ∙ c.in-Some.is)
