-- The text that was found is the one that was looked for.
use Rattle.std.proofs.Common.{sym, ◌∙◌}
use Rattle.std.proofs.lemmas.Map.Lookups.{exact_bytes}
use Rattle.std.specs.Rc.{rc_str_bytes}
use Rattle.rn_pattern.proofs.tables.libraries.Libraries.shared.Goals as goal

pub returns-in-Some : goal.returns-in-Some
returns-in-Some c = c.in_ok-clone.ensures.cases ∙ sym (exact_bytes c.args.library.now (rc_str_bytes c.in-Some.text.now) c.in-Some.ensures.same_key)
