use Rattle.std.specs.Prelude.{codes}
use Rattle.rn_text.specs.Literals.{literal_bytes}
use Rattle.rn_lift.proofs.LiftedModules.BringingTexts.{four}
use Rattle.rn_lift.proofs.lifting.bringing_text.Goals as goal

pub returns : goal.returns
returns c = four (codes "namespace handed = ") (literal_bytes c.args.namespace.now) (codes "\ninclude ") (literal_bytes c.args.included.now) (codes " inherit = handed\n") _ _ _ _ _ c.in_ok-text.ensures.ok c.in_ok-write_literal.ensures.ok c.in_ok-push_str.ensures.bytes c.in_ok-write_literal-2.ensures.ok c.in_ok-push_str-2.ensures.bytes
