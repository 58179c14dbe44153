use Rattle.std.proofs.Common.{List, ℕ, ap, ◌∙◌, string_bytes}
use Rattle.rn_text.specs.Literals.{literal_bytes}
use Rattle.rn_scopes.specs.UnitFiles.{target_of}
use Rattle.rn_lift.proofs.StandIns.OfPlaces.{included}
use Rattle.rn_lift.proofs.module_texts.PlaceView.include.Goals as goal

pub returns : goal.returns
returns c = included c.args.self.now c.args.self.now.basis.scope (target_of c.args.self.now.given.now c.args.part) c.in-Some.place.now (string_bytes c.in_ok-literal.literal) c.in-Some.ensures (c.in_ok-literal.ensures ∙ ap (λ (t : List ℕ). literal_bytes t) c.as_str-module.ensures.value)
