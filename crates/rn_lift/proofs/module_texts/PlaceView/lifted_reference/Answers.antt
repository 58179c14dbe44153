use Rattle.std.proofs.Common.{List, ℕ, [], ◌∷◌, ◌++◌, ap, ◌∙◌, string_bytes}
use Rattle.rn_lift.proofs.StandIns.OfPlaces.{lifted}
use Rattle.rn_lift.proofs.module_texts.PlaceView.lifted_reference.Goals as goal

pub returns : goal.returns
returns c =
    let stem = ap (λ (t : List ℕ). (t ++ (46 ∷ c.as_str-start.result.now)) ++ (32 ∷ [])) c.as_str-stem.ensures.value in
    let start = ap (λ (t : List ℕ). (string_bytes c.in-Some.scope.now.stem ++ (46 ∷ t)) ++ (32 ∷ [])) c.as_str-start.ensures.value in
    lifted c.args.self.now c.args.file c.args.grammar c.in-Some.scope.now (string_bytes c.in_ok-reference.reference) c.in-Some.ensures (c.in_ok-reference.ensures ∙ stem ∙ start)
