use Rattle.std.proofs.Common.{◌≡◌, ◌++◌, sym, ◌∙◌, ap}
use Rattle.std.specs.Prelude.{encode_utf8}
use Rattle.std.proofs.lemmas.Str.{chars_past_char}
use Rattle.rn_text.proofs.characters.split_first.Goals as goal

pub returns-clause-cases : goal.returns-clause-cases
returns-clause-cases c =
    let bytes : c.args.text.now ≡ encode_utf8 c.in_ok-first.first ++ c.as_str.result.now
    = sym c.chars-chars.ensures.rest ∙ (c.in_ok-first.ensures.steps.0 ∙ ap (λ r. encode_utf8 c.in_ok-first.first ++ r) (sym c.as_str.ensures)) in
    chars_past_char _ _ _ c.utf8.text bytes
