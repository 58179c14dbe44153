use Rattle.std.proofs.Common.{sym, ◌∙◌, append_assoc, append-nil}
use Rattle.std.proofs.lemmas.Str.{IsUtf8-past_char}
use Rattle.rn_report.proofs.PrintedTexts.{printed_empty, printed_step}
use Rattle.rn_report.proofs.report.push_printable.Goals as goal

pub loop-character-preserved : goal.loop-character-preserved
loop-character-preserved c =
    let held = c.loop-character.invariant in
    let parts = c.in-Some.ensures.steps.0 in
    let step = printed_step _ _ c.in-Some.character held.0 parts in (
      IsUtf8-past_char _ _ c.in-Some.character held.0 parts,
      rw (c.in_ok-push.ensures.bytes, c.printable_character.ensures, append_assoc) (rw step at held.1),
    )

pub returns : goal.returns
returns c = sym (append-nil _) ∙ rw (printed_empty _ c.in-None.ensures.steps.0.0) at c.loop-character.invariant.1
