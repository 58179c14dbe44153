-- The text so far, and what the edits that are left make of the bytes that are left, is the text to be.
use Rattle.std.proofs.Common.{◌≡◌, ◌++◌, length, string_bytes}
use Rattle.rn_lift.specs.Edits.{AreInTurn, edited_bytes}
use Rattle.rn_lift.proofs.draft.Draft.apply.Given as goal

abbrev pub invariant-edits : goal.invariant-edits
invariant-edits l = record {
  text : string_bytes l.self.text ++ edited_bytes l.fn.self.source.now l.at l.to l.rest ≡ string_bytes l.fn.self.text ++ edited_bytes l.fn.self.source.now l.from l.to l.edits;
  in_turn : AreInTurn l.at l.to l.rest → AreInTurn l.from l.to l.edits;
  source : l.self.source ≡ l.fn.self.source;
}

abbrev pub decreases-edits : goal.decreases-edits
decreases-edits l = length l.rest
