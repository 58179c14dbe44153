-- One more piece begins where the next one may, and is for a byte of the document.
use Rattle.std.proofs.Common.{◌+◌, ◌≤◌, List, arith, subst, sym}
use Rattle.std.specs.String.{string_len}
use Rattle.rn_translate.specs.Origins.{AreRising, BeginsWithText}
use Rattle.rn_translate.specs.declared.draft.Origin.{Origin}
use Rattle.rn_translate.proofs.RisingOrigins.{begins_pushed, rising_pushed}
use Rattle.rn_translate.proofs.draft.Draft.add_origin.Goals as goal

pub invariant_of-self-2-clause-rising : goal.invariant_of-self-2-clause-rising
invariant_of-self-2-clause-rising c =
    let self = c.args.self.now in
    let P : List Origin → Type 0 = λ ps. AreRising (c.args.from + 1) self.source_len 0 ps in
    let behind : self.next ≤ c.args.from = omega (arith, c.if-from-self.false) in
    let within : c.min-at.result ≤ self.source_len = omega (arith, c.min-at.ensures) in
    subst P (sym c.in_ok-push.ensures.items)
    (rising_pushed self.next self.source_len 0 self.origins.items (record { from = c.args.from; at = c.min-at.result }) self.rising behind within)

pub invariant_of-self-2-clause-begins : goal.invariant_of-self-2-clause-begins
invariant_of-self-2-clause-begins c =
    let self = c.args.self.now in
    let P : List Origin → Type 0 = λ ps. BeginsWithText (c.args.from + 1) (string_len self.text) ps in
    subst P (sym c.in_ok-push.ensures.items)
    (begins_pushed self.next (string_len self.text) (c.args.from + 1) self.origins.items (record { from = c.args.from; at = c.min-at.result }) c.requires self.begins)
