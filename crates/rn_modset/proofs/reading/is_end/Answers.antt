-- The last line: its word, its count and its version.
use Rattle.std.proofs.Common.{◌≡◌, ◌++◌, ◌∷◌, length, decimal, codes, sym, ap, ◌∙◌}
use Rattle.std.proofs.lemmas.List.{length-map}
use Rattle.rn_modset.specs.Contributions.{member, members_of}
use Rattle.rn_modset.specs.Contributions.{has_withdrawal}
use Rattle.rn_modset.proofs.TestAnswers.ComparedBytes.{other_by_not, same_by_not}
use Rattle.rn_modset.proofs.TestAnswers.TruthValues.{differs, same_truth, truth_itself}
use Rattle.rn_modset.proofs.LineParts.HeaderLines.{end_cut, no_end}
use Rattle.rn_modset.proofs.reading.is_end.Goals as goal

pub returns-then-ne : goal.returns-then-ne
returns-then-ne c = (
  λ h. cc,
  λ e.
      let cut = end_cut c.args.line.now c.in-Some.word.now c.in-Some.count.now (length (members_of c.args.members.now)) c.in-Some.ensures.0 c.in-Some.ensures.1 e.1 in
      absurd (other_by_not c.in-Some.word.now c.as_slice.result.now c.if-ne.ensures (cut.0 ∙ sym c.as_slice.ensures)),
)

pub returns-in_default : goal.returns-in_default
returns-in_default c = (λ h. cc, λ e. absurd (no_end c.args.line.now (length (members_of c.args.members.now)) c.in_default.ensures e.1))

pub returns-then-is_number : goal.returns-then-is_number
returns-then-is_number c =
    let many : length (members_of c.args.members.now) ≡ length c.args.members.now = length-map c.args.members.now member in
    let word : c.in-Some.word.now ≡ codes "end" = same_by_not c.in-Some.word.now c.as_slice.result.now c.if-ne.ensures ∙ c.as_slice.ensures in
    let count : c.in-Some.count.now ≡ decimal (length (members_of c.args.members.now)) = c.is_number.ensures.0 c.if-is_number.true ∙ ap decimal (sym many) in (
      λ h. (same_truth c.args.withdrawals c.has_withdrawal.result h ∙ c.has_withdrawal.ensures, c.in-Some.ensures.0 ∙ ap (λ t. t ++ 32 ∷ c.in-Some.count.now) word ∙ ap (λ t. codes "end" ++ 32 ∷ t) count),
      λ e. rw (e.0, c.has_withdrawal.ensures) (truth_itself (has_withdrawal (members_of c.args.members.now))),
    )

pub returns-else-is_number : goal.returns-else-is_number
returns-else-is_number c =
    let many : length (members_of c.args.members.now) ≡ length c.args.members.now = length-map c.args.members.now member in (
      λ h. cc,
      λ e.
          let cut = end_cut c.args.line.now c.in-Some.word.now c.in-Some.count.now (length (members_of c.args.members.now)) c.in-Some.ensures.0 c.in-Some.ensures.1 e.1 in
          absurd (differs c.if-is_number.false (c.is_number.ensures.1 (cut.1 ∙ ap decimal many))),
    )
