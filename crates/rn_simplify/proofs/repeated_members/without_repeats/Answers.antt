use Rattle.std.proofs.Common.{subst}
use Rattle.rn_assemble.specs.Firsts.{AreFirsts}
use Rattle.rn_simplify.proofs.Simplified.Repeats.{choice_members, choices_are, interleave_members, interleaves_are}
use Rattle.rn_simplify.proofs.repeated_members.without_repeats.Goals as goal

pub distinct_members-requires : goal.distinct_members-requires
distinct_members-requires c = subst (AreFirsts c.args.firsts.now) (choice_members c.args.body.now c.in-Choice.members c.deref.result.now c.deref.ensures.value c.in-Choice.is) c.requires

pub distinct_members-requires-in-Interleave : goal.distinct_members-requires-in-Interleave
distinct_members-requires-in-Interleave c =
    subst (AreFirsts c.args.firsts.now) (interleave_members c.args.body.now c.in-Interleave.members c.deref-in-Interleave.result.now c.deref-in-Interleave.ensures.value c.in-Interleave.is) c.requires

pub returns-in_ok-new_box-in-Choice : goal.returns-in_ok-new_box-in-Choice
returns-in_ok-new_box-in-Choice c =
    choices_are c.args.body.now c.in-Choice.members c.deref.result.now c.deref.ensures.value c.in_ok-new_box-in-Choice.field-0.value c.in_ok-members-in-Choice.members c.in_ok-new_box-in-Choice.ensures c.in-Choice.is c.in_ok-members-in-Choice.ensures

pub returns-in_ok-new_box-in-Interleave : goal.returns-in_ok-new_box-in-Interleave
returns-in_ok-new_box-in-Interleave c =
    interleaves_are c.args.body.now c.in-Interleave.members c.deref-in-Interleave.result.now c.deref-in-Interleave.ensures.value c.in_ok-new_box-in-Interleave.field-0.value c.in_ok-members-in-Interleave.members
    c.in_ok-new_box-in-Interleave.ensures c.in-Interleave.is c.in_ok-members-in-Interleave.ensures
