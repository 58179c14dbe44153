use Rattle.std.proofs.Common.{◌≡◌, ◌++◌, append_assoc, sym, ap, ◌∙◌, arith}
use Rattle.std.proofs.lemmas.List.{take_all}
use Rattle.std.proofs.lemmas.Result.{on_ok_weaker}
use Rattle.rn_assemble.specs.GrammarView.{definitions_view}
use Rattle.rn_graph.specs.Graph.{open_row}
use Rattle.rn_pattern.specs.View.{pattern_view, shared_view, shared_trees}
use Rattle.rn_simplify.specs.inside.DefinitionNumbers.{all_reference_numbers, numbers_of, reference_numbers}
use Rattle.rn_simplify.proofs.Simplified.DefinitionNumbers.{numbers_more, of_members}
use Rattle.rn_simplify.proofs.references.+add_references.Goals as goal

pub add_references-returns-in-Group-clause-open : goal.add_references-returns-in-Group-clause-open
add_references-returns-in-Group-clause-open t c =
    let ds = definitions_view c.args.definitions.now.entries in
    on_ok_weaker c.add_all.result
    (λ h. h ∙ ap (λ ns. open_row c.args.rows.now ++ ns) (ap (numbers_of ds) (of_members c.args.pattern.now c.in-Group.members c.deref-in-Group.result.now c.deref-in-Group.ensures.value c.in-Group.is)))
    c.add_all.ensures.«open»

pub add_all-loop-member-preserved : goal.add_all-loop-member-preserved
add_all-loop-member-preserved t c =
    let ds = definitions_view c.args.definitions.now.entries in
    let before = open_row c.args.rows.now in
    let inv = c.loop-member.invariant in
    let added : open_row c.add_references.new.rows ≡ open_row c.loop-member.rows ++ reference_numbers ds (shared_view c.member-item.result) =
    c.in_ok-add_references.ensures.«open» ∙ ap (λ p. open_row c.loop-member.rows ++ reference_numbers ds (pattern_view p)) c.deref.ensures in
    record {
      rows = c.add_references.ensures.rows ∙ inv.rows;
      «open» = added ∙ ap (λ ns. ns ++ reference_numbers ds (shared_view c.member-item.result)) inv.«open» ∙ append_assoc before _ _
          ∙ ap (λ ns. before ++ ns) (sym (numbers_more ds c.args.members.now c.loop-member.member-index c.member-item.result c.loop-member-test.true c.member-item.is));
    }

pub add_all-returns-clause-open : goal.add_all-returns-clause-open
add_all-returns-clause-open t c =
    let ds = definitions_view c.args.definitions.now.entries in
    c.loop-member.invariant.«open» ∙ ap (λ ps. open_row c.args.rows.now ++ all_reference_numbers ds (shared_trees ps)) (take_all c.loop-member.member-index c.args.members.now (omega arith))
