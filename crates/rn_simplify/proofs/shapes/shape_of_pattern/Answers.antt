use Rattle.std.proofs.Common.{sym, ap, ◌∙◌}
use Rattle.rn_simplify.specs.Spelling.{written_tree, written_interleave, written_choice}
use Rattle.rn_pattern.specs.View.{pattern_view}
use Rattle.rn_simplify.specs.inside.Writes.{written_members}
use Rattle.rn_simplify.proofs.Texts.Members.{interleave_rows, choice_rows}
use Rattle.rn_simplify.proofs.shapes.shape_of_pattern.Goals as goal

pub returns-in-Interleave : goal.returns-in-Interleave
returns-in-Interleave c = λ f.
    c.shape_of_interleave.ensures f
    ∙ ap (λ ps. (written_interleave (written_members f ps)).shape) c.deref.ensures.value
    ∙ sym (ap (λ p. (written_tree f (pattern_view p)).shape) c.in-Interleave.is ∙ ap (λ w. w.shape) (interleave_rows f c.in-Interleave.members))

pub returns-in-Choice : goal.returns-in-Choice
returns-in-Choice c = λ f.
    c.shape_of_choice.ensures f
    ∙ ap (λ ps. (written_choice (written_members f ps)).shape) c.deref-in-Choice.ensures.value
    ∙ sym (ap (λ p. (written_tree f (pattern_view p)).shape) c.in-Choice.is ∙ ap (λ w. w.shape) (choice_rows f c.in-Choice.members))
