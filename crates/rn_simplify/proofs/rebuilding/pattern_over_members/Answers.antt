use Rattle.std.proofs.Common.{sym, ap, ◌∙◌, map}
use Rattle.rn_pattern.proofs.Ordered.PatternKinds.{group_seen, interleave_seen, choice_seen}
use Rattle.rn_pattern.specs.Nodes.{node_members}
use Rattle.rn_pattern.specs.Store.{node_view}
use Rattle.rn_pattern.specs.Tree.{group, interleave, choice, trees_of}
use Rattle.rn_simplify.proofs.rebuilding.pattern_over_members.Goals as goal

pub returns-in-Group : goal.returns-in-Group
returns-in-Group g c = λ at h. group_seen c.args.members ∙ ap (λ ts. group (trees_of ts)) (sym h ∙ ap (λ n. map at (node_members n)) c.in-Group.is) ∙ sym (ap (node_view at) c.in-Group.is)

pub returns-in-Interleave : goal.returns-in-Interleave
returns-in-Interleave g c = λ at h. interleave_seen c.args.members ∙ ap (λ ts. interleave (trees_of ts)) (sym h ∙ ap (λ n. map at (node_members n)) c.in-Interleave.is) ∙ sym (ap (node_view at) c.in-Interleave.is)

pub returns-in-Choice : goal.returns-in-Choice
returns-in-Choice g c = λ at h. choice_seen c.args.members ∙ ap (λ ts. choice (trees_of ts)) (sym h ∙ ap (λ n. map at (node_members n)) c.in-Choice.is) ∙ sym (ap (node_view at) c.in-Choice.is)
