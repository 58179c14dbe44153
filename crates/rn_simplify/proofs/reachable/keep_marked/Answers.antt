use Rattle.std.proofs.Common.{rules, ◌∙◌, ap}
use Rattle.std.specs.Slice.Iter.{iter_rest}
use Rattle.rn_simplify.specs.inside.MarkedElements.{marked_elements}
use Rattle.rn_simplify.proofs.Simplified.MarkedElements.{retained}
use Rattle.rn_simplify.proofs.reachable.keep_marked.Goals as goal

pub returns : goal.returns
returns c = retained _ (λ s. iter_rest s.0) (λ s x b s' k. (search rules, search rules)) _ _ _ c.retain.ensures.filtered ∙ ap (λ ms. marked_elements ms c.args.forms.now.items) c.iter-marks.ensures.rest
