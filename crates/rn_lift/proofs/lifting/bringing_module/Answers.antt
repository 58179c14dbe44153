use Rattle.std.proofs.Common.{List, ℕ, refl, ap, ◌∙◌}
use Rattle.rn_lift.specs.Lifts.{bringing_bytes}
use Rattle.rn_lift.proofs.lifting.bringing_module.Goals as goal

pub returns : goal.returns
returns c = record {
  namespace = c.namespace_of-namespace.result.now;
  is_text = c.in_ok-text.ensures ∙ ap (λ (n : List ℕ). bringing_bytes c.namespace_of-namespace.result.now n) c.entry_of-module.ensures;
  has_no_basis = refl;
}
