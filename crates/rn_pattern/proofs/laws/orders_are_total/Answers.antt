use Rattle.std.proofs.Common.{sym, ap, ◌∙◌}
use Rattle.std.proofs.lemmas.Cmp.{tied_itself}
use Rattle.rn_pattern.specs.Order.{name_cmp, tree_cmp}
use Rattle.rn_pattern.proofs.Ordered.Orders.{name_same, tree_same}
use Rattle.rn_pattern.proofs.Ordered.TotalOrder.{name_cmp_total, tree_cmp_total}
use Rattle.rn_pattern.proofs.laws.orders_are_total.Goals as goal

pub returns-clause-patterns : goal.returns-clause-patterns
returns-clause-patterns c = tree_cmp_total

pub returns-clause-equal_patterns : goal.returns-clause-equal_patterns
returns-clause-equal_patterns c = λ p q. (tree_same p q, λ e. ap (tree_cmp p) (sym e) ∙ tied_itself tree_cmp_total p)

pub returns-clause-name_classes : goal.returns-clause-name_classes
returns-clause-name_classes c = name_cmp_total

pub returns-clause-equal_name_classes : goal.returns-clause-equal_name_classes
returns-clause-equal_name_classes c = λ p q. (name_same p q, λ e. ap (name_cmp p) (sym e) ∙ tied_itself name_cmp_total p)
