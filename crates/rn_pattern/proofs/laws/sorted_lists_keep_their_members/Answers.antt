use Rattle.rn_pattern.specs.Order.{name_cmp, tree_cmp}
use Rattle.rn_pattern.proofs.Ordered.Ascending.{climbs_sorted_once}
use Rattle.rn_pattern.proofs.Ordered.Orders.{name_same, tree_same}
use Rattle.rn_pattern.proofs.Ordered.Sorting.{ascends_sorted}
use Rattle.rn_pattern.proofs.Ordered.SortedMembers.{sorted_permutes, sorted_once_members}
use Rattle.rn_pattern.proofs.Ordered.TotalOrder.{name_cmp_total, tree_cmp_total}
use Rattle.rn_pattern.proofs.laws.sorted_lists_keep_their_members.Goals as goal

pub returns-clause-as_often : goal.returns-clause-as_often
returns-clause-as_often c = sorted_permutes tree_cmp

pub returns-clause-in_order : goal.returns-clause-in_order
returns-clause-in_order c = ascends_sorted tree_cmp tree_cmp_total tree_same

pub returns-clause-the_same : goal.returns-clause-the_same
returns-clause-the_same c = sorted_once_members tree_cmp tree_same

pub returns-clause-each_once : goal.returns-clause-each_once
returns-clause-each_once c = climbs_sorted_once tree_cmp tree_cmp_total tree_same

pub returns-clause-the_same_names : goal.returns-clause-the_same_names
returns-clause-the_same_names c = sorted_once_members name_cmp name_same

pub returns-clause-each_name_once : goal.returns-clause-each_name_once
returns-clause-each_name_once c = climbs_sorted_once name_cmp name_cmp_total name_same
