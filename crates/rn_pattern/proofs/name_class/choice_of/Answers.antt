-- The members in order, each once.
use Rattle.std.proofs.Common.{◌≡◌, map, sym, ap, ◌∙◌, rules, arith}
use Rattle.std.proofs.lemmas.List.{length-map}
use Rattle.rn_pattern.specs.Order.{name_cmp}
use Rattle.rn_pattern.specs.Canonical.{name_class_of, sorted_once}
use Rattle.rn_pattern.specs.View.{name_class_view}
use Rattle.rn_pattern.proofs.Ordered.Orders.{name_same}
use Rattle.rn_pattern.proofs.Ordered.TotalOrder.{name_cmp_total}
use Rattle.rn_pattern.proofs.Ordered.SortedBy.{ids_deduped, ids_sorted, ids_sorted_once}
use Rattle.rn_pattern.proofs.Stores.ClassTrees.{choice_seen}
use Rattle.rn_pattern.proofs.CanonicalForms.NamesTogether.{several_names, one_name}
use Rattle.rn_pattern.proofs.name_class.choice_of.Goals as goal
use Rattle.rn_pattern.proofs.name_class.choice_of.Goals.{in-1, in_default}

pub returns : goal.returns
returns c =
    let ys = c.sort_by.new.self.items in
    let zs = c.dedup_by.new.self.items in
    let once : map name_class_view zs ≡ sorted_once name_cmp (map name_class_view c.args.members.items) =
    ids_sorted_once name_cmp name_cmp_total name_same name_class_view c.args.members.items ys zs
    (ids_sorted name_cmp name_cmp_total name_same name_class_view c.args.members.items ys c.sort_by.ensures.permutation c.in_ok-sort_by.ensures.sorted (λ a r f' k. search rules))
    (ids_deduped name_cmp name_cmp_total name_same name_class_view ys zs c.dedup_by.ensures.filtered (λ x y b f' x' y' k. search rules)) in
    let choice : name_class_view c.match-len.result ≡ name_class_of (map name_class_view zs) =
    elim c.match-len.branch [
      | in-1 w ↦ ap name_class_view w.result-is ∙ sym (one_name zs w.remove.result (omega (arith, c.len.ensures, w.in-1.is, c.dedup_by.new.self.ok.0)) w.remove.ensures.value)
      | in_default w ↦ ap name_class_view w.result-is ∙ choice_seen c.dedup_by.new.self ∙ several_names (map name_class_view zs) (λ one. absurd (omega (arith, c.len.ensures, c.dedup_by.new.self.ok.0, length-map zs name_class_view, one)))
    ] in
    choice ∙ ap name_class_of once
