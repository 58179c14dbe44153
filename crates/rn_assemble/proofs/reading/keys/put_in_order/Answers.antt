-- Sorted texts, each once.
use Rattle.std.proofs.Common.{ℕ, List, rules}
use Rattle.std.proofs.lemmas.Cmp.{nat_list_cmp_total}
use Rattle.std.specs.Borrow.{Bor}
use Rattle.std.specs.Cmp.Lexicographic.{texts_ties}
use Rattle.rn_text.specs.Texts.{text_cmp}
use Rattle.rn_pattern.proofs.Ordered.Orders.{text_same}
use Rattle.rn_pattern.proofs.Ordered.SortedBy.{ids_deduped, ids_sorted, ids_sorted_once}
use Rattle.rn_assemble.proofs.reading.keys.put_in_order.Goals as goal

pub returns : goal.returns
returns c =
    let text = λ (s : Bor (List ℕ)). s.now in
    let xs = c.args.names.now.items in
    let ys = c.sort_by.new.self.items in
    let zs = c.dedup_by.new.self.items in
    ids_sorted_once text_cmp nat_list_cmp_total text_same text xs ys zs
    (ids_sorted text_cmp nat_list_cmp_total text_same text xs ys c.sort_by.ensures.permutation c.in_ok-sort_by.ensures.sorted (λ a r f' k. search rules))
    (ids_deduped text_cmp nat_list_cmp_total text_same text ys zs c.dedup_by.ensures.filtered (λ x y b f' x' y' k. search (rules, texts_ties)))
