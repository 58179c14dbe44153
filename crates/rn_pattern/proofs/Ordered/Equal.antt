-- Nodes whose parts the order does not tell apart are equal.
use Rattle.std.proofs.Common.{◌≡◌, false, ◌&&◌, nat_eq, sym, ap, ◌∙◌, Ordering, Equal, nat_cmp}
use Rattle.std.specs.Ordering.{ordering_then}
use Rattle.std.specs.Cmp.Lexicographic.{slice_cmp, pointwise, pointwise_decides}
use Rattle.std.proofs.lemmas.Cmp.{ranked, tied_itself, nat_cmp_total, nat_list_cmp_total, lists_total}
use Rattle.std.proofs.lemmas.Bool.{false_from_ne_true}
use Rattle.rn_pattern.specs.Tree.{name_choice}
use Rattle.rn_pattern.specs.Order.{parameters_cmp, names_cmp}
use Rattle.rn_text.specs.Texts.{text_cmp}
use Rattle.rn_pattern.specs.inside.Hashing.{NodeParts, same_parts, parts_decides, number_decides, text_decides, parameter_decides, names_decides}
use Rattle.rn_pattern.proofs.Ordered.Orders.{then_first, then_second, list_same, text_same, parameters_same, names_same}
use Rattle.rn_pattern.proofs.Ordered.TotalOrder.{parameters_total, name_cmp_total}

abbrev pub heads : NodeParts → NodeParts → Ordering
heads x y = ordering_then (nat_cmp x.0 y.0) (ordering_then (names_cmp x.3 y.3) (ordering_then (slice_cmp text_cmp x.1 y.1) (parameters_cmp x.2 y.2)))

-- the same heads, and then the same ids
pub eq_by_places : (x y : NodeParts) → heads x y ≡ Equal → same_parts x y ≡ pointwise nat_eq x.4 y.4
eq_by_places x y h =
    let c : Ordering = names_cmp x.3 y.3 in
    let p : Ordering = parameters_cmp x.2 y.2 in
    let t : Ordering = slice_cmp text_cmp x.1 y.1 in
    let k : Ordering = nat_cmp x.0 y.0 in
    let e = then_second k (ordering_then c (ordering_then t p)) h in
    let f = then_second c (ordering_then t p) e in
    let kinds : x.0 ≡ y.0 = ranked x.0 y.0 Equal (sym (then_first k (ordering_then c (ordering_then t p)) h)) in
    let names : x.3 ≡ y.3 = names_same x.3 y.3 (then_first c (ordering_then t p) e) in
    let texts : x.1 ≡ y.1 = list_same text_cmp text_same x.1 y.1 (then_first t p f) in
    let params : x.2 ≡ y.2 = parameters_same x.2 y.2 (then_second t p f) in
    λ i. (number_decides x.0 y.0).1 kinds i && ((pointwise_decides text_decides x.1 y.1).1 texts i && ((pointwise_decides parameter_decides x.2 y.2).1 params i && ((names_decides x.3 y.3).1 names i && pointwise nat_eq x.4 y.4)))

pub heads_itself : (x : NodeParts) → heads x x ≡ Equal
heads_itself x = λ i. ordering_then (tied_itself nat_cmp_total x.0 i) (ordering_then (tied_itself name_cmp_total (name_choice x.3) i) (ordering_then (tied_itself (lists_total nat_list_cmp_total) x.1 i) (tied_itself parameters_total x.2 i)))

pub not_eq : (x y : NodeParts) → ¬ (heads x y ≡ Equal) → false ≡ same_parts x y
not_eq x y h = sym (false_from_ne_true (same_parts x y) (λ e. h (ap (heads x) (sym ((parts_decides x y).0 e)) ∙ heads_itself x)))
