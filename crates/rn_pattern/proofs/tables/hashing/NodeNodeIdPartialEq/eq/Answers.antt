-- The heads, and then the ids.
use Rattle.std.proofs.Common.{◌≡◌, nat_eq, nat_cmp, sym, ◌∙◌, map}
use Rattle.std.specs.Ordering.{ordering_then}
use Rattle.std.specs.Cmp.Lexicographic.{slice_cmp, pointwise}
use Rattle.std.specs.Cmp.Derive.Mapped.{pointwise-map}
use Rattle.rn_pattern.specs.Order.{parameters_cmp, names_cmp}
use Rattle.rn_text.specs.Texts.{text_cmp}
use Rattle.rn_pattern.specs.inside.Shown.{class_view}
use Rattle.rn_pattern.specs.View.{parameters_view}
use Rattle.rn_pattern.specs.inside.Hashing.{node_parts}
use Rattle.rn_pattern.specs.declared.node.NodeId.{NodeId}
use Rattle.rn_pattern.proofs.Ordered.Equal.{heads, eq_by_places, not_eq}
use Rattle.rn_pattern.proofs.tables.hashing.NodeNodeIdPartialEq.eq.Goals as goal

pub returns-in-Equal : goal.returns-in-Equal
returns-in-Equal c =
    let x = c.parts_of-x.ensures in
    let y = c.parts_of-y.ensures in
    let by_heads : c.compare_heads.result ≡ heads (node_parts c.args.self.now) (node_parts c.args.other.now) =
    c.compare_heads.ensures ∙ (λ i. ordering_then (nat_cmp (x.kind i) (y.kind i)) (ordering_then (names_cmp (class_view (x.class i)) (class_view (y.class i))) (ordering_then (slice_cmp text_cmp (x.texts i) (y.texts i)) (parameters_cmp (parameters_view (x.parameters i)) (parameters_view (y.parameters i)))))) in
    let xs = c.parts_of-x.result.members.now in
    let ys = c.parts_of-y.result.members.now in
    c.eq.ensures ∙ sym (pointwise-map (λ (i : NodeId). i.0) nat_eq xs ys) ∙ (λ i. pointwise nat_eq (map (λ (j : NodeId). j.0) (x.members i)) (map (λ (j : NodeId). j.0) (y.members i))) ∙ sym (eq_by_places (node_parts c.args.self.now) (node_parts c.args.other.now) (sym by_heads ∙ c.in-Equal.is))

pub returns-in_default : goal.returns-in_default
returns-in_default c =
    let x = c.parts_of-x.ensures in
    let y = c.parts_of-y.ensures in
    let by_heads : c.compare_heads.result ≡ heads (node_parts c.args.self.now) (node_parts c.args.other.now) =
    c.compare_heads.ensures ∙ (λ i. ordering_then (nat_cmp (x.kind i) (y.kind i)) (ordering_then (names_cmp (class_view (x.class i)) (class_view (y.class i))) (ordering_then (slice_cmp text_cmp (x.texts i) (y.texts i)) (parameters_cmp (parameters_view (x.parameters i)) (parameters_view (y.parameters i)))))) in
    not_eq (node_parts c.args.self.now) (node_parts c.args.other.now) (λ e. c.in_default.not-Equal (by_heads ∙ e))
