-- The heads, and then the members one by one.
use Rattle.std.proofs.Common.{◌≡◌, ℕ, map, sym, ap, ◌∙◌, arith, Equal}
use Rattle.rn_pattern.specs.Order.{rank, tree_cmp, trees_cmp}
use Rattle.rn_pattern.specs.View.{pattern_view, shared_view, shared_trees}
use Rattle.rn_pattern.proofs.Ordered.Stepwise.{trees_cmp-trees_of, rest_ended, rest_settled, rest_tied}
use Rattle.rn_pattern.specs.inside.Shown.{ShowsHeads, heads_cmp, part_texts, part_parameters, part_class, texts_in, parameters_in, names_in, members_in}
use Rattle.rn_pattern.specs.declared.heads.Heads.{Heads}
use Rattle.rn_pattern.specs.Tree.{Tree}
use Rattle.rn_pattern.specs.declared.tree.Pattern.TheOpen.{Pattern-F}
use Rattle.rn_pattern.specs.declared.tree.Pattern.TheVariants as variant
use Rattle.rn_pattern.proofs.Ordered.ByHeads.{heads_settled, heads_tied, kinds_tied, same_kind}
use Rattle.rn_pattern.proofs.Ordered.PatternKinds.{apart, datum_kind, group_seen, interleave_seen, choice_seen, datum_excepted, no_members_tied, not_datum, not_list, not_attribute, not_element, not_oneormore, not_group, not_interleave, not_choice}
use Rattle.rn_pattern.proofs.+compare_patterns.Goals as goal

shows : {t : Tree} {x : Heads} → x.kind ≡ rank t → part_texts x ≡ texts_in t → part_parameters x ≡ parameters_in t → part_class x ≡ names_in t → ShowsHeads t x
shows a b c d = record { kinds = a; texts_are = b; parameters_are = c; class_is = d }

same : (x y : Heads) {k l : ℕ} → x.kind ≡ k → y.kind ≡ l → Equal ≡ heads_cmp x y → k ≡ l
same x y a b h = sym a ∙ kinds_tied x y h ∙ b

pub order::compare_patterns-returns-in_default : goal.order::compare_patterns-returns-in_default
order::compare_patterns-returns-in_default t c =
    sym (trees_cmp-trees_of (map shared_view c.args.ps.now) (map shared_view c.args.qs.now) ∙ c.loop-k.invariant ∙ rest_settled tree_cmp shared_view c.args.ps.now c.args.qs.now c.loop-k.k c.index-ps-k.result c.index-qs-k.result c.cmp.result (omega (arith, c.loop-k-test.true, c.min-k-end.ensures)) (omega (arith, c.loop-k-test.true, c.min-k-end.ensures)) (c.cmp.ensures ∙ (λ i. tree_cmp (pattern_view (c.deref.ensures i)) (pattern_view (c.deref-in-loop-k.ensures i))) ∙ (λ i. tree_cmp (shared_view (c.index-ps-k.is i)) (shared_view (c.index-qs-k.is i)))) c.in_default.not-Equal)

pub order::compare_patterns-returns : goal.order::compare_patterns-returns
order::compare_patterns-returns t c =
    c.cmp-2.ensures ∙ sym (trees_cmp-trees_of (map shared_view c.args.ps.now) (map shared_view c.args.qs.now) ∙ c.loop-k.invariant
    ∙ rest_ended tree_cmp shared_view c.args.ps.now c.args.qs.now c.loop-k.k (omega (arith, c.loop-k.auto.k-end, c.loop-k-test.false, c.min-k-end.ensures)))

pub tree::Pattern::cmp-returns-in-Group-Group : goal.tree::Pattern::cmp-returns-in-Group-Group
tree::Pattern::cmp-returns-in-Group-Group t c =
    c.compare_patterns.ensures
    ∙ (λ i. trees_cmp (shared_trees (c.deref-in-Group-Group.ensures.value i)) (shared_trees (c.deref-in-Group-Group-2.ensures.value i)))
    ∙ sym (λ i. tree_cmp ((ap pattern_view c.in-Group-Group.is-0 ∙ group_seen c.in-Group-Group.ps) i) ((ap pattern_view c.in-Group-Group.is-1 ∙ group_seen c.in-Group-Group.qs) i))

pub tree::Pattern::cmp-returns-in-Interleave-Interleave : goal.tree::Pattern::cmp-returns-in-Interleave-Interleave
tree::Pattern::cmp-returns-in-Interleave-Interleave t c =
    c.compare_patterns-in-Interleave-Interleave.ensures
    ∙ (λ i. trees_cmp (shared_trees (c.deref-in-Interleave-Interleave.ensures.value i)) (shared_trees (c.deref-in-Interleave-Interleave-2.ensures.value i)))
    ∙ sym (λ i. tree_cmp ((ap pattern_view c.in-Interleave-Interleave.is-0 ∙ interleave_seen c.in-Interleave-Interleave.ps) i) ((ap pattern_view c.in-Interleave-Interleave.is-1 ∙ interleave_seen c.in-Interleave-Interleave.qs) i))

pub tree::Pattern::cmp-returns-in-Choice-Choice : goal.tree::Pattern::cmp-returns-in-Choice-Choice
tree::Pattern::cmp-returns-in-Choice-Choice t c =
    c.compare_patterns-in-Choice-Choice.ensures
    ∙ (λ i. trees_cmp (shared_trees (c.deref-in-Choice-Choice.ensures.value i)) (shared_trees (c.deref-in-Choice-Choice-2.ensures.value i)))
    ∙ sym (λ i. tree_cmp ((ap pattern_view c.in-Choice-Choice.is-0 ∙ choice_seen c.in-Choice-Choice.ps) i) ((ap pattern_view c.in-Choice-Choice.is-1 ∙ choice_seen c.in-Choice-Choice.qs) i))

pub tree::Pattern::cmp-returns-in_default : goal.tree::Pattern::cmp-returns-in_default
tree::Pattern::cmp-returns-in_default t c =
    let P = pattern_view c.args.self.now in
    let Q = pattern_view c.args.other.now in
    let x : ShowsHeads P c.heads.result = shows c.heads.ensures.kind c.heads.ensures.texts c.heads.ensures.parameters c.heads.ensures.class in
    let y : ShowsHeads Q c.heads-2.result = shows c.heads-2.ensures.kind c.heads-2.ensures.texts c.heads-2.ensures.parameters c.heads-2.ensures.class in
    heads_settled P Q c.heads.result c.heads-2.result x y c.compare_heads.result c.compare_heads.ensures c.in_default.not-Equal

pub tree::Pattern::cmp-returns-in-Datum-Datum : goal.tree::Pattern::cmp-returns-in-Datum-Datum
tree::Pattern::cmp-returns-in-Datum-Datum t c =
    let P = pattern_view c.args.self.now in
    let Q = pattern_view c.args.other.now in
    let x : ShowsHeads P c.heads.result = shows c.heads.ensures.kind c.heads.ensures.texts c.heads.ensures.parameters c.heads.ensures.class in
    let y : ShowsHeads Q c.heads-2.result = shows c.heads-2.ensures.kind c.heads-2.ensures.texts c.heads-2.ensures.parameters c.heads-2.ensures.class in
    let p = ap (λ n. members_in (pattern_view n)) c.in-Datum-Datum.is-0 ∙ datum_excepted c.in-Datum-Datum.field-0-0 c.in-Datum-Datum.p in
    let q = ap (λ n. members_in (pattern_view n)) c.in-Datum-Datum.is-1 ∙ datum_excepted c.in-Datum-Datum.field-0-1 c.in-Datum-Datum.q in
    c.compare_excepted.ensures ∙ sym (heads_tied P Q c.heads.result c.heads-2.result x y c.compare_heads.result c.compare_heads.ensures c.in-Equal.is ∙ (λ i. trees_cmp (p i) (q i)))

pub tree::Pattern::cmp-returns-in_default-2-9 : goal.tree::Pattern::cmp-returns-in_default-2-9
tree::Pattern::cmp-returns-in_default-2-9 t c =
    let self = c.args.self.now in
    let P = pattern_view c.args.self.now in
    let Q = pattern_view c.args.other.now in
    let x : ShowsHeads P c.heads.result = shows c.heads.ensures.kind c.heads.ensures.texts c.heads.ensures.parameters c.heads.ensures.class in
    let y : ShowsHeads Q c.heads-2.result = shows c.heads-2.ensures.kind c.heads-2.ensures.texts c.heads-2.ensures.parameters c.heads-2.ensures.class in
    let kinds = same_kind P Q c.heads.result c.heads-2.result x y c.compare_heads.result c.compare_heads.ensures c.in-Equal.is in
    let none = c.in_default-2 in
    no_members_tied P Q kinds (not_datum self none.not-Datum-0) (not_list self none.not-List-0) (not_attribute self none.not-Attribute-0) (not_element self none.not-Element-0) (not_oneormore self none.not-OneOrMore-0) (not_group self none.not-Group-0) (not_interleave self none.not-Interleave-0) (not_choice self none.not-Choice-0)
    ∙ sym (heads_tied P Q c.heads.result c.heads-2.result x y c.compare_heads.result c.compare_heads.ensures c.in-Equal.is)

pub tree::Pattern::cmp-returns-in_default-2 : goal.tree::Pattern::cmp-returns-in_default-2
tree::Pattern::cmp-returns-in_default-2 t c = absurd (apart (Pattern-F.Datum c.in_default-2.field-0-0 c.in_default-2.field-1-0) c.args.self.now c.args.other.now (variant.rolls-Datum c.in_default-2.field-0-0 c.in_default-2.field-1-0 ∙ sym c.in_default-2.is-0) (λ f. not_datum c.args.other.now c.in_default-2.not-Datum-1 (f ∙ datum_kind c.in_default-2.field-0-0 c.in_default-2.field-1-0)) (same c.heads.result c.heads-2.result c.heads.ensures.kind c.heads-2.ensures.kind (sym c.in-Equal.is ∙ c.compare_heads.ensures)))

pub tree::Pattern::cmp-returns-in_default-2-2 : goal.tree::Pattern::cmp-returns-in_default-2-2
tree::Pattern::cmp-returns-in_default-2-2 t c = absurd (apart (Pattern-F.List c.in_default-2.field-0-0) c.args.self.now c.args.other.now (variant.rolls-List c.in_default-2.field-0-0 ∙ sym c.in_default-2.is-0) (not_list c.args.other.now c.in_default-2.not-List-1) (same c.heads.result c.heads-2.result c.heads.ensures.kind c.heads-2.ensures.kind (sym c.in-Equal.is ∙ c.compare_heads.ensures)))

pub tree::Pattern::cmp-returns-in_default-2-3 : goal.tree::Pattern::cmp-returns-in_default-2-3
tree::Pattern::cmp-returns-in_default-2-3 t c = absurd (apart (Pattern-F.Attribute c.in_default-2.field-0-0) c.args.self.now c.args.other.now (variant.rolls-Attribute c.in_default-2.field-0-0 ∙ sym c.in_default-2.is-0) (not_attribute c.args.other.now c.in_default-2.not-Attribute-1) (same c.heads.result c.heads-2.result c.heads.ensures.kind c.heads-2.ensures.kind (sym c.in-Equal.is ∙ c.compare_heads.ensures)))

pub tree::Pattern::cmp-returns-in_default-2-4 : goal.tree::Pattern::cmp-returns-in_default-2-4
tree::Pattern::cmp-returns-in_default-2-4 t c = absurd (apart (Pattern-F.Element c.in_default-2.field-0-0) c.args.self.now c.args.other.now (variant.rolls-Element c.in_default-2.field-0-0 ∙ sym c.in_default-2.is-0) (not_element c.args.other.now c.in_default-2.not-Element-1) (same c.heads.result c.heads-2.result c.heads.ensures.kind c.heads-2.ensures.kind (sym c.in-Equal.is ∙ c.compare_heads.ensures)))

pub tree::Pattern::cmp-returns-in_default-2-5 : goal.tree::Pattern::cmp-returns-in_default-2-5
tree::Pattern::cmp-returns-in_default-2-5 t c = absurd (apart (Pattern-F.OneOrMore c.in_default-2.field-0-0) c.args.self.now c.args.other.now (variant.rolls-OneOrMore c.in_default-2.field-0-0 ∙ sym c.in_default-2.is-0) (not_oneormore c.args.other.now c.in_default-2.not-OneOrMore-1) (same c.heads.result c.heads-2.result c.heads.ensures.kind c.heads-2.ensures.kind (sym c.in-Equal.is ∙ c.compare_heads.ensures)))

pub tree::Pattern::cmp-returns-in_default-2-6 : goal.tree::Pattern::cmp-returns-in_default-2-6
tree::Pattern::cmp-returns-in_default-2-6 t c = absurd (apart (Pattern-F.Group c.in_default-2.field-0-0) c.args.self.now c.args.other.now (variant.rolls-Group c.in_default-2.field-0-0 ∙ sym c.in_default-2.is-0) (not_group c.args.other.now c.in_default-2.not-Group-1) (same c.heads.result c.heads-2.result c.heads.ensures.kind c.heads-2.ensures.kind (sym c.in-Equal.is ∙ c.compare_heads.ensures)))

pub tree::Pattern::cmp-returns-in_default-2-7 : goal.tree::Pattern::cmp-returns-in_default-2-7
tree::Pattern::cmp-returns-in_default-2-7 t c = absurd (apart (Pattern-F.Interleave c.in_default-2.field-0-0) c.args.self.now c.args.other.now (variant.rolls-Interleave c.in_default-2.field-0-0 ∙ sym c.in_default-2.is-0) (not_interleave c.args.other.now c.in_default-2.not-Interleave-1) (same c.heads.result c.heads-2.result c.heads.ensures.kind c.heads-2.ensures.kind (sym c.in-Equal.is ∙ c.compare_heads.ensures)))

pub tree::Pattern::cmp-returns-in_default-2-8 : goal.tree::Pattern::cmp-returns-in_default-2-8
tree::Pattern::cmp-returns-in_default-2-8 t c = absurd (apart (Pattern-F.Choice c.in_default-2.field-0-0) c.args.self.now c.args.other.now (variant.rolls-Choice c.in_default-2.field-0-0 ∙ sym c.in_default-2.is-0) (not_choice c.args.other.now c.in_default-2.not-Choice-1) (same c.heads.result c.heads-2.result c.heads.ensures.kind c.heads-2.ensures.kind (sym c.in-Equal.is ∙ c.compare_heads.ensures)))

pub order::compare_patterns-loop-k-preserved : goal.order::compare_patterns-loop-k-preserved
order::compare_patterns-loop-k-preserved t c =
    c.loop-k.invariant ∙ rest_tied tree_cmp shared_view c.args.ps.now c.args.qs.now c.loop-k.k c.index-ps-k.result c.index-qs-k.result c.cmp.result (omega (arith, c.loop-k-test.true, c.min-k-end.ensures)) (omega (arith, c.loop-k-test.true, c.min-k-end.ensures)) (c.cmp.ensures ∙ (λ i. tree_cmp (pattern_view (c.deref.ensures i)) (pattern_view (c.deref-in-loop-k.ensures i))) ∙ (λ i. tree_cmp (shared_view (c.index-ps-k.is i)) (shared_view (c.index-qs-k.is i)))) c.in-Equal.is
