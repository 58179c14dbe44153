-- The next child is counted, until none is left.
use Rattle.std.proofs.Common.{◌≡◌, ◌+◌, ◌<◌, ◌≤◌, ◌^◌, sym, ap, ◌∙◌, subst, arith, false}
use Rattle.std.specs.Prelude.{nat_lt, slice_get, ◌||◌, if◌then◌else◌}
use Rattle.std.proofs.lemmas.Bool.Decides.{nat_tests}
use Rattle.rn_xml.specs.DocumentTrees.{name_of}
use Rattle.rn_translate.specs.SchemaElements.{is_except_kind, is_foreign, kind_of}
use Rattle.rn_translate.proofs.Walking.TreeSteps.{no_end_before}
use Rattle.rn_translate.proofs.ChildCounts.{Counted, all_counted, at_most_one, child_there, none_counted, none_left, one_counted}
use Rattle.rn_translate.proofs.document_parts.children_of.Goals as goal

pub children-init : goal.children-init
children-init c = record {
  small = omega (arith, c.saturating_add-next.ensures);
  counted = λ t after k nested are.
      let before : c.args.index + 1 ≤ c.args.end = no_end_before nested are in
      let next : c.saturating_add-next.result ≡ c.args.index + 1 = omega (arith, c.saturating_add-next.ensures) in
      subst (λ n. Counted c.args.document.now c.args.index n c.args.end after k 0 false) (sym next) (none_counted are);
}

pub children-preserved : goal.children-preserved
children-preserved c =
    let d = c.args.document.now in
    let row = c.in-Some.child.now in
    let kind = kind_of (name_of d row.name) in
    let count = c.children.children.count in
    let except = c.children.children.has_except in
    let at = child_there (nat_lt c.children.next c.args.end) (slice_get d.elements.items c.children.next) row c.in-Some.ensures.child in
    let below = at.0 in
    let within : c.children.next < c.args.end = grind (arith, nat_tests) in
    let small : count + 1 < 2 ^ 64 = omega (arith, c.children.invariant.small) in
    let counted : c.and-children.result.count ≡ (if is_foreign kind then count else count + 1) = c.and-children.ensures.count small ∙ ap (λ k. if is_foreign k then count else count + 1) c.kind_of.ensures in
    let excepted : c.and-children.result.has_except ≡ (except || is_except_kind kind) = c.and-children.ensures.except ∙ ap (λ k. except || is_except_kind k) c.kind_of.ensures in
    record {
      small = omega (arith, c.children.invariant.small, c.behind-next.ensures.behind, counted, at_most_one (is_foreign kind) count);
      counted = λ t after k nested are.
          let end : c.behind-next.result ≡ row.end = c.behind-next.ensures.end (nested c.children.next row at.1) in
          let one = one_counted row nested within at.1 (c.children.invariant.counted t after k nested are) in
          subst (λ n. Counted d c.args.index n c.args.end after k c.and-children.result.count c.and-children.result.has_except) (sym end)
          (subst (λ n. Counted d c.args.index row.end c.args.end after k n c.and-children.result.has_except) (sym counted)
          (subst (λ b. Counted d c.args.index row.end c.args.end after k (if is_foreign kind then count else count + 1) b) (sym excepted) one));
    }

pub returns-clause-count : goal.returns-clause-count
returns-clause-count c = λ t after k nested are.
    let counted = c.children.invariant.counted t after k nested are in
    (all_counted nested (none_left counted c.in_default.ensures.child) counted).0

pub returns-clause-except : goal.returns-clause-except
returns-clause-except c = λ t after k nested are.
    let counted = c.children.invariant.counted t after k nested are in
    (all_counted nested (none_left counted c.in_default.ensures.child) counted).1
