-- Of the lacks of one module and key the first is left.
use Rattle.std.proofs.Common.{◌≡◌, ℕ, ◌&&◌, Bool, true, sym, ap, ◌∙◌, subst, rules, nat_eq, nat_cmp, Ordering}
use Rattle.std.proofs.lemmas.Bool.{and_parts, eqb-true}
use Rattle.std.proofs.lemmas.Cmp.{nat_cmp_total, on_total, then_total}
use Rattle.std.proofs.lemmas.Fn.{always_returns_same, dedup_same}
use Rattle.std.proofs.lemmas.List.Kept.{IsStrictlySortedBy-dedup}
use Rattle.std.specs.Cmp.{IsTotalOrder, tied_then, unsigned_ties}
use Rattle.std.specs.List.Sorted.{IsSorted, IsSortedByKey, IsStrictlySortedBy}
use Rattle.std.specs.Ordering.{eq_by_cmp, ordering_then}
use Rattle.rn_assemble.specs.declared.diagnosing.findings.Lack.{Lack}
use Rattle.rn_assemble.specs.declared.reading.keys.KeyId.{KeyId}
use Rattle.rn_assemble.specs.declared.reading.named_modules.ModuleId.{ModuleId}
use Rattle.rn_assemble.specs.inside.Diagnosing.{lack_cmp}
use Rattle.rn_assemble.proofs.Diagnoses.Deduped.{left_over, lesser_first, stays_over}
use Rattle.rn_assemble.proofs.diagnosing.findings.put_in_order.Goals as goal

-- what tells lacks apart: the module and the key
what : Lack → ℕ × ℕ
what l = (l.include.module.0, l.key.0)

abbrev alike : Lack → Lack → Bool
alike l m = nat_eq l.include.module.0 m.include.module.0 && nat_eq l.key.0 m.key.0

alike_same : (l m : Lack) → alike l m ≡ true → what l ≡ what m
unfolding what
alike_same l m h =
    let p = and_parts (nat_eq l.include.module.0 m.include.module.0) (nat_eq l.key.0 m.key.0) h in
    (λ i. (eqb-true l.include.module.0 m.include.module.0 p.0 i, eqb-true l.key.0 m.key.0 p.1 i))

alike_ties : (l m : Lack) → alike l m ≡ eq_by_cmp lack_cmp l m
alike_ties l m = (λ i. unsigned_ties l.include.module.0 m.include.module.0 i && unsigned_ties l.key.0 m.key.0 i) ∙ tied_then (nat_cmp l.include.module.0 m.include.module.0) (nat_cmp l.key.0 m.key.0)

lack_total : IsTotalOrder lack_cmp
lack_total = then_total (on_total (λ (l : Lack). l.include.module.0) nat_cmp_total) (on_total (λ (l : Lack). l.key.0) nat_cmp_total)

abbrev sort_key : Lack → ModuleId × KeyId × ℕ
sort_key l = (l.include.module, l.key, l.component.number)

abbrev sort_cmp : ModuleId × KeyId × ℕ → ModuleId × KeyId × ℕ → Ordering
sort_cmp a b = ordering_then (ordering_then (nat_cmp a.0.0 b.0.0) (nat_cmp a.1.0 b.1.0)) (nat_cmp a.2 b.2)

pub returns : goal.returns
unfolding what
returns c =
    let xs = c.args.found.now.items in
    let ys = c.sort_by_key.new.self.items in
    let zs = c.dedup_by.new.self.items in
    let perm = c.in_ok-sort_by_key.ensures.permutation in
    let up : IsSortedByKey sort_key sort_cmp ys = c.in_ok-sort_by_key.ensures.sorted sort_key (always_returns_same _ (λ a r. r ≡ sort_key a.0.now) _ (λ a r f' k. search rules)) in
    let sorted : IsSorted lack_cmp ys = λ k d a b. lesser_first _ _ (up k d a b) in
    let is = dedup_same _ alike _ (λ l m b f' l' m' k. search rules) ys zs c.dedup_by.ensures.filtered in
    record {
      each = left_over alike what alike_same xs ys zs perm is;
      all = λ l there. let (m, among, same) = stays_over alike what alike_same xs ys zs perm is l there in (m, among, ap (λ (p : ℕ × ℕ). p.1) same, ap (λ (p : ℕ × ℕ). p.0) same);
      in_order = subst (IsStrictlySortedBy lack_cmp) (sym is) (IsStrictlySortedBy-dedup lack_total alike_ties ys sorted);
    }
