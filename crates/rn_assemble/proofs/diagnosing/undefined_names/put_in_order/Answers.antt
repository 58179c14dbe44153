-- Of the references to one name the first is left.
use Rattle.std.proofs.Common.{◌≡◌, ℕ, Bool, true, List, sym, subst, rules}
use Rattle.std.specs.Cmp.Lexicographic.{bytes_decides}
use Rattle.std.specs.Borrow.{Bor}
use Rattle.std.specs.List.Sorted.{IsSorted, IsStrictlySortedBy}
use Rattle.std.specs.Ordering.{eq_by_cmp}
use Rattle.std.specs.Prelude.{bytes_eq}
use Rattle.std.proofs.lemmas.Cmp.{nat_list_cmp_total, on_total}
use Rattle.std.proofs.lemmas.Fn.{always_returns_same, dedup_same}
use Rattle.std.proofs.lemmas.List.Kept.{IsStrictlySortedBy-dedup}
use Rattle.std.proofs.lemmas.Map.Text.{is_eq-slice_cmp}
use Rattle.rn_text.specs.Texts.{Text}
use Rattle.rn_assemble.specs.declared.diagnosing.undefined_names.UndefinedName.{UndefinedName}
use Rattle.rn_assemble.specs.declared.diagnosing.places.ReferencePlace.{ReferencePlace}
use Rattle.rn_assemble.specs.inside.Diagnosing.{undefined_cmp}
use Rattle.rn_assemble.proofs.Diagnoses.Deduped.{left_over, lesser_first, stays_over}
use Rattle.rn_assemble.proofs.diagnosing.undefined_names.put_in_order.Goals as goal

abbrev name : UndefinedName → Text
name u = u.name.now

abbrev alike : UndefinedName → UndefinedName → Bool
alike u v = bytes_eq u.name.now v.name.now

alike_same : (u v : UndefinedName) → alike u v ≡ true → name u ≡ name v
alike_same u v h = (bytes_decides u.name.now v.name.now).0 h

alike_ties : (u v : UndefinedName) → alike u v ≡ eq_by_cmp undefined_cmp u v
alike_ties u v = sym (is_eq-slice_cmp u.name.now v.name.now)

abbrev sort_key : UndefinedName → Bor (List ℕ) × ReferencePlace
sort_key u = (u.name, u.reference)

pub returns : goal.returns
returns c =
    let xs = c.args.found.now.items in
    let ys = c.sort_by_key.new.self.items in
    let zs = c.dedup_by.new.self.items in
    let perm = c.in_ok-sort_by_key.ensures.permutation in
    let up = c.in_ok-sort_by_key.ensures.sorted sort_key (always_returns_same _ (λ a r. r ≡ sort_key a.0.now) _ (λ a r f' k. search rules)) in
    let sorted : IsSorted undefined_cmp ys = λ k d a b. lesser_first _ _ (up k d a b) in
    let is = dedup_same _ alike _ (λ u v b f' u' v' k. search rules) ys zs c.dedup_by.ensures.filtered in
    record {
      each = left_over alike name alike_same xs ys zs perm is;
      all = stays_over alike name alike_same xs ys zs perm is;
      in_order = subst (IsStrictlySortedBy undefined_cmp) (sym is) (IsStrictlySortedBy-dedup (on_total name nat_list_cmp_total) alike_ties ys sorted);
    }
