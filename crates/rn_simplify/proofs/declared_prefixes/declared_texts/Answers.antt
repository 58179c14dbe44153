use Rattle.std.proofs.Common.{◌≡◌, ◌∷◌, [], ◌++◌, map, true, false, sym, ap, ◌∙◌, subst, append_assoc, rules, length, nat_eq}
use Rattle.std.specs.Prelude.{string_bytes, filter}
use Rattle.rn_simplify.proofs.Texts.GatheredTexts.{is_declared, not_empty, not_known}
use Rattle.rn_simplify.proofs.ReadBack.OrderedTexts.{AreApart, keys_apart, apart_new, apart_without, kept_more, kept_none, inserted_last}
use Rattle.rn_simplify.specs.Spelling.{is_other}
use Rattle.rn_simplify.proofs.declared_prefixes.declared_texts.Goals as goal
use Rattle.rn_simplify.proofs.declared_prefixes.declared_texts.Goals.{else-not-is_empty-via-then-not-is_empty+else-ne, else-not-is_empty-via-else-not-is_empty}

pub loop-text-init : goal.loop-text-init
loop-text-init c =
    let none = c.with_hasher-rest.ensures.empty in
    let all = c.into_iter-text-iterator.ensures.into_iter_gives in
    let apart = keys_apart c.args.texts.now.keys all.4 in
    record {
      kept = λ i. map (λ u. string_bytes u) (none i) ++ filter (is_other c.args.known.now) (map (λ u. string_bytes u) (all.0 i));
      apart = subst (λ ks. AreApart (map (λ u. string_bytes u) ks ++ map (λ u. string_bytes u) c.into_iter-text-iterator.result)) (sym none) (subst (λ ks. AreApart (map (λ u. string_bytes u) ks)) (sym all.0) apart);
    }

pub loop-text-preserved-then-ne : goal.loop-text-preserved-then-ne
loop-text-preserved-then-ne c =
    let p = is_other c.args.known.now in
    let ks = c.loop-text.rest.keys in
    let us = map (λ u. string_bytes u) ks in
    let xs = map (λ u. string_bytes u) c.next.new.self in
    let x = string_bytes c.in-Some.text.now in
    let next : c.loop-text.text-iterator ≡ c.in-Some.text.now ∷ c.next.new.self = c.in-Some.ensures.steps in
    let apart = subst (λ ls. AreApart (us ++ map (λ u. string_bytes u) ls)) next c.loop-text.invariant.apart in
    let copied : string_bytes c.in_ok-clone.field-0 ≡ x = c.in_ok-clone.ensures.cases in
    let alike = subst (λ y. AreApart (us ++ y ∷ xs)) (sym copied) apart in
    let last : map (λ u. string_bytes u) c.insert.new.self.keys ≡ us ++ x ∷ [] = ap (map (λ u. string_bytes u)) c.in_ok-insert.ensures.keys ∙ inserted_last c.in_ok-clone.field-0 ks (apart_new us xs (string_bytes c.in_ok-clone.field-0) alike) ∙ ap (λ y. us ++ y ∷ []) copied in
    let some : nat_eq (length x) 0 ≡ false = search rules in
    let passes : p x ≡ true = is_declared c.args.known.now x c.as_str.result.now c.as_str.ensures.value some (sym c.if-ne.ensures) in
    record {
      kept = ap (λ ys. ys ++ filter p xs) last ∙ sym (kept_more p us xs x passes) ∙ ap (λ ls. us ++ filter p (map (λ u. string_bytes u) ls)) (sym next) ∙ c.loop-text.invariant.kept;
      apart = subst (λ ys. AreApart (ys ++ xs)) (sym last) (subst AreApart (sym (append_assoc us (x ∷ []) xs)) apart);
    }

pub loop-text-preserved : goal.loop-text-preserved
loop-text-preserved c =
    let p = is_other c.args.known.now in
    let us = map (λ u. string_bytes u) c.loop-text.rest.keys in
    let xs = map (λ u. string_bytes u) c.next.new.self in
    let x = string_bytes c.in-Some.text.now in
    let next : c.loop-text.text-iterator ≡ c.in-Some.text.now ∷ c.next.new.self = c.in-Some.ensures.steps in
    let apart = subst (λ ls. AreApart (us ++ map (λ u. string_bytes u) ls)) next c.loop-text.invariant.apart in
    let fails : p x ≡ false = elim c.else-not-is_empty.branch [
      | else-not-is_empty-via-then-not-is_empty+else-ne w ↦ not_known c.args.known.now x w.as_str.result.now w.as_str.ensures.value (sym w.if-ne.ensures)
      | else-not-is_empty-via-else-not-is_empty w ↦ let none : nat_eq (length x) 0 ≡ true = search rules in not_empty c.args.known.now x none
    ] in
    record {
      kept = sym (kept_none p us xs x fails) ∙ ap (λ ls. us ++ filter p (map (λ u. string_bytes u) ls)) (sym next) ∙ c.loop-text.invariant.kept;
      apart = apart_without us xs x apart;
    }
