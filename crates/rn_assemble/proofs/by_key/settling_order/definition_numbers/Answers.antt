use Rattle.std.proofs.Common.{◌≡◌, ◌≢◌, ◌<◌, ℕ, length, get_or, set, sym, ap, ◌∙◌, arith, below_more, nat_eq}
use Rattle.std.proofs.lemmas.Bool.{false≢true}
use Rattle.std.proofs.lemmas.Bool.Decides.{Decides-eqb}
use Rattle.std.proofs.lemmas.List.{get_or-set_other, get_or-set_same, length-set, get_or-map, length-map}
use Rattle.std.proofs.lemmas.List.Elements.{Contains-get_or}
use Rattle.std.proofs.lemmas.Map.Keys.{apart_from_distinct}
use Rattle.rn_pattern.proofs.Ordered.InOrder.{contained_each}
use Rattle.rn_assemble.specs.declared.reading.keys.KeyId.{KeyId}
use Rattle.rn_assemble.specs.inside.Views.{key_numbers}
use Rattle.rn_assemble.proofs.by_key.settling_order.definition_numbers.Goals as goal
use Rattle.rn_assemble.proofs.by_key.settling_order.definition_numbers.Goals.{then-key-len, else-key-len}

pub loop-number-preserved : goal.loop-number-preserved
loop-number-preserved c =
    let inv = c.loop-number.invariant in
    let ids = c.args.defined.now in
    let defined = key_numbers ids in
    let n = c.loop-number.number in
    let there : n < length defined = omega (arith, c.loop-number-test.true, length-map ids (λ (k : KeyId). k.0)) in
    let key = (get_or ids n (record { 0 = 0 })).0 in
    let is : get_or defined n 0 ≡ key = get_or-map (λ (k : KeyId). k.0) ids n (record { 0 = 0 }) 0 c.loop-number-test.true in
    let old = c.loop-number.numbers.items in
    record {
      size = elim c.if-key-len.branch [
        | then-key-len w ↦ ap (λ v. length v.items) w.numbers-is ∙ length-set old key n ∙ inv.size
        | else-key-len w ↦ ap (λ v. length v.items) w.numbers-is ∙ inv.size
      ];
      placed = elim c.if-key-len.branch [
        | then-key-len w ↦ λ once within.
            let P : ℕ → Type 0 = λ i. get_or c.if-key-len.numbers.items (get_or defined i 0) 0 ≡ i in
            let set_is : c.if-key-len.numbers.items ≡ set old key n = ap (λ v. v.items) w.numbers-is in
            let other : (i : ℕ) → i < n → get_or defined i 0 ≢ key = λ i l e.
            false≢true (sym (apart_from_distinct nat_eq defined i n 0 once l there) ∙ (Decides-eqb (get_or defined i 0) (get_or defined n 0)).1 (e ∙ sym is)) in
            below_more P n
            (λ i l. ap (λ xs. get_or xs (get_or defined i 0) 0) set_is ∙ get_or-set_other old key (get_or defined i 0) n 0 (other i l) ∙ inv.placed once within i l)
            ((λ j. get_or (set_is j) (is j) 0) ∙ get_or-set_same old key n 0 (omega (arith, w.if-key-len.true, c.len.ensures, c.loop-number.numbers.ok.0)))
        | else-key-len w ↦ λ once within i l.
            let h = contained_each (λ k. k < c.args.count) defined within (get_or defined n 0) (Contains-get_or defined n 0 there) in
            absurd (omega (arith, h, is, w.if-key-len.false, c.len.ensures, c.loop-number.numbers.ok.0, inv.size))
      ];
    }
