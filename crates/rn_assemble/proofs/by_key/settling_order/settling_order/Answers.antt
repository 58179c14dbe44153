use Rattle.std.proofs.Common.{◌≡◌, ◌<◌, ◌+◌, ℕ, length, get_or, map, sym, ◌∙◌, subst, arith}
use Rattle.std.specs.List.{AllByRecursion}
use Rattle.std.proofs.lemmas.Result.{IfOk-weaker}
use Rattle.std.proofs.lemmas.Simd.{map-map}
use Rattle.rn_assemble.specs.Combine.{joined_grammar}
use Rattle.rn_assemble.specs.SettlingOrder.{IsSettlingOrder}
use Rattle.rn_assemble.specs.inside.Views.{key_numbers, names_of}
use Rattle.rn_assemble.specs.declared.reading.keys.KeyId.{KeyId}
use Rattle.rn_assemble.proofs.Joining.SettlingOrders.{keys_distinct, settling_order_is}
use Rattle.rn_assemble.proofs.by_key.settling_order.settling_order.Goals as goal

pub returns : goal.returns
returns c = λ cs s defined o.
    let names = names_of c.args.keys.now in
    let keys = key_numbers c.args.defined.now in
    let ids = c.args.order.now in
    let order = key_numbers ids in
    let numbers = c.in_ok-numbers.numbers.items in
    let within = subst (λ n. AllByRecursion (λ k. k < n) keys) (let e : length names + 1 ≡ c.len.result = sym c.len.ensures in omega (arith, e)) defined.within in
    let numbered : (i : ℕ) → i < length keys → get_or numbers (get_or keys i 0) 0 ≡ i = c.in_ok-numbers.ensures (keys_distinct names cs keys defined) within in
    let is = settling_order_is names s cs keys defined numbers numbered order o in
    IfOk-weaker c.numbers_of.result _ _ (λ v made. subst (IsSettlingOrder (joined_grammar cs)) (sym (made ∙ (λ i. map (λ (k : KeyId). get_or (c.deref.ensures.value i) k.0 0) ids) ∙ sym (map-map (λ n. get_or numbers n 0) (λ (k : KeyId). k.0) ids))) is) c.numbers_of.ensures
