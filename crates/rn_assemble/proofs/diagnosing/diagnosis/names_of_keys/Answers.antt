-- One name more.
use Rattle.std.proofs.Common.{◌≡◌, ◌+◌, ◌-◌, ◌<◌, ◌++◌, ◌∷◌, [], List, ℕ, length, take, get_or, refl, sym, ap, ◌∙◌, arith}
use Rattle.std.specs.Borrow.{Bor}
use Rattle.std.proofs.lemmas.List.{map-append, take_all, take_more}
use Rattle.rn_assemble.specs.inside.Views.{names_of, texts_of}
use Rattle.rn_assemble.proofs.diagnosing.diagnosis.names_of_keys.Goals as goal

pub loop-number-init : goal.loop-number-init
loop-number-init c = rw (c.in_ok-push.ensures.items, c.in_ok-names.ensures.items) refl

pub loop-number-preserved : goal.loop-number-preserved
loop-number-preserved c =
    let names = names_of c.args.keys.now in
    let n = c.loop-number.number in
    let text = c.name.result.now in
    let within : n - 1 < length names = omega (arith, c.loop-number-test.true, c.len-number-end.ensures, c.loop-number.auto.number) in
    let next : n + 1 - 1 ≡ n - 1 + 1 = omega (arith, c.loop-number.auto.number) in
    let is : text ≡ get_or names (n - 1) [] = c.name.ensures (omega (arith, c.loop-number.auto.number)) (omega (arith, c.loop-number-test.true, c.len-number-end.ensures)) in
    ap texts_of c.in_ok-push-2.ensures.items ∙ map-append (λ (s : Bor (List ℕ)). s.now) c.loop-number.names.items (c.name.result ∷ [])
    ∙ ap (λ ts. ts ++ text ∷ []) c.loop-number.invariant
    ∙ ap (λ ts. [] ∷ ts) (ap (λ t. take (n - 1) names ++ t ∷ []) is ∙ sym (ap (λ k. take k names) next ∙ take_more names (n - 1) [] within))

pub returns : goal.returns
returns c =
    let names = names_of c.args.keys.now in
    c.loop-number.invariant ∙ ap (λ ts. [] ∷ ts) (take_all (c.loop-number.number - 1) names (omega (arith, c.loop-number-test.false, c.len-number-end.ensures)))
