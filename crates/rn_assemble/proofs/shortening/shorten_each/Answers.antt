-- The members come one by one, and something stands for each.
use Rattle.std.proofs.Common.{◌≡◌, ◌++◌, ◌∷◌, [], append_assoc, length, subst, sym, ap, ◌∙◌, arith}
use Rattle.std.specs.List.{AllZip}
use Rattle.std.specs.Vec.Iter.{into_iter_items}
use Rattle.std.proofs.lemmas.List.Elements.{AllZip-push}
use Rattle.rn_assemble.specs.ShortTexts.{short_texts}
use Rattle.rn_assemble.proofs.Renaming.ReplacedOneByOne.{all_yielded, of_next}
use Rattle.rn_assemble.proofs.shortening.shorten_each.Goals as goal

pub shorten-requires-clause-covered : goal.shorten-requires-clause-covered
shorten-requires-clause-covered g c =
    let before = c.loop-item.yielded in
    let next : before ++ c.in-Some.item ∷ into_iter_items c.next.new.self ≡ c.args.list.items =
    ap (λ xs. before ++ xs) (sym c.in-Some.ensures.steps.0) ∙ c.loop-item.invariant.rest in
    of_next (g.T.Shorten.is_covered (short_texts c.args.uris.now)) c.args.list.items before c.in-Some.item (into_iter_items c.next.new.self) next c.requires.covered

pub loop-item-preserved : goal.loop-item-preserved
loop-item-preserved g c =
    let Stands = g.T.Shorten.stands_for (short_texts c.args.uris.now) in
    let before = c.loop-item.yielded in
    let left = into_iter_items c.next.new.self in
    let step : into_iter_items c.loop-item.item-iterator ≡ c.in-Some.item ∷ left = c.in-Some.ensures.steps.0 in
    record {
      stand = subst (AllZip Stands (before ++ c.in-Some.item ∷ [])) (sym c.in_ok-push.ensures.items)
          (AllZip-push Stands before c.loop-item.short.items c.in-Some.item c.in_ok-shorten.field-0 c.loop-item.invariant.stand c.in_ok-shorten.ensures);
      rest = append_assoc before (c.in-Some.item ∷ []) left ∙ ap (λ xs. before ++ xs) (sym step) ∙ c.loop-item.invariant.rest;
      count = omega (arith, c.in-Some.ensures.steps.1, c.loop-item.invariant.count, ap length step);
    }

pub returns : goal.returns
returns g c =
    let whole = all_yielded c.loop-item.yielded (into_iter_items c.loop-item.item-iterator) c.args.list.items
    c.loop-item.invariant.rest (omega (arith, c.in-None.ensures.steps.0, c.loop-item.invariant.count)) in
    subst (λ xs. AllZip (g.T.Shorten.stands_for (short_texts c.args.uris.now)) xs c.loop-item.short.items) whole c.loop-item.invariant.stand
