-- One declaration more is bound, and its place, if it is wrong, comes behind those before.
use Rattle.std.proofs.Common.{◌≡◌, ◌+◌, ◌++◌, ◌∷◌, [], map, ap, ◌∙◌, sym, take, drop, arith, ◌<◌, length}
use Rattle.std.proofs.lemmas.List.{map-append, take_more}
use Rattle.rn_syntax.specs.View.{declaration_view}
use Rattle.rn_syntax.specs.Places.{declarations_places, declaration_places}
use Rattle.rn_syntax.proofs.BindingDeclarations.{wrong_more}
use Rattle.rn_syntax.proofs.Lists.RestOfLists.{drop_next}
use Rattle.rn_syntax.proofs.bindings.bind_all.Goals as goal

pub declarations-preserved : goal.declarations-preserved
declarations-preserved c =
    let ds = c.args.declarations.now in
    let k = c.declarations.index in
    let x = c.index-declarations-index.result in
    let h : k < length ds = omega arith in
    let next : drop k ds ≡ x ∷ drop (k + 1) ds = drop_next ds k x h c.index-declarations-index.is in
    let front : take (k + 1) ds ≡ take k ds ++ x ∷ [] = take_more ds k x h ∙ ap (λ z. take k ds ++ z ∷ []) (sym c.index-declarations-index.is) in
    let seen : map declaration_view (take (k + 1) ds) ≡ map declaration_view (take k ds) ++ declaration_view x ∷ [] = ap (map declaration_view) front ∙ map-append declaration_view (take k ds) (x ∷ []) in
    let left : declarations_places (map declaration_view (take k ds)) (map declaration_view (drop k ds))
    ≡ declaration_places (map declaration_view (take k ds)) (declaration_view x) ++ declarations_places (map declaration_view (take (k + 1) ds)) (map declaration_view (drop (k + 1) ds))
    = ap (λ z. declarations_places (map declaration_view (take k ds)) (map declaration_view z)) next
    ∙ ap (λ z. declaration_places (map declaration_view (take k ds)) (declaration_view x) ++ declarations_places z (map declaration_view (drop (k + 1) ds))) (sym seen) in
    record {
      bound = c.in_ok-bindings.ensures;
      wrong = wrong_more _ c.declarations.wrong c.first_wrong-wrong.result _ _ (rw left at c.declarations.invariant.wrong) (rw c.declarations.invariant.bound at c.first_wrong-wrong.ensures);
    }
