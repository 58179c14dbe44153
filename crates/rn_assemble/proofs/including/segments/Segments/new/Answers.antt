use Rattle.std.proofs.Common.{◌≡◌, ◌+◌, ◌++◌, ◌∷◌, [], ℕ, suc, List, length, take, sym, ap, ◌∙◌, subst, arith}
use Rattle.std.specs.Prelude.{Vec}
use Rattle.std.specs.declared.alloc.Global.{Global}
use Rattle.std.proofs.lemmas.List.{take_more}
use Rattle.rn_assemble.specs.declared.reading.contents.Contents.{Contents}
use Rattle.rn_assemble.specs.inside.Segments.{HavePlaces, places_at}
use Rattle.rn_assemble.proofs.Expansion.EmptyPlaces.{rows_pushed}
use Rattle.rn_assemble.proofs.Gathering.GatheredItems.{zip_push}
use Rattle.rn_assemble.proofs.including.segments.Segments.new.Goals as goal

pub loop-content-preserved : goal.loop-content-preserved
loop-content-preserved c =
    let rows = c.loop-content.places.items in
    let contents = c.args.contents.now in
    let i = c.loop-content.content-index in
    let content = c.content-item.result in
    let numbers = c.in_ok-no_places.field-0 in
    let more : take (i + 1) contents ≡ take i contents ++ content ∷ [] = take_more contents i content c.loop-content-test.true ∙ ap (λ (d : Contents). take i contents ++ d ∷ []) (sym c.content-item.is) in
    let size : length numbers.items ≡ suc (length content.includes.items) = omega (arith, c.in_ok-no_places.ensures.size, c.len.ensures) in
    record {
      empty = λ m j. ap (λ (l : List (Vec (Vec ℕ Global) Global)). places_at l m j) c.in_ok-push.ensures.items ∙ rows_pushed rows numbers c.loop-content.invariant.empty c.in_ok-no_places.ensures.empty m j;
      sizes = subst (λ (l : List (Vec (Vec ℕ Global) Global)). HavePlaces (take (i + 1) contents) l) (sym c.in_ok-push.ensures.items)
          (subst (λ (cs : List Contents). HavePlaces cs (rows ++ numbers ∷ [])) (sym more)
          (zip_push (λ (d : Contents) (v : Vec (Vec ℕ Global) Global). length v.items ≡ suc (length d.includes.items)) (take i contents) rows content numbers c.loop-content.invariant.sizes size));
    }
