-- Only the last include before the component's segment can have the component among its own.
use Rattle.std.proofs.Common.{◌≡◌, ◌<◌, get_or, refl, sym, ap, subst, ◌∙◌, arith}
use Rattle.std.proofs.lemmas.Bool.{lt-ltb}
use Rattle.std.proofs.lemmas.List.{get_or_default}
use Rattle.std.proofs.lemmas.Option.{slice_get_read}
use Rattle.rn_assemble.specs.declared.reading.contents.Include.{Include}
use Rattle.rn_assemble.proofs.Gathering.FoundSegments.{own_last}
use Rattle.rn_assemble.proofs.reading.contents.Contents.is_own.Goals as goal

pub returns-in-Some : goal.returns-in-Some
returns-in-Some c = λ i has from to.
    let last = own_last c.args.self.now c.args.number c.segment_of.result c.segment_of.ensures c.requires.ordered c.requires.apart i from to has.0 (slice_get_read c.args.self.now.includes.items _ has.0 i refl has.1 (sym has.2)) in
    let includes = c.args.self.now.includes.items in
    let here : c.in-Some.include ≡ has.0 = omega (arith, last, c.in-Some.ensures) in
    let got : c.index.result.now ≡ i = c.index.ensures ∙ get_or_default includes c.in-Some.include c.index.result.now i (omega (arith, here, has.1)) ∙ ap (λ j. get_or includes j i) here ∙ has.2 in
    lt-ltb c.args.number c.index.result.now.to (subst (λ (x : Include). c.args.number < x.to) (sym got) to)

pub returns-in-None : goal.returns-in-None
returns-in-None c = λ i has from to.
    let last = own_last c.args.self.now c.args.number c.segment_of.result c.segment_of.ensures c.requires.ordered c.requires.apart i from to has.0 (slice_get_read c.args.self.now.includes.items _ has.0 i refl has.1 (sym has.2)) in
    absurd (c.in-None.ensures (omega (arith, last)))
