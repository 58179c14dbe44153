-- The contents of the component's module say it.
use Rattle.std.proofs.Common.{◌≡◌, Contains, refl, sym, ◌∙◌, subst, arith}
use Rattle.std.proofs.lemmas.Bool.{ltb-false, ltb-true}
use Rattle.std.proofs.lemmas.Option.{same_Some, slice_get_read, slice_get_within}
use Rattle.rn_assemble.specs.declared.reading.contents.Contents.{Contents}
use Rattle.rn_assemble.proofs.including.segments.Segments.is_own.Goals as goal

pub is_own-requires-clause-ordered : goal.is_own-requires-clause-ordered
is_own-requires-clause-ordered c =
    (c.requires c.in-Some.content.now (slice_get_read c.args.self.now.contents.now _ c.args.component.now.module.0 c.in-Some.content.now refl (ltb-true c.args.component.now.module.0 _ (sym c.in-Some.ensures.lookup.0)) c.in-Some.ensures.lookup.1)).0

pub is_own-requires-clause-apart : goal.is_own-requires-clause-apart
is_own-requires-clause-apart c =
    (c.requires c.in-Some.content.now (slice_get_read c.args.self.now.contents.now _ c.args.component.now.module.0 c.in-Some.content.now refl (ltb-true c.args.component.now.module.0 _ (sym c.in-Some.ensures.lookup.0)) c.in-Some.ensures.lookup.1)).1

pub returns-in-Some : goal.returns-in-Some
returns-in-Some c = λ d i at has from to.
    let here = slice_get_read c.args.self.now.contents.now _ c.args.component.now.module.0 c.in-Some.content.now refl (ltb-true c.args.component.now.module.0 _ (sym c.in-Some.ensures.lookup.0)) c.in-Some.ensures.lookup.1 in
    let same : d ≡ c.in-Some.content.now = same_Some d c.in-Some.content.now (sym at ∙ here) in
    c.is_own.ensures i (subst (λ (e : Contents). Contains e.includes.items i) same has) from to

pub returns-in-None : goal.returns-in-None
returns-in-None c = λ d i at has from to.
    absurd (omega (arith, slice_get_within c.args.self.now.contents.now c.args.component.now.module.0 d at, ltb-false c.args.component.now.module.0 _ (sym c.in-None.ensures.lookup.0)))
