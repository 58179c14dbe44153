-- A component of the row is one of its module, whose includes stand in order; an include that was followed is one of these.
use Rattle.std.proofs.Common.{◌≡◌, ◌||◌, false, get_or, Some, refl, sym, ap, ◌∙◌}
use Rattle.std.specs.Prelude.{slice_get}
use Rattle.std.specs.List.{list_any}
use Rattle.std.proofs.lemmas.Bool.{false≢true, false_from_ne_true}
use Rattle.std.proofs.lemmas.List.{take_all}
use Rattle.std.proofs.lemmas.List.Folds.{list_any_more}
use Rattle.std.proofs.lemmas.Option.{slice_get_read}
use Rattle.rn_assemble.proofs.KeyPieces.OwnComponents.{component_own, includes_known}
use Rattle.rn_assemble.proofs.KeyPieces.RowParts.{is_within}
use Rattle.rn_assemble.proofs.including.segments.Segments.has_own.Goals as goal

pub is_own-requires : goal.is_own-requires
is_own-requires c = λ content at. includes_known c.requires.modules c.args.self.now c.requires.components c.requires.segments_are c.component-item.result.module.0 content at

pub loop-component-preserved : goal.loop-component-preserved
loop-component-preserved c = λ b has.
    let row = c.args.row.now in
    let i = c.loop-component.component-index in
    let w = c.component-item.result in
    let at : slice_get row i ≡ Some w = slice_get_read row _ i w refl c.loop-component-test.true c.component-item.is in
    let test = is_within b.module.0 b.own_from b.own_to in
    let not-own : test w ≡ false = false_from_ne_true (test w) (λ within.
    let own = component_own c.requires.modules c.args.self.now c.requires.components c.requires.segments_are c.requires.key row c.requires.row_is b has i w at within in
    false≢true (sym c.if-is_own.false ∙ c.is_own.ensures own.0 own.1 own.2 own.3 own.4 own.5)) in
    let last : test (get_or row i w) ≡ false = ap test (sym c.component-item.is) ∙ not-own in
    let before = c.loop-component.invariant b has in
    list_any_more test row i w c.loop-component-test.true ∙ (λ j. before j || last j)

pub returns : goal.returns
returns c = λ b has own.
    let row = c.args.row.now in
    let none = ap (list_any (is_within b.module.0 b.own_from b.own_to)) (sym (take_all c.loop-component.component-index row c.loop-component-test.false)) ∙ c.loop-component.invariant b has in
    absurd (false≢true (sym none ∙ own))
