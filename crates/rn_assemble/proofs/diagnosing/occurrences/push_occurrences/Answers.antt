-- One component of the piece more.
use Rattle.std.proofs.Common.{◌≡◌, ◌+◌, length, refl, sym, ap, ◌∙◌, subst, arith}
use Rattle.std.proofs.lemmas.Option.{slice_get_read}
use Rattle.rn_assemble.specs.inside.Diagnosing.{meets}
use Rattle.rn_assemble.proofs.Diagnoses.Occurrences.{AddsUpTo, all_added, met, none_yet, passed}
use Rattle.rn_assemble.proofs.diagnosing.occurrences.push_occurrences.Goals as goal
use Rattle.rn_assemble.proofs.diagnosing.occurrences.push_occurrences.Goals.{then-has_method+in_ok-push, else-has_method}

pub loop-index-init : goal.loop-index-init
loop-index-init c = none_yet c.args.row.now (meets c.args.method) c.args.piece.now c.args.found.now.items

pub loop-index-preserved : goal.loop-index-preserved
loop-index-preserved c =
    let row = c.args.row.now in
    let test = meets c.args.method in
    let p = c.args.piece.now in
    let old = c.args.found.now.items in
    let i = c.loop-index.index in
    let w = c.index-row-index.result in
    let at = slice_get_read row (length row) i w refl (omega (arith, c.loop-index-test.true, c.requires.within)) c.index-row-index.is in
    elim c.if-has_method.branch [
      | then-has_method+in_ok-push v ↦
          met row test p old c.loop-index.found.items i w at c.loop-index.invariant (sym c.has_method.ensures ∙ v.if-has_method.true) (record { depth = c.args.depth; segment = p.segment; index = i }) refl refl c.loop-index-test.true
          c.if-has_method.found.items (ap (λ u. u.items) v.found-is ∙ v.in_ok-push.ensures.items)
      | else-has_method v ↦
          subst (λ u. AddsUpTo row test p old (i + 1) u) (sym (ap (λ u. u.items) v.found-is))
          (passed row test p old c.loop-index.found.items i w at c.loop-index.invariant (sym c.has_method.ensures ∙ v.if-has_method.false))
    ]

pub returns : goal.returns
returns c =
    let end : c.loop-index.index ≡ c.args.piece.now.to = omega (arith, c.loop-index-test.false, c.loop-index.auto.index-end c.requires.ordered) in
    all_added c.args.row.now (meets c.args.method) c.args.piece.now c.args.found.now.items c.loop-index.found.items
    (subst (λ n. AddsUpTo c.args.row.now (meets c.args.method) c.args.piece.now c.args.found.now.items n c.loop-index.found.items) end c.loop-index.invariant)
