use Rattle.std.proofs.Common.{◌≡◌, ◌+◌, [], ◌∷◌, ◌++◌, take, sym, ap, ◌∙◌, subst, arith}
use Rattle.std.proofs.lemmas.List.{take_more, take_all, map-append}
use Rattle.rn_simplify.specs.Spelling.{params_pieces}
use Rattle.rn_pattern.specs.View.{parameters_view}
use Rattle.rn_simplify.specs.inside.Writes.{Writes}
use Rattle.rn_simplify.proofs.Texts.Writing.{writes_nil, writes_as}
use Rattle.rn_simplify.proofs.Texts.PatternTexts.{writes_param, writes_params_more, spaced, spaced_first, spaced_viewed}
use Rattle.rn_simplify.proofs.pattern_text.write_params.Goals as goal
use Rattle.rn_simplify.proofs.pattern_text.write_params.Goals.{then-i-gt0, else-i-gt0}

pub loop-i-init : goal.loop-i-init
loop-i-init c = writes_nil c.args.writer.now

pub loop-i-preserved : goal.loop-i-preserved
loop-i-preserved c =
    let xs = c.args.params.now in
    let i = c.loop-i.i in
    let x = c.index-params-i.result in
    let ps = parameters_view (take i xs) in
    let e : take (i + 1) xs ≡ take i xs ++ x ∷ [] = take_more xs i x c.loop-i-test.true ∙ ap (λ y. take i xs ++ y ∷ []) (sym c.index-params-i.is) in
    let v : parameters_view (take (i + 1) xs) ≡ ps ++ (c.deref.result.now, c.deref-in-loop-i.result.now) ∷ [] =
    ap parameters_view e ∙ map-append _ (take i xs) (x ∷ []) ∙ ap (λ y. ps ++ y ∷ []) (λ k. (sym c.deref.ensures k, sym c.deref-in-loop-i.ensures k)) in
    let j : Writes (spaced ps) c.loop-i.writer c.if-i-gt0.writer =
    elim c.if-i-gt0.branch [
      | then-i-gt0 w ↦ subst (λ y. Writes (spaced ps) c.loop-i.writer y) (sym w.writer-is) (spaced_viewed xs i w.if-i-gt0.true c.loop-i-test.true w.put.ensures)
      | else-i-gt0 w ↦ subst (λ y. Writes (spaced ps) c.loop-i.writer y) (sym w.writer-is) (spaced_first xs i (omega (arith, w.if-i-gt0.false)))
    ] in
    writes_as (ap params_pieces (sym v)) (writes_params_more ps (c.deref.result.now, c.deref-in-loop-i.result.now) c.loop-i.invariant j (writes_param c.deref.result.now c.deref-in-loop-i.result.now c.deref.utf8 c.put-in-loop-i.ensures c.put-in-loop-i-2.ensures c.put_literal.ensures))

pub returns : goal.returns
returns c = writes_as (ap (λ ps. params_pieces (parameters_view ps)) (take_all c.loop-i.i c.args.params.now c.loop-i-test.false)) c.loop-i.invariant
