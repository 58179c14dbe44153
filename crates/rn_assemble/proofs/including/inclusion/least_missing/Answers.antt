-- The least literal so far that names no module, and one literal more.
use Rattle.std.proofs.Common.{◌++◌, ◌∷◌, [], ap, ◌∙◌, sym, subst, take, get_or, option_map, Some, Option}
use Rattle.std.specs.Prelude.{not}
use Rattle.std.proofs.lemmas.List.{take_all}
use Rattle.rn_text.specs.Texts.{Text}
use Rattle.rn_assemble.specs.inside.Inclusions.{IsLeastAmong, IsMissing}
use Rattle.rn_assemble.specs.inside.Views.{modules_view, texts_of}
use Rattle.rn_assemble.proofs.Referring.LeastUndefined.{no_text, texts_more}
use Rattle.rn_assemble.proofs.Expansion.WantedNumbers.{among_more, among_none, among_still, missing_where, names_rise, there_where}
use Rattle.rn_assemble.proofs.including.inclusion.least_missing.Goals as goal
use Rattle.rn_assemble.proofs.including.inclusion.least_missing.Goals.{then-is_none, else-is_none}

pub loop-literal-init : goal.loop-literal-init
loop-literal-init c = among_none (IsMissing (modules_view c.args.modules.now))

pub loop-literal-preserved : goal.loop-literal-preserved
loop-literal-preserved c =
    let ms = modules_view c.args.modules.now in
    let P = IsMissing ms in
    let names = c.args.wanted.now in
    let i = c.loop-literal.literal-index in
    let so_far = texts_of (take i names) in
    let x = (get_or names i no_text).now in
    let place = c.module_named.ensures.place c.requires in
    subst (λ xs. IsLeastAmong P xs (option_map (λ t. t.now) c.if-is_none.least)) (sym (texts_more names i c.loop-literal-test.true))
    (elim c.if-is_none.branch [
      | then-is_none w ↦
          subst (λ (o : Option Text). IsLeastAmong P (so_far ++ x ∷ []) o) (sym (ap (option_map (λ t. t.now)) w.least-is ∙ ap Some w.lesser_name.ensures))
          (among_more P so_far _ x (missing_where ms x c.module_named.result place (c.is_none.ensures ∙ ap not w.if-is_none.true)) c.loop-literal.invariant)
      | else-is_none w ↦
          subst (λ o. IsLeastAmong P (so_far ++ x ∷ []) (option_map (λ t. t.now) o)) (sym w.least-is)
          (among_still P so_far _ x (there_where ms (names_rise c.args.modules.now c.requires) x c.module_named.result place (c.is_none.ensures ∙ ap not w.if-is_none.false)) c.loop-literal.invariant)
    ])

pub returns : goal.returns
returns c =
    subst (λ ws. IsLeastAmong (IsMissing (modules_view c.args.modules.now)) (texts_of ws) (option_map (λ t. t.now) c.loop-literal.least)) (take_all c.loop-literal.literal-index c.args.wanted.now c.loop-literal-test.false) c.loop-literal.invariant
