-- The modules that the literals so far name, and that of one literal more.
use Rattle.std.proofs.Common.{ap, ◌∙◌, Vec, ℕ}
use Rattle.std.specs.declared.alloc.Global.{Global}
use Rattle.std.proofs.lemmas.List.{take_all}
use Rattle.rn_assemble.specs.inside.Views.{modules_view, texts_of}
use Rattle.rn_assemble.proofs.Expansion.WantedNumbers.{numbers, numbers_more, numbers_still}
use Rattle.rn_assemble.proofs.including.inclusion.included_modules.Goals as goal
use Rattle.rn_assemble.proofs.including.inclusion.included_modules.Goals.{in-Some+in_ok-push, in_default}

pub loop-literal-init : goal.loop-literal-init
loop-literal-init c = c.new-row.ensures.items

pub loop-literal-preserved : goal.loop-literal-preserved
loop-literal-preserved c =
    let ms = modules_view c.args.modules.now in
    let i = c.loop-literal.literal-index in
    elim c.match-module_named.branch [
      | in-Some+in_ok-push w ↦ ap (λ (v : Vec ℕ Global). v.items) w.row-is ∙ w.in_ok-push.ensures.items ∙ numbers_more ms c.args.wanted.now i _ c.loop-literal.row.items c.loop-literal-test.true (w.in-Some.ensures.place c.requires) c.loop-literal.invariant
      | in_default w ↦ ap (λ (v : Vec ℕ Global). v.items) w.row-is ∙ numbers_still ms c.args.wanted.now i c.loop-literal.row.items c.loop-literal-test.true (w.in_default.ensures.place c.requires) c.loop-literal.invariant
    ]

pub returns : goal.returns
returns c = c.loop-literal.invariant ∙ ap (λ ws. numbers (modules_view c.args.modules.now) (texts_of ws)) (take_all c.loop-literal.literal-index c.args.wanted.now c.loop-literal-test.false)
