-- The step keeps what is walked, until no level is left.
use Rattle.std.proofs.Common.{[], ◌∷◌, ◌++◌, sym, ap, ◌∙◌, subst}
use Rattle.std.proofs.lemmas.List.{nil_from_length}
use Rattle.rn_translate.specs.inside.OpenLevels.{IsWalked}
use Rattle.rn_translate.proofs.Walking.OpenSteps.{whole_walked}
use Rattle.rn_translate.proofs.translator.Translator.walk_from.Goals as goal

pub levels-init : goal.levels-init
levels-init c = λ start whole document w. subst (λ ls. IsWalked start c.args.self.now ls c.args.first whole)
    (sym (c.in_ok-push.ensures.items ∙ ap (λ ls. ls ++ c.args.root ∷ []) c.new-levels.ensures.items)) w

pub levels-preserved : goal.levels-preserved
levels-preserved c = λ start whole document w.
    c.in_ok-next.ensures.walked start whole document
    (subst (λ ls. IsWalked start c.levels.self ls c.levels.next whole) c.in-Some.ensures.items (c.levels.invariant start whole document w))

pub returns-clause-same : goal.returns-clause-same
returns-clause-same c = λ start whole document w. (c.levels.invariant start whole document w).same

pub returns-clause-meant : goal.returns-clause-meant
returns-clause-meant c = λ start whole document w. whole_walked start _ _ _ whole (c.levels.invariant start whole document w) (nil_from_length _ (sym c.levels.levels.ok.0 ∙ c.in_default.ensures.cases.0))
