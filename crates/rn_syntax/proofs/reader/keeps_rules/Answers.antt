-- What all rules together leave alone, each of them does.
use Rattle.std.proofs.Common.{ap, ◌∙◌, sym, map}
use Rattle.rn_syntax.specs.Places.{first}
use Rattle.rn_syntax.specs.inside.Rules.{classes, datatypes, excepts, inherits}
use Rattle.rn_syntax.specs.View.{declaration_view, items_view, module_view}
use Rattle.rn_syntax.proofs.FaultPlaces.NoRuleBroken.{all_places, no_fault}
use Rattle.rn_syntax.proofs.reader.keeps_rules.Goals as goal

pub returns-in-None : goal.returns-in-None
unfolding classes datatypes excepts inherits
returns-in-None c = λ z. no_fault (module_view c.args.module.now) c.requires.declared
    (ap (λ ds. first (all_places (map declaration_view ds) (items_view c.args.module.now.items.items))) (sym c.requires.bound)
    ∙ sym c.module_place.ensures ∙ c.in-None.is)
