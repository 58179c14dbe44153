-- The declarations that are bound are the module's.
use Rattle.std.proofs.Common.{ap, ◌∙◌, map, []}
use Rattle.rn_syntax.specs.Places.{first, items_places, wrong_builtin}
use Rattle.rn_syntax.specs.inside.Rules.{classes, datatypes, excepts, inherits}
use Rattle.rn_syntax.specs.View.{declaration_view, items_view}
use Rattle.rn_syntax.proofs.reader.builtin_place.Goals as goal

pub returns : goal.returns
unfolding classes datatypes excepts inherits
returns c = c.module_place.ensures
    ∙ ap (λ ds. first (items_places (λ _. []) (wrong_builtin (map declaration_view ds)) (λ _ _. []) (λ _. []) (items_view c.args.module.now.items.items))) c.requires
