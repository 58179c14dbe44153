-- No declaration is wrong, so the first place is that of an unbound prefix.
use Rattle.std.proofs.Common.{ap, ◌∙◌, sym, map, []}
use Rattle.rn_syntax.specs.Places.{first, items_places, class_places, unbound_type, inherit_places}
use Rattle.rn_syntax.specs.inside.Rules.{classes, datatypes, excepts, inherits}
use Rattle.rn_syntax.specs.View.{declaration_view, items_view}
use Rattle.rn_syntax.proofs.FaultPlaces.FirstPlaces.{none_first}
use Rattle.rn_syntax.proofs.reader.prefix_place.Goals as goal

pub returns : goal.returns
unfolding classes datatypes excepts inherits
returns c = c.module_place.ensures
    ∙ ap (λ ds. first (items_places (class_places (map declaration_view ds)) (unbound_type (map declaration_view ds)) (λ _ _. []) (inherit_places (map declaration_view ds)) (items_view c.args.module.now.items.items))) c.requires.bound
    ∙ sym (none_first _ _ c.requires.declared)
