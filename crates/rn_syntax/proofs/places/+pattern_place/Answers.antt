-- Neither data nor what is excepted from it breaks the rule, so the first place is that in the excepted pattern.
use Rattle.std.proofs.Common.{◌≡◌, sym, ◌∙◌, ap, None, false}
use Rattle.rn_syntax.specs.BindingDeclarations.{bound}
use Rattle.rn_syntax.specs.Places.{first}
use Rattle.rn_syntax.specs.inside.Rules.{datatypes, excepts, pattern_places}
use Rattle.rn_syntax.specs.View.{datatype_view, params_view, pattern_view}
use Rattle.rn_syntax.proofs.FaultPlaces.FirstPlaces.{nones_first}
use Rattle.rn_syntax.proofs.ProductionsRead.PatternViews.{view-DatumBut}
use Rattle.rn_syntax.proofs.places.+pattern_place.Goals as goal

pub pattern_place-returns-in-None : goal.pattern_place-returns-in-None
pattern_place-returns-in-None t c =
    let x = c.in-DatumBut in
    let ds = bound c.args.bindings.now in
    let rule = c.args.rule in
    let kept : first (datatypes ds rule false (datatype_view x.data.value.datatype) (params_view x.data.value.params.items)) ≡ None =
    cc (c.deref-in-DatumBut.ensures, c.deref-in-DatumBut-2.ensures, c.deref-in-DatumBut-3.ensures.value, c.data-in-DatumBut.ensures, c.in_default.is) in
    let allowed = ap (λ p. first (excepts rule x.at (pattern_view p))) (sym c.deref-in-DatumBut-4.ensures) ∙ sym c.except.ensures ∙ c.in-None.is in
    let inside = c.pattern_place.ensures ∙ ap (λ p. first (pattern_places ds rule (pattern_view p))) c.deref-in-None.ensures in
    let seen = ap pattern_view x.is ∙ view-DatumBut x.data x.at x.excepted in
    inside ∙ sym (nones_first _ _ _ kept allowed) ∙ ap (λ p. first (pattern_places ds rule p)) (sym seen)
