use Rattle.std.proofs.Common.{◌≡◌, sym, ◌∙◌, subst, arith}
use Rattle.std.specs.Prelude.{bytes_eq}
use Rattle.std.specs.List.{IsDistinct}
use Rattle.std.proofs.lemmas.List.{length-map, take_all}
use Rattle.rn_pattern.specs.Tree.{Tree}
use Rattle.rn_text.specs.Texts.{Text}
use Rattle.rn_assemble.specs.GrammarView.{definitions_view}
use Rattle.rn_simplify.proofs.Simplified.DefinitionForms.{distinct_names, named_more, names}
use Rattle.rn_simplify.proofs.Simplified.DefinitionNumbers.{size_of_view}
use Rattle.rn_simplify.proofs.Simplified.ReferenceGraph.{nothing}
use Rattle.rn_simplify.proofs.normalising.unformed.Goals as goal

pub loop-index-preserved : goal.loop-index-preserved
loop-index-preserved c =
    let es = c.args.settled.now.definitions.now.entries in
    named_more (definitions_view es) c.loop-index.index c.loop-index.forms.items c.push.new.self.items _
    (omega (arith, size_of_view es)) c.loop-index.invariant c.in_ok-push.ensures.items (c.in_ok-name.ensures.cases ∙ c.name_of.ensures nothing)

pub returns-clause-named : goal.returns-clause-named
returns-clause-named c =
    let es = c.args.settled.now.definitions.now.entries in
    c.loop-index.invariant ∙ take_all c.loop-index.index (names (definitions_view es)) (omega (arith, length-map (definitions_view es) (λ (d : Text × Tree). d.0), size_of_view es))

pub returns-clause-distinct : goal.returns-clause-distinct
returns-clause-distinct c =
    let es = c.args.settled.now.definitions.now.entries in
    let whole : names (definitions_view c.loop-index.forms.items) ≡ names (definitions_view es) =
    c.loop-index.invariant ∙ take_all c.loop-index.index (names (definitions_view es)) (omega (arith, length-map (definitions_view es) (λ (d : Text × Tree). d.0), size_of_view es)) in
    subst (IsDistinct bytes_eq) (sym whole) (distinct_names es c.len-index-end.ensures.unique)
