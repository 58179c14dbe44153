use Rattle.std.proofs.Common.{◌≡◌, map, take}
use Rattle.rn_assemble.specs.GrammarView.{definitions_view}
use Rattle.rn_pattern.specs.Store.{KeepsIds}
use Rattle.rn_pattern.specs.Tree.{Tree}
use Rattle.rn_text.specs.Texts.{Text}
use Rattle.rn_simplify.specs.inside.FormKinds.{settled_form}
use Rattle.rn_simplify.proofs.Simplified.DefinitionForms.{AreFormed}
use Rattle.rn_simplify.proofs.normalising.definition_forms.Given as goal

abbrev pub invariant-loop-index : goal.invariant-loop-index
invariant-loop-index g l = record {
  kept : KeepsIds g.P.Patterns.knows g.P.Patterns.tree_of l.initial.store l.store;
  named : map (λ (d : Text × Tree). d.0) (definitions_view l.forms.items) ≡ map (λ (d : Text × Tree). d.0) (definitions_view l.settled.definitions.now.entries);
  made : AreFormed (settled_form l.settled) (definitions_view l.settled.definitions.now.entries) (take l.index-index l.order) (definitions_view l.forms.items);
}
