use Rattle.std.proofs.Common.{◌≡◌, map, take}
use Rattle.rn_pattern.specs.Tree.{Tree}
use Rattle.rn_text.specs.Texts.{Text}
use Rattle.rn_assemble.specs.GrammarView.{definitions_view}
use Rattle.rn_simplify.proofs.normalising.unformed.Given as goal

abbrev pub invariant-loop-index : goal.invariant-loop-index
invariant-loop-index l = map (λ (d : Text × Tree). d.0) (definitions_view l.forms.items) ≡ take l.index (map (λ (d : Text × Tree). d.0) (definitions_view l.settled.definitions.now.entries))
