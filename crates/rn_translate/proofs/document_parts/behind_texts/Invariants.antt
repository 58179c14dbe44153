-- The texts so far are in the element.
use Rattle.std.proofs.Common.{ℕ, ◌+◌, ◌-◌, ◌≤◌}
use Rattle.std.specs.Prelude.{vec_len}
use Rattle.rn_xml.specs.Infoset.{Nodes}
use Rattle.rn_xml.specs.DocumentTrees.{AreChildren}
use Rattle.rn_translate.specs.inside.Walks.{IsOutside}
use Rattle.rn_translate.proofs.document_parts.behind_texts.Given as goal

abbrev pub decreases-texts : goal.decreases-texts
decreases-texts l = vec_len l.document.texts - l.next

abbrev pub invariant-texts : goal.invariant-texts
invariant-texts l = (k : Nodes) (after : ℕ) → AreChildren l.document l.index (l.index + 1) l.text k l.end after → IsOutside l.document l.index l.end after → (l.text ≤ l.next) × (l.next ≤ after)
