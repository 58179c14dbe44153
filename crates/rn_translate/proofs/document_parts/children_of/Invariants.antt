-- The children before the next one are counted.
use Rattle.std.proofs.Common.{ℕ, ◌-◌, ◌+◌, ◌<◌}
use Rattle.rn_xml.specs.Infoset.{Nodes}
use Rattle.rn_xml.specs.DocumentTrees.{AreChildren}
use Rattle.rn_translate.specs.inside.Walks.{AreNested}
use Rattle.rn_translate.proofs.ChildCounts.{Counted}
use Rattle.rn_translate.proofs.document_parts.children_of.Given as goal

abbrev pub decreases-children : goal.decreases-children
decreases-children l = l.end - l.next

abbrev pub invariant-children : goal.invariant-children
invariant-children l = record {
  small : l.children.count < l.next;
  counted : (t after : ℕ) (k : Nodes) → AreNested l.document → AreChildren l.document l.index (l.index + 1) t k l.end after
      → Counted l.document l.index l.next l.end after k l.children.count l.children.has_except;
}
