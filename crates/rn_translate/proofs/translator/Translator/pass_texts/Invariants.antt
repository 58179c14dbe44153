-- The texts so far are passed.
use Rattle.std.proofs.Common.{◌≡◌, ℕ, ◌-◌, ◌<◌}
use Rattle.std.specs.Prelude.{vec_len}
use Rattle.rn_xml.specs.Infoset.{Nodes}
use Rattle.rn_xml.specs.DocumentTrees.{AreChildren}
use Rattle.rn_translate.specs.inside.Walks.{IsOutside, TextsSkipped}
use Rattle.rn_translate.proofs.translator.Translator.pass_texts.Given as goal

abbrev pub decreases-texts : goal.decreases-texts
decreases-texts l = vec_len l.document.texts - l.self.text

abbrev pub invariant-texts : goal.invariant-texts
invariant-texts l = record {
  same : l.self ≡ record l.initial.self { text = l.self.text };
  left : (k : Nodes) (behind after : ℕ) → l.«open».index < l.next → AreChildren l.document l.«open».index l.next l.initial.self.text k behind after
      → IsOutside l.document l.«open».index behind after → TextsSkipped l.document l.«open».index l.next l.self.text k behind after;
}
