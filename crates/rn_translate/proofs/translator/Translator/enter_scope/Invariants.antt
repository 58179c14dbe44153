-- The declarations so far are entered, and nothing else changed.
use Rattle.std.proofs.Common.{◌≡◌, ◌++◌, take}
use Rattle.std.specs.Prelude.{map}
use Rattle.rn_xml.specs.XmlTags.{AreDistinct, Scope}
use Rattle.rn_xml.specs.DocumentTrees.{binding_of}
use Rattle.rn_translate.specs.inside.ElementsMeant.{IsInScope}
use Rattle.rn_translate.proofs.translator.Translator.enter_scope.Given as goal

abbrev pub invariant-declarations : goal.invariant-declarations
invariant-declarations l = record {
  same : l.self ≡ record l.initial.self { scopes = l.self.scopes };
  scope : (s : Scope) → IsInScope l.initial.self s → AreDistinct (map (binding_of l.initial.self.document.now) l.declaration-items)
      → IsInScope l.self (map (binding_of l.initial.self.document.now) (take l.before l.declaration-items) ++ s);
}
