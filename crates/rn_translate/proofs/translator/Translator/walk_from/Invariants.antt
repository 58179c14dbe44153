-- Each step passes an element, or ends one. The terms so far and those that are left are the whole.
use Rattle.std.proofs.Common.{◌≡◌, ◌+◌, ◌-◌, ◌*◌, List, [], ◌∷◌}
use Rattle.std.specs.Prelude.{vec_len}
use Rattle.rn_translate.specs.Terms.{Term}
use Rattle.rn_translate.specs.inside.OpenLevels.{IsWalked}
use Rattle.rn_translate.specs.declared.translator.Translator.{Translator}
use Rattle.rn_translate.proofs.translator.Translator.walk_from.Given as goal

abbrev pub decreases-levels : goal.decreases-levels
decreases-levels l = 2 * (vec_len l.document.elements - l.next) + vec_len l.levels

abbrev pub invariant-levels : goal.invariant-levels
invariant-levels l = (start : Translator) (whole : List Term) → l.document ≡ start.document.now → IsWalked start l.initial.self (l.fn.root ∷ []) l.first whole
    → IsWalked start l.self l.levels.items l.next whole
