-- Items of which the first stands behind its annotation (compact syntax, section 2, grammarContent).
use Rattle.std.specs.Prelude.{List, ◌∷◌}
use Rattle.rn_syntax.specs.Tree.{Item}
use Rattle.rn_syntax.specs.Grammar.{Tokens, AreItems}
use Rattle.rn_syntax.specs.inside.Including.{IsItem}

pub data AreAnnotatedItems : Tokens → List Item → Tokens → Type 0 where
  first_items : {ts mid rest : Tokens} {x : Item} {xs : List Item} → IsItem ts x mid → AreItems mid xs rest → AreAnnotatedItems ts (x ∷ xs) rest
