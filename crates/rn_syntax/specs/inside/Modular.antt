-- Parts of modules (compact syntax, section 2, topLevel).
use Rattle.std.specs.Prelude.{ℕ, List, ◌∷◌}
use Rattle.rn_text.specs.declared.source.Token.{Token}
use Rattle.rn_text.specs.declared.keywords.Keyword.TheVariants as k
use Rattle.rn_syntax.specs.declared.fault.Fault.{Fault}
use Rattle.rn_syntax.specs.declared.fault.Fault.TheVariants as f
use Rattle.rn_syntax.specs.Terminal.{◌#◌, keyword, left_brace, right_brace}
use Rattle.rn_syntax.specs.Tree.{Item, Module, items_of}
use Rattle.rn_syntax.specs.Grammar.{Tokens, MayHaveAnnotation, AreFollows, AreItems, AreDeclarations}
use Rattle.rn_syntax.specs.Beginnings.{Stops}
use Rattle.rn_syntax.specs.inside.Sequence.{Then, Gives, IsToken}
use Rattle.rn_syntax.specs.inside.Readers.{Bare, rest}
use Rattle.rn_syntax.specs.Spelled.{AreSpelled}
use Rattle.rn_syntax.specs.inside.Itemizing.{AreAnnotatedItems}

-- "{" item* "}" follow*
abbrev pub IsGrammarEnd : Tokens → List Item → Tokens → Type 0
IsGrammarEnd = Then (IsToken left_brace) (λ i. Then AreItems (λ xs. Then (IsToken right_brace) (λ j. Then (Bare AreFollows) (λ u. Gives xs))))

-- item* | [ann] "grammar" "{" item* "}" follow*
pub data IsBody : Tokens → List Item → Tokens → Type 0 where
  items_body : {ts rest : Tokens} {xs : List Item} → AreItems ts xs rest → IsBody ts xs rest
  grammar_body : {i : ℕ} {ts mid rest : Tokens} {xs : List Item} → MayHaveAnnotation ts (keyword k.Grammar # i ∷ mid) → IsGrammarEnd mid xs rest → IsBody ts xs rest

-- a module's body behind an annotation: the items of which the first has it, or `grammar` and its items in braces
pub data IsAnnotatedBody : Tokens → List Item → Tokens → Type 0 where
  items_behind : {ts rest : Tokens} {xs : List Item} → AreAnnotatedItems ts xs rest → IsAnnotatedBody ts xs rest
  grammar_behind : {i : ℕ} {mid rest : Tokens} {xs : List Item} → IsGrammarEnd mid xs rest → IsAnnotatedBody (keyword k.Grammar # i ∷ mid) xs rest

-- a module, before other tokens
abbrev pub IsModuleBefore : Tokens → Module → Tokens → Type 0
IsModuleBefore = Then AreDeclarations (λ ds. Then IsBody (λ xs. Gives (record { declarations = ds; items = items_of xs })))

-- the reader of a module stopped where none goes on
abbrev pub IsModuleFault : List Token → Fault → Type 0
IsModuleFault xs (f.Stuck bad) = AreSpelled xs → Stops (rest xs 0) (rest xs bad)
IsModuleFault xs f.Memory = Unit {0}
