-- Parts of items: one item, and what is left of it behind its first token (compact syntax, section 2, grammarContent and
-- includeContent).
use Rattle.std.specs.Prelude.{◌≡◌, ℕ, List, ◌∷◌, ◌++◌, Option, Bool, true, false}
use Rattle.rn_text.specs.declared.keywords.Keyword.TheVariants as k
use Rattle.rn_syntax.specs.Terminal.{Terminal, ◌#◌, ident, keyword, prefixed, left_brace, right_brace, left_bracket}
use Rattle.rn_syntax.specs.Tree as t
use Rattle.rn_syntax.specs.Tree.{Item, items_of}
use Rattle.rn_syntax.specs.Grammar.{Tokens, IsLiteral, IsComponent, AreItems, AreInnerItems, MayInherit, MayHaveOverrides}
use Rattle.rn_syntax.specs.inside.Sequence.{Then, Gives, IsToken}

-- an item or a note begins
abbrev pub begins_item : Terminal → Bool
begins_item (ident n) = true
begins_item (prefixed n l) = true
begins_item (keyword k.Start) = true
begins_item (keyword k.Div) = true
begins_item (keyword k.Include) = true
begins_item left_bracket = true
begins_item x = false

-- an inner item or a note begins
abbrev pub begins_inner : Terminal → Bool
begins_inner (keyword k.Include) = false
begins_inner x = begins_item x

-- define | start | "div" "{" item* "}" | include
pub data IsItem : Tokens → Item → Tokens → Type 0 where
  component : {ts rest : Tokens} {x : Item} → IsComponent ts x rest → IsItem ts x rest
  div : {i j l : ℕ} {ts rest : Tokens} {ys : List Item} → AreItems ts ys (right_brace # l ∷ rest) → IsItem (keyword k.Div # i ∷ left_brace # j ∷ ts) (t.div (items_of ys)) rest
  include : {i : ℕ} {s : List ℕ} {h : Option (List ℕ × ℕ)} {ts behind own rest : Tokens} {ys : List Item}
      → IsLiteral ts s behind → MayInherit behind h own → MayHaveOverrides own ys rest → IsItem (keyword k.Include # i ∷ ts) (t.include s h (items_of ys)) rest

-- define | start | "div" "{" inner* "}"
pub data IsInnerItem : Tokens → Item → Tokens → Type 0 where
  component : {ts rest : Tokens} {x : Item} → IsComponent ts x rest → IsInnerItem ts x rest
  div : {i j l : ℕ} {ts rest : Tokens} {ys : List Item} → AreInnerItems ts ys (right_brace # l ∷ rest) → IsInnerItem (keyword k.Div # i ∷ left_brace # j ∷ ts) (t.div (items_of ys)) rest

-- a list of items, `}`, and what these items make of what follows
abbrev pub UpToBrace : {C : Type 0} → (Tokens → List Item → Tokens → Type 0) → (List Item → Tokens → C → Tokens → Type 0) → Tokens → C → Tokens → Type 0
UpToBrace L M = Then L (λ xs. Then (IsToken right_brace) (λ j. M xs))

-- `{`, a list of items, `}`, and what these items make of what follows
abbrev pub InBraces : {C : Type 0} → (Tokens → List Item → Tokens → Type 0) → (List Item → Tokens → C → Tokens → Type 0) → Tokens → C → Tokens → Type 0
InBraces L M = Then (IsToken left_brace) (λ i. UpToBrace L M)

-- "{" item* "}", behind `div`
abbrev pub IsDivEnd : Tokens → Item → Tokens → Type 0
IsDivEnd = InBraces AreItems (λ xs. Gives (t.div (items_of xs)))

-- "{" inner* "}", behind `div`
abbrev pub IsInnerDivEnd : Tokens → Item → Tokens → Type 0
IsInnerDivEnd = InBraces AreInnerItems (λ xs. Gives (t.div (items_of xs)))

-- literal [ "inherit" "=" word ] [ "{" inner* "}" ], behind `include`
abbrev pub IsIncludeEnd : Tokens → Item → Tokens → Type 0
IsIncludeEnd = Then IsLiteral (λ s. Then MayInherit (λ h. Then MayHaveOverrides (λ ys. Gives (t.include s h (items_of ys)))))

-- item*, behind items that were read
pub record AreItemsBehind (read : List Item) (ts : Tokens) (all : List Item) (rest : Tokens) : Type 0 where
  pub more : List Item
  pub is : all ≡ read ++ more
  pub behind : AreItems ts more rest
