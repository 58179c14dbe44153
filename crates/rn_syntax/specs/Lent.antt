-- Which literals of includes are slices of the source: those of one segment without escape and carriage return (compact syntax, section 2, include).
use Rattle.std.specs.Prelude.{◌≡◌, ℕ, ◌+◌, ◌<◌, ◌≤◌, ◌&&◌, not, Bool, true, false, List, [], ◌∷◌, Some, ⊤, map, drop}
use Rattle.std.specs.List.{flat_map, slice_get}
use Rattle.std.specs.Cow.{cow_str_bytes}
use Rattle.std.specs.Str.{chars}
use Rattle.std.specs.declared.alloc.Global.{Global}
use Rattle.std.specs.declared.borrow.CowStr.{CowStr}
use Rattle.std.specs.declared.borrow.CowStr.TheVariants as text
use Rattle.rn_text.specs.declared.keywords.Keyword.TheVariants as k
use Rattle.rn_text.specs.declared.source.Token.{Token}
use Rattle.rn_text.specs.Segments.{between_delimiters, is_verbatim}
use Rattle.rn_syntax.specs.declared.tree.Item as code_item
use Rattle.rn_syntax.specs.declared.tree.Item.TheOpen.{Item-F, Include-F}
use Rattle.rn_syntax.specs.Terminal.{◌#◌, keyword, tilde}
use Rattle.rn_syntax.specs.Grammar.{Tokens, IsLiteral}
use Rattle.rn_syntax.specs.TokenTerminals.{terminals_of}

-- a slice of the source, and no copy
abbrev pub is_borrowed : CowStr Global → Bool
is_borrowed (text.Borrowed s) = true
is_borrowed (text.Owned s) = false

-- whether a segment is written as its text: no escape is in it, and no carriage return
abbrev pub is_written : Token → Bool
is_written x = is_verbatim (between_delimiters (chars x.text.now))

-- whether `~` comes next, which joins another segment
abbrev pub is_joined : Tokens → Bool
is_joined (tilde # i ∷ ts) = true
is_joined ts = false

-- the token at this index is `include`, and the literal behind it is this one: a slice of the source exactly where it is one segment that is written as its text
pub record IsLent (xs : List Token) (at : ℕ) (literal : CowStr Global) : Type 0 where
  pub place : ℕ
  pub segment : Token
  pub behind : Tokens
  pub include : drop at (terminals_of xs) ≡ keyword k.Include # place ∷ drop (at + 1) (terminals_of xs)
  pub is : IsLiteral (drop (at + 1) (terminals_of xs)) (cow_str_bytes literal) behind
  pub first : slice_get xs (at + 1) ≡ Some segment
  pub lent : is_borrowed literal ≡ (is_written segment && not (is_joined (drop (at + 2) (terminals_of xs))))

-- so are these literals, each behind an `include` of its own, in the order of the tokens from one index up to another
abbrev pub AreLent : List Token → ℕ → ℕ → List (CowStr Global) → Type 0
AreLent xs from to [] = ⊤
AreLent xs from to (s ∷ ss) = (at : ℕ) × (from ≤ at) × (at < to) × IsLent xs at s × AreLent xs (at + 1) to ss

-- the literals of includes as the code has them, in the order of the text: one level, with those of each item inside
abbrev pub include_literals : Include-F (List (CowStr Global)) (List (CowStr Global)) → List (CowStr Global)
include_literals i = i.wanted ∷ flat_map (λ ss. ss) i.items.items

abbrev pub literals_step : Item-F (List (CowStr Global)) (List (CowStr Global)) → List (CowStr Global)
literals_step (Item-F.Define x w p) = []
literals_step (Item-F.Start w p) = []
literals_step (Item-F.Div xs) = flat_map (λ ss. ss) xs.items
literals_step (Item-F.Include i) = i.value

abbrev pub item_literals : code_item.Item → List (CowStr Global)
item_literals = code_item.fold-Item (List (CowStr Global)) (List (CowStr Global)) literals_step include_literals

abbrev pub items_literals : List code_item.Item → List (CowStr Global)
items_literals xs = flat_map (λ ss. ss) (map item_literals xs)
