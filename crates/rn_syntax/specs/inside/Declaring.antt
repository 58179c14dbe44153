-- Parts of declarations: what is left of them behind their first word (compact syntax, section 2, decl).
use Rattle.std.specs.Prelude.{ℕ, List, ◌∷◌, Option, Some, None}
use Rattle.rn_text.specs.declared.keywords.Keyword.TheVariants as k
use Rattle.rn_syntax.specs.declared.tree.Method.TheVariants as m
use Rattle.rn_syntax.specs.Terminal.{Terminal, ◌#◌, keyword, assign}
use Rattle.rn_syntax.specs.Tree as t
use Rattle.rn_syntax.specs.Tree.{Declaration}
use Rattle.rn_syntax.specs.Grammar.{Tokens, IsWord, IsLiteral, IsUri}
use Rattle.rn_syntax.specs.inside.Sequence.{Then, Gives, IsToken, IsOf, IsPrefixAt}

-- "=" uri, which makes the declaration
abbrev pub IsUriEnd : (t.Uri → Declaration) → Tokens → Declaration → Tokens → Type 0
IsUriEnd f = Then (IsToken (assign m.Plain)) (λ i. Then IsUri (λ u. Gives (f u)))

-- word "=" uri
abbrev pub IsNamespaceEnd : Tokens → Declaration → Tokens → Type 0
IsNamespaceEnd = Then (IsOf IsPrefixAt) (λ p. IsUriEnd (t.namespace p.0 p.1))

-- word "=" literal
abbrev pub IsDatatypesEnd : Tokens → Declaration → Tokens → Type 0
IsDatatypesEnd = Then (IsOf IsPrefixAt) (λ p. Then (IsToken (assign m.Plain)) (λ i. Then IsLiteral (λ s. Gives (t.datatypes p.0 p.1 s))))

-- [word]
pub data MayHaveDefaultPrefix : Tokens → Option (List ℕ × ℕ) → Tokens → Type 0 where
  no_prefix : {ts : Tokens} → MayHaveDefaultPrefix ts None ts
  prefix : {x : Terminal} {n : List ℕ} {i : ℕ} {ts : Tokens} → IsWord x n → MayHaveDefaultPrefix (x # i ∷ ts) (Some (n, i)) ts

-- "namespace" [word] "=" uri
abbrev pub IsDefaultEnd : ℕ → Tokens → Declaration → Tokens → Type 0
IsDefaultEnd start = Then (IsToken (keyword k.Namespace)) (λ i. Then MayHaveDefaultPrefix (λ p. IsUriEnd (t.default start p)))
