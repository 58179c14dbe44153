-- Parts of patterns: what is left of a production behind its front (compact syntax, section 2, pattern).
use Rattle.std.specs.Prelude.{ℕ, List, ◌∷◌, Some}
use Rattle.rn_syntax.specs.declared.tree.Postfix.{Postfix}
use Rattle.rn_syntax.specs.Terminal.{◌#◌, postfix, minus, left_brace, right_brace}
use Rattle.rn_syntax.specs.Tree as tree
use Rattle.rn_syntax.specs.Tree.{Datatype, Params, NameClass, Pattern}
use Rattle.rn_syntax.specs.Grammar.{Tokens, AreFollows, IsLiteral, MayHaveParams, IsNameClass, IsPattern, IsPrimary}
use Rattle.rn_syntax.specs.inside.Sequence.{Then, Gives, IsToken}
use Rattle.rn_syntax.specs.inside.Readers.{Bare}

-- follow*, behind the postfix of an operand
abbrev pub BehindPostfix : Postfix → Pattern → Tokens → Pattern → Tokens → Type 0
BehindPostfix s p = Then (Bare AreFollows) (λ (u : Unit {0}). Gives (tree.repeated s p))

-- [ postfix follow* ], behind the primary of an operand
pub data BehindPrimary (p : Pattern) : Tokens → Pattern → Tokens → Type 0 where
  alone : {ts : Tokens} → BehindPrimary p ts p ts
  repeated : {s : Postfix} {i : ℕ} {ts rest : Tokens} → AreFollows ts rest → BehindPrimary p (postfix s # i ∷ ts) (tree.repeated s p) rest

-- follow* [ postfix follow* ], behind the core of an operand
abbrev pub BehindCore : Pattern → Tokens → Pattern → Tokens → Type 0
BehindCore p = Then (Bare AreFollows) (λ (u : Unit {0}). BehindPrimary p)

-- literal, behind the datatype of a value
abbrev pub IsTypedValue : Datatype → Tokens → Pattern → Tokens → Type 0
IsTypedValue d = Then IsLiteral (λ s. Gives (tree.value (Some d) s))

-- what is behind the parameters of an operand
pub data BehindParams (d : Datatype) (ps : Params) : Tokens → Pattern → Tokens → Type 0 where
  followed : {ts rest : Tokens} {p : Pattern} → BehindCore (tree.datum d ps) ts p rest → BehindParams d ps ts p rest
  excepted : {i : ℕ} {ts rest : Tokens} {p : Pattern} → IsPrimary ts p rest → BehindParams d ps (minus # i ∷ ts) (tree.datum_but d ps i p) rest

-- literal | [ "{" param* "}" ], behind the datatype of a core
pub data IsDataEnd (d : Datatype) : Tokens → Pattern → Tokens → Type 0 where
  valued : {s : List ℕ} {ts rest : Tokens} → IsLiteral ts s rest → IsDataEnd d ts (tree.value (Some d) s) rest
  datum : {ps : Params} {ts rest : Tokens} → MayHaveParams ts ps rest → IsDataEnd d ts (tree.datum d ps) rest

-- what is behind the datatype of an operand: the rest of a primary and of what repeats it, or an except
pub data BehindDatatype (d : Datatype) : Tokens → Pattern → Tokens → Type 0 where
  plain : {ts after mid rest : Tokens} {c p : Pattern} → IsDataEnd d ts c after → AreFollows after mid → BehindPrimary c mid p rest → BehindDatatype d ts p rest
  except : {i : ℕ} {ts after rest : Tokens} {ps : Params} {p : Pattern} → MayHaveParams ts ps (minus # i ∷ after) → IsPrimary after p rest
      → BehindDatatype d ts (tree.datum_but d ps i p) rest

-- "{" pattern "}"
abbrev pub IsBraced : Tokens → Pattern → Tokens → Type 0
IsBraced = Then (IsToken left_brace) (λ i. Then IsPattern (λ p. Then (IsToken right_brace) (λ j. Gives p)))

-- nc "{" pattern "}"
abbrev pub IsNamed : Tokens → NameClass × Pattern → Tokens → Type 0
IsNamed = Then IsNameClass (λ c. Then IsBraced (λ p. Gives {A = NameClass × Pattern} (c, p)))
