-- Productions in sequence: what is read first, and what comes of it.
use Rattle.std.specs.Prelude.{◌≡◌, ℕ, List, ◌∷◌, Bool, true, false}
use Rattle.rn_syntax.specs.declared.tree.Method.{Method}
use Rattle.rn_syntax.specs.declared.tree.Method.TheVariants as m
use Rattle.rn_syntax.specs.Terminal.{Terminal, Placed, ◌#◌, assign, ident, prefixed, segment, left_bracket}
use Rattle.rn_syntax.specs.Grammar.{Tokens, IsWord, IsFollowName, IsAnnotation, MayHaveAnnotation, IsLiteral, IsClassCore, AreFollows}
use Rattle.rn_syntax.specs.Tree as t
use Rattle.rn_syntax.specs.Tree.{NameClass, AnyName}

-- an N, and then what it makes of what follows
pub data Then {A C : Type 0} (N : Tokens → A → Tokens → Type 0) (M : A → Tokens → C → Tokens → Type 0) : Tokens → C → Tokens → Type 0 where
  both : {a : A} {c : C} {ts mid rest : Tokens} → N ts a mid → M a mid c rest → Then N M ts c rest

-- nothing more: this is what the tokens stand for
pub data Gives {A : Type 0} (x : A) : Tokens → A → Tokens → Type 0 where
  gives : {ts : Tokens} → Gives x ts x ts

-- this terminal, with its place
pub data IsToken (x : Terminal) : Tokens → ℕ → Tokens → Type 0 where
  token : {i : ℕ} {ts : Tokens} → IsToken x (x # i ∷ ts) i ts

-- a token of which this holds
pub data IsOf {A : Type 0} (P : Placed → A → Type 0) : Tokens → A → Tokens → Type 0 where
  of : {x : Placed} {a : A} {ts : Tokens} → P x a → IsOf P (x ∷ ts) a ts

-- word
pub data IsWordAt : Placed → List ℕ → Type 0 where
  word_at : {x : Terminal} {n : List ℕ} {i : ℕ} → IsWord x n → IsWordAt (x # i) n

-- word, with its place
pub data IsPrefixAt : Placed → List ℕ × ℕ → Type 0 where
  prefix_at : {x : Terminal} {n : List ℕ} {i : ℕ} → IsWord x n → IsPrefixAt (x # i) (n, i)

-- assign = "=" | "|=" | "&="
pub data IsAssign : Placed → Method → Type 0 where
  by_method : {w : Method} {i : ℕ} → IsAssign (assign w # i) w

-- ( word | Prefixed ) ann, behind a `>>`
pub data IsFollow : Tokens → Tokens → Type 0 where
  named : {x : Terminal} {i : ℕ} {ts rest : Tokens} → IsFollowName x → IsAnnotation ts rest → IsFollow (x # i ∷ ts) rest

-- a note comes, not an item
abbrev pub is_note : Tokens → Bool
is_note (prefixed n l # i ∷ ts) = true
is_note (ident n # i ∷ left_bracket # j ∷ ts) = true
is_note ts = false

-- Segment, and its text
pub data IsSegment : Tokens → List ℕ → Tokens → Type 0 where
  segment_here : {s : List ℕ} {i : ℕ} {rest : Tokens} → IsSegment (segment s # i ∷ rest) s rest

-- the first token is one of which this holds
pub record IsHere {A : Type 0} (P : Placed → A → Type 0) (ts : Tokens) (a : A) (rest : Tokens) : Type 0 where
  pub token : Placed
  pub holds : P token a
  pub here : ts ≡ token ∷ rest

-- param = [ann] word "=" literal
abbrev pub IsParam : Tokens → List ℕ × List ℕ → Tokens → Type 0
IsParam = Then (λ ts (u : Unit {0}) rest. MayHaveAnnotation ts rest) (λ u. Then (IsOf IsWordAt) (λ n. Then (IsToken (assign m.Plain)) (λ i. Then IsLiteral (λ s. Gives (n, s)))))

-- what is behind the annotation of a name in a name class
abbrev pub IsClassEnd : Tokens → NameClass → Tokens → Type 0
IsClassEnd = Then IsClassCore (λ c. Then (λ ts (u : Unit {0}) rest. AreFollows ts rest) (λ u. Gives c))

-- follow*, behind `*` or a name before `:*`
abbrev pub IsAnyClassEnd : AnyName → Tokens → NameClass → Tokens → Type 0
IsAnyClassEnd a = Then (λ ts (u : Unit {0}) rest. AreFollows ts rest) (λ u. Gives (t.all a))
