-- What readers of tokens see, and what their answers say of the grammar.
use Rattle.std.specs.Prelude.{◌≡◌, ℕ, List, [], ◌∷◌, ◌++◌, Option, Some, None, Result, Ok, Err, Bool, true, not, ◌&&◌, ◌==◌, drop, ◌+◌, ◌<◌}
use Rattle.std.specs.Str.{chars, encode_utf8_all}
use Rattle.rn_text.specs.Characters.{is_name_char}
use Rattle.rn_text.specs.declared.source.Token.{Token}
use Rattle.rn_text.specs.Segments.{after_run, run_of, segment_text, is_segment}
use Rattle.rn_syntax.specs.Terminal as t
use Rattle.rn_syntax.specs.Terminal.{Terminal, Placed, ◌#◌}
use Rattle.rn_syntax.specs.Grammar.{Tokens}
use Rattle.rn_syntax.specs.Spelled.{AreSpelled}
use Rattle.rn_syntax.specs.TokenTerminals.{terminals_of}
use Rattle.rn_syntax.specs.inside.Follow.{Anything}
use Rattle.rn_syntax.specs.inside.Sequence.{IsToken}
use Rattle.rn_syntax.specs.declared.fault.Fault.{Fault}
use Rattle.rn_syntax.specs.declared.fault.Fault.TheVariants as f
use Rattle.rn_syntax.specs.declared.productions.terminals.Terminal as code
use Rattle.rn_syntax.specs.declared.productions.terminals.Terminal.TheVariants as c

-- there is a token at this index, if the code saw one
abbrev pub IsInside : code.Terminal → ℕ → ℕ → Type 0
IsInside c.End at len = Unit {0}
IsInside _ at len = at < len

-- a character that neither an escape nor a line end of two characters begins with
abbrev pub is_plain : ℕ → Bool
is_plain c = not (c == 92) && not (c == 13)

-- a segment that the code saw is one
abbrev pub IsWhole : code.Terminal → Type 0
IsWhole (c.Segment x) = is_segment (chars x.now) ≡ true
IsWhole _ = Unit {0}

-- a segment that the code saw is the text of this token
abbrev pub IsSegmentOf : code.Terminal → Token → Type 0
IsSegmentOf (c.Segment x) token = x ≡ token.text
IsSegmentOf _ token = Unit {0}

-- what the code sees of a token, as the grammar sees it: nothing at the end
abbrev pub seen : code.Terminal → Option Terminal
seen (c.Ident n) = Some (t.ident n.now)
seen (c.Keyword w) = Some (t.keyword w)
seen (c.Prefixed x) = Some (t.prefixed (encode_utf8_all (run_of is_name_char (chars x.now))) (encode_utf8_all (drop 1 (after_run is_name_char (chars x.now)))))
seen (c.AnyOf x) = Some (t.any_of (encode_utf8_all (run_of is_name_char (chars x.now))))
seen (c.Segment x) = Some (t.segment (encode_utf8_all (segment_text (chars x.now))))
seen (c.Operator op) = Some (t.operator op)
seen (c.Postfix s) = Some (t.postfix s)
seen (c.Assign w) = Some (t.assign w)
seen c.Minus = Some t.minus
seen c.Tilde = Some t.tilde
seen c.Follow = Some t.follow
seen c.LeftBrace = Some t.left_brace
seen c.RightBrace = Some t.right_brace
seen c.LeftParen = Some t.left_paren
seen c.RightParen = Some t.right_paren
seen c.LeftBracket = Some t.left_bracket
seen c.RightBracket = Some t.right_bracket
seen c.Other = Some t.other
seen c.End = None

-- the tokens from an index on
abbrev pub rest : List Token → ℕ → Tokens
rest xs at = drop at (terminals_of xs)

-- the next of these tokens, if there is one, and what follows it
abbrev pub IsNext : Tokens → Option Terminal → Tokens → Type 0
IsNext ts None behind = ts ≡ []
IsNext ts (Some x) behind = (i : ℕ) × (ts ≡ x # i ∷ behind)

-- both begin with one token, or both are at the end
pub data Alike : Tokens → Tokens → Type 0 where
  ends : Alike [] []
  same : {x : Placed} {ts us : Tokens} → Alike (x ∷ ts) (x ∷ us)

-- The front of ts up to rest is an N, which stands for x, whatever follows. Before what begins as rest does, it is no other N
-- that what may follow an N follows.
pub record Took {A : Type 0} (N : Tokens → A → Tokens → Type 0) (F : Tokens → Type 0) (ts : Tokens) (x : A) (rest : Tokens) : Type 0 where
  pub front : Tokens
  pub cut : ts ≡ front ++ rest
  pub derives : (more : Tokens) → N (front ++ more) x more
  pub only : (t : Tokens) → Alike t rest → (y : A) (r : Tokens) → N (front ++ t) y r → F r → (y ≡ x) × (r ≡ t)

-- The front of ts before bad begins an N, whatever is to follow that. Before what begins as bad does, it begins none that
-- what may follow an N follows.
pub record Stuck {A : Type 0} (N : Tokens → A → Tokens → Type 0) (F : Tokens → Type 0) (ts bad : Tokens) : Type 0 where
  pub front : Tokens
  pub cut : ts ≡ front ++ bad
  pub begins : (more : Tokens) → (w : Tokens) × (x : A) × N (front ++ w) x more
  pub refuses : (t : Tokens) → Alike t bad → (x : A) (r : Tokens) → N (front ++ t) x r → F r → ⊥

-- a reader stopped for want of memory, or where no N goes on
abbrev pub Faults : {A : Type 0} → (Tokens → A → Tokens → Type 0) → (Tokens → Type 0) → List Token → ℕ → Fault → Type 0
Faults N F xs at (f.Stuck bad) = AreSpelled xs → Stuck N F (rest xs at) (rest xs bad)
Faults N F xs at f.Memory = Unit {0}

-- a reader of an N answered what it stands for, by this view, and the index behind it
abbrev pub Reads : {A B : Type 0} → (Tokens → A → Tokens → Type 0) → (Tokens → Type 0) → (B → A) → List Token → ℕ → Result (B × ℕ) Fault → Type 0
Reads N F view xs at (Ok r) = AreSpelled xs → Took N F (rest xs at) (view r.0) (rest xs r.1)
Reads N F view xs at (Err e) = Faults N F xs at e

-- this was made of what is read up to this index, unless there was no memory for it
abbrev pub Makes : {A B : Type 0} → (B → A) → A → ℕ → Result (B × ℕ) Fault → Type 0
Makes view x behind (Ok r) = (view r.0 ≡ x) × (r.1 ≡ behind)
Makes view x behind (Err e) = e ≡ f.Memory

-- a reader of an N that is one token answered what that stands for, by this view; the index behind it is the next
abbrev pub ReadsOne : {A B : Type 0} → (Tokens → A → Tokens → Type 0) → (Tokens → Type 0) → (B → A) → List Token → ℕ → Result B Fault → Type 0
ReadsOne N F view xs at (Ok x) = AreSpelled xs → Took N F (rest xs at) (view x) (rest xs (at + 1))
ReadsOne N F view xs at (Err e) = Faults N F xs at e

-- an N that stands for nothing, as a relation to the unit
abbrev pub Bare : (Tokens → Tokens → Type 0) → Tokens → Unit {0} → Tokens → Type 0
Bare N ts u rest = N ts rest

-- a reader of an N that stands for nothing answered the index behind it
abbrev pub Skips : (Tokens → Tokens → Type 0) → (Tokens → Type 0) → List Token → ℕ → Result ℕ Fault → Type 0
Skips N F xs at (Ok behind) = AreSpelled xs → Took (Bare N) F (rest xs at) tt (rest xs behind)
Skips N F xs at (Err e) = Faults (Bare N) F xs at e

-- a reader of this terminal answered the index behind it
abbrev pub Passes : Terminal → List Token → ℕ → Result ℕ Fault → Type 0
Passes x xs at (Ok behind) = AreSpelled xs → (i : ℕ) × Took (IsToken x) Anything (rest xs at) i (rest xs behind)
Passes x xs at (Err e) = Faults (IsToken x) Anything xs at e
