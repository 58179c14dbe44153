-- The next token.
use Rattle.std.proofs.Common.{◌≡◌, ℕ, zero, suc, ◌+◌, ◌-◌, ◌<◌, ◌≤◌, List, [], ◌∷◌, length, get_or, Option, Some, None, refl, ap, sym, ◌∙◌, subst, arith, unwrap_or, Bool, true, false}
use Rattle.std.specs.Str.{chars}
use Rattle.std.specs.List.{slice_get}
use Rattle.std.proofs.lemmas.List.Elements.{All-get_or}
use Rattle.std.proofs.lemmas.Option.{get_or_from_slice_get}
use Rattle.rn_text.specs.declared.source.Token.{Token}
use Rattle.rn_text.specs.Tokens.{lexeme_of}
use Rattle.rn_text.specs.Keywords.{spelling}
use Rattle.rn_syntax.specs.declared.productions.terminals.Terminal as code
use Rattle.rn_syntax.specs.declared.productions.terminals.Terminal.TheVariants as c
use Rattle.rn_syntax.specs.Terminal as t
use Rattle.rn_syntax.specs.Terminal.{Terminal, Placed, ◌#◌}
use Rattle.rn_syntax.specs.Grammar.{Tokens, IsWord, by_name, by_keyword}
use Rattle.rn_syntax.specs.TokenTerminals.{placed, terminal_of}
use Rattle.rn_syntax.specs.inside.Readers.{seen, rest, IsInside, IsSegmentOf, IsNext}
use Rattle.rn_syntax.specs.Spelled.{BeginAt, last_end}
use Rattle.rn_syntax.specs.declared.tree.Method.TheVariants as m
use Rattle.rn_syntax.specs.inside.Follow.{first_terminal, is_end, no_brace, Anything}
use Rattle.rn_syntax.specs.declared.tree.Method.{Method}
use Rattle.rn_syntax.specs.inside.Sequence.{IsToken, IsOf, of, IsWordAt, word_at, IsAssign, by_method}
use Rattle.rn_syntax.specs.inside.Readers.{Stuck}
use Rattle.rn_syntax.specs.Spelled.{AreSpelled, SpellsItsKind}
use Rattle.rn_syntax.proofs.OneReading.OneClass.{word_one, is_word}
use Rattle.rn_syntax.proofs.ProductionsRead.Compose.{can_token, first_alike, token_first, stuck_here}

pub rest_cons : (xs : List Token) (at : ℕ) (d : Token) → at < length xs → rest xs at ≡ placed (lexeme_of (get_or xs at d)) ∷ rest xs (at + 1)
rest_cons [] at d h = absurd (omega arith)
rest_cons (x ∷ xs) zero d h = refl
rest_cons (x ∷ xs) (suc at) d h = let e = rest_cons xs at d (omega arith) in grind (arith, e)

-- past the end nothing is left
pub rest_past : (xs : List Token) (at : ℕ) → length xs ≤ at → rest xs at ≡ []
rest_past [] zero h = refl
rest_past [] (suc at) h = refl
rest_past (x ∷ xs) zero h = absurd (omega arith)
rest_past (x ∷ xs) (suc at) h = rest_past xs at (omega arith)

next_seen : (x : Option Terminal) (y : Terminal) (i : ℕ) (now behind : Tokens) → now ≡ y # i ∷ behind → x ≡ Some y → IsNext now x behind
next_seen None y i now behind e h = cc
next_seen (Some x) y i now behind e h = let same : y ≡ x = cc in (i, e ∙ ap (λ (z : Terminal). z # i ∷ behind) same)

pub next_at : (xs : List Token) (at : ℕ) (d : Token) (x : Option Terminal) → at < length xs → x ≡ Some (terminal_of (get_or xs at d).kind (chars (get_or xs at d).text.now)) → IsNext (rest xs at) x (rest xs (at + 1))
next_at xs at d x h e = next_seen x _ (get_or xs at d).start _ _ (rest_cons xs at d h) e

-- what the next token is
pub first_next : (now behind : Tokens) (x : Option Terminal) → IsNext now x behind → first_terminal now ≡ unwrap_or x t.other
first_next now behind None e = ap first_terminal e
first_next now behind (Some x) e = ap first_terminal e.1

-- where one is seen, it is inside
pub inside_of : (x : code.Terminal) → (x ≡ c.End → ⊥) → (at len : ℕ) → IsInside x at len → at < len
inside_of c.End h at len e = absurd (h refl)
inside_of x h at len e = e

-- places
pub place_at : (xs : List Token) (at : ℕ) (d : Token) → at < length xs → BeginAt xs (rest xs at) (get_or xs at d).start
place_at xs at d h = subst (λ (ts : Tokens). BeginAt xs ts (get_or xs at d).start) (sym (rest_cons xs at d h)) refl

pub place_past : (xs : List Token) (at i : ℕ) → length xs ≤ at → i ≡ last_end xs → BeginAt xs (rest xs at) i
place_past xs at i h e = subst (λ (ts : Tokens). BeginAt xs ts i) (sym (rest_past xs at h)) e

pub last_get : (xs : List Token) (x : Token) → Some x ≡ slice_get xs (length xs - 1) → x.end ≡ last_end xs
last_get [] x e = cc
last_get (y ∷ []) x e = cc
last_get (y ∷ z ∷ ys) x e =
    let h : length (y ∷ z ∷ ys) - 1 ≡ suc (length (z ∷ ys) - 1) = omega arith in
    last_get (z ∷ ys) x (e ∙ ap (slice_get (y ∷ z ∷ ys)) h)

-- ---- what a token is not

not_left_brace : (x : code.Terminal) → (x ≡ c.LeftBrace → ⊥) → unwrap_or (seen x) t.other ≡ t.left_brace → ⊥
not_left_brace c.LeftBrace h e = h refl
not_left_brace x h e = cc

not_right_brace : (x : code.Terminal) → (x ≡ c.RightBrace → ⊥) → unwrap_or (seen x) t.other ≡ t.right_brace → ⊥
not_right_brace c.RightBrace h e = h refl
not_right_brace x h e = cc

not_right_paren : (x : code.Terminal) → (x ≡ c.RightParen → ⊥) → unwrap_or (seen x) t.other ≡ t.right_paren → ⊥
not_right_paren c.RightParen h e = h refl
not_right_paren x h e = cc

not_plain : (x : code.Terminal) → (x ≡ c.Assign m.Plain → ⊥) → unwrap_or (seen x) t.other ≡ t.assign m.Plain → ⊥
not_plain (c.Assign m.Plain) h e = h refl
not_plain x h e = cc

sees_no_brace : (x : code.Terminal) → (x ≡ c.LeftBrace → ⊥) → no_brace (unwrap_or (seen x) t.other) ≡ true
sees_no_brace c.LeftBrace h = absurd (h refl)
sees_no_brace x h = refl

-- no brace stands here, where the code saw none
pub first_no_brace : (now behind : Tokens) (x : code.Terminal) → IsNext now (seen x) behind → (x ≡ c.LeftBrace → ⊥) → no_brace (first_terminal now) ≡ true
first_no_brace now behind x e h = ap no_brace (first_next now behind (seen x) e) ∙ sees_no_brace x h

-- a segment, as the code sees it and as the grammar does
abbrev pub is_segment : Terminal → Bool
is_segment (t.segment s) = true
is_segment x = false

pub not_segment : (x : code.Terminal) → ((s : _) → x ≡ c.Segment s → ⊥) → is_segment (unwrap_or (seen x) t.other) ≡ false
not_segment (c.Segment s) h = absurd (h s refl)
not_segment x h = refl

-- another terminal than the one that is looked for stands here
pub other_token : (y : Terminal) (now behind : Tokens) (x : Option Terminal) → IsNext now x behind → (unwrap_or x t.other ≡ y → ⊥) → Stuck (IsToken y) Anything now now
other_token y now behind x e h = record {
  front = [];
  cut = refl;
  begins = can_token y;
  refuses = λ t a i r d f. h (sym (first_next now behind x e) ∙ sym (first_alike a) ∙ token_first d);
}

pub no_left_brace : (now behind : Tokens) (x : code.Terminal) → IsNext now (seen x) behind → (x ≡ c.LeftBrace → ⊥) → Stuck (IsToken t.left_brace) Anything now now
no_left_brace now behind x e h = other_token t.left_brace now behind (seen x) e (not_left_brace x h)

pub no_right_brace : (now behind : Tokens) (x : code.Terminal) → IsNext now (seen x) behind → (x ≡ c.RightBrace → ⊥) → Stuck (IsToken t.right_brace) Anything now now
no_right_brace now behind x e h = other_token t.right_brace now behind (seen x) e (not_right_brace x h)

pub no_right_paren : (now behind : Tokens) (x : code.Terminal) → IsNext now (seen x) behind → (x ≡ c.RightParen → ⊥) → Stuck (IsToken t.right_paren) Anything now now
no_right_paren now behind x e h = other_token t.right_paren now behind (seen x) e (not_right_paren x h)

pub no_plain : (now behind : Tokens) (x : code.Terminal) → IsNext now (seen x) behind → (x ≡ c.Assign m.Plain → ⊥) → Stuck (IsToken (t.assign m.Plain)) Anything now now
no_plain now behind x e h = other_token (t.assign m.Plain) now behind (seen x) e (not_plain x h)

pub no_other_method : (x : code.Terminal) (w : Method) → x ≡ c.Assign w → (w ≡ m.Plain → ⊥) → x ≡ c.Assign m.Plain → ⊥
no_other_method x w e h f = h (same_method w m.Plain (sym e ∙ f))
  where
    same_method : (v w : Method) → c.Assign v ≡ c.Assign w → v ≡ w
    same_method v w e = cc

pub no_method : (x : code.Terminal) → ((w : Method) → x ≡ c.Assign w → ⊥) → x ≡ c.Assign m.Plain → ⊥
no_method x h e = h m.Plain e

pub assign_one : {v w : Method} {i : ℕ} → IsAssign (t.assign v # i) w → w ≡ v
assign_one by_method = refl

abbrev is_assign : Terminal → Bool
is_assign (t.assign w) = true
is_assign x = false

begins_assign : {t r : Tokens} {w : Method} → IsOf IsAssign t w r → is_assign (first_terminal t) ≡ true
begins_assign (of by_method) = refl

not_assign : (x : code.Terminal) → ((w : Method) → x ≡ c.Assign w → ⊥) → is_assign (unwrap_or (seen x) t.other) ≡ false
not_assign (c.Assign w) h = absurd (h w refl)
not_assign x h = refl

pub no_assign : (now behind : Tokens) (x : code.Terminal) → IsNext now (seen x) behind → ((w : Method) → x ≡ c.Assign w → ⊥) → Stuck (IsOf IsAssign) Anything now now
no_assign now behind x e h = stuck_here is_assign (λ t a r d. begins_assign d) (ap is_assign (first_next now behind (seen x) e) ∙ not_assign x h) (λ more. (t.assign m.Plain # 0 ∷ more, m.Plain, of by_method))

pub word_at_one : {x : Terminal} {n l : List ℕ} {i : ℕ} → IsWord x n → IsWordAt (x # i) l → l ≡ n
word_at_one a (word_at b) = word_one b a

begins_word : {t r : Tokens} {n : List ℕ} → IsOf IsWordAt t n r → is_word (first_terminal t) ≡ true
begins_word (of (word_at by_name)) = refl
begins_word (of (word_at by_keyword)) = refl

not_word : (x : code.Terminal) → ((n : _) → x ≡ c.Ident n → ⊥) → ((w : _) → x ≡ c.Keyword w → ⊥) → is_word (unwrap_or (seen x) t.other) ≡ false
not_word (c.Ident n) h k = absurd (h n refl)
not_word (c.Keyword w) h k = absurd (k w refl)
not_word x h k = refl

pub no_word : (now behind : Tokens) (x : code.Terminal) → IsNext now (seen x) behind → ((n : _) → x ≡ c.Ident n → ⊥) → ((w : _) → x ≡ c.Keyword w → ⊥) → Stuck (IsOf IsWordAt) Anything now now
no_word now behind x e h k = stuck_here is_word (λ t a r d. begins_word d) (ap is_word (first_next now behind (seen x) e) ∙ not_word x h k) (λ more. (t.ident [] # 0 ∷ more, [], of (word_at by_name)))

pub spelled_at : (xs : List Token) (at : ℕ) (d : Token) → at < length xs → AreSpelled xs → SpellsItsKind (get_or xs at d)
spelled_at xs at d h s = All-get_or SpellsItsKind xs at d h s

-- a segment that is seen there is that token
pub segment_at : (xs : List Token) (at : ℕ) (d : Token) (r : code.Terminal) → at < length xs → IsSegmentOf r (get_or xs at d) → (x : Token) → slice_get xs at ≡ Some x → IsSegmentOf r x
segment_at xs at d r h s x e = subst (IsSegmentOf r) (get_or_from_slice_get xs at x d e) s

-- a token that is there
pub token_at : (xs : List Token) (at : ℕ) → at < length xs → (x : Terminal) × (i : ℕ) × (rest xs at ≡ x # i ∷ rest xs (at + 1))
token_at [] at h = absurd (omega arith)
token_at (y ∷ xs) zero h = (terminal_of y.kind (chars y.text.now), y.start, refl)
token_at (y ∷ xs) (suc at) h =
    let n = token_at xs at (omega arith) in
    let e : rest xs (at + 1) ≡ rest (y ∷ xs) (suc at + 1) = let a : suc at + 1 ≡ suc (at + 1) = omega arith in ap (rest (y ∷ xs)) (sym a) in
    (n.0, n.1, n.2 ∙ ap (λ (l : Tokens). n.0 # n.1 ∷ l) e)

brace_is : (x : Terminal) → is_end x ≡ true → x ≡ t.right_brace
brace_is t.right_brace e = refl
brace_is x e = cc

pub brace_at : (xs : List Token) (at : ℕ) → at < length xs → is_end (first_terminal (rest xs at)) ≡ true → (i : ℕ) × (rest xs at ≡ t.right_brace # i ∷ rest xs (at + 1))
brace_at xs at h e =
    let n = token_at xs at h in
    let same : n.0 ≡ t.right_brace = brace_is n.0 (sym (ap (λ (l : Tokens). is_end (first_terminal l)) n.2) ∙ e) in
    (n.1, n.2 ∙ ap (λ (y : Terminal). y # n.1 ∷ rest xs (at + 1)) same)

pub place_is : (xs : List Token) {ts next : Tokens} {x : Terminal} {i j : ℕ} → ts ≡ x # i ∷ next → BeginAt xs ts j → j ≡ i
place_is xs {j = j} e h = subst (λ (l : Tokens). BeginAt xs l j) e h

-- this terminal, where it is the first
pub terminal_at : (xs : List Token) (at : ℕ) (y : Terminal) → at < length xs → first_terminal (rest xs at) ≡ y → (i : ℕ) × (rest xs at ≡ y # i ∷ rest xs (at + 1))
terminal_at xs at y h e =
    let n = token_at xs at h in
    let same : n.0 ≡ y = sym (ap first_terminal n.2) ∙ e in
    (n.1, n.2 ∙ ap (λ (x : Terminal). x # n.1 ∷ rest xs (at + 1)) same)

pub word_at_keyword : {w : _} {s : List ℕ} → s ≡ spelling w → IsWord (t.keyword w) s
word_at_keyword {w = w} e = subst (λ (x : List ℕ). IsWord (t.keyword w) x) (sym e) by_keyword

-- the second token after this one
pub next_two : (xs : List Token) (at : ℕ) {ts : Tokens} {y : Placed} → ts ≡ y ∷ rest xs (at + 1 + 1) → ts ≡ y ∷ rest xs (at + 2)
next_two xs at {y = y} e = let h : at + 1 + 1 ≡ at + 2 = omega arith in e ∙ ap (λ (n : ℕ). y ∷ rest xs n) h

-- the index behind two tokens
pub next_index : (xs : List Token) (at : ℕ) → rest xs (at + 1 + 1) ≡ rest xs (at + 2)
next_index xs at = let h : at + 1 + 1 ≡ at + 2 = omega arith in ap (rest xs) h
