-- The brackets of pieces that are written are those of the tokens that are read back.
use Rattle.std.proofs.Common.{◌≡◌, ℕ, ◌+◌, ◌-◌, ◌≤◌, ◌⊎◌, inl, inr, ⊎_elim, Bool, true, false, cond, List, [], ◌∷◌, Option, Some, None, refl, sym, ap, ◌∙◌, subst, arith, nat_lt, nat_eq}
use Rattle.std.specs.Prelude.{codes, is_some, not, option_and_then, bytes_eq, ◌||◌}
use Rattle.std.specs.List.{AllByRecursion}
use Rattle.std.specs.Str.{chars, encode_utf8_all}
use Rattle.std.proofs.lemmas.Bool.{cases_Bool}
use Rattle.std.proofs.lemmas.Bool.Decides.{nat_tests}
use Rattle.std.proofs.lemmas.Slice.Eq.{bytes_eq-Decides}
use Rattle.rn_text.specs.declared.parts.Part.{Part}
use Rattle.rn_text.specs.declared.parts.Part.TheVariants.{Space, Comment, Token}
use Rattle.rn_text.specs.declared.parts.Kind.{Kind}
use Rattle.rn_text.specs.declared.parts.Kind.TheVariants.{Name, Keyword, Quoted, Prefixed, AnyOf, Segment, Symbol}
use Rattle.rn_text.specs.Parts.{Piece}
use Rattle.rn_text.specs.Tokens.{lexemes, width}
use Rattle.rn_syntax.specs.Terminal.{Terminal, ◌#◌}
use Rattle.rn_syntax.specs.Grammar.{Tokens}
use Rattle.rn_syntax.specs.Places.{deep}
use Rattle.rn_syntax.specs.TokenTerminals.{spelled_in, symbol_rows, terminals}
use Rattle.rn_syntax.proofs.FaultPlaces.OpenBrackets.{other_deep}
use Rattle.rn_simplify.specs.inside.Writes.{Bracket, opening, closing, none, symbol_bracket, bracket_of, depth_behind, depth_after}

-- ---- a symbol

-- what a bracket does to the brackets that are open
abbrev deep_behind : Bracket → ℕ → ℕ → Tokens → Option ℕ
deep_behind opening n i ts = cond (nat_eq n 256) (Some i) (deep (n + 1) ts)
deep_behind closing n i ts = deep (n - 1) ts
deep_behind none n i ts = deep n ts

abbrev Opens : List ℕ → Type 0
Opens cs = (n i : ℕ) (ts : Tokens) → deep n (spelled_in symbol_rows cs # i ∷ ts) ≡ deep_behind (symbol_bracket cs) n i ts

-- a row that isn't the symbol's, or that is no bracket's
abbrev IsPassed : List ℕ → List ℕ × Terminal → Type 0
IsPassed cs row = (bytes_eq row.0 cs ≡ false) ⊎ ((n i : ℕ) (ts : Tokens) → deep n (row.1 # i ∷ ts) ≡ deep n ts)

rows_passed : (cs : List ℕ) (rows : List (List ℕ × Terminal)) → AllByRecursion (IsPassed cs) rows → (n i : ℕ) (ts : Tokens) → deep n (spelled_in rows cs # i ∷ ts) ≡ deep n ts
rows_passed cs [] a n i ts = refl
rows_passed cs (row ∷ rows) a n i ts = one a.0 (rows_passed cs rows a.1 n i ts) (bytes_eq row.0 cs) refl
  where
    one : IsPassed cs row → deep n (spelled_in rows cs # i ∷ ts) ≡ deep n ts → (b : Bool) → bytes_eq row.0 cs ≡ b → deep n (cond b row.1 (spelled_in rows cs) # i ∷ ts) ≡ deep n ts
    one p more false e = more
    one (inl f) more true e = absurd (let x : true ≡ false = sym e ∙ f in cc)
    one (inr f) more true e = f n i ts

no_bracket : (b c d e f g : Bool) → b ≡ false → c ≡ false → d ≡ false → e ≡ false → f ≡ false → g ≡ false → cond (b || (c || d)) opening (cond (e || (f || g)) closing none) ≡ none
no_bracket true c d e f g p q r s t u = absurd cc
no_bracket false true d e f g p q r s t u = absurd cc
no_bracket false false true e f g p q r s t u = absurd cc
no_bracket false false false true f g p q r s t u = absurd cc
no_bracket false false false false true g p q r s t u = absurd cc
no_bracket false false false false false true p q r s t u = absurd cc
no_bracket false false false false false false p q r s t u = refl

other_symbol : (cs : List ℕ) → bytes_eq (codes "{") cs ≡ false → bytes_eq (codes "(") cs ≡ false → bytes_eq (codes "[") cs ≡ false → bytes_eq (codes "}") cs ≡ false → bytes_eq (codes ")") cs ≡ false → bytes_eq (codes "]") cs ≡ false → Opens cs
unfolding symbol_rows
other_symbol cs p q r s t u n i ts =
    rows_passed cs symbol_rows (
      inr (λ _ _ _. refl),
      (
        inr (λ _ _ _. refl),
        (
          inr (λ _ _ _. refl),
          (
            inl p,
            (
              inl s,
              (
                inl q,
                (
                  inl t,
                  (
                    inl r,
                    (
                      inl u,
                      (inr (λ _ _ _. refl), (inr (λ _ _ _. refl), (inr (λ _ _ _. refl), (inr (λ _ _ _. refl), (inr (λ _ _ _. refl), (inr (λ _ _ _. refl), (inr (λ _ _ _. refl), (inr (λ _ _ _. refl), (inr (λ _ _ _. refl), tt))))))))),
                    ),
                  ),
                ),
              ),
            ),
          ),
        ),
      ),
    )
    n i ts
    ∙ ap (λ k. deep_behind k n i ts) (sym (no_bracket _ _ _ _ _ _ p q r s t u))

-- it is this symbol, or another
is_or : (w cs : List ℕ) → Opens w → (bytes_eq w cs ≡ false → Opens cs) → Opens cs
is_or w cs here there = ⊎_elim (λ e. subst (λ x. Opens x) ((bytes_eq-Decides w cs).0 e) here) there (cases_Bool (bytes_eq w cs))

symbol_opens : (cs : List ℕ) → Opens cs
unfolding symbol_rows
symbol_opens cs =
    is_or (codes "{") cs (λ _ _ _. refl) (λ p. is_or (codes "(") cs (λ _ _ _. refl) (λ q. is_or (codes "[") cs (λ _ _ _. refl) (λ r.
    is_or (codes "}") cs (λ _ _ _. refl) (λ s. is_or (codes ")") cs (λ _ _ _. refl) (λ t. is_or (codes "]") cs (λ _ _ _. refl) (λ u. other_symbol cs p q r s t u))))))

-- ---- pieces

at_most : (n : ℕ) → n ≤ 256 → nat_eq n 256 ≡ not (nat_lt n 256)
at_most n h = grind (arith, nat_tests)

opens_one : (b : Bool) (n i : ℕ) (ts : Tokens) (ps : List Piece) → (b ≡ false → is_some (deep (n + 1) ts) ≡ not (is_some (depth_after ps (n + 1)))) → is_some (cond b (Some i) (deep (n + 1) ts)) ≡ not (is_some (option_and_then (depth_after ps) (cond (not b) (Some (n + 1)) None)))
opens_one true n i ts ps h = refl
opens_one false n i ts ps h = h refl

below : (n : ℕ) → n ≤ 256 → nat_eq n 256 ≡ false → n + 1 ≤ 256
below n h e = grind (arith, nat_tests)

less : (n : ℕ) → n ≤ 256 → n - 1 ≤ 256
less n h = omega (arith, h)

not_not : (b c : Bool) → b ≡ not c → not b ≡ c
not_not true true e = absurd cc
not_not true false e = refl
not_not false true e = refl
not_not false false e = absurd cc

behind_bracket : (k : Bracket) (n i : ℕ) (ts : Tokens) (ps : List Piece) → n ≤ 256 → ((m : ℕ) → m ≤ 256 → is_some (deep m ts) ≡ not (is_some (depth_after ps m))) → is_some (deep_behind k n i ts) ≡ not (is_some (option_and_then (depth_after ps) (depth_behind k n)))
behind_bracket opening n i ts ps h f =
    opens_one (nat_eq n 256) n i ts ps (λ e. f (n + 1) (below n h e))
    ∙ ap (λ b. not (is_some (option_and_then (depth_after ps) (cond b (Some (n + 1)) None)))) (not_not (nat_eq n 256) (nat_lt n 256) (at_most n h))
behind_bracket closing n i ts ps h f = f (n - 1) (less n h)
behind_bracket none n i ts ps h f = f n h

abbrev ShownBehind : List Piece → ℕ → Type 0
ShownBehind ps j = (m : ℕ) → m ≤ 256 → is_some (deep m (terminals (lexemes j ps))) ≡ not (is_some (depth_after ps m))

other_shown : (k : Kind) (s : List ℕ) (ps : List Piece) (n i : ℕ) → (k ≡ Symbol → ⊥) → n ≤ 256 → ShownBehind ps (i + width (record { part = Token k; spelling = s }))
    → is_some (deep n (terminals (lexemes i (record { part = Token k; spelling = s } ∷ ps)))) ≡ not (is_some (depth_after ps n))
other_shown k s ps n i other h f = ap is_some (other_deep k (chars (encode_utf8_all s)) n i (terminals (lexemes (i + width (record { part = Token k; spelling = s })) ps)) other) ∙ f n h

one_shown : (k : Part) (s : List ℕ) (ps : List Piece) (n i : ℕ) → n ≤ 256 → ShownBehind ps (i + width (record { part = k; spelling = s }))
    → is_some (deep n (terminals (lexemes i (record { part = k; spelling = s } ∷ ps)))) ≡ not (is_some (option_and_then (depth_after ps) (depth_behind (bracket_of k s) n)))
one_shown Space s ps n i h f = f n h
one_shown Comment s ps n i h f = f n h
one_shown (Token Symbol) s ps n i h f =
    let cs = chars (encode_utf8_all s) in
    let ts = terminals (lexemes (i + width (record { part = Token Symbol; spelling = s })) ps) in
    ap is_some (symbol_opens cs n i ts) ∙ behind_bracket (symbol_bracket cs) n i ts ps h f
one_shown (Token Name) s ps n i h f = other_shown Name s ps n i (λ e. cc) h f
one_shown (Token Keyword) s ps n i h f = other_shown Keyword s ps n i (λ e. cc) h f
one_shown (Token Quoted) s ps n i h f = other_shown Quoted s ps n i (λ e. cc) h f
one_shown (Token Prefixed) s ps n i h f = other_shown Prefixed s ps n i (λ e. cc) h f
one_shown (Token AnyOf) s ps n i h f = other_shown AnyOf s ps n i (λ e. cc) h f
one_shown (Token Segment) s ps n i h f = other_shown Segment s ps n i (λ e. cc) h f

shown_behind : (ps : List Piece) (i : ℕ) → ShownBehind ps i
shown_behind [] i n h = refl
shown_behind (p ∷ ps) i n h = one_shown p.part p.spelling ps n i h (shown_behind ps (i + width p))

-- too many are open at once in the one exactly where in the other
pub shown : (ps : List Piece) → is_some (deep 0 (terminals (lexemes 0 ps))) ≡ not (is_some (depth_after ps 0))
shown ps = shown_behind ps 0 0 (omega arith)
