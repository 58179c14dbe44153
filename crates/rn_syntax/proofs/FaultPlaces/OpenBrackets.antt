-- Which tokens open and close brackets.
use Rattle.std.proofs.Common.{◌≡◌, ℕ, Bool, true, false, cond, List, [], ◌∷◌, refl, map, ltb, sym, ap, ◌∙◌}
use Rattle.std.specs.List.{list_all, AllByRecursion}
use Rattle.std.specs.Prelude.{◌&&◌}
use Rattle.std.specs.Str.{bytes_eq, chars, all_scalars}
use Rattle.std.proofs.lemmas.Bool.{and_parts}
use Rattle.std.proofs.lemmas.Str.{chars-encodes}
use Rattle.rn_text.specs.declared.parts.Kind.{Kind}
use Rattle.rn_text.specs.declared.parts.Kind.TheVariants.{Name, Keyword, Quoted, Prefixed, AnyOf, Segment, Symbol}
use Rattle.rn_text.specs.declared.keywords.Keyword as code
use Rattle.rn_text.specs.Keywords.{every_keyword}
use Rattle.rn_syntax.specs.Terminal.{Terminal, ◌#◌}
use Rattle.rn_syntax.specs.Grammar.{Tokens}
use Rattle.rn_syntax.specs.Places.{deep}
use Rattle.rn_syntax.specs.TokenTerminals.{terminal_of, spelled_in, keyword_row, keyword_rows, symbol_rows}
use Rattle.rn_syntax.proofs.TokenKinds.PieceTokens.{ascii}
use Rattle.rn_syntax.proofs.TokenKinds.KeywordsAndSymbols.{IsPlain}

either : (P : Terminal → Type 0) (b : Bool) (x y : Terminal) → P x → P y → P (cond b x y)
either P true x y p q = p
either P false x y p q = q

keyword_deep : (ws : List code.Keyword) (cs : List ℕ) (n i : ℕ) (ts : Tokens) → deep n (spelled_in (map keyword_row ws) cs # i ∷ ts) ≡ deep n ts
keyword_deep [] cs n i ts = refl
keyword_deep (w ∷ ws) cs n i ts = either (λ x. deep n (x # i ∷ ts) ≡ deep n ts) (bytes_eq (keyword_row w).0 cs) (keyword_row w).1 (spelled_in (map keyword_row ws) cs) refl (keyword_deep ws cs n i ts)

-- only symbols are brackets
pub other_deep : (kind : Kind) (cs : List ℕ) (n i : ℕ) (ts : Tokens) → (kind ≡ Symbol → ⊥) → deep n (terminal_of kind cs # i ∷ ts) ≡ deep n ts
unfolding keyword_rows
other_deep Name cs n i ts h = refl
other_deep Keyword cs n i ts h = keyword_deep every_keyword cs n i ts
other_deep Quoted cs n i ts h = refl
other_deep Prefixed cs n i ts h = refl
other_deep AnyOf cs n i ts h = refl
other_deep Segment cs n i ts h = refl
other_deep Symbol cs n i ts h = absurd (h refl)

-- rows of ASCII
pub all_plain : (rows : List (List ℕ × Terminal)) → list_all (λ (row : List ℕ × Terminal). list_all (λ c. ltb c 128) row.0 && all_scalars row.0) rows ≡ true → AllByRecursion IsPlain rows
all_plain [] e = tt
all_plain (row ∷ rows) e =
    let both = and_parts (list_all (λ c. ltb c 128) row.0 && all_scalars row.0) (list_all (λ (row : List ℕ × Terminal). list_all (λ c. ltb c 128) row.0 && all_scalars row.0) rows) e in
    let own = and_parts (list_all (λ c. ltb c 128) row.0) (all_scalars row.0) both.0 in
    ((ascii row.0 own.0, ap chars (sym (ascii row.0 own.0)) ∙ chars-encodes row.0 own.1), all_plain rows both.1)

pub symbols_plain : AllByRecursion IsPlain symbol_rows
unfolding symbol_rows
symbols_plain = all_plain symbol_rows refl

pub keywords_plain : AllByRecursion IsPlain keyword_rows
unfolding keyword_rows
keywords_plain = all_plain keyword_rows refl
