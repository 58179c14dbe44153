-- A text has one token list.
use Rattle.std.proofs.lemmas.Bool.Decides.{nat_tests}
use Rattle.std.proofs.Common.{◌≡◌, ℕ, Bool, true, false, cond, List, [], ◌∷◌, ◌++◌, length, drop, refl, sym, ap, ◌∙◌, subst, arith}
use Rattle.std.specs.Prelude.{codes, not, ◌==◌, ◌&&◌}
use Rattle.std.specs.Str.{bytes_eq}
use Rattle.std.proofs.lemmas.Bool.{cond-true, cond-false, and_parts, not-true}
use Rattle.std.proofs.lemmas.Slice.Eq.{bytes_eq-Decides}
use Rattle.rn_text.specs.declared.parts.Part.{Part}
use Rattle.rn_text.specs.declared.parts.Part.TheVariants.{Space, Comment, Token}
use Rattle.rn_text.specs.declared.parts.Kind.{Kind}
use Rattle.rn_text.specs.declared.parts.Kind.TheVariants.{Name, Keyword, Quoted, Prefixed, AnyOf, Segment, Symbol}
use Rattle.rn_text.specs.Characters.{is_name_start, is_name_char, is_ncname, is_keyword}
use Rattle.rn_text.specs.Segments.{is_empty, after_run, run_of, begins_with}
use Rattle.rn_text.specs.Parts.{IsFirstPart, spells, is_prefixed, Piece, IsCut}
use Rattle.rn_text.specs.Tokens.{Lexeme, HasTokens, lexemes, unmarked, unmarked_start}
use Rattle.rn_text.proofs.Words.CharacterRuns.{all_pass}
use Rattle.rn_text.proofs.Cutting.Cuts.{no_empty_part}
use Rattle.rn_text.proofs.Cutting.FirstParts.{Class, white, hash, quote, backslash, letter, other, class_of, part_class, keyword_is_name, none_in_nothing}
use Rattle.rn_text.proofs.Cutting.NameTokens.{name_chars, star_starts_none}

-- two lists of one length at the front of one text are one, and so is what follows
pub same_front : (f g a b : List ℕ) → f ++ a ≡ g ++ b → length f ≡ length g → (f ≡ g) × (a ≡ b)
same_front [] [] a b e n = (refl, e)
same_front [] (y ∷ ys) a b e n = absurd (omega arith)
same_front (x ∷ xs) [] a b e n = absurd (omega arith)
same_front (x ∷ xs) (y ∷ ys) a b e n = grind (arith, nat_tests, same_front xs ys a b)

-- the first part's spelling and what follows it are determined
pub one_first_part : (text : List ℕ) (p q : Part) (f g a b : List ℕ) → IsFirstPart text p f a → IsFirstPart text q g b → (f ≡ g) × (a ≡ b)
one_first_part text p q f g a b x y =
    let one = x.longest q g b y.begins in
    let two = y.longest p f a x.begins in
    same_front f g a b (x.begins.split ∙ sym y.begins.split) (omega arith)

-- the kind of a token that begins with a letter, by its characters
abbrev letter_kind : List ℕ → Kind
letter_kind f = cond (is_empty (after_run is_name_char f)) (cond (is_keyword f) Keyword Name) (cond (begins_with is_name_start (drop 1 (after_run is_name_char f))) Prefixed AnyOf)

-- the part that characters spell, if they spell one
abbrev part_by : Class → List ℕ → Part
part_by white f = Space
part_by hash f = Comment
part_by quote f = Token Segment
part_by backslash f = Token Quoted
part_by letter f = Token (letter_kind f)
part_by other f = Token Symbol

whole_name : (f : List ℕ) → is_ncname f ≡ true → is_empty (after_run is_name_char f) ≡ true
whole_name f e = all_pass is_name_char f ∙ name_chars f e

ncname_start : (l : List ℕ) → is_ncname l ≡ true → begins_with is_name_start l ≡ true
ncname_start l h1 = grind (arith, nat_tests)

more_after : (cs : List ℕ) → begins_with (λ d. d == 58) cs ≡ true → is_empty cs ≡ false
more_after cs h1 = grind (arith, nat_tests)

prefix_rest : (p : List ℕ → Bool) (f : List ℕ) → is_prefixed p f ≡ true → (is_empty (after_run is_name_char f) ≡ false) × (p (drop 1 (after_run is_name_char f)) ≡ true)
prefix_rest p f e = let both = and_parts (is_ncname (run_of is_name_char f) && begins_with (λ d. d == 58) (after_run is_name_char f)) (p (drop 1 (after_run is_name_char f))) e in
    (more_after (after_run is_name_char f) (and_parts (is_ncname (run_of is_name_char f)) _ both.0).1, both.1)

-- characters spell one part at most
spelled_part : (part : Part) (c : ℕ) (cs : List ℕ) → spells part (c ∷ cs) ≡ true → part ≡ part_by (class_of part) (c ∷ cs)
spelled_part Space c cs e = refl
spelled_part Comment c cs e = refl
spelled_part (Token Name) c cs e =
    let both = and_parts (is_ncname (c ∷ cs)) (not (is_keyword (c ∷ cs))) e in
    ap Token (sym (cond-true _ _ _ (whole_name (c ∷ cs) both.0) ∙ cond-false _ _ _ (not-true (is_keyword (c ∷ cs)) both.1)))
spelled_part (Token Keyword) c cs e = ap Token (sym (cond-true _ _ _ (whole_name (c ∷ cs) (keyword_is_name (c ∷ cs) e)) ∙ cond-true _ _ _ e))
spelled_part (Token Quoted) c cs e = refl
spelled_part (Token Prefixed) c cs e =
    let h = prefix_rest is_ncname (c ∷ cs) e in
    ap Token (sym (cond-false _ _ _ h.0 ∙ cond-true _ _ _ (ncname_start (drop 1 (after_run is_name_char (c ∷ cs))) h.1)))
spelled_part (Token AnyOf) c cs e =
    let h = prefix_rest (bytes_eq (codes "*")) (c ∷ cs) e in
    let star = sym ((bytes_eq-Decides (codes "*") (drop 1 (after_run is_name_char (c ∷ cs)))).0 h.1) in
    ap Token (sym (cond-false _ _ _ h.0 ∙ cond-false _ _ _ (ap (begins_with is_name_start) star ∙ star_starts_none)))
spelled_part (Token Segment) c cs e = refl
spelled_part (Token Symbol) c cs e = refl

pub one_part : (p q : Part) (f : List ℕ) → spells p f ≡ true → spells q f ≡ true → p ≡ q
one_part p q [] x y = absurd (no_empty_part p x)
one_part p q (c ∷ cs) x y =
    spelled_part p c cs x ∙ ap (λ k. part_by k (c ∷ cs)) (sym (part_class p c cs x) ∙ part_class q c cs y) ∙ sym (spelled_part q c cs y)

-- nothing begins the empty text
pub none_first : (p : Part) (f a : List ℕ) → IsFirstPart [] p f a → ⊥
none_first p f a h = none_in_nothing p f a h.begins

-- two cuts of a text to its end are one
pub one_cut : (text : List ℕ) (ps qs : List Piece) → IsCut text ps [] → IsCut text qs [] → ps ≡ qs
one_cut text [] [] x y = refl
one_cut text [] (q ∷ qs) x (after, first, more) = absurd (none_first q.part q.spelling after (subst (λ t. IsFirstPart t q.part q.spelling after) x first))
one_cut text (p ∷ ps) [] (after, first, more) y = absurd (none_first p.part p.spelling after (subst (λ t. IsFirstPart t p.part p.spelling after) y first))
one_cut text (p ∷ ps) (q ∷ qs) (a, first, more) (b, other_first, other_more) = grind (arith, nat_tests, none_first, one_first_part, one_part, one_cut a ps qs)

-- a text has one token list at most
pub one_token_list : (cs : List ℕ) (ts us : List Lexeme) → HasTokens cs ts → HasTokens cs us → ts ≡ us
one_token_list cs ts us x y = x.are ∙ ap (lexemes (unmarked_start cs)) (one_cut (unmarked cs) x.pieces y.pieces x.cut y.cut) ∙ sym y.are
