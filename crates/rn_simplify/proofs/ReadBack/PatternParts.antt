-- What stands around patterns and between them as they are written: separators, keywords, postfixes, parentheses.
use Rattle.std.proofs.Common.{◌≡◌, ℕ, ◌+◌, true, List, [], ◌∷◌, ◌++◌, refl, sym, ap, ◌∙◌, subst}
use Rattle.std.specs.Prelude.{codes}
use Rattle.rn_text.specs.Characters.{is_xml_char, is_keyword, keywords}
use Rattle.rn_text.specs.Parts.{Piece, text_of, symbols}
use Rattle.rn_text.specs.Tokens.{width}
use Rattle.rn_text.proofs.Cutting.SoundPieces.{Sound, Free, Breaks, sound_then, symbol_sound, keyword_sound}
use Rattle.rn_text.proofs.Cutting.BeforeBreaks.{is_break}
use Rattle.rn_syntax.specs.Terminal as t
use Rattle.rn_syntax.specs.Terminal.{◌#◌}
use Rattle.rn_syntax.specs.Tree as s
use Rattle.rn_syntax.specs.Tree.{Pattern}
use Rattle.rn_syntax.specs.Grammar as g
use Rattle.rn_syntax.specs.Grammar.{Tokens, IsPattern, IsOperand, IsPrimary, IsCore}
use Rattle.rn_syntax.specs.TokenTerminals.{symbol_rows}
use Rattle.rn_syntax.specs.declared.tree.Operator.{Operator}
use Rattle.rn_syntax.specs.declared.tree.Operator.TheVariants as o
use Rattle.rn_syntax.specs.declared.tree.Postfix.{Postfix}
use Rattle.rn_syntax.specs.declared.tree.Postfix.TheVariants as pf
use Rattle.rn_syntax.proofs.TokenKinds.PieceTokens.{terms, behind, terms-append}
use Rattle.rn_simplify.specs.Spelling.{space, symbol, keyword, infix_of, comma, in_parentheses}
use Rattle.rn_simplify.proofs.ReadBack.NamesAndLiterals.{Reads, space_breaks, bar_free, ampersand_free, comma_free}

-- ---- what stands between operands

pub record IsSeparator (op : Operator) (s : List Piece) : Type 0 where
  pub free : Free s
  pub breaks : (ps : List Piece) → Breaks (s ++ ps)
  pub at : ℕ → ℕ
  pub from : ℕ → ℕ
  pub is : (i : ℕ) (ps : List Piece) (rest : Tokens) → terms i (s ++ ps) rest ≡ t.operator op # at i ∷ terms (from i) ps rest

pub bar : IsSeparator o.Bar (infix_of (codes "|"))
unfolding symbol_rows
bar = record { free = bar_free; breaks = λ ps. space_breaks _; at = λ i. i + width space; from = λ i. i + width space + width (symbol (codes "|")) + width space; is = λ i ps rest. refl }

pub ampersand : IsSeparator o.Ampersand (infix_of (codes "&"))
unfolding symbol_rows
ampersand = record { free = ampersand_free; breaks = λ ps. space_breaks _; at = λ i. i + width space; from = λ i. i + width space + width (symbol (codes "&")) + width space; is = λ i ps rest. refl }

pub comma_between : IsSeparator o.Comma comma
unfolding symbol_rows
comma_between = record { free = comma_free; breaks = λ ps. record { first = 44; more = text_of (space ∷ ps); is = refl; breaks = refl }; at = λ i. i; from = λ i. i + width (symbol (codes ",")) + width space; is = λ i ps rest. refl }

pub element_sound : Sound (keyword (codes "element") ∷ [])
unfolding is_keyword keywords
element_sound = keyword_sound _ refl

pub attribute_sound : Sound (keyword (codes "attribute") ∷ [])
unfolding is_keyword keywords
attribute_sound = keyword_sound _ refl

pub list_sound : Sound (keyword (codes "list") ∷ [])
unfolding is_keyword keywords
list_sound = keyword_sound _ refl

pub mixed_sound : Sound (keyword (codes "mixed") ∷ [])
unfolding is_keyword keywords
mixed_sound = keyword_sound _ refl

pub empty_sound : Sound (keyword (codes "empty") ∷ [])
unfolding is_keyword keywords
empty_sound = keyword_sound _ refl

pub not_allowed_sound : Sound (keyword (codes "notAllowed") ∷ [])
unfolding is_keyword keywords
not_allowed_sound = keyword_sound _ refl

pub text_sound : Sound (keyword (codes "text") ∷ [])
unfolding is_keyword keywords
text_sound = keyword_sound _ refl

-- a postfix, which is a break
postfix_breaks : (c : ℕ) → is_break c ≡ true → Breaks (symbol (c ∷ []) ∷ [])
postfix_breaks c e = record { first = c; more = []; is = refl; breaks = e }

pub question_sound : {ps : List Piece} → Sound ps → Sound (ps ++ symbol (codes "?") ∷ [])
unfolding is_xml_char symbols
question_sound h = sound_then h (postfix_breaks 63 refl) (symbol_sound (codes "?") refl refl)

pub star_sound : {ps : List Piece} → Sound ps → Sound (ps ++ symbol (codes "*") ∷ [])
unfolding is_xml_char symbols
star_sound h = sound_then h (postfix_breaks 42 refl) (symbol_sound (codes "*") refl refl)

pub plus_sound : {ps : List Piece} → Sound ps → Sound (ps ++ symbol (codes "+") ∷ [])
unfolding is_xml_char symbols
plus_sound h = sound_then h (postfix_breaks 43 refl) (symbol_sound (codes "+") refl refl)

-- ---- places where a pattern may stand

pub plain : {ts rest : Tokens} {q : Pattern} → IsCore ts q rest → IsPrimary ts q rest
plain h = g.primary g.bare h g.none

pub inside : (ps : List Piece) {Q : Pattern → Type 0} → Reads IsPattern ps Q → Reads IsPrimary (in_parentheses ps) Q
unfolding symbol_rows
inside ps h i rest =
    let j = i + width (symbol (codes "(")) in
    let a = h j (terms (behind j ps) (symbol (codes ")") ∷ []) rest) in
    (a.0, plain (subst (λ l. IsCore (t.left_paren # i ∷ l) a.0 rest) (sym (terms-append j ps (symbol (codes ")") ∷ []) rest)) (g.parens a.1)), a.2)

-- a postfix behind what stands as a primary
pub marked : (ps : List Piece) (c : ℕ) (m : Postfix) {Q R : Pattern → Type 0} → ((i : ℕ) (rest : Tokens) → terms i (symbol (c ∷ []) ∷ []) rest ≡ t.postfix m # i ∷ rest) → ((q : Pattern) → Q q → R (s.repeated m q)) → Reads IsPrimary ps Q → Reads IsOperand (ps ++ symbol (c ∷ []) ∷ []) R
marked ps c m is fits h i rest =
    let j = behind i ps in
    let a = h i (t.postfix m # j ∷ rest) in
    (s.repeated m a.0, subst (λ l. IsOperand l (s.repeated m a.0) rest) (sym (terms-append i ps (symbol (c ∷ []) ∷ []) rest ∙ ap (terms i ps) (is j rest))) (g.repeated a.1 g.none), fits a.0 a.2)

pub question_is : (i : ℕ) (rest : Tokens) → terms i (symbol (codes "?") ∷ []) rest ≡ t.postfix pf.Question # i ∷ rest
unfolding symbol_rows
question_is i rest = refl

pub star_is : (i : ℕ) (rest : Tokens) → terms i (symbol (codes "*") ∷ []) rest ≡ t.postfix pf.Star # i ∷ rest
unfolding symbol_rows
star_is i rest = refl

pub plus_is : (i : ℕ) (rest : Tokens) → terms i (symbol (codes "+") ∷ []) rest ≡ t.postfix pf.Plus # i ∷ rest
unfolding symbol_rows
plus_is i rest = refl
