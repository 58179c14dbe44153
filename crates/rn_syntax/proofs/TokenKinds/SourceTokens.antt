-- The tokens of a source are spelled as their kinds say.
use Rattle.std.proofs.Common.{◌≡◌, ℕ, true, List, [], ◌∷◌, ◌++◌, sym, ap, ◌∙◌, subst, map, ◌+◌, get_or, ◌<◌, length, zero, suc, arith}
use Rattle.std.specs.List.{list_all, AllByRecursion}
use Rattle.std.specs.Str.{chars, encode_utf8_all, all_scalars}
use Rattle.std.proofs.lemmas.Str.{chars-encodes}
use Rattle.rn_text.specs.declared.source.Token.{Token}
use Rattle.rn_text.specs.declared.parts.Part.{Part}
use Rattle.rn_text.specs.declared.parts.Part.TheVariants as part
use Rattle.rn_text.specs.Characters.{is_xml_char}
use Rattle.rn_text.specs.Parts.{Piece, IsCut, spells}
use Rattle.rn_text.specs.Tokens.{Lexeme, HasTokens, lexeme_of, lexeme_at, lexemes, unmarked, width}
use Rattle.rn_text.proofs.TokenLists.CutLexemes.{xml_scalars, unmarked_xml}
use Rattle.rn_text.proofs.Words.AppendedLists.{all_parts}
use Rattle.rn_syntax.specs.Spelled.{SpellsItsKind, AreSpelled}

abbrev Spelled : Lexeme → Type 0
Spelled x = spells (part.Token x.kind) (chars x.text) ≡ true

pieces_spelled : (text rest : List ℕ) (ps : List Piece) (place : ℕ) → IsCut text ps rest → list_all is_xml_char text ≡ true → AllByRecursion Spelled (lexemes place ps)
pieces_spelled text rest [] place cut xml = tt
pieces_spelled text rest (p ∷ ps) place (after, first, more) xml =
    let parts = all_parts is_xml_char p.spelling after (ap (list_all is_xml_char) first.begins.split ∙ xml) in
    one_more p.part p.spelling (lexemes (place + width p) ps) first.begins.spelled (xml_scalars p.spelling parts.0) (pieces_spelled after rest ps (place + width p) more parts.1)
  where
    one_more : (kind : Part) (s : List ℕ) (ts : List Lexeme) → spells kind s ≡ true → all_scalars s ≡ true → AllByRecursion Spelled ts → AllByRecursion Spelled (lexeme_at place kind (encode_utf8_all s) ++ ts)
    one_more part.Space s ts e scalars all = all
    one_more part.Comment s ts e scalars all = all
    one_more (part.Token k) s ts e scalars all = (subst (λ (l : List ℕ). spells (part.Token k) l ≡ true) (sym (chars-encodes s scalars)) e, all)

each : (xs : List Token) → AllByRecursion Spelled (map lexeme_of xs) → (i : ℕ) (d : Token) → i < length xs → SpellsItsKind (get_or xs i d)
each [] h i d l = absurd (omega arith)
each (x ∷ xs) h zero d l = h.0
each (x ∷ xs) h (suc i) d l = each xs h.1 i d (omega arith)

pub tokens_are_spelled : (cs : List ℕ) (xs : List Token) → HasTokens cs (map lexeme_of xs) → AreSpelled xs
tokens_are_spelled cs xs h = λ i d l. each xs (subst (AllByRecursion Spelled) (sym h.are) (pieces_spelled (unmarked cs) [] h.pieces _ h.cut (unmarked_xml cs h.xml))) i d l
