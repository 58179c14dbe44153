-- A faulty text has one place, and a text with a token list none.
use Rattle.std.proofs.lemmas.Bool.Decides.{nat_tests}
use Rattle.std.proofs.Common.{◌≡◌, ℕ, ◌<◌, true, false, List, [], ◌∷◌, ◌++◌, length, refl, sym, ap, ◌∙◌, subst, arith}
use Rattle.std.specs.List.{list_all, flat_map}
use Rattle.std.proofs.lemmas.Bool.{and_parts}
use Rattle.rn_text.specs.Characters.{is_xml_char}
use Rattle.rn_text.specs.Parts.{IsFirstPart, Piece, IsCut}
use Rattle.rn_text.specs.Tokens.{Lexeme, HasTokens, BeginsNoPart, IsLexicalPlace}
use Rattle.rn_text.proofs.Words.TruthValues.{true_is_false}
use Rattle.rn_text.proofs.Words.AppendedLists.{all_parts}
use Rattle.rn_text.proofs.TokenLists.OneTokenList.{none_first, one_first_part}

nothing_more : (text : List ℕ) → text ≡ [] → 0 < length text → ⊥
nothing_more text e n = omega (arith, ap length e, n)

-- a text that is cut to its end is cut to no place where no part begins
end_or_stuck : (text rest : List ℕ) (ps qs : List Piece) → IsCut text ps [] → IsCut text qs rest → 0 < length rest → BeginsNoPart rest → ⊥
end_or_stuck text rest [] [] x y more stuck = nothing_more rest (sym y ∙ x) more
end_or_stuck text rest [] (q ∷ qs) x (after, first, cut) more stuck = none_first q.part q.spelling after (subst (λ t. IsFirstPart t q.part q.spelling after) x first)
end_or_stuck text rest (p ∷ ps) [] (after, first, cut) y more stuck = stuck p.part p.spelling after (subst (λ t. IsFirstPart t p.part p.spelling after) y first).begins
end_or_stuck text rest (p ∷ ps) (q ∷ qs) (a, first, cut) (b, other_first, other_cut) more stuck = grind (arith, nat_tests, none_first, nothing_more, one_first_part, end_or_stuck a rest ps qs)

-- the places to which a text is cut where no part begins are one
same_stop : (text a b : List ℕ) (ps qs : List Piece) → IsCut text ps a → IsCut text qs b → BeginsNoPart a → BeginsNoPart b → flat_map (λ p. p.spelling) ps ≡ flat_map (λ p. p.spelling) qs
same_stop text a b [] [] x y stuck stops = refl
same_stop text a b [] (q ∷ qs) x (after, first, cut) stuck stops = absurd (stuck q.part q.spelling after (subst (λ t. IsFirstPart t q.part q.spelling after) x first).begins)
same_stop text a b (p ∷ ps) [] (after, first, cut) y stuck stops = absurd (stops p.part p.spelling after (subst (λ t. IsFirstPart t p.part p.spelling after) y first).begins)
same_stop text a b (p ∷ ps) (q ∷ qs) (c, first, cut) (d, other_first, other_cut) stuck stops = grind (arith, nat_tests, one_first_part, same_stop c a b ps qs)

-- a character that is none of XML
not_xml : (front rest cs : List ℕ) (wrong : ℕ) → front ++ wrong ∷ rest ≡ cs → is_xml_char wrong ≡ false → list_all is_xml_char cs ≡ true → ⊥
not_xml front rest cs wrong split no_char xml =
    let both = all_parts is_xml_char front (wrong ∷ rest) (ap (list_all is_xml_char) split ∙ xml) in
    true_is_false (is_xml_char wrong) (and_parts (is_xml_char wrong) (list_all is_xml_char rest) both.1).0 no_char

-- the first character that is none of XML stands behind one front
same_wrong : (f g a b : List ℕ) (x y : ℕ) → f ++ x ∷ a ≡ g ++ y ∷ b → list_all is_xml_char f ≡ true → list_all is_xml_char g ≡ true → is_xml_char x ≡ false → is_xml_char y ≡ false → f ≡ g
same_wrong [] [] a b x y split ef eg no_x no_y = refl
same_wrong [] (d ∷ ds) a b x y split ef eg no_x no_y = grind (arith, nat_tests)
same_wrong (c ∷ cs) [] a b x y split ef eg no_x no_y = grind (arith, nat_tests)
same_wrong (c ∷ cs) (d ∷ ds) a b x y split ef eg no_x no_y = grind (arith, nat_tests, same_wrong cs ds a b x y)

-- a text with a token list has no place of a lexical fault
pub list_or_place : (cs : List ℕ) (ts : List Lexeme) (n : ℕ) → HasTokens cs ts → IsLexicalPlace cs n → ⊥
list_or_place cs ts n h1 h2 = grind (arith, nat_tests, end_or_stuck, not_xml)

pub one_place : (cs : List ℕ) (m n : ℕ) → IsLexicalPlace cs m → IsLexicalPlace cs n → m ≡ n
one_place cs m n h1 h2 = grind (arith, nat_tests, not_xml, same_stop, same_wrong)
