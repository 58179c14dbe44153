-- A literal is its segments.
use Rattle.std.proofs.Common.{◌≡◌, ◌∙◌, ◌<◌, true, sym, subst, length, arith}
use Rattle.std.specs.List.{list_all}
use Rattle.std.specs.Str.{chars}
use Rattle.rn_text.specs.Characters.{is_xml_char}
use Rattle.rn_translate.specs.Cuts.{HasParts, IsSpelledAs}
use Rattle.rn_translate.specs.TokenTexts.{literal_tokens}
use Rattle.rn_translate.proofs.CutLiterals.{literal_cut}
use Rattle.rn_translate.proofs.CutTokens.{one_part}
use Rattle.rn_translate.proofs.WrittenTokens.{literal_some}
use Rattle.rn_translate.proofs.draft.Draft.put_literal.Goals as goal

pub put_token-requires : goal.put_token-requires
put_token-requires c =
    let xml : list_all is_xml_char (chars c.args.text.now) ≡ true = grind (arith, c.are_xml_chars.ensures, c.if-not-are_xml_chars.false, c.if-not-are_xml_chars.ensures) in
    subst (HasParts true) (sym (c.as_str.ensures.value ∙ c.in_ok-literal.ensures.ok)) (one_part (literal_cut c.args.text.now xml))

pub returns-clause-tokens : goal.returns-clause-tokens
returns-clause-tokens c =
    let xml : list_all is_xml_char (chars c.args.text.now) ≡ true = grind (arith, c.are_xml_chars.ensures, c.if-not-are_xml_chars.false, c.if-not-are_xml_chars.ensures) in
    let is = sym (c.as_str.ensures.value ∙ c.in_ok-literal.ensures.ok) in
    c.put_token.ensures.tokens (literal_tokens c.args.text.now) (subst (λ x. IsSpelledAs true x (literal_tokens c.args.text.now)) is (literal_cut c.args.text.now xml))
    (subst (λ x. 0 < length x) is (literal_some c.args.text.now))
