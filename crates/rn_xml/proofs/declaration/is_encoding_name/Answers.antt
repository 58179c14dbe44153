use Rattle.std.proofs.Common.{◌∙◌, ℕ, length, refl, get_or, sym, ap, subst, arith}
use Rattle.std.specs.Char.{is_ascii_alphabetic}
use Rattle.std.proofs.lemmas.Bool.{false≢true, true≢false}
use Rattle.std.specs.Str.{chars, IsUtf8}
use Rattle.rn_xml.specs.inside.Rests.{source}
use Rattle.rn_xml.proofs.Refusals.RefusedDeclarations.{encoding_bytes, names_encoding}
use Rattle.rn_xml.specs.XmlCharacters.{lines_of}
use Rattle.rn_xml.specs.XmlDocuments.{IsEncName}
use Rattle.rn_xml.proofs.Decoding.DeclarationParts.{encoding_name}
use Rattle.rn_xml.proofs.declaration.is_encoding_name.Goals as goal

pub returns-then-is_ascii_alphabetic : goal.returns-then-is_ascii_alphabetic
returns-then-is_ascii_alphabetic c = (
  (λ all. subst (λ t. IsEncName (lines_of (chars t))) c.as_bytes.ensures.value
      (encoding_name c.as_bytes.result.now c.in-len1-up.len_at_least (sym c.if-is_ascii_alphabetic.ensures.value) (c.are_encoding_bytes.ensures.0 all))),
  (λ n. names_encoding c.as_bytes.result.now c.are_encoding_bytes.result (subst IsUtf8 (sym c.as_bytes.ensures.value) c.utf8.text) c.are_encoding_bytes.ensures
      (subst (λ t. IsEncName (lines_of (chars t))) (sym c.as_bytes.ensures.value) n)),
)

pub returns-else-is_ascii_alphabetic : goal.returns-else-is_ascii_alphabetic
returns-else-is_ascii_alphabetic c = (
  (λ yes. absurd (false≢true (sym c.if-is_ascii_alphabetic.false ∙ yes))),
  (λ n. let is = encoding_bytes c.args.text.now (source c.args.text.now) c.utf8.text n refl in
      absurd (true≢false (sym is.letter ∙ ap (λ l. is_ascii_alphabetic (get_or l 0 0)) (sym is.is ∙ sym c.as_bytes.ensures.value) ∙ sym c.if-is_ascii_alphabetic.ensures.value))),
)

pub returns-in-empty : goal.returns-in-empty
returns-in-empty c = (
  (λ yes. absurd (false≢true yes)),
  (λ n. let is = encoding_bytes c.args.text.now (source c.args.text.now) c.utf8.text n refl in absurd (omega (arith, ap (length {A = ℕ}) is.is, ap (length {A = ℕ}) c.as_bytes.ensures.value))),
)
