use Rattle.std.proofs.Common.{◌≡◌, sym, refl, ap, ◌∙◌, false}
use Rattle.std.specs.Str.{chars}
use Rattle.std.proofs.lemmas.Bool.{and_from, not_from_false}
use Rattle.rn_text.specs.Characters.{is_keyword, is_ncname, is_name_char}
use Rattle.rn_text.specs.Segments.{run_of}
use Rattle.rn_text.specs.declared.parts.Kind.TheVariants.{Name, Keyword}
use Rattle.rn_text.proofs.Cutting.NameTokens.{named_cut, named_word, named_plain, named_prefix, run_is_name}
use Rattle.rn_text.proofs.parts.split_named.Goals as goal

pub overflow_sub-text : goal.overflow_sub-text
overflow_sub-text c = (named_cut c.args.text.now c.args.after_first.now c.after_name_chars-rest.result.now c.requires.0 c.utf8.text c.after_name_chars-rest.utf8 c.requires.2 c.requires.1 c.after_name_chars-rest.ensures).0

pub range-requires-clause-end_boundary : goal.range-requires-clause-end_boundary
range-requires-clause-end_boundary c = (named_cut c.args.text.now c.args.after_first.now c.after_name_chars-rest.result.now c.requires.0 c.utf8.text c.after_name_chars-rest.utf8 c.requires.2 c.requires.1 c.after_name_chars-rest.ensures).1

pub returns-in-Some-clause-cases : goal.returns-in-Some-clause-cases
returns-in-Some-clause-cases c = named_prefix c.args.text.now c.args.after_first.now c.after_name_chars-rest.result.now c.in-Some.prefixed.1.now c.requires.0 c.in-Some.prefixed.0 c.requires.2 c.requires.1 c.after_name_chars-rest.ensures c.in-Some.ensures.cases

pub returns-then-is_keyword-clause-cases : goal.returns-then-is_keyword-clause-cases
returns-then-is_keyword-clause-cases c =
    let word = named_word c.args.text.now c.args.after_first.now c.after_name_chars-rest.result.now c.range.result.now c.requires.0 c.utf8.text c.after_name_chars-rest.utf8 c.range.utf8 c.requires.2 c.requires.1 c.after_name_chars-rest.ensures c.range.ensures.value in
    named_plain c.args.text.now c.args.after_first.now c.after_name_chars-rest.result.now c.requires.0 Keyword c.requires.2 c.requires.1 c.after_name_chars-rest.ensures refl
    (ap is_keyword (sym word) ∙ sym c.if-is_keyword.ensures) c.in_default.ensures.cases

pub returns-else-is_keyword-clause-cases : goal.returns-else-is_keyword-clause-cases
returns-else-is_keyword-clause-cases c =
    let word = named_word c.args.text.now c.args.after_first.now c.after_name_chars-rest.result.now c.range.result.now c.requires.0 c.utf8.text c.after_name_chars-rest.utf8 c.range.utf8 c.requires.2 c.requires.1 c.after_name_chars-rest.ensures c.range.ensures.value in
    let other : is_keyword (run_of is_name_char (chars c.args.text.now)) ≡ false = ap is_keyword (sym word) ∙ sym c.if-is_keyword.ensures in
    named_plain c.args.text.now c.args.after_first.now c.after_name_chars-rest.result.now c.requires.0 Name c.requires.2 c.requires.1 c.after_name_chars-rest.ensures refl
    (and_from _ _ (ap (λ t. is_ncname (run_of is_name_char t)) c.requires.1 ∙ run_is_name c.requires.0 (chars c.args.after_first.now) c.requires.2) (not_from_false _ other)) c.in_default.ensures.cases
