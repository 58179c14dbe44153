use Rattle.std.specs.Prelude.{string_bytes}
use Rattle.rn_xml.specs.inside.Rests.{source}
use Rattle.rn_xml.proofs.CharacterData.{section_characters, piece_result}
use Rattle.std.proofs.Common.{◌∙◌, ◌∷◌, ap, refl}
use Rattle.std.specs.Str.{chars}
use Rattle.rn_xml.specs.XmlCharacters.{lines_of}
use Rattle.std.proofs.lemmas.Result.{err_from_is_err_and}
use Rattle.rn_xml.proofs.Sources.{inner_itself}
use Rattle.rn_xml.proofs.Refusals.RefusedCharacters.{no_reference_reaches, broken_reaches, piece_bare, piece_reaches}
use Rattle.rn_xml.proofs.markup.read_run.Goals as goal

pub returns-in-Some-2-clause-characters : goal.returns-in-Some-2-clause-characters
returns-in-Some-2-clause-characters c =
    let section = rw c.in-Some-2.is at c.in_ok-after-in-Some-eq60-default.ensures.section in
    section_characters (string_bytes c.args.out.now) (string_bytes c.read_section.new.out) (source c.args.text.now) (source c.in-Some-2.after.now) section

pub returns-in-None-2-clause-characters : goal.returns-in-None-2-clause-characters
returns-in-None-2-clause-characters c =
    let same = rw c.in-None-2.is at c.in_ok-after-in-Some-eq60-default.ensures.section in
    piece_result (string_bytes c.args.out.now) (string_bytes c.read_section.new.out) (source c.args.text.now) c.after_piece.result same c.after_piece.ensures.piece

pub returns-in_err-read_reference-in-Some-eq38-default-clause-refused : goal.returns-in_err-read_reference-in-Some-eq38-default-clause-refused
returns-in_err-read_reference-in-Some-eq38-default-clause-refused c =
    let first = c.in-Some-eq38-default.ensures.cases ∙ ap (λ d. d ∷ chars c.in-Some-eq38-default.field-0-1.now) c.in-Some-eq38-default.field-0-0-is ∙ ap (λ d. d ∷ chars c.in-Some-eq38-default.field-0-1.now) c.in-Some-eq38-default.field-0-0-test in
    let p = err_from_is_err_and c.from_residual.result c.from_residual.ensures.1 in
    rw (p.1, p.2) (λ own. no_reference_reaches (source c.args.text.now) (source c.in-Some-eq38-default.field-0-1.now) (ap lines_of first ∙ inner_itself 38 (chars c.in-Some-eq38-default.field-0-1.now) refl)
    (c.in_err-read_reference-in-Some-eq38-default.ensures.refused own))

pub returns-in_err-after-in-Some-eq60-default-clause-refused : goal.returns-in_err-after-in-Some-eq60-default-clause-refused
returns-in_err-after-in-Some-eq60-default-clause-refused c =
    let p = err_from_is_err_and c.from_residual-in_err-after-in-Some-eq60-default.result c.from_residual-in_err-after-in-Some-eq60-default.ensures.1 in
    rw (p.1, p.2) (λ own. broken_reaches (source c.args.text.now) (c.in_err-after-in-Some-eq60-default.ensures.refused own))

pub returns-in-None-2-clause-none : goal.returns-in-None-2-clause-none
returns-in-None-2-clause-none c =
    let first = c.in-Some-eq60-default.ensures.cases ∙ ap (λ d. d ∷ chars c.in-Some-eq60-default.field-0-1.now) c.in-Some-eq60-default.field-0-0-is ∙ ap (λ d. d ∷ chars c.in-Some-eq60-default.field-0-1.now) c.in-Some-eq60-default.field-0-0-test in
    let sections = rw c.in-None-2.is at c.in_ok-after-in-Some-eq60-default.ensures.none in
    piece_bare (chars c.args.text.now) (chars c.in-Some-eq60-default.field-0-1.now) c.after_piece.result first (sections refl) c.after_piece.ensures.piece

pub returns-in-None-2-clause-refused : goal.returns-in-None-2-clause-refused
returns-in-None-2-clause-refused c = piece_reaches c.after_piece.result (source c.args.text.now) c.after_piece.ensures.refused
