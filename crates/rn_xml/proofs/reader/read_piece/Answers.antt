use Rattle.std.proofs.Common.{◌∷◌, ap, Some}
use Rattle.rn_xml.proofs.Openings.OpenReaders.{if_ok}
use Rattle.std.proofs.Common.{refl}
use Rattle.std.specs.Prelude.{codes}
use Rattle.std.specs.Str.{chars}
use Rattle.std.proofs.lemmas.Result.{err_from_is_err_and}
use Rattle.rn_xml.specs.inside.Rests.{source}
use Rattle.rn_xml.proofs.Openings.OpenNeeds.{needs_end, needs_element, no_tag}
use Rattle.rn_xml.proofs.Refusals.RefusedDocuments.{end_refused, element_refused}
use Rattle.rn_xml.proofs.Refusals.RefusedEndTags.{end_lines}
use Rattle.rn_xml.proofs.Refusals.RefusedFronts.{if_err_too}
use Rattle.rn_xml.proofs.Sources.{front_absent}
use Rattle.rn_xml.proofs.reader.read_piece.Goals as goal

pub returns-in-Some-after_front-clause-document : goal.returns-in-Some-after_front-clause-document
returns-in-Some-after_front-clause-document c = if_ok c.read_end_tag.result c.read_end_tag.ensures.document (λ rest is cs reading.
    let at = c.in_ok-tag.ensures.document cs c.requires.last reading in is cs at.e at.outer at.opens at.ends (needs_end cs at.e at.outer (source c.in_ok-tag.tag.now) (source c.in-Some-after_front.inside.now) at.needs at.bare (end_lines (chars c.in_ok-tag.tag.now) (chars c.in-Some-after_front.inside.now) c.in-Some-after_front.ensures.cases)))

pub returns-in-None-clause-document : goal.returns-in-None-clause-document
returns-in-None-clause-document c = if_ok c.read_start_tag.result c.read_start_tag.ensures.document (λ rest is cs reading.
    let at = c.in_ok-tag.ensures.document cs c.requires.last reading in
    let opened = at.e ∷ at.outer in
    is cs opened at.opens (ap (λ i. Some i) at.is_parent) at.takes (needs_element cs at.e at.outer (source c.in_ok-tag.tag.now) at.needs at.bare (front_absent (codes "</") (chars c.in_ok-tag.tag.now) refl c.in-None.ensures.cases)))

pub returns-in_err-tag-clause-refused : goal.returns-in_err-tag-clause-refused
returns-in_err-tag-clause-refused c =
    let p = err_from_is_err_and c.from_residual.result c.from_residual.ensures.1 in
    rw (p.1, p.2) (λ own cs reading. c.in_err-tag.ensures.refused own cs c.requires.last reading)

pub returns-in-Some-clause-refused : goal.returns-in-Some-clause-refused
returns-in-Some-clause-refused c = λ own cs reading.
    let at = c.in_ok-tag.ensures.document cs c.requires.last reading in
    let none = rw c.in-Some.is at c.unclosed.ensures.no_tag in
    no_tag cs at.e at.outer (source c.in_ok-tag.tag.now) at.needs at.bare none

pub returns-in-Some-after_front-clause-refused : goal.returns-in-Some-after_front-clause-refused
returns-in-Some-after_front-clause-refused c = if_err_too c.read_end_tag.result c.read_end_tag.ensures.refused (λ stop none own cs reading.
    let at = c.in_ok-tag.ensures.document cs c.requires.last reading in
    end_refused cs at.e at.outer (source c.in_ok-tag.tag.now)
    (needs_end cs at.e at.outer (source c.in_ok-tag.tag.now) (source c.in-Some-after_front.inside.now) at.needs at.bare (end_lines (chars c.in_ok-tag.tag.now) (chars c.in-Some-after_front.inside.now) c.in-Some-after_front.ensures.cases))
    (none at.e at.outer at.opens))

pub returns-in-None-clause-refused : goal.returns-in-None-clause-refused
returns-in-None-clause-refused c = if_err_too c.read_start_tag.result c.read_start_tag.ensures.refused (λ stop none own cs reading.
    let at = c.in_ok-tag.ensures.document cs c.requires.last reading in
    element_refused cs (at.e ∷ at.outer) (source c.in_ok-tag.tag.now)
    (needs_element cs at.e at.outer (source c.in_ok-tag.tag.now) at.needs at.bare (front_absent (codes "</") (chars c.in_ok-tag.tag.now) refl c.in-None.ensures.cases)) (none own (at.e ∷ at.outer) at.opens))
