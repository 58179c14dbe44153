use Rattle.std.proofs.Common.{◌≡◌, ◌∷◌, arith}
use Rattle.std.specs.Str.{chars}
use Rattle.rn_xml.specs.Infoset.{no_nodes}
use Rattle.rn_xml.specs.inside.OpenElements.{finished}
use Rattle.rn_xml.specs.inside.ReadDocuments.{place_of}
use Rattle.rn_xml.specs.inside.Rests.{source}
use Rattle.rn_xml.proofs.Openings.OpenReaders.{ends_tag, closed_reading}
use Rattle.std.proofs.Common.{◌∙◌, ap, sym}
use Rattle.std.specs.Prelude.{◌==◌}
use Rattle.std.proofs.lemmas.Bool.{true≢false}
use Rattle.rn_text.specs.Segments.{begins_with}
use Rattle.rn_xml.proofs.Openings.OpenNeeds.{end_needs}
use Rattle.rn_xml.proofs.Openings.OpenReaders.{innermost_there, innermost_named}
use Rattle.rn_xml.proofs.Refusals.RefusedFronts.{if_err}
use Rattle.rn_xml.proofs.Refusals.RefusedEndTags.{end_lines, no_end_name, other_end_name, no_end_close}
use Rattle.rn_xml.proofs.tags.TagReader.read_end_tag.Goals as goal

pub returns-clause-document : goal.returns-clause-document
returns-clause-document c = λ cs e outer open_is takes needs.
    let bracket : chars c.after_space-end.result.now ≡ 62 ∷ chars c.in_ok-after.after.now = rw c.in_ok-after.ensures.ok_part at c.after_char.ensures.cases in
    let shorter = rw c.in_ok-after.ensures.ok_part at c.after_char.ensures.shorter in
    let same = c.is_same_name.ensures.same c.if-not-is_same_name.false in
    let place = place_of c.args.self.now c.args.tag.now in
    let is = ends_tag c.args.self.now e outer place c.in-Some.element c.in_ok-name.name c.args.tag.now c.args.inside.now c.in_ok-name.rest.now c.after_space-end.result.now c.in_ok-after.after.now open_is
    c.in-Some.ensures c.in_ok-name.ensures.name same.0 same.1 c.requires.front c.after_space-end.ensures.space bracket in
    closed_reading cs c.close.new.self outer (finished e no_nodes) c.in_ok-after.after.now place (omega (arith, c.close.ensures.same, shorter, c.after_space-end.ensures.no_longer, c.in_ok-name.ensures.reads, c.requires.shorter)) (takes (source c.in_ok-after.after.now) is) (end_needs cs e outer (source c.args.tag.now) (source c.in_ok-after.after.now) needs is) (c.close.ensures.closed e outer place open_is)

pub returns-in_err-name-clause-refused : goal.returns-in_err-name-clause-refused
returns-in_err-name-clause-refused c = if_err c.from_residual.result (λ e outer open_is rest.
    no_end_name e.qname (chars e.name.prefix) (chars e.name.local) (source c.args.tag.now) (source c.args.inside.now) (end_lines (chars c.args.tag.now) (chars c.args.inside.now) c.requires.front) open_is.holds.0.named.0
    c.in_err-name.ensures.refused rest)

pub returns-in_default-clause-refused : goal.returns-in_default-clause-refused
returns-in_default-clause-refused c = λ e outer open_is rest is. innermost_there c.args.self.now e outer (place_of c.args.self.now c.args.tag.now) open_is c.in_default.ensures

pub returns-then-not-is_same_name-clause-refused : goal.returns-then-not-is_same_name-clause-refused
returns-then-not-is_same_name-clause-refused c = λ e outer open_is rest is.
    let mine = innermost_named c.args.self.now e outer (place_of c.args.self.now c.args.tag.now) c.in-Some.element open_is c.in-Some.ensures in
    let same = other_end_name e.qname e.name.prefix e.name.local (source c.args.tag.now) (source c.args.inside.now) (source c.in_ok-name.rest.now) c.in_ok-name.name (end_lines (chars c.args.tag.now) (chars c.args.inside.now) c.requires.front)
    open_is.holds.0.named.0 open_is.holds.0.named.1 open_is.holds.0.named.2 c.in_ok-name.ensures.utf8.0 c.in_ok-name.ensures.utf8.1 c.in_ok-name.ensures.name c.in_ok-name.ensures.ends rest is in
    true≢false (sym (c.is_same_name.ensures.other (mine.0 ∙ same.0) (mine.1 ∙ same.1)) ∙ c.if-not-is_same_name.true)

pub returns-in_err-after-clause-refused : goal.returns-in_err-after-clause-refused
returns-in_err-after-clause-refused c =
    let none = rw c.in_err-after.ensures.ok_part at c.after_char.ensures.cases in
    if_err c.from_residual-in_err-after.result (λ e outer open_is rest.
    no_end_close e.qname (chars e.name.prefix) (chars e.name.local) (source c.args.tag.now) (source c.args.inside.now) (chars c.in_ok-name.rest.now) c.in_ok-name.name (end_lines (chars c.args.tag.now) (chars c.args.inside.now) c.requires.front)
    open_is.holds.0.named.0 c.in_ok-name.ensures.name c.in_ok-name.ensures.ends (ap (begins_with (λ d. d == 62)) (sym c.after_space-end.ensures.run) ∙ none) rest)
