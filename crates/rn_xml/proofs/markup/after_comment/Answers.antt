use Rattle.std.specs.Str.{chars}
use Rattle.rn_xml.proofs.MarkupPieces.{comment_read}
use Rattle.rn_xml.proofs.Refusals.RefusedFronts.{if_err}
use Rattle.rn_xml.proofs.Refusals.RefusedMarkup.{comment_broken, dashes_only, no_comment}
use Rattle.std.proofs.Common.{◌∷◌}
use Rattle.rn_xml.proofs.markup.after_comment.Goals as goal

pub returns-clause-comment : goal.returns-clause-comment
returns-clause-comment c =
    let end = rw c.in_ok-after.ensures.ok_part at c.after_char.ensures.cases in
    comment_read (chars c.args.text.now) (chars c.in-Some.inside.now) (chars c.in_ok-behind.behind.now) (chars c.in_ok-after.after.now) c.in-Some.ensures.cases c.in_ok-behind.ensures.inside end

pub returns-in_default-clause-comment : goal.returns-in_default-clause-comment
returns-in_default-clause-comment c = no_comment (chars c.args.text.now) c.in_default.ensures.cases

pub returns-in_err-behind-clause-refused : goal.returns-in_err-behind-clause-refused
returns-in_err-behind-clause-refused c =
    if_err c.from_residual.result (comment_broken (chars c.args.text.now) (chars c.in-Some.inside.now) c.in-Some.ensures.cases (λ i rest h. c.in_err-behind.ensures.refused i (62 ∷ rest) h))

pub returns-in_err-after-clause-refused : goal.returns-in_err-after-clause-refused
returns-in_err-after-clause-refused c =
    let none = rw c.in_err-after.ensures.ok_part at c.after_char.ensures.cases in
    let up_to = c.in_ok-behind.ensures.inside in
    if_err c.from_residual-in_err-after.result (comment_broken (chars c.args.text.now) (chars c.in-Some.inside.now) c.in-Some.ensures.cases (dashes_only (chars c.in-Some.inside.now) up_to.0 (chars c.in_ok-behind.behind.now) up_to.1 none))
