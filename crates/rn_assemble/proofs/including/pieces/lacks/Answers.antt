use Rattle.std.proofs.Common.{sym, ◌∙◌}
use Rattle.std.proofs.lemmas.Bool.{eqb-true}
use Rattle.rn_assemble.proofs.KeyPieces.LackingPieces.{none_inside, some_inside}
use Rattle.rn_assemble.proofs.including.pieces.lacks.Goals as goal

pub returns-then-from-to : goal.returns-then-from-to
returns-then-from-to c =
    let from = c.pieces_in-from.result.0 in
    let to = c.pieces_in-from.result.1 in (
      λ e. record { overrides = sym c.overrides.ensures ∙ e; none = none_inside c.args.pieces.now c.args.brought.now from to c.pieces_in-from.ensures c.if-from-to.true },
      λ h. c.overrides.ensures ∙ h.overrides,
    )

pub returns-else-from-to : goal.returns-else-from-to
returns-else-from-to c =
    let from = c.pieces_in-from.result.0 in
    let to = c.pieces_in-from.result.1 in (
      λ e. absurd (c.if-from-to.false (eqb-true from to e)),
      λ h. absurd (some_inside c.args.pieces.now c.args.brought.now from to c.pieces_in-from.ensures c.if-from-to.false h.none),
    )
