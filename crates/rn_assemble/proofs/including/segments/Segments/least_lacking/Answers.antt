use Rattle.std.proofs.Common.{List, Option, sym, ◌∙◌, subst, take, ◌+◌}
use Rattle.std.proofs.lemmas.Bool.{false≢true}
use Rattle.std.proofs.lemmas.List.{take_all}
use Rattle.rn_pattern.proofs.Ordered.InOrder.{contained_each}
use Rattle.rn_assemble.specs.declared.including.segments.FollowedInclude.{FollowedInclude}
use Rattle.rn_assemble.specs.declared.reading.named_modules.ModuleId.{ModuleId}
use Rattle.rn_assemble.specs.inside.Runs.{IsLackByPieces}
use Rattle.rn_assemble.specs.inside.Segments.{IsBrought}
use Rattle.rn_assemble.proofs.KeyPieces.LackingPieces.{IsLeastOf, lacks_pieces, least_lacking, met_at, overrides_same, passed_at, pieces_lack}
use Rattle.rn_assemble.proofs.KeyPieces.RowOrder.{row_rises}
use Rattle.rn_assemble.proofs.including.segments.Segments.least_lacking.Goals as goal
use Rattle.rn_assemble.proofs.including.segments.Segments.least_lacking.Goals.{then-lacks, else-lacks}

pub returns-then-not-has_own : goal.returns-then-not-has_own
returns-then-not-has_own c = λ modules k cs is segments b there lack.
    let own = c.has_own.ensures b there (overrides_same modules k c.args.row.now is b ∙ lack.0) in
    false≢true (sym c.if-not-has_own.true ∙ own)

pub lacks-requires-clause-row_ordered : goal.lacks-requires-clause-row_ordered
lacks-requires-clause-row_ordered c =
    let known = c.requires.known in
    row_rises known.modules known.key c.args.row.now known.row_is

pub loop-brought-preserved : goal.loop-brought-preserved
loop-brought-preserved c =
    let P = IsLackByPieces c.args.row.now c.args.pieces.now in
    let bs = c.deref-brought-items.result.now in
    let i = c.loop-brought.brought-index in
    let before = c.loop-brought.invariant.least in
    record {
      least = elim c.if-lacks.branch [
        | then-lacks w ↦
            subst (λ (o : Option ModuleId). IsLeastOf P (take (i + 1) bs) o) (sym w.least-is)
            (met_at P bs i _ c.loop-brought-test.true c.loop-brought.least before w.lesser.result (c.lacks.ensures.0 w.if-lacks.true) w.lesser.ensures)
        | else-lacks w ↦
            subst (λ (o : Option ModuleId). IsLeastOf P (take (i + 1) bs) o) (sym w.least-is)
            (passed_at P bs i _ c.loop-brought-test.true c.loop-brought.least before (λ p. false≢true (sym w.if-lacks.false ∙ c.lacks.ensures.1 p)))
      ];
    }

pub returns : goal.returns
returns c = λ modules k cs is segments.
    let x = c.args.self.now in
    let row = c.args.row.now in
    let pieces = c.args.pieces.now in
    let P = IsLackByPieces row pieces in
    let bs = c.deref-brought-items.result.now in
    let all = take_all c.loop-brought.brought-index bs c.loop-brought-test.false ∙ c.deref-brought-items.ensures.value in
    let brought = contained_each (IsBrought modules x.contents.now x.list.items) x.brought.items segments.brought in
    least_lacking modules x k P
    (λ b there p. let h = brought b there in pieces_lack modules k row is x.list.items pieces c.requires.all b h.ordered h.within p)
    (λ b there l. let h = brought b there in lacks_pieces modules k row is x.list.items pieces c.requires.all b h.ordered h.within l)
    c.loop-brought.least
    (subst (λ (cs : List FollowedInclude). IsLeastOf P cs c.loop-brought.least) all c.loop-brought.invariant.least)
