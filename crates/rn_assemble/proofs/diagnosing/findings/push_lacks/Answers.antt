-- The lack of one include more.
use Rattle.std.proofs.Common.{◌+◌, ◌++◌, ◌∷◌, [], List, get_or, take, sym, ap, ◌∙◌, subst}
use Rattle.std.proofs.lemmas.Bool.{false≢true}
use Rattle.std.proofs.lemmas.List.{take_all, take_more}
use Rattle.rn_pattern.proofs.Ordered.InOrder.{contained_each}
use Rattle.rn_assemble.specs.declared.diagnosing.findings.Lack.{Lack}
use Rattle.rn_assemble.specs.declared.including.segments.FollowedInclude.{FollowedInclude}
use Rattle.rn_assemble.specs.inside.Diagnosing.{AddsLack, AddsLacks}
use Rattle.rn_assemble.specs.inside.Runs.{IsLackByPieces}
use Rattle.rn_assemble.specs.inside.Segments.{IsBrought, IsLackOf}
use Rattle.rn_assemble.proofs.Diagnoses.Lacks.{lack_met, lack_passed, lacks_alike, no_lacks}
use Rattle.rn_assemble.proofs.KeyPieces.LackingPieces.{lacks_pieces, pieces_lack}
use Rattle.rn_assemble.proofs.KeyPieces.RowOrder.{row_rises}
use Rattle.rn_assemble.proofs.diagnosing.findings.push_lacks.Goals as goal
use Rattle.rn_assemble.proofs.diagnosing.findings.push_lacks.Goals.{then-lacks+in_ok-push_lack, else-lacks}

pub lacks-requires-clause-row_ordered : goal.lacks-requires-clause-row_ordered
lacks-requires-clause-row_ordered c = let known = c.requires.known in row_rises known.modules known.key c.args.row.now known.row_is

pub push_lack-requires-clause-row_ordered : goal.push_lack-requires-clause-row_ordered
push_lack-requires-clause-row_ordered c = let known = c.requires.known in row_rises known.modules known.key c.args.row.now known.row_is

pub push_lack-requires-clause-overrides : goal.push_lack-requires-clause-overrides
push_lack-requires-clause-overrides c = (c.lacks.ensures.0 c.if-lacks.true).overrides

pub loop-include-init : goal.loop-include-init
loop-include-init c = no_lacks (IsLackByPieces c.args.row.now c.args.pieces.now) c.args.row.now c.args.key.0 c.args.found.now.items

pub loop-include-preserved : goal.loop-include-preserved
loop-include-preserved c =
    let row = c.args.row.now in
    let P = IsLackByPieces row c.args.pieces.now in
    let key = c.args.key.0 in
    let bs = c.deref-include-items.result.now in
    let i = c.loop-include.include-index in
    let d : FollowedInclude = record { «module» = record { 0 = 0 }; number = 0; own_from = 0; own_to = 0; from = 0; to = 0 } in
    let b = get_or bs i d in
    let old = c.args.found.now.items in
    let found = c.loop-include.found.items in
    subst (λ (ds : List FollowedInclude). AddsLacks P row key ds old c.if-lacks.found.items) (sym (take_more bs i d c.loop-include-test.true))
    (elim c.if-lacks.branch [
      | then-lacks+in_ok-push_lack w ↦
          lack_met P row key (take i bs) b old found c.loop-include.invariant (c.lacks.ensures.0 w.if-lacks.true) c.if-lacks.found.items
          (subst (λ (ls : List Lack). AddsLack row key b found ls) (sym (ap (λ v. v.items) w.found-is)) w.in_ok-push_lack.ensures)
      | else-lacks w ↦
          subst (λ (ls : List Lack). AddsLacks P row key (take i bs ++ b ∷ []) old ls) (sym (ap (λ v. v.items) w.found-is))
          (lack_passed P row key (take i bs) b old found c.loop-include.invariant (λ p. false≢true (sym w.if-lacks.false ∙ c.lacks.ensures.1 p)))
    ])

pub returns : goal.returns
returns c = λ modules k cs is segments.
    let x = c.args.segments.now in
    let row = c.args.row.now in
    let pieces = c.args.pieces.now in
    let P = IsLackByPieces row pieces in
    let all = take_all c.loop-include.include-index c.deref-include-items.result.now c.loop-include-test.false ∙ c.deref-include-items.ensures.value in
    let brought = contained_each (IsBrought modules x.contents.now x.list.items) x.brought.items segments.brought in
    lacks_alike P (λ b. IsLackOf modules x.list.items b k) row c.args.key.0 x.brought.items c.args.found.now.items c.loop-include.found.items
    (λ b there p. let h = brought b there in pieces_lack modules k row is x.list.items pieces c.requires.all b h.ordered h.within p)
    (λ b there l. let h = brought b there in lacks_pieces modules k row is x.list.items pieces c.requires.all b h.ordered h.within l)
    (subst (λ (ds : List FollowedInclude). AddsLacks P row c.args.key.0 ds c.args.found.now.items c.loop-include.found.items) all c.loop-include.invariant)
