-- The lacks of one key more, and then all in order.
use Rattle.std.proofs.Common.{◌≡◌, ◌+◌, ◌<◌, List, [], length, sym, ap, ◌∙◌, subst, arith}
use Rattle.std.proofs.lemmas.Bool.{false≢true}
use Rattle.rn_assemble.specs.declared.diagnosing.findings.Lack.{Lack}
use Rattle.rn_assemble.specs.declared.including.pieces.Piece.{Piece}
use Rattle.rn_assemble.specs.inside.Diagnosing.{AreLacks}
use Rattle.rn_assemble.specs.inside.Keyed.{key_at}
use Rattle.rn_assemble.specs.inside.Pieces.{AreAllPieces}
use Rattle.rn_assemble.proofs.Diagnoses.Lacks.{lacks_kept, lacks_more, lacks_none, lacks_passed}
use Rattle.rn_assemble.proofs.KeyFaults.KnownRows.{row_of}
use Rattle.rn_assemble.proofs.KeyPieces.LackingPieces.{overrides_same}
use Rattle.rn_assemble.proofs.diagnosing.findings.lacks_of.Goals as goal
use Rattle.rn_assemble.proofs.diagnosing.findings.lacks_of.Goals.{then-has_own+in_ok-push_lacks, else-has_own}

pub push_lacks-requires-clause-all : goal.push_lacks-requires-clause-all
push_lacks-requires-clause-all c =
    let h = c.requires.1 in
    let names = c.requires.0 in
    let key = c.loop-number.number in
    let row = c.row-row.result.now in
    let below : key < length c.args.rows.now.rows.items = omega (arith, c.loop-number-test.true, c.len-number-end.ensures) in
    let found = c.in_ok-all_pieces.ensures h.modules (key_at names key) h.components (row_of h.modules names c.args.rows.now h.rows_are key below row c.row-row.ensures) h.segments_are in
    subst (λ (ps : List Piece). AreAllPieces c.args.segments.now.list.items row ps) (sym c.deref.ensures.value) found

pub loop-number-init : goal.loop-number-init
loop-number-init c = λ modules names cs rows segments. subst (λ (ls : List Lack). AreLacks modules names c.args.segments.now 0 ls) (sym c.new-found.ensures.items) (lacks_none modules names c.args.segments.now)

pub loop-number-preserved : goal.loop-number-preserved
loop-number-preserved c = λ modules names cs rows segments.
    let x = c.args.segments.now in
    let key = c.loop-number.number in
    let row = c.row-row.result.now in
    let found = c.loop-number.found.items in
    let below : key < length c.args.rows.now.rows.items = omega (arith, c.loop-number-test.true, c.len-number-end.ensures) in
    let row_is = row_of modules names c.args.rows.now rows key below row c.row-row.ensures in
    let before = c.loop-number.invariant modules names cs rows segments in
    elim c.if-has_own.branch [
      | then-has_own+in_ok-push_lacks w ↦
          subst (λ (ls : List Lack). AreLacks modules names x (key + 1) ls) (sym (ap (λ v. v.items) w.found-is))
          (lacks_more modules names x key found before cs row segments row_is _ (w.in_ok-push_lacks.ensures modules (key_at names key) cs row_is segments))
      | else-has_own w ↦
          subst (λ (ls : List Lack). AreLacks modules names x (key + 1) ls) (sym (ap (λ v. v.items) w.found-is))
          (lacks_passed modules names x key found before (λ b there lack. false≢true (sym w.if-has_own.false ∙ c.has_own.ensures b there (overrides_same modules (key_at names key) row row_is b ∙ lack.0))))
    ]

pub returns-clause-in_order : goal.returns-clause-in_order
returns-clause-in_order c = c.in_ok-put_in_order.ensures.in_order

pub returns-clause-lacks : goal.returns-clause-lacks
returns-clause-lacks c = λ modules names cs rows segments.
    let x = c.args.segments.now in
    let bound = length c.args.rows.now.rows.items in
    let all : c.loop-number.number ≡ bound = omega (arith, c.loop-number.auto.number-end, c.loop-number-test.false, c.len-number-end.ensures) in
    lacks_kept modules names x bound c.loop-number.found.items c.put_in_order.new.found.items c.in_ok-put_in_order.ensures
    (subst (λ n. AreLacks modules names x n c.loop-number.found.items) all (c.loop-number.invariant modules names cs rows segments))
