-- The names of one component more.
use Rattle.std.proofs.Common.{◌≡◌, ◌+◌, ◌<◌, ◌++◌, [], List, true, false, length, drop, refl, sym, ap, ◌∙◌, subst, arith, append-nil}
use Rattle.std.proofs.lemmas.Grind.{flat_map-append}
use Rattle.std.proofs.lemmas.List.{drop_all}
use Rattle.rn_text.specs.Texts.{Text}
use Rattle.rn_pattern.specs.declared.references.Reach.{Reach}
use Rattle.rn_pattern.specs.declared.references.Reach.TheVariants.{Everywhere}
use Rattle.rn_assemble.specs.declared.diagnosing.undefined_names.UndefinedName.{UndefinedName}
use Rattle.rn_assemble.specs.inside.Diagnosing.{AddsUnmarked}
use Rattle.rn_assemble.specs.inside.Referred.{marked_references, names_within, references_at, within}
use Rattle.rn_assemble.specs.inside.Views.{names_of}
use Rattle.rn_assemble.proofs.Diagnoses.UndefinedNames.{unmarked_both, unmarked_none, unmarked_wider}
use Rattle.rn_assemble.proofs.Referring.MarkedReferences.{marked_step, some_component}
use Rattle.rn_assemble.proofs.diagnosing.undefined_names.push_undefined.Goals as goal
use Rattle.rn_assemble.proofs.diagnosing.undefined_names.push_undefined.Goals.{then-is_live-index+in_ok-push_undefined_of, else-is_live-index}

pub loop-index-init : goal.loop-index-init
loop-index-init c = ([], refl, unmarked_none c.args.row.now (names_of c.args.keys.now) c.args.is_defined.now c.args.found.now.items)

pub loop-index-preserved : goal.loop-index-preserved
loop-index-preserved c =
    let names = names_of c.args.keys.now in
    let is_defined = c.args.is_defined.now in
    let marks = c.args.is_live.now in
    let row = c.args.row.now in
    let i = c.loop-index.index in
    let old = c.args.found.now.items in
    let found = c.loop-index.found.items in
    let (done, is, adds) = c.loop-index.invariant in
    let l = c.loop-index-test.true in
    let m : i < length marks = omega (arith, l, c.requires) in
    elim c.if-is_live-index.branch [
      | then-is_live-index+in_ok-push_undefined_of w ↦
          let v = w.index-row-index.result in
          let both = unmarked_both row names is_defined (names_within Everywhere done) (names_within Everywhere (references_at v)) old found c.if-is_live-index.found.items adds
          (subst (λ (us : List UndefinedName). AddsUnmarked row names is_defined (names_within Everywhere (references_at v)) found us) (sym (ap (λ u. u.items) w.found-is))
          (unmarked_wider row v (i, omega (arith, l), sym w.index-row-index.is) names is_defined (names_within Everywhere (references_at v)) found _ w.in_ok-push_undefined_of.ensures)) in (
            done ++ references_at v,
            marked_step marks row i v true done (done ++ references_at v) (marked_references marks row) m l w.if-is_live-index.true (ap (λ u. done ++ references_at u) w.index-row-index.is) is,
            subst (λ ts. AddsUnmarked row names is_defined ts old c.if-is_live-index.found.items) (sym (flat_map-append (λ (r : Text × Reach). within Everywhere r.1 r.0) done (references_at v))) both,
          )
      | else-is_live-index w ↦ (
        done,
        marked_step marks row i (some_component row (omega (arith, l))) false done done (marked_references marks row) m l w.if-is_live-index.false (sym (append-nil done)) is,
        subst (λ (us : List UndefinedName). AddsUnmarked row names is_defined (names_within Everywhere done) old us) (sym (ap (λ u. u.items) w.found-is)) adds,
      )
    ]

pub returns : goal.returns
returns c =
    let row = c.args.row.now in
    let marks = c.args.is_live.now in
    let (done, is, adds) = c.loop-index.invariant in
    let none : marked_references (drop c.loop-index.index marks) (drop c.loop-index.index row) ≡ [] = (λ j. marked_references (drop_all c.loop-index.index marks (omega (arith, c.loop-index-test.false, c.requires)) j) (drop_all c.loop-index.index row c.loop-index-test.false j)) in
    let all = sym (append-nil done) ∙ ap (λ qs. done ++ qs) (sym none) ∙ is in
    subst (λ qs. AddsUnmarked row (names_of c.args.keys.now) c.args.is_defined.now (names_within Everywhere qs) c.args.found.now.items c.loop-index.found.items) all adds
