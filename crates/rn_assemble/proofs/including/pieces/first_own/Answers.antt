-- The first component that isn't before the include's own ones tells whether there is one of the key among them.
use Rattle.std.proofs.Common.{false, rules, refl, sym, ap, ◌∙◌, arith}
use Rattle.std.specs.Prelude.{is_some}
use Rattle.std.specs.List.Sorted.{IsPartitionPoint}
use Rattle.std.proofs.lemmas.Bool.{eqb-true, false_from_ne_true, ltb-false, ltb-true}
use Rattle.std.proofs.lemmas.List.Sorted.{IsPartitionPoint-from_clause}
use Rattle.std.proofs.lemmas.Option.{slice_get_read}
use Rattle.rn_assemble.proofs.KeyPieces.RowSearch.{first_tells, is_before, none_of_other, none_within, not_below, row_parted}
use Rattle.rn_assemble.proofs.including.pieces.first_own.Goals as goal
use Rattle.rn_assemble.proofs.including.pieces.first_own.Goals.{in_default-via-in-Some+then-eq+else-component-brought, in_default-via-in-Some+else-eq, in_default-via-in_default}

pub returns-in-Some : goal.returns-in-Some
returns-in-Some c =
    let row = c.args.row.now in
    let b = c.args.brought.now in
    let w = c.in-Some.component.now in
    let n = c.partition_point-at.result in
    let point = IsPartitionPoint-from_clause (is_before b.module.0 b.own_from) _ _ c.partition_point-at.ensures.partitioned (row_parted row c.requires b.module.0 b.own_from) (λ a r q k. search rules) in
    let within = ltb-true n _ (sym c.in-Some.ensures.lookup.0) in
    let same = eqb-true w.module.0 b.module.0 (sym c.if-eq.ensures) in (
      (n, within, sym c.in-Some.ensures.lookup.1),
      same,
      not_below row c.requires b.module.0 b.own_from b.own_to n point w (slice_get_read row _ n w refl within c.in-Some.ensures.lookup.1) same,
      c.if-component-brought.true,
    )

pub returns-in_default : goal.returns-in_default
returns-in_default c =
    let row = c.args.row.now in
    let b = c.args.brought.now in
    let n = c.partition_point-at.result in
    let point = IsPartitionPoint-from_clause (is_before b.module.0 b.own_from) _ _ c.partition_point-at.ensures.partitioned (row_parted row c.requires b.module.0 b.own_from) (λ a r q k. search rules) in
    elim c.in_default.branch [
      | in_default-via-in-Some+then-eq+else-component-brought w ↦
          let v = w.in-Some.component.now in
          let at = slice_get_read row _ n v refl (ltb-true n _ (sym w.in-Some.ensures.lookup.0)) w.in-Some.ensures.lookup.1 in
          sym (first_tells row c.requires b.module.0 b.own_from b.own_to n point v at (eqb-true v.module.0 b.module.0 (sym w.if-eq.ensures)))
          ∙ false_from_ne_true _ (λ t. let below = ltb-true v.number b.own_to t in omega (arith, below, w.if-component-brought.false))
      | in_default-via-in-Some+else-eq w ↦
          let v = w.in-Some.component.now in
          let at = slice_get_read row _ n v refl (ltb-true n _ (sym w.in-Some.ensures.lookup.0)) w.in-Some.ensures.lookup.1 in
          none_of_other row c.requires b.module.0 b.own_from b.own_to n point v at (sym w.if-eq.ensures)
      | in_default-via-in_default w ↦
          none_within row c.requires b.module.0 b.own_from b.own_to n point (ltb-false n _ (sym c.get.ensures.lookup.0 ∙ ap is_some w.in_default.is))
    ]
