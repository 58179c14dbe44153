use Rattle.std.proofs.Common.{◌≡◌, ◌+◌, ◌<◌, length, Some, sym, ap, ◌∙◌, subst, arith, get_or, option_copied}
use Rattle.std.specs.Prelude.{slice_get}
use Rattle.std.proofs.lemmas.Option.{slice_get-get_or}
use Rattle.rn_assemble.specs.inside.Keyed.{key_at}
use Rattle.rn_assemble.specs.inside.Rows.{IsRowOf}
use Rattle.rn_assemble.proofs.Naming.KeyByKey.{ArePlacesBelow, all_below, first_more, first_within, no_first, none_below, same_below}
use Rattle.rn_assemble.proofs.by_key.settling_order.first_places.Goals as goal
use Rattle.rn_assemble.proofs.by_key.settling_order.first_places.Goals.{in-Some+in_ok-push, in_default}

pub loop-number-init : goal.loop-number-init
loop-number-init c = λ modules names cs s rows segments. subst (λ ps. ArePlacesBelow modules c.args.segments.now names cs 1 ps) (sym c.in_ok-places.ensures.items) (none_below modules c.args.segments.now names cs)

-- the first piece begins in the row
begins : (c : goal.After-places-in-Some-1) → c.in-Some.first.now.from < length c.row-row.result.now
begins c =
    let (names, k) = c.requires in
    let row = c.row-row.result.now in
    let key = key_at names c.loop-number.number in
    let is : IsRowOf k.modules key row = subst (IsRowOf k.modules key) (sym c.row-row.ensures) (k.rows_are.each c.loop-number.number (omega (arith, c.loop-number-test.true, c.len-number-end.ensures))) in
    let first : slice_get c.live_pieces.new.pieces.items 0 ≡ Some c.in-Some.first.now = ap (λ ps. slice_get ps 0) (sym c.deref.ensures.value) ∙ sym c.first.ensures.value ∙ ap option_copied c.in-Some.is in
    first_within k.modules c.args.segments.now.list.items key row k.components c.live_pieces.new.pieces.items c.in-Some.first.now (c.in_ok-live_pieces.ensures.pieces k.modules key k.components is k.segments_are) first

pub offset_bounds-row-first : goal.offset_bounds-row-first
offset_bounds-row-first c = let here : goal.After-places-in-Some-1 = assumption in omega (arith, begins here, c.row-row.type_inv)

pub bounds-row-first : goal.bounds-row-first
bounds-row-first c = let here : goal.After-places-in-Some-1 = assumption in begins here

pub bounds-row-first-in-Some : goal.bounds-row-first-in-Some
bounds-row-first-in-Some c = let here : goal.After-places-in-Some-1 = assumption in begins here

pub loop-number-preserved : goal.loop-number-preserved
loop-number-preserved c = λ modules names cs s rows segments.
    let x = c.args.segments.now in
    let n = c.loop-number.number in
    let key = key_at names n in
    let row = c.row-row.result.now in
    let pieces = c.live_pieces.new.pieces.items in
    let is : IsRowOf modules key row = subst (IsRowOf modules key) (sym c.row-row.ensures) (rows.each n (omega (arith, c.loop-number-test.true, c.len-number-end.ensures))) in
    let are = c.in_ok-live_pieces.ensures.pieces modules key cs is segments in
    let before = c.loop-number.invariant modules names cs s rows segments in
    let got = ap (λ ps. slice_get ps 0) (sym c.deref.ensures.value) ∙ sym c.first.ensures.value in
    elim c.match-first.branch [
      | in-Some+in_ok-push w ↦
          let p = w.in-Some.first.now in
          let first : slice_get pieces 0 ≡ Some p = got ∙ ap option_copied w.in-Some.is in
          let within = first_within modules x.list.items key row cs pieces p are first in
          let component = get_or row p.from w.index-row-first.result in
          let at = slice_get-get_or row p.from w.index-row-first.result within in
          let more = first_more modules x names cs n row c.loop-number.places.items pieces p component (omega (arith, c.loop-number.auto.number)) (omega (arith, c.loop-number-test.true, c.len-number-end.ensures, rows.size)) is are
          (c.in_ok-live_pieces.ensures.left modules key cs is segments) first at before in
          subst (ArePlacesBelow modules x names cs (n + 1)) (sym (ap (λ v. v.items) w.places-is ∙ w.in_ok-push.ensures.items)) more
      | in_default w ↦
          let none = no_first modules x.list.items key row cs pieces are (got ∙ ap option_copied w.in_default.is) in
          subst (ArePlacesBelow modules x names cs (n + 1)) (sym (ap (λ v. v.items) w.places-is)) (same_below modules x names cs n c.loop-number.places.items none before)
    ]

pub returns : goal.returns
returns c = λ modules names cs s rows segments. all_below modules c.args.segments.now names cs c.loop-number.number c.loop-number.places.items (omega (arith, c.loop-number-test.false, c.len-number-end.ensures, rows.size)) (c.loop-number.invariant modules names cs s rows segments)
