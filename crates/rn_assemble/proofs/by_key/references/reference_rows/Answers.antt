-- The references of the keys so far, and those of one key more.
use Rattle.std.proofs.Common.{◌≡◌, ◌<◌, ◌≤◌, suc, length, map, option_map, sym, ap, ◌∙◌, subst, arith}
use Rattle.std.specs.List.{AllByRecursion}
use Rattle.std.proofs.lemmas.List.{length_push}
use Rattle.rn_pattern.specs.Reached.{RefersTo}
use Rattle.rn_pattern.specs.References.{RefersOutside}
use Rattle.rn_graph.specs.Graph.{rows_of}
use Rattle.rn_graph.proofs.Graphs.BuiltRows.{is_graph, rows_pushed, no_rows}
use Rattle.rn_pattern.specs.declared.references.Reach.TheVariants.{Everywhere, OutsideElements}
use Rattle.rn_assemble.specs.declared.including.pieces.Piece.{Piece}
use Rattle.rn_assemble.specs.inside.Keyed.{key_at}
use Rattle.rn_assemble.specs.inside.Referred.{AreLiveMarks, AreMarksOf, KeepsLeast, names_within, reference_view}
use Rattle.rn_assemble.specs.inside.Rows.{IsRowOf}
use Rattle.rn_assemble.specs.inside.Views.{key_numbers, names_of}
use Rattle.rn_assemble.proofs.Referring.FoundReferences.{names_anywhere, names_outside, ranges}
use Rattle.rn_assemble.proofs.Referring.GatheredReferences.{Gathered, row_of, gathered_begins, gathered_more, rows_or_least}
use Rattle.rn_assemble.proofs.by_key.references.reference_rows.Goals as goal

pub loop-number-init : goal.loop-number-init
loop-number-init c = record {
  everywhere = rw (c.in_ok-found.ensures.everywhere) (no_rows _);
  everywhere_size = ap length c.in_ok-found.ensures.everywhere;
  outside = rw (c.in_ok-found.ensures.outside) (no_rows _);
  outside_size = ap length c.in_ok-found.ensures.outside;
  gathered = λ modules cs s r x. rw (c.in_ok-found.ensures.everywhere, c.in_ok-found.ensures.outside) (gathered_begins _ _ _);
}

pub references_in-requires : goal.references_in-requires
references_in-requires c =
    let modules = c.requires.modules in
    let n = c.loop-number.number in
    let key = key_at (names_of c.args.keys.now) n in
    let written = c.row-written.result.now in
    let l : n < length c.args.rows.now.rows.items = omega (arith, c.loop-number-test.true, c.len-number-end.ensures) in
    let is = subst (IsRowOf modules key) (sym c.row-written.ensures) (c.requires.rows_are.each n l) in
    let are = c.in_ok-live_pieces.ensures.pieces modules key c.requires.components is c.requires.segments_are in
    subst (AllByRecursion (λ (p : Piece). (p.from ≤ p.to) × (p.to ≤ length written))) (sym c.deref.ensures.value)
    (ranges modules c.args.segments.now.list.items key written c.requires.components c.live_pieces.new.pieces.items are)

pub loop-number-preserved : goal.loop-number-preserved
loop-number-preserved c =
    let inv = c.loop-number.invariant in
    record {
      everywhere = rows_pushed _ _ _ _ inv.everywhere c.in_ok-row_of.ensures.everywhere_within c.in_ok-push_row.ensures.everywhere;
      everywhere_size = omega (arith, ap length c.in_ok-push_row.ensures.everywhere, length_push (rows_of c.loop-number.found.everywhere) c.row_of.new.row.everywhere.items, inv.everywhere_size);
      outside = rows_pushed _ _ _ _ inv.outside c.in_ok-row_of.ensures.outside_within c.in_ok-push_row.ensures.outside;
      outside_size = omega (arith, ap length c.in_ok-push_row.ensures.outside, length_push (rows_of c.loop-number.found.outside) c.row_of.new.row.outside.items, inv.outside_size);
      gathered = λ modules cs s r x.
          let names = names_of c.args.keys.now in
          let marks = c.in_ok-is_defined.is_defined.items in
          let n = c.loop-number.number in
          let key = key_at names n in
          let written = c.row-written.result.now in
          let list = c.args.segments.now.list.items in
          let pieces = c.live_pieces.new.pieces.items in
          let references = map reference_view c.deref-in-loop-number-2.result.now in
          let l : n < length c.args.rows.now.rows.items = omega (arith, c.loop-number-test.true, c.len-number-end.ensures) in
          let are = c.in_ok-live_pieces.ensures.pieces modules key cs (subst (IsRowOf modules key) (sym c.row-written.ensures) (r.each n l)) x in
          let found = c.in_ok-references_in.ensures in
          let live = subst (λ ps. AreLiveMarks ps (length written) found.0) c.deref.ensures.value found.1 in
          let is = ap (map reference_view) c.deref-in-loop-number-2.ensures.value ∙ found.2 in
          let anywhere = names_anywhere modules list key written cs pieces are found.0 live references is in
          let outside = names_outside modules list key written cs pieces are found.0 live references is in
          let least = subst (λ ms. KeepsLeast names ms (names_within Everywhere references) (option_map (λ t. t.now) c.loop-number.undefined) (option_map (λ t. t.now) c.row_of.new.undefined)) c.deref-in-loop-number.ensures.value c.in_ok-row_of.ensures.least in
          gathered_more names cs marks (rows_of c.loop-number.found.everywhere) (rows_of c.loop-number.found.outside) (rows_of c.push_row.new.self.everywhere) (rows_of c.push_row.new.self.outside) c.row_of.new.row.everywhere.items c.row_of.new.row.outside.items n _ _ (names_within Everywhere references)
          (inv.gathered modules cs s r x) inv.everywhere_size inv.outside_size c.in_ok-push_row.ensures.everywhere c.in_ok-push_row.ensures.outside
          (row_of RefersTo names (names_within Everywhere references) cs n c.row_of.new.row.everywhere.items c.in_ok-row_of.ensures.everywhere anywhere)
          (row_of RefersOutside names (names_within OutsideElements references) cs n c.row_of.new.row.outside.items c.in_ok-row_of.ensures.outside outside)
          anywhere least;
    }

pub returns-clause-everywhere : goal.returns-clause-everywhere
returns-clause-everywhere c = is_graph _ _ c.loop-number.invariant.everywhere (omega (arith, c.loop-number.invariant.everywhere_size, c.loop-number-test.false, c.loop-number.auto.number-end, c.len-number-end.ensures, c.requires.rows_are.size))

pub returns-clause-everywhere_size : goal.returns-clause-everywhere_size
returns-clause-everywhere_size c = omega (arith, c.loop-number.invariant.everywhere_size, c.loop-number-test.false, c.loop-number.auto.number-end, c.len-number-end.ensures, c.requires.rows_are.size)

pub returns-clause-outside : goal.returns-clause-outside
returns-clause-outside c = is_graph _ _ c.loop-number.invariant.outside (omega (arith, c.loop-number.invariant.outside_size, c.loop-number-test.false, c.loop-number.auto.number-end, c.len-number-end.ensures, c.requires.rows_are.size))

pub returns-clause-outside_size : goal.returns-clause-outside_size
returns-clause-outside_size c = omega (arith, c.loop-number.invariant.outside_size, c.loop-number-test.false, c.loop-number.auto.number-end, c.len-number-end.ensures, c.requires.rows_are.size)

pub returns-clause-found : goal.returns-clause-found
returns-clause-found c = λ modules cs s r x d.
    let names = names_of c.args.keys.now in
    let marks = c.in_ok-is_defined.is_defined.items in
    let everywhere = rows_of c.loop-number.found.everywhere in
    let outside = rows_of c.loop-number.found.outside in
    let size : c.len.result ≡ suc (length names) = omega (arith, c.len.ensures, r.size) in
    let done : c.loop-number.number ≡ suc (length names) = omega (arith, c.loop-number-test.false, c.loop-number.auto.number-end, c.len-number-end.ensures, r.size) in
    rows_or_least names cs (key_numbers c.args.defined.now) d marks (subst (λ n. AreMarksOf (key_numbers c.args.defined.now) n marks) size c.in_ok-is_defined.ensures) c.loop-number.found (c.loop-number.invariant.everywhere_size ∙ done) (c.loop-number.invariant.outside_size ∙ done)
    (option_map (λ t. t.now) c.loop-number.undefined)
    (subst (λ n. Gathered names cs marks everywhere outside n (option_map (λ t. t.now) c.loop-number.undefined)) done (c.loop-number.invariant.gathered modules cs s r x))
