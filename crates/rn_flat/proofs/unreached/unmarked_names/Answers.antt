use Rattle.std.proofs.Common.{◌≡◌, length, map, string_bytes, sym, ◌∙◌, arith}
use Rattle.std.proofs.lemmas.List.{length-map}
use Rattle.rn_assemble.specs.GrammarView.{definitions_view}
use Rattle.rn_flat.specs.UnreachedNames.{names_of_definitions}
use Rattle.rn_flat.proofs.ReachedMarks.{next_name}
use Rattle.rn_flat.proofs.unreached.unmarked_names.Goals as goal

pub loop-number-preserved : goal.loop-number-preserved
loop-number-preserved c =
    let ds = definitions_view c.args.defs.now.entries in
    let size : length c.args.marks.now ≡ length (names_of_definitions ds) = c.requires ∙ sym (length-map ds _) in
    next_name c.args.marks.now (names_of_definitions ds) c.loop-number.number (map string_bytes c.loop-number.names.items) (map string_bytes c.push_unmarked.new.names.items)
    (omega (arith, c.loop-number-test.true, size)) size c.in_ok-push_unmarked.ensures c.loop-number.invariant
