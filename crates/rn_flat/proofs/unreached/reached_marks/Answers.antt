use Rattle.std.proofs.Common.{◌≡◌, List, length, ap, ◌∙◌, arith, String, string_bytes, Global}
use Rattle.std.specs.Prelude.{◌||◌}
use Rattle.std.proofs.lemmas.List.{length-map}
use Rattle.rn_graph.proofs.Graphs.Marking.{not_marked}
use Rattle.rn_pattern.specs.View.{pattern_view}
use Rattle.rn_pattern.specs.declared.tree.Pattern.{Pattern}
use Rattle.rn_assemble.specs.GrammarView.{definitions_view, grammar_view}
use Rattle.rn_assemble.specs.SettlingOrder.{holds}
use Rattle.rn_flat.proofs.ReachedMarks.{all_below, tells}
use Rattle.rn_flat.proofs.unreached.reached_marks.Goals as goal

viewed : (es : List (String Global × Pattern)) → length (definitions_view es) ≡ length es
viewed es = length-map es (λ d. (string_bytes d.0, pattern_view d.1))

pub set_marks-requires : goal.set_marks-requires
set_marks-requires c =
    let count = ap length c.defs-defs.ensures in
    all_below (grammar_view c.args.grammar.now) _ _ c.settling_order.ensures (omega (arith, c.in_ok-marks.ensures.len, c.len.ensures, viewed c.defs-defs.result.now.entries, count))

pub returns : goal.returns
returns c =
    let count = ap length c.defs-defs.ensures in
    tells (grammar_view c.args.grammar.now) c.settling_order.result.now c.set_marks.new.marks.items c.settling_order.ensures
    (omega (arith, c.set_marks.ensures.size, c.in_ok-marks.ensures.len, c.len.ensures, viewed c.defs-defs.result.now.entries, count))
    (λ x. c.set_marks.ensures.marks x ∙ ap (λ b. b || holds c.settling_order.result.now x) (not_marked c.in_ok-marks.marks.items _ (c.in_ok-marks.ensures.items_if_clones_equal (λ y h. h)) x))
