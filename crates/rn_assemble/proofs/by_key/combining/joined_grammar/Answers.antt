use Rattle.std.proofs.Common.{◌≡◌, sym, ◌∙◌, subst, arith}
use Rattle.rn_pattern.specs.Matching.{Grammar}
use Rattle.rn_pattern.specs.View.{pattern_view}
use Rattle.rn_assemble.specs.Combine.{joined_grammar}
use Rattle.rn_assemble.specs.Components.{start_key}
use Rattle.rn_assemble.specs.DefinitionsView.{definitions_view}
use Rattle.rn_assemble.specs.Firsts.{joined_members}
use Rattle.rn_assemble.specs.Least.{IsLeast, key_cmp}
use Rattle.rn_assemble.specs.Refusal.{BreaksNameRules}
use Rattle.rn_assemble.specs.SettlingOrder.{IsSettlingOrder}
use Rattle.rn_assemble.specs.WellFormed.{HasWritableTexts, IsWellFormed}
use Rattle.rn_assemble.specs.inside.Joining.{IsJoinedGrammar, IsMisnamed}
use Rattle.rn_assemble.specs.inside.Patterns.{IsJoined}
use Rattle.rn_assemble.specs.inside.Rows.{IsRowOf}
use Rattle.rn_assemble.specs.inside.Tied.{AreTied}
use Rattle.rn_assemble.specs.inside.Views.{key_numbers, names_of}
use Rattle.rn_assemble.proofs.Answering.RefusedResults.{refused_at}
use Rattle.rn_assemble.proofs.Joining.KeyedDefinitions.{least_broken, name_rows}
use Rattle.rn_assemble.proofs.by_key.combining.joined_grammar.Goals as goal

pub returns-in_default : goal.returns-in_default
returns-in_default c = λ ms cs o r h d t.
    let row = subst (IsRowOf ms start_key) (sym (c.as_slice.ensures.value ∙ c.take-row.ensures.taken)) (r.each 0 (omega (arith, r.size))) in
    let breaks = subst (IsJoined cs start_key) c.in_default.is (c.in_ok-start.ensures ms start_key cs row h) in
    subst (IsLeast key_cmp (BreaksNameRules cs)) (sym (c.in_ok-key.ensures (omega arith))) (least_broken (names_of c.args.keys.now) cs o (key_numbers c.args.defined.now) d 0 (omega arith) breaks (λ m l. absurd (omega (arith, l))))

pub returns-in_err-defs : goal.returns-in_err-defs
returns-in_err-defs c = λ ms cs o r h d t.
    let row = subst (IsRowOf ms start_key) (sym (c.as_slice.ensures.value ∙ c.take-row.ensures.taken)) (r.each 0 (omega (arith, r.size))) in
    let start = subst (IsJoined cs start_key) c.in-Some.is (c.in_ok-start.ensures ms start_key cs row h) in
    let rows = name_rows ms (names_of c.args.keys.now) c.args.rows.rows.items c.take-row.new.self.rows.items r c.take-row.ensures.others in
    refused_at (IsJoinedGrammar cs) (IsMisnamed cs) c.from_residual-in_err-defs.result c.in_err-defs.field-0.0 c.from_residual-in_err-defs.ensures.1
    (c.in_err-defs.ensures ms cs o rows h d start.1)

pub invariant_of-result : goal.invariant_of-result
invariant_of-result c =
    let (ms, cs, o, r, h, can) = c.requires in
    let row = subst (IsRowOf ms start_key) (sym (c.as_slice.ensures.value ∙ c.take-row.ensures.taken)) (r.each 0 (omega (arith, r.size))) in
    let start = subst (IsJoined cs start_key) c.in-Some.is (c.in_ok-start.ensures ms start_key cs row h) in
    let rows = name_rows ms (names_of c.args.keys.now) c.args.rows.rows.items c.take-row.new.self.rows.items r c.take-row.ensures.others in
    let made = c.in_ok-defs.ensures ms cs o rows h can.defined_are start.1 in
    let firsts = c.in-Some.start.firsts.items in
    let same : ◌≡◌ {A = Grammar} (record { start = pattern_view c.in-Some.start.pattern; definitions = definitions_view c.in_ok-defs.defs.entries }) (joined_grammar cs) =
    λ i. record { start = start.0 i; definitions = made.are i } in
    record {
      start_tied = subst (λ p. AreTied firsts (joined_members p)) (sym start.0) start.2;
      tied = made.tied;
      in_order = subst (λ (g : Grammar). IsSettlingOrder g c.args.order.items) (sym same) can.settles;
      well_formed = subst IsWellFormed (sym same) (can.sound made.keep).0;
      writable = ∣ subst HasWritableTexts (sym same) (can.sound made.keep).1 ∣₁;
    }

pub returns : goal.returns
returns c = λ ms cs o r h d t.
    let row = subst (IsRowOf ms start_key) (sym (c.as_slice.ensures.value ∙ c.take-row.ensures.taken)) (r.each 0 (omega (arith, r.size))) in
    let start = subst (IsJoined cs start_key) c.in-Some.is (c.in_ok-start.ensures ms start_key cs row h) in
    let rows = name_rows ms (names_of c.args.keys.now) c.args.rows.rows.items c.take-row.new.self.rows.items r c.take-row.ensures.others in
    let made = c.in_ok-defs.ensures ms cs o rows h d start.1 in
    record { is = λ i. record { start = start.0 i; definitions = made.are i }; keeps = made.keep }
