use Rattle.std.proofs.Common.{◌≡◌, ◌++◌, List, [], ℕ, ◌-◌, sym, ap, ◌∙◌, subst, arith, length, take, inl, inr, append-nil, is_ok, length-take-le}
use Rattle.std.proofs.ResultArms.{chosen}
use Rattle.std.specs.Prelude.{map}
use Rattle.std.specs.Str.{chars, IsUtf8}
use Rattle.rn_text.specs.Characters.{is_xml_char}
use Rattle.rn_text.specs.Tokens.{lexeme_of, HasTokens, LeavesXmlAt, StopsAt, Lexeme, lexeme_at}
use Rattle.rn_text.proofs.Words.CharacterRuns.{cut_before}
use Rattle.rn_text.proofs.Cutting.Cuts.{CutSoFar, run_cut, leaves_xml, all_xml, cut_from_start, stops_here, tokens_at_end, cut_more_bytes, no_lexeme, part_shortens, lexemes_more, same_lexeme}
use Rattle.rn_text.proofs.source.read_up_to_fault.Goals as goal

pub overflow_sub-result : goal.overflow_sub-result
overflow_sub-result c = let h = c.in-Ok.ensures.cases in (run_cut is_xml_char c.in-Ok.text.now c.after_xml-wrong.result.now (subst IsUtf8 (sym h.0) h.1) c.after_xml-wrong.utf8 c.after_xml-wrong.ensures).0

pub returns-then-not-is_empty : goal.returns-then-not-is_empty
returns-then-not-is_empty c =
    let h = c.in-Ok.ensures.cases in (
      h.1,
      inl (subst (λ (bs : List ℕ). LeavesXmlAt (chars bs) (length c.in-Ok.text.now - length c.after_xml-wrong.result.now)) h.0
          (leaves_xml c.in-Ok.text.now c.after_xml-wrong.result.now (subst IsUtf8 (sym h.0) h.1) c.after_xml-wrong.utf8 c.after_xml-wrong.ensures (sym c.if-not-is_empty.ensures))),
    )

pub loop-text-init : goal.loop-text-init
loop-text-init c =
    record {
      so_far = subst (λ (l : List _). CutSoFar (chars c.in-Ok.text.now) (map lexeme_of l) (chars c.without_mark-rest.result.now)) (sym c.clear.ensures.items)
          (subst (CutSoFar (chars c.in-Ok.text.now) []) (sym c.without_mark-rest.ensures) (cut_from_start (chars c.in-Ok.text.now)));
      utf8 = c.without_mark-rest.utf8;
    }

pub overflow_sub-start : goal.overflow_sub-start
overflow_sub-start c = let h = c.in-Ok.ensures.cases in (cut_before c.in-Ok.text.now c.loop-text.rest.now c.loop-text.invariant.so_far.front (subst IsUtf8 (sym h.0) h.1) c.loop-text.invariant.utf8 c.loop-text.invariant.so_far.split).0

pub returns-in_default : goal.returns-in_default
returns-in_default c =
    let h = c.in-Ok.ensures.cases in
    let utf8 = subst IsUtf8 (sym h.0) h.1 in (
      h.1,
      inr (subst (λ (bs : List ℕ). StopsAt (chars bs) (length c.in-Ok.text.now - length c.loop-text.rest.now)) h.0
          (stops_here c.in-Ok.text.now c.loop-text.rest.now _ utf8 c.loop-text.invariant.utf8 c.loop-text.invariant.so_far
          (all_xml c.in-Ok.text.now c.after_xml-wrong.result.now c.after_xml-wrong.utf8 c.after_xml-wrong.ensures (sym c.if-not-is_empty.ensures))
          (sym c.loop-text-test.ensures) c.in_default.ensures.cases)),
    )

pub overflow_sub-end : goal.overflow_sub-end
overflow_sub-end c =
    let h = c.in-Ok.ensures.cases in
    let whole = cut_before c.in-Ok.text.now c.loop-text.rest.now c.loop-text.invariant.so_far.front (subst IsUtf8 (sym h.0) h.1) c.loop-text.invariant.utf8 c.loop-text.invariant.so_far.split in
    let here = cut_before c.loop-text.rest.now c.in-Some.after.now c.in-Some.ensures.cases.0 c.loop-text.invariant.utf8 c.in-Some.ensures.utf8 (sym c.in-Some.ensures.cases.1.begins.split) in
    omega (arith, whole.0, here.0)

pub overflow_sub-rest : goal.overflow_sub-rest
overflow_sub-rest c = (cut_before c.loop-text.rest.now c.in-Some.after.now c.in-Some.ensures.cases.0 c.loop-text.invariant.utf8 c.in-Some.ensures.utf8 (sym c.in-Some.ensures.cases.1.begins.split)).0

pub range-requires-clause-end_boundary : goal.range-requires-clause-end_boundary
range-requires-clause-end_boundary c = (cut_before c.loop-text.rest.now c.in-Some.after.now c.in-Some.ensures.cases.0 c.loop-text.invariant.utf8 c.in-Some.ensures.utf8 (sym c.in-Some.ensures.cases.1.begins.split)).1

pub loop-text-smaller-in_ok-map_err : goal.loop-text-smaller-in_ok-map_err
loop-text-smaller-in_ok-map_err c = part_shortens _ _ _ _ c.in-Some.ensures.cases.1.begins

pub loop-text-smaller : goal.loop-text-smaller
loop-text-smaller c = part_shortens _ _ _ _ c.in-Some.ensures.cases.1.begins

pub loop-text-preserved-in_ok-map_err : goal.loop-text-preserved-in_ok-map_err
loop-text-preserved-in_ok-map_err c =
    let h = c.in-Ok.ensures.cases in
    let more = cut_more_bytes c.in-Ok.text.now c.loop-text.rest.now c.in-Some.after.now _ _ _ (subst IsUtf8 (sym h.0) h.1) c.loop-text.invariant.utf8 c.in-Some.ensures.utf8 c.loop-text.invariant.so_far c.in-Some.ensures.cases.1 in
    let pushed = chosen _ _ _ _ c.push.ensures.items (sym c.map_err.ensures.variant ∙ ap is_ok c.in_ok-map_err.was) in
    let whole = cut_before c.in-Ok.text.now c.loop-text.rest.now c.loop-text.invariant.so_far.front (subst IsUtf8 (sym h.0) h.1) c.loop-text.invariant.utf8 c.loop-text.invariant.so_far.split in
    let here = cut_before c.loop-text.rest.now c.in-Some.after.now c.in-Some.ensures.cases.0 c.loop-text.invariant.utf8 c.in-Some.ensures.utf8 (sym c.in-Some.ensures.cases.1.begins.split) in
    let spelling = take (length c.loop-text.rest.now - length c.in-Some.after.now) c.loop-text.rest.now in
    let wide : length spelling ≡ length c.loop-text.rest.now - length c.in-Some.after.now = length-take-le _ _ (omega arith) in
    let at : length c.loop-text.rest.now - length c.in-Some.after.now - 0 ≡ length c.loop-text.rest.now - length c.in-Some.after.now = omega arith in
    let token = same_lexeme c.in-Token.kind spelling c.range.result.now (length c.in-Ok.text.now - length c.loop-text.rest.now) (length c.in-Ok.text.now - length c.in-Some.after.now) (c.range.ensures.value ∙ ap (λ k. take k c.loop-text.rest.now) at) (omega (arith, whole.0, here.0, wide)) in
    record {
      so_far = subst (λ (l : List Lexeme). CutSoFar (chars c.in-Ok.text.now) l (chars c.in-Some.after.now))
          (ap (λ p. map lexeme_of c.loop-text.found.items ++ lexeme_at (length c.in-Ok.text.now - length c.loop-text.rest.now) p spelling) c.in-Token.is
          ∙ sym (ap (map lexeme_of) pushed ∙ lexemes_more c.loop-text.found.items _ ∙ ap (λ l. map lexeme_of c.loop-text.found.items ++ l) token)) more;
      utf8 = c.in-Some.ensures.utf8;
    }

pub loop-text-preserved : goal.loop-text-preserved
loop-text-preserved c =
    let h = c.in-Ok.ensures.cases in
    let more = cut_more_bytes c.in-Ok.text.now c.loop-text.rest.now c.in-Some.after.now _ _ _ (subst IsUtf8 (sym h.0) h.1) c.loop-text.invariant.utf8 c.in-Some.ensures.utf8 c.loop-text.invariant.so_far c.in-Some.ensures.cases.1 in
    record {
      so_far = subst (λ (l : List Lexeme). CutSoFar (chars c.in-Ok.text.now) l (chars c.in-Some.after.now)) (ap (λ l. map lexeme_of c.loop-text.found.items ++ l) (no_lexeme _ _ _ c.in_default-part.not-Token) ∙ append-nil _) more;
      utf8 = c.in-Some.ensures.utf8;
    }

pub returns : goal.returns
returns c =
    let h = c.in-Ok.ensures.cases in (
      h.1,
      subst (λ (bs : List ℕ). HasTokens (chars bs) (map lexeme_of c.loop-text.found.items)) h.0
          (tokens_at_end c.in-Ok.text.now c.loop-text.rest.now _ c.loop-text.invariant.utf8 c.loop-text.invariant.so_far
          (all_xml c.in-Ok.text.now c.after_xml-wrong.result.now c.after_xml-wrong.utf8 c.after_xml-wrong.ensures (sym c.if-not-is_empty.ensures))
          (sym c.loop-text-test.ensures)),
    )
