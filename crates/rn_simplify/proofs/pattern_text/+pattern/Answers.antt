use Rattle.std.proofs.Common.{rules, ◌≡◌, ◌-◌, ℕ, length, take, drop, nat_eq, true, false, None, Some, [], ◌++◌, sym, ap, ◌∙◌, subst, refl}
use Rattle.std.specs.Prelude.{codes, MatchOption}
use Rattle.std.specs.Str.{chars}
use Rattle.rn_pattern.specs.Tree as tree
use Rattle.rn_pattern.specs.Tree.{NameTree, Tree}
use Rattle.rn_pattern.specs.declared.tree.Pattern.TheFolds.{fold_out-Pattern, fold-roll-Pattern}
use Rattle.rn_pattern.specs.declared.tree.Pattern.TheViews.{the_lemmas}
use Rattle.rn_simplify.specs.Spelling.{chain, comma, infix_of, operand, optional_member, primary, written_choice, written_interleave, written_tree}
use Rattle.rn_pattern.specs.View.{name_class_view, named_step, pattern_step, pattern_view}
use Rattle.rn_simplify.specs.inside.Writes.{bytes_of, data_text, depth_after, prefixes_view, written_members, Writes}
use Rattle.rn_simplify.proofs.Texts.Writing.{writes_as, writes_pieces}
use Rattle.rn_simplify.proofs.Texts.PartTexts.{writes_identifier, writes_braced, writes_parenthesized}
use Rattle.rn_simplify.proofs.ReadBack.Chains.{before}
use Rattle.rn_simplify.proofs.Simplified.NamedParts.{attribute_seen, element_seen}
use Rattle.rn_simplify.proofs.Texts.Members.{group_rows, interleave_rows, choice_rows}
use Rattle.rn_simplify.proofs.Texts.NodeTexts.{writes_not_allowed, writes_empty, writes_text, writes_except, writes_datum, writes_list, writes_attribute, writes_element, writes_one_or_more, writes_repeated, writes_maybe, writes_no_other, writes_one_other, writes_others, writes_no_choice, writes_optional, writes_choice, writes_no_interleave, writes_mixed, writes_interleave, writes_one_mixed, writes_several_mixed, row_count, not_repeated, chain_begins, chain_more, chain_no_connector, chain_connector, chain_ends}
use Rattle.rn_simplify.proofs.pattern_text.+pattern.Goals as goal
use Rattle.rn_simplify.proofs.pattern_text.+pattern.Goals.{write_chain-then-i-first, write_chain-else-i-first}

bar_bytes : bytes_of (infix_of (codes "|")) ≡ codes " | "
unfolding lib.Utf8.encode chars
bar_bytes = refl

bar_depth : (n : ℕ) → depth_after (infix_of (codes "|")) n ≡ Some n
unfolding lib.Utf8.encode chars
bar_depth n = refl

ampersand_bytes : bytes_of (infix_of (codes "&")) ≡ codes " & "
unfolding lib.Utf8.encode chars
ampersand_bytes = refl

ampersand_depth : (n : ℕ) → depth_after (infix_of (codes "&")) n ≡ Some n
unfolding lib.Utf8.encode chars
ampersand_depth n = refl

comma_bytes : bytes_of comma ≡ codes ", "
unfolding lib.Utf8.encode chars
comma_bytes = refl

comma_depth : (n : ℕ) → depth_after comma n ≡ Some n
unfolding lib.Utf8.encode chars
comma_depth n = refl

pub write_in_braces-returns : goal.write_in_braces-returns
write_in_braces-returns t c = writes_braced _ c.open_bracket.ensures c.write_pattern.ensures c.close_bracket.ensures

pub write_in_parentheses-returns : goal.write_in_parentheses-returns
write_in_parentheses-returns t c = writes_parenthesized _ c.open_bracket.ensures c.write_pattern.ensures c.close_bracket.ensures

pub write_choice-returns-then-is_empty : goal.write_choice-returns-then-is_empty
write_choice-returns-then-is_empty t c =
    let f = prefixes_view c.args.prefixes.now in
    let e : nat_eq (length c.args.members.now) 0 ≡ true = search rules in
    writes_no_choice (written_members f c.args.members.now) (row_count f c.args.members.now 0 true e) c.put.ensures

pub write_choice-returns-then-begins_with_empty : goal.write_choice-returns-then-begins_with_empty
write_choice-returns-then-begins_with_empty t c =
    let f = prefixes_view c.args.prefixes.now in
    writes_optional f c.args.members.now (sym (c.begins_with_empty.ensures f) ∙ c.if-begins_with_empty.true) c.write_optional.ensures

pub write_choice-returns-else-begins_with_empty : goal.write_choice-returns-else-begins_with_empty
write_choice-returns-else-begins_with_empty t c =
    let f = prefixes_view c.args.prefixes.now in
    let e : nat_eq (length c.args.members.now) 0 ≡ false = search rules in
    writes_choice (written_members f c.args.members.now) (row_count f c.args.members.now 0 false e) (sym (c.begins_with_empty.ensures f) ∙ c.if-begins_with_empty.false) (c.write_chain.ensures (infix_of (codes "|")) bar_bytes bar_depth)

pub write_interleave-returns-then-is_empty : goal.write_interleave-returns-then-is_empty
write_interleave-returns-then-is_empty t c =
    let f = prefixes_view c.args.prefixes.now in
    let e : nat_eq (length c.args.members.now) 0 ≡ true = search rules in
    writes_no_interleave (written_members f c.args.members.now) (row_count f c.args.members.now 0 true e) c.put.ensures

pub write_interleave-returns-then-begins_with_text : goal.write_interleave-returns-then-begins_with_text
write_interleave-returns-then-begins_with_text t c =
    let f = prefixes_view c.args.prefixes.now in
    writes_mixed f c.args.members.now (sym (c.begins_with_text.ensures f) ∙ c.if-begins_with_text.true) c.put-then-begins_with_text.ensures c.open_bracket.ensures c.write_mixed.ensures c.close_bracket.ensures

pub write_interleave-returns-else-begins_with_text : goal.write_interleave-returns-else-begins_with_text
write_interleave-returns-else-begins_with_text t c =
    let f = prefixes_view c.args.prefixes.now in
    let e : nat_eq (length c.args.members.now) 0 ≡ false = search rules in
    writes_interleave (written_members f c.args.members.now) (row_count f c.args.members.now 0 false e) (sym (c.begins_with_text.ensures f) ∙ c.if-begins_with_text.false) (c.write_chain.ensures (infix_of (codes "&")) ampersand_bytes ampersand_depth)

pub write_mixed-returns-then-members-eq2 : goal.write_mixed-returns-then-members-eq2
write_mixed-returns-then-members-eq2 t c =
    let f = prefixes_view c.args.prefixes.now in
    writes_one_mixed f c.args.members.now c.index-members-1.result c.if-members-eq2.true c.index-members-1.is
    (subst (λ p. Writes (written_tree f (pattern_view p)).pieces c.args.writer.now c.write_pattern.new.writer) c.deref.ensures c.write_pattern.ensures)

pub write_mixed-returns-else-members-eq2 : goal.write_mixed-returns-else-members-eq2
write_mixed-returns-else-members-eq2 t c =
    let f = prefixes_view c.args.prefixes.now in
    writes_several_mixed f c.args.members.now c.if-members-eq2.false (c.write_chain.ensures (infix_of (codes "&")) ampersand_bytes ampersand_depth)

pub write_optional-returns-then-members-eq1 : goal.write_optional-returns-then-members-eq1
write_optional-returns-then-members-eq1 t c =
    let f = prefixes_view c.args.prefixes.now in
    writes_no_other f c.args.members.now c.if-members-eq1.true c.put.ensures

pub write_optional-returns-then-members-eq2 : goal.write_optional-returns-then-members-eq2
write_optional-returns-then-members-eq2 t c =
    let f = prefixes_view c.args.prefixes.now in
    writes_one_other f c.args.members.now c.index-members-1.result c.if-members-eq2.true c.index-members-1.is
    (subst (λ p. Writes (optional_member (written_tree f (pattern_view p)).repeated (written_tree f (pattern_view p))) c.args.writer.now c.write_optional_member.new.writer) c.deref.ensures c.write_optional_member.ensures)

pub write_optional-returns-else-members-eq2 : goal.write_optional-returns-else-members-eq2
write_optional-returns-else-members-eq2 t c =
    let f = prefixes_view c.args.prefixes.now in
    writes_others f c.args.members.now c.requires c.if-members-eq1.false c.if-members-eq2.false c.open_bracket.ensures (c.write_chain.ensures (infix_of (codes "|")) bar_bytes bar_depth) c.close_bracket.ensures c.put-else-members-eq2.ensures

pub write_optional_member-returns-in-OneOrMore : goal.write_optional_member-returns-in-OneOrMore
write_optional_member-returns-in-OneOrMore t c =
    let f = prefixes_view c.args.prefixes.now in
    let p = pattern_view c.deref.result.now in
    let e : pattern_view c.args.other.now ≡ tree.one_or_more p = search (rules, the_lemmas, fold_out-Pattern Tree (NameTree × Tree) pattern_step named_step, fold-roll-Pattern Tree (NameTree × Tree) pattern_step named_step) in
    subst (λ q. Writes (optional_member (written_tree f q).repeated (written_tree f q)) c.args.writer.now c.put.new.self) (sym e) (writes_repeated f p c.write_primary.ensures c.put.ensures)

pub write_optional_member-returns-in_default : goal.write_optional_member-returns-in_default
write_optional_member-returns-in_default t c =
    let f = prefixes_view c.args.prefixes.now in
    let e : (written_tree f (pattern_view c.args.other.now)).repeated ≡ None = not_repeated f c.args.other.now c.in_default.not-OneOrMore in
    writes_maybe (written_tree f (pattern_view c.args.other.now)) e c.write_primary-in_default.ensures c.put-in_default.ensures

pub write_pattern-returns-in-NotAllowed : goal.write_pattern-returns-in-NotAllowed
write_pattern-returns-in-NotAllowed t c =
    let f = prefixes_view c.args.prefixes.now in
    let e : pattern_view c.args.pattern.now ≡ tree.not_allowed = search (rules, the_lemmas, fold_out-Pattern Tree (NameTree × Tree) pattern_step named_step, fold-roll-Pattern Tree (NameTree × Tree) pattern_step named_step) in
    subst (λ q. Writes (written_tree f q).pieces c.args.writer.now c.put.new.self) (sym e) (writes_not_allowed c.put.ensures)

pub write_pattern-returns-in-Empty : goal.write_pattern-returns-in-Empty
write_pattern-returns-in-Empty t c =
    let f = prefixes_view c.args.prefixes.now in
    let e : pattern_view c.args.pattern.now ≡ tree.empty = search (rules, the_lemmas, fold_out-Pattern Tree (NameTree × Tree) pattern_step named_step, fold-roll-Pattern Tree (NameTree × Tree) pattern_step named_step) in
    subst (λ q. Writes (written_tree f q).pieces c.args.writer.now c.put-in-Empty.new.self) (sym e) (writes_empty c.put-in-Empty.ensures)

pub write_pattern-returns-in-Text : goal.write_pattern-returns-in-Text
write_pattern-returns-in-Text t c =
    let f = prefixes_view c.args.prefixes.now in
    let e : pattern_view c.args.pattern.now ≡ tree.text = search (rules, the_lemmas, fold_out-Pattern Tree (NameTree × Tree) pattern_step named_step, fold-roll-Pattern Tree (NameTree × Tree) pattern_step named_step) in
    subst (λ q. Writes (written_tree f q).pieces c.args.writer.now c.put-in-Text.new.self) (sym e) (writes_text c.put-in-Text.ensures)

pub write_pattern-returns-in-Ref : goal.write_pattern-returns-in-Ref
write_pattern-returns-in-Ref t c =
    let f = prefixes_view c.args.prefixes.now in
    let x = c.as_str.result.now in
    let e : pattern_view c.args.pattern.now ≡ tree.ref x = search (rules, the_lemmas, fold_out-Pattern Tree (NameTree × Tree) pattern_step named_step, fold-roll-Pattern Tree (NameTree × Tree) pattern_step named_step) in
    subst (λ q. Writes (written_tree f q).pieces c.args.writer.now c.put_identifier.new.self) (sym e) (writes_identifier x c.as_str.ensures.utf8 c.put_identifier.ensures)

pub write_except-returns-in-Some : goal.write_except-returns-in-Some
write_except-returns-in-Some t c =
    let f = prefixes_view c.args.prefixes.now in
    let a = c.args.writer.now in
    let b = c.write_primary.new.writer in
    subst (λ o. MatchOption o (Writes [] a b) (λ p. Writes (infix_of (codes "-") ++ primary (written_tree f (pattern_view p.value))) a b)) (sym c.in-Some.is)
    (subst (λ p. Writes (infix_of (codes "-") ++ primary (written_tree f (pattern_view p))) a b) c.deref.ensures (writes_except f (pattern_view c.deref.result.now) c.put.ensures c.write_primary.ensures))

pub write_pattern-returns-in-Datum : goal.write_pattern-returns-in-Datum
write_pattern-returns-in-Datum t c =
    let f = prefixes_view c.args.prefixes.now in
    let e = ap (data_text f) c.deref-in-Datum.ensures in
    subst (λ p. Writes (written_tree f (pattern_view p)).pieces c.args.writer.now c.write_except.new.writer) (sym c.in-Datum.is) (writes_datum f c.in-Datum.data c.in-Datum.except (writes_as e c.write_data.ensures) c.write_except.ensures)

pub write_pattern-returns-in-List : goal.write_pattern-returns-in-List
write_pattern-returns-in-List t c =
    let f = prefixes_view c.args.prefixes.now in
    let p = pattern_view c.deref-in-List.result.now in
    let e : pattern_view c.args.pattern.now ≡ tree.list p = search (rules, the_lemmas, fold_out-Pattern Tree (NameTree × Tree) pattern_step named_step, fold-roll-Pattern Tree (NameTree × Tree) pattern_step named_step) in
    subst (λ q. Writes (written_tree f q).pieces c.args.writer.now c.write_in_braces.new.writer) (sym e) (writes_list f p c.put-in-List.ensures c.write_in_braces.ensures)

pub write_pattern-returns-in-Attribute : goal.write_pattern-returns-in-Attribute
write_pattern-returns-in-Attribute t c =
    let f = prefixes_view c.args.prefixes.now in
    let n = name_class_view c.deref-in-Attribute.result.now.class in
    let p = pattern_view c.deref-in-Attribute-2.result.now.content in
    let e : pattern_view c.args.pattern.now ≡ tree.attribute n p = ap pattern_view c.in-Attribute.is ∙ attribute_seen c.in-Attribute.named
    ∙ (λ i. tree.attribute (name_class_view (sym c.deref-in-Attribute.ensures i).class) (pattern_view (sym c.deref-in-Attribute-2.ensures i).content)) in
    subst (λ q. Writes (written_tree f q).pieces c.args.writer.now c.write_in_braces-in-Attribute.new.writer) (sym e) (writes_attribute f n p c.write_head.ensures c.write_in_braces-in-Attribute.ensures)

pub write_pattern-returns-in-Element : goal.write_pattern-returns-in-Element
write_pattern-returns-in-Element t c =
    let f = prefixes_view c.args.prefixes.now in
    let n = name_class_view c.deref-in-Element.result.now.class in
    let p = pattern_view c.deref-in-Element-2.result.now.content in
    let e : pattern_view c.args.pattern.now ≡ tree.element n p = ap pattern_view c.in-Element.is ∙ element_seen c.in-Element.named
    ∙ (λ i. tree.element (name_class_view (sym c.deref-in-Element.ensures i).class) (pattern_view (sym c.deref-in-Element-2.ensures i).content)) in
    subst (λ q. Writes (written_tree f q).pieces c.args.writer.now c.write_in_braces-in-Element.new.writer) (sym e) (writes_element f n p c.write_head-in-Element.ensures c.write_in_braces-in-Element.ensures)

pub write_pattern-returns-in-OneOrMore : goal.write_pattern-returns-in-OneOrMore
write_pattern-returns-in-OneOrMore t c =
    let f = prefixes_view c.args.prefixes.now in
    let p = pattern_view c.deref-in-OneOrMore.result.now in
    let e : pattern_view c.args.pattern.now ≡ tree.one_or_more p = search (rules, the_lemmas, fold_out-Pattern Tree (NameTree × Tree) pattern_step named_step, fold-roll-Pattern Tree (NameTree × Tree) pattern_step named_step) in
    subst (λ q. Writes (written_tree f q).pieces c.args.writer.now c.put-in-OneOrMore.new.self) (sym e) (writes_one_or_more f p c.write_primary.ensures c.put-in-OneOrMore.ensures)

pub write_pattern-returns-in-Group : goal.write_pattern-returns-in-Group
write_pattern-returns-in-Group t c =
    let f = prefixes_view c.args.prefixes.now in
    let e = ap (λ p. (written_tree f (pattern_view p)).pieces) c.in-Group.is ∙ ap (λ w. w.pieces) (group_rows f c.in-Group.members) ∙ ap (λ ps. chain comma (written_members f ps)) (sym c.deref-in-Group.ensures.value) in
    writes_as (sym e) (c.write_chain.ensures comma comma_bytes comma_depth)

pub write_pattern-returns-in-Interleave : goal.write_pattern-returns-in-Interleave
write_pattern-returns-in-Interleave t c =
    let f = prefixes_view c.args.prefixes.now in
    let e = ap (λ p. (written_tree f (pattern_view p)).pieces) c.in-Interleave.is ∙ ap (λ w. w.pieces) (interleave_rows f c.in-Interleave.members) ∙ ap (λ ps. (written_interleave (written_members f ps)).pieces) (sym c.deref-in-Interleave.ensures.value) in
    writes_as (sym e) c.write_interleave.ensures

pub write_pattern-returns-in-Choice : goal.write_pattern-returns-in-Choice
write_pattern-returns-in-Choice t c =
    let f = prefixes_view c.args.prefixes.now in
    let e = ap (λ p. (written_tree f (pattern_view p)).pieces) c.in-Choice.is ∙ ap (λ w. w.pieces) (choice_rows f c.in-Choice.members) ∙ ap (λ ps. (written_choice (written_members f ps)).pieces) (sym c.deref-in-Choice.ensures.value) in
    writes_as (sym e) c.write_choice.ensures

pub write_chain-loop-i-init : goal.write_chain-loop-i-init
write_chain-loop-i-init t c = λ s e h. chain_begins (prefixes_view c.args.prefixes.now) s c.args.members.now c.args.first

pub write_chain-loop-i-preserved : goal.write_chain-loop-i-preserved
write_chain-loop-i-preserved t c = λ s e h.
    let f = prefixes_view c.args.prefixes.now in
    let ps = c.args.members.now in
    let k = c.args.first in
    let i = c.loop-i.i in
    let w : Writes (before (take (i - k) (drop k ps)) s) c.loop-i.writer c.if-i-first.writer =
    elim c.if-i-first.branch [
      | write_chain-then-i-first w ↦ chain_connector s ps k i w.if-i-first.true c.loop-i-test.true (subst (λ y. Writes s c.loop-i.writer y) (sym w.writer-is) (writes_pieces s e h w.put.ensures))
      | write_chain-else-i-first w ↦ subst (λ y. Writes (before (take (i - k) (drop k ps)) s) c.loop-i.writer y) (sym w.writer-is) (chain_no_connector s ps k i w.if-i-first.false)
    ] in
    chain_more f s ps k i c.index-members-i.result c.loop-i.auto.i c.loop-i-test.true c.index-members-i.is (c.loop-i.invariant s e h) w
    (subst (λ p. Writes (operand (written_tree f (pattern_view p))) c.if-i-first.writer c.write_operand.new.writer) c.deref.ensures c.write_operand.ensures)

pub write_chain-returns : goal.write_chain-returns
write_chain-returns t c = λ s e h. chain_ends (prefixes_view c.args.prefixes.now) s c.args.members.now c.args.first c.loop-i.i c.loop-i-test.false (c.loop-i.invariant s e h)
