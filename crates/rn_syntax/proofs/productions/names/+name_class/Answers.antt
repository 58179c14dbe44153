use Rattle.std.proofs.Common.{◌+◌, ◌++◌, ◌∷◌, [], ◌∙◌, sym, ap, map, arith, refl}
use Rattle.std.proofs.lemmas.Result.{err_from_is_err_and}
use Rattle.rn_syntax.specs.Grammar as g
use Rattle.rn_syntax.specs.View.{class_view, any_view}
use Rattle.rn_syntax.specs.inside.Boxes.{boxed_class_view}
use Rattle.rn_syntax.proofs.ProductionsRead.Compose.{on_fault, made_advanced, made_reads, one_on, passed_past, advanced_on, took_upto, stuck_upto, reads_upto, upto_then}
use Rattle.rn_syntax.proofs.ProductionsRead.Chaining.{chain_read, chain_stuck, chain_end, pushed}
use Rattle.rn_syntax.specs.Terminal.{operator}
use Rattle.rn_syntax.specs.declared.tree.Operator.TheVariants as o
use Rattle.rn_syntax.proofs.ProductionsRead.Next.{terminal_at, next_two, place_is, word_at_keyword}
use Rattle.rn_syntax.proofs.ProductionsRead.Classes.{word_core, prefixed_core, parens_inner, parens_stuck, parens_took, no_core, followed_took, followed_stuck, end_core, end_stuck, primary_body, primary_stuck, any_at, operand_body, operand_stuck, operand_plain, operand_any, except_took, except_stuck, tail_plain, classes_chain, class_first, class_stuck, class_alone, so_far_same, word_first}
use Rattle.rn_syntax.proofs.ProductionsRead.Skipping.{bare_here}
use Rattle.rn_syntax.proofs.productions.names.+name_class.Goals as goal

-- ---- cores

pub class_core-returns-in-Ident-clause-inside : goal.class_core-returns-in-Ident-clause-inside
class_core-returns-in-Ident-clause-inside t c = made_advanced boxed_class_view _ _ _ _ c.single_name.result c.single_name.ensures (one_on c.in-Ident.ensures.inside)

pub class_core-returns-in-Ident-clause-reads : goal.class_core-returns-in-Ident-clause-reads
class_core-returns-in-Ident-clause-reads t c = made_reads boxed_class_view c.args.tokens.now c.args.at (c.args.at + 1) c.single_name.result c.single_name.ensures (λ s. word_core g.by_name c.in-Ident.ensures.next.1)

pub class_core-returns-in-Keyword-clause-inside : goal.class_core-returns-in-Keyword-clause-inside
class_core-returns-in-Keyword-clause-inside t c = made_advanced boxed_class_view _ _ _ _ c.single_name-in-Keyword.result c.single_name-in-Keyword.ensures (one_on c.in-Keyword.ensures.inside)

pub class_core-returns-in-Keyword-clause-reads : goal.class_core-returns-in-Keyword-clause-reads
class_core-returns-in-Keyword-clause-reads t c = made_reads boxed_class_view c.args.tokens.now c.args.at (c.args.at + 1) c.single_name-in-Keyword.result c.single_name-in-Keyword.ensures (λ s. word_core (word_at_keyword c.keyword_text-name.ensures) c.in-Keyword.ensures.next.1)

pub class_core-returns-in-Prefixed-clause-inside : goal.class_core-returns-in-Prefixed-clause-inside
class_core-returns-in-Prefixed-clause-inside t c = made_advanced boxed_class_view _ _ _ _ c.prefixed_name.result c.prefixed_name.ensures (one_on c.in-Prefixed.ensures.inside)

pub class_core-returns-in-Prefixed-clause-reads : goal.class_core-returns-in-Prefixed-clause-reads
class_core-returns-in-Prefixed-clause-reads t c = made_reads boxed_class_view c.args.tokens.now c.args.at (c.args.at + 1) c.prefixed_name.result c.prefixed_name.ensures (λ s. let n = c.in-Prefixed.ensures.next in rw (c.prefix_name.ensures, c.local_name.ensures) (prefixed_core (place_is c.args.tokens.now n.1 c.place.ensures) n.1))

pub class_core-returns-in_err-class-in-LeftParen-clause-reads : goal.class_core-returns-in_err-class-in-LeftParen-clause-reads
class_core-returns-in_err-class-in-LeftParen-clause-reads t c =
    let p = err_from_is_err_and c.from_residual.result c.from_residual.ensures.1 in
    rw (p.1, p.2) (on_fault c.args.tokens.now (c.args.at + 1) c.args.at _ (λ s bad k. parens_inner c.in-LeftParen.ensures.next.1 k) c.in_err-class-in-LeftParen.ensures.reads)

pub class_core-returns-in_err-behind-in-LeftParen-clause-reads : goal.class_core-returns-in_err-behind-in-LeftParen-clause-reads
class_core-returns-in_err-behind-in-LeftParen-clause-reads t c =
    let p = err_from_is_err_and c.from_residual-in_err-behind-in-LeftParen.result c.from_residual-in_err-behind-in-LeftParen.ensures.1 in
    rw (p.1, p.2) (on_fault c.args.tokens.now c.in_ok-class-in-LeftParen.end c.args.at _ (λ s bad k. parens_stuck c.in-LeftParen.ensures.next.1 (c.in_ok-class-in-LeftParen.ensures.reads s) k) c.in_err-behind-in-LeftParen.ensures.passes)

pub class_core-returns-in_ok-behind-in-LeftParen-clause-inside : goal.class_core-returns-in_ok-behind-in-LeftParen-clause-inside
class_core-returns-in_ok-behind-in-LeftParen-clause-inside t c = record { further = omega (arith, c.in_ok-class-in-LeftParen.ensures.inside.further, c.in_ok-behind-in-LeftParen.ensures.inside.further); inside = c.in_ok-behind-in-LeftParen.ensures.inside.inside }

pub class_core-returns-in_ok-behind-in-LeftParen-clause-reads : goal.class_core-returns-in_ok-behind-in-LeftParen-clause-reads
class_core-returns-in_ok-behind-in-LeftParen-clause-reads t c = λ s. parens_took c.in-LeftParen.ensures.next.1 (c.in_ok-class-in-LeftParen.ensures.reads s) (c.in_ok-behind-in-LeftParen.ensures.passes s).1

pub class_core-returns-in_default-clause-reads : goal.class_core-returns-in_default-clause-reads
class_core-returns-in_default-clause-reads t c = λ s. no_core _ _ c.next.result c.next.ensures.next c.in_default.not-Ident c.in_default.not-Keyword c.in_default.not-Prefixed c.in_default.not-LeftParen c.requires.none

-- ---- what follows

pub class_end-returns-in_err-class-clause-reads : goal.class_end-returns-in_err-class-clause-reads
class_end-returns-in_err-class-clause-reads t c =
    let p = err_from_is_err_and c.from_residual.result c.from_residual.ensures.1 in
    rw (p.1, p.2) (on_fault c.args.tokens.now c.args.at c.args.at _ (λ s bad k. end_stuck k) c.in_err-class.ensures.reads)

pub class_end-returns-in_err-end-clause-reads : goal.class_end-returns-in_err-end-clause-reads
class_end-returns-in_err-end-clause-reads t c =
    let p = err_from_is_err_and c.from_residual-in_err-end.result c.from_residual-in_err-end.ensures.1 in
    rw (p.1, p.2) (on_fault c.args.tokens.now c.in_ok-class.behind c.args.at _ (λ s bad k. stuck_upto (end_core (c.in_ok-class.ensures.reads s)) (followed_stuck (boxed_class_view c.in_ok-class.class) k)) c.in_err-end.ensures.skips)

pub class_end-returns-clause-inside : goal.class_end-returns-clause-inside
class_end-returns-clause-inside t c = record { further = omega (arith, c.in_ok-class.ensures.inside.further, c.in_ok-end.ensures.inside.further); inside = c.in_ok-end.ensures.inside.inside }

pub class_end-returns-clause-reads : goal.class_end-returns-clause-reads
class_end-returns-clause-reads t c = λ s. took_upto (end_core (c.in_ok-class.ensures.reads s)) (followed_took (boxed_class_view c.in_ok-class.class) (c.in_ok-end.ensures.skips s))

-- ---- primaries

pub class_primary-returns-in_err-body-clause-reads : goal.class_primary-returns-in_err-body-clause-reads
class_primary-returns-in_err-body-clause-reads t c =
    let p = err_from_is_err_and c.from_residual.result c.from_residual.ensures.1 in
    rw (p.1, p.2) (on_fault c.args.tokens.now c.args.at c.args.at _ (λ s bad k. primary_stuck k) c.in_err-body.ensures.skips)

pub class_primary-returns-in-Some-clause-inside : goal.class_primary-returns-in-Some-clause-inside
class_primary-returns-in-Some-clause-inside t c = passed_past _ (c.in_ok-body.body + 1) _ c.any_class.result (omega (arith, c.in_ok-body.ensures.inside.further)) c.any_class.ensures.inside

pub class_primary-returns-in-Some-clause-reads : goal.class_primary-returns-in-Some-clause-reads
class_primary-returns-in-Some-clause-reads t c =
    reads_upto boxed_class_view c.args.tokens.now (c.in_ok-body.body + 1) c.args.at _ (λ r g. g) (λ s. upto_then (primary_body (c.in_ok-body.ensures.skips s)) (any_at c.in-Some.ensures.names)) c.any_class.ensures.reads

pub class_primary-returns-in-None-clause-inside : goal.class_primary-returns-in-None-clause-inside
class_primary-returns-in-None-clause-inside t c = advanced_on _ c.in_ok-body.body _ c.class_end.result c.in_ok-body.ensures.inside.further c.class_end.ensures.inside

pub class_primary-returns-in-None-clause-reads : goal.class_primary-returns-in-None-clause-reads
class_primary-returns-in-None-clause-reads t c =
    reads_upto boxed_class_view c.args.tokens.now c.in_ok-body.body c.args.at _ (λ r g. g) (λ s. primary_body (c.in_ok-body.ensures.skips s)) c.class_end.ensures.reads

-- ---- operands

pub any_class_operand-returns-in_err-body-clause-reads : goal.any_class_operand-returns-in_err-body-clause-reads
any_class_operand-returns-in_err-body-clause-reads t c =
    let p = err_from_is_err_and c.from_residual.result c.from_residual.ensures.1 in
    rw (p.1, p.2) (on_fault c.args.tokens.now c.args.at c.args.at _ (λ s bad k. operand_stuck k) c.in_err-body.ensures.skips)

pub any_class_operand-returns-in_default-clause-inside : goal.any_class_operand-returns-in_default-clause-inside
any_class_operand-returns-in_default-clause-inside t c = advanced_on _ c.in_ok-body.body _ c.class_end.result c.in_ok-body.ensures.inside.further c.class_end.ensures.inside

pub any_class_operand-returns-in_default-clause-reads : goal.any_class_operand-returns-in_default-clause-reads
any_class_operand-returns-in_default-clause-reads t c =
    reads_upto boxed_class_view c.args.tokens.now c.in_ok-body.body c.args.at _ (λ r g. g) (λ s. upto_then (operand_body (c.in_ok-body.ensures.skips s)) (operand_plain c.in_default.ensures.names)) c.class_end.ensures.reads

pub any_class_operand-returns-in_default-next-clause-inside : goal.any_class_operand-returns-in_default-next-clause-inside
any_class_operand-returns-in_default-next-clause-inside t c = passed_past _ (c.in_ok-body.body + 1) _ c.any_class.result (omega (arith, c.in_ok-body.ensures.inside.further)) c.any_class.ensures.inside

pub any_class_operand-returns-in_default-next-clause-reads : goal.any_class_operand-returns-in_default-next-clause-reads
any_class_operand-returns-in_default-next-clause-reads t c =
    reads_upto boxed_class_view c.args.tokens.now (c.in_ok-body.body + 1) c.args.at _ (λ r g. g)
    (λ s. upto_then (operand_body (c.in_ok-body.ensures.skips s)) (upto_then (operand_any c.in-Some.ensures.names) (tail_plain (any_view c.in-Some.any) _ _ c.next.result c.next.ensures.next c.in_default-next.not-Minus)))
    c.any_class.ensures.reads

pub any_class_operand-returns-in_err-except-clause-reads : goal.any_class_operand-returns-in_err-except-clause-reads
any_class_operand-returns-in_err-except-clause-reads t c =
    let n = c.in-Minus.ensures.next in
    let e = next_two c.args.tokens.now c.in_ok-body.body n.1 in
    let p = err_from_is_err_and c.from_residual-in_err-except.result c.from_residual-in_err-except.ensures.1 in
    rw (p.1, p.2) (on_fault c.args.tokens.now (c.in_ok-body.body + 2) c.args.at _ (λ s bad k. except_stuck (any_view c.in-Some.any) (upto_then (operand_body (c.in_ok-body.ensures.skips s)) (operand_any c.in-Some.ensures.names)) e k) c.in_err-except.ensures.reads)

pub any_class_operand-returns-clause-inside : goal.any_class_operand-returns-clause-inside
any_class_operand-returns-clause-inside t c = made_advanced boxed_class_view _ _ _ _ c.all_names_but.result c.all_names_but.ensures (record { further = omega (arith, c.in_ok-body.ensures.inside.further, c.in_ok-except.ensures.inside.further); inside = c.in_ok-except.ensures.inside.inside })

pub any_class_operand-returns-clause-reads : goal.any_class_operand-returns-clause-reads
any_class_operand-returns-clause-reads t c =
    let n = c.in-Minus.ensures.next in
    let e = next_two c.args.tokens.now c.in_ok-body.body n.1 in
    made_reads boxed_class_view c.args.tokens.now c.args.at c.in_ok-except.end c.all_names_but.result c.all_names_but.ensures (λ s. except_took (any_view c.in-Some.any) (upto_then (operand_body (c.in_ok-body.ensures.skips s)) (operand_any c.in-Some.ensures.names)) e (c.in_ok-except.ensures.reads s))

pub class_operand-class_end-requires : goal.class_operand-class_end-requires
class_operand-class_end-requires t c = (omega (arith, c.decreases), (c.requires, (word_first c.next.result _ _ c.in-Ident.is c.next.ensures.next).1))

pub class_operand-returns-in-Ident-clause-reads : goal.class_operand-returns-in-Ident-clause-reads
class_operand-returns-in-Ident-clause-reads t c =
    let w = word_first c.next.result _ _ c.in-Ident.is c.next.ensures.next in
    reads_upto boxed_class_view c.args.tokens.now c.args.at c.args.at _ (λ r g. g) (λ s. upto_then (operand_body (bare_here _ w.0)) (operand_plain w.1)) c.class_end.ensures.reads

-- ---- name classes

pub name_class-returns-in_err-first-clause-reads : goal.name_class-returns-in_err-first-clause-reads
name_class-returns-in_err-first-clause-reads t c =
    let p = err_from_is_err_and c.from_residual.result c.from_residual.ensures.1 in
    rw (p.1, p.2) (on_fault c.args.tokens.now c.args.at c.args.at _ (λ s bad k. class_stuck k) c.in_err-first.ensures.reads)

pub name_class-returns-then-not-is_operator-clause-inside : goal.name_class-returns-then-not-is_operator-clause-inside
name_class-returns-then-not-is_operator-clause-inside t c = c.in_ok-first.ensures.inside

pub name_class-returns-then-not-is_operator-clause-reads : goal.name_class-returns-then-not-is_operator-clause-reads
name_class-returns-then-not-is_operator-clause-reads t c = λ s. class_alone (c.in_ok-first.ensures.reads s) c.if-not-is_operator.ensures.is

pub name_class-choice-init : goal.name_class-choice-init
name_class-choice-init t c = record {
  further = c.in_ok-first.ensures.inside.further;
  inside = c.in_ok-first.ensures.inside.inside;
  so_far = λ s. so_far_same _ _ (sym (pushed class_view _ _ c.in_ok-push_member.ensures ∙ ap (λ l. map class_view l ++ boxed_class_view c.in_ok-first.first ∷ []) c.in_ok-members.ensures.items))
      (class_first (c.in_ok-first.ensures.reads s), c.if-not-is_operator.ensures.is);
}

pub name_class-choice-preserved : goal.name_class-choice-preserved
name_class-choice-preserved t c =
    let here = terminal_at c.args.tokens.now c.choice.end (operator o.Bar) (c.choice-test.ensures.inside refl) c.choice-test.ensures.is in
    record {
      further = omega (arith, c.in_ok-class.ensures.inside.further);
      inside = c.in_ok-class.ensures.inside.inside;
      so_far = λ s. so_far_same _ _ (sym (pushed class_view _ _ c.in_ok-push_member-2.ensures))
          (chain_read classes_chain _ _ _ (c.choice.invariant.so_far s) here.1 (c.in_ok-class.ensures.reads s));
    }

pub name_class-returns-in_err-class-clause-reads : goal.name_class-returns-in_err-class-clause-reads
name_class-returns-in_err-class-clause-reads t c =
    let here = terminal_at c.args.tokens.now c.choice.end (operator o.Bar) (c.choice-test.ensures.inside refl) c.choice-test.ensures.is in
    let p = err_from_is_err_and c.from_residual-in_err-class.result c.from_residual-in_err-class.ensures.1 in
    rw (p.1, p.2) (on_fault c.args.tokens.now (c.choice.end + 1) c.args.at _ (λ s bad k. chain_stuck classes_chain _ _ _ (c.choice.invariant.so_far s) here.1 k) c.in_err-class.ensures.reads)

pub name_class-returns-clause-inside : goal.name_class-returns-clause-inside
name_class-returns-clause-inside t c = made_advanced boxed_class_view _ _ _ _ c.choice-2.result c.choice-2.ensures (record { further = c.choice.invariant.further; inside = c.choice.invariant.inside })

pub name_class-returns-clause-reads : goal.name_class-returns-clause-reads
name_class-returns-clause-reads t c = made_reads boxed_class_view c.args.tokens.now c.args.at c.choice.end c.choice-2.result c.choice-2.ensures (λ s. chain_end classes_chain (map class_view c.choice.members.items) _ _ (c.choice.invariant.so_far s) c.choice-test.ensures.is)
