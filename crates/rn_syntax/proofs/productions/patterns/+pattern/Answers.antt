-- Each reader of patterns, exit by exit.
use Rattle.std.proofs.Common.{◌+◌, ◌++◌, ◌∷◌, [], ◌∙◌, sym, ap, map, arith, refl}
use Rattle.std.proofs.lemmas.Result.{err_from_is_err_and}
use Rattle.rn_text.specs.declared.keywords.Keyword.TheVariants as word
use Rattle.rn_syntax.specs.Terminal.{operator, right_brace}
use Rattle.rn_syntax.specs.Tree as tree
use Rattle.rn_syntax.specs.View.{boxed_view, datatype_view, params_view, pattern_view}
use Rattle.rn_syntax.specs.inside.Boxes.{boxed_named_view}
use Rattle.rn_syntax.specs.inside.Follow.{first_terminal}
use Rattle.rn_syntax.proofs.ProductionsRead.Compose.{on_fault, took_same, token_took, reads_upto, made_reads, made_passed, made_advanced, later, one_on, passed_on, passed_past}
use Rattle.rn_syntax.proofs.ProductionsRead.Next.{terminal_at, next_two, place_is}
use Rattle.rn_syntax.proofs.ProductionsRead.PatternViews.{named_is}
use Rattle.rn_syntax.proofs.ProductionsRead.Chaining.{chain_read, chain_stuck, chain_end, pushed}
use Rattle.rn_syntax.proofs.ProductionsRead.Chains.{operands_chain, pattern_stuck, pattern_alone, pattern_first, operands_same}
use Rattle.rn_syntax.proofs.ProductionsRead.Operands.{no_segment, text_stuck, text_read, params_stuck, params_read, datum_read, except_stuck, except_took, core_made}
use Rattle.rn_syntax.proofs.ProductionsRead.Primaries.{type_at, operand_stuck, operand_typed, operand_first, operand_core_stuck, operand_core_read, primary_stuck, primary_core_stuck, primary_follows_stuck, primary_took}
use Rattle.rn_syntax.proofs.ProductionsRead.Cores.{open_stuck, braces_inner, braces_close, braced_took, class_stuck, content_stuck, content_took, keyword_here, element_stuck, element_took, attribute_stuck, attribute_took, list_stuck, list_took, mixed_stuck, mixed_took, empty_took, not_allowed_took, text_took, ref_took}
use Rattle.rn_syntax.proofs.ProductionsRead.Unnamed.{literal_stuck, literal_took, inner_stuck, close_stuck, parens_took, no_core, no_datatype, no_keyword_core}
use Rattle.rn_syntax.proofs.productions.patterns.+pattern.Goals as goal

-- ---- braces

pub braced-returns-in_err-inside-clause-reads : goal.braced-returns-in_err-inside-clause-reads
braced-returns-in_err-inside-clause-reads t c =
    let p = err_from_is_err_and c.from_residual.result c.from_residual.ensures.1 in
    rw (p.1, p.2) (on_fault c.args.tokens.now c.args.at c.args.at _ (λ s bad k. open_stuck k) c.in_err-inside.ensures.passes)

pub braced-returns-in-Some-clause-inside : goal.braced-returns-in-Some-clause-inside
braced-returns-in-Some-clause-inside t c = record { further = omega (arith, c.in_ok-inside.ensures.inside.further); inside = omega (arith, c.in-Some.ensures.inside) }

pub braced-returns-in-Some-clause-reads : goal.braced-returns-in-Some-clause-reads
braced-returns-in-Some-clause-reads t c =
    let inside = c.in_ok-inside.inside in
    let brace = terminal_at c.args.tokens.now (inside + 1) right_brace c.in-Some.ensures.inside c.in-Some.ensures.brace in
    λ s. braced_took (c.in_ok-inside.ensures.passes s).1 c.in-Some.ensures.reads (token_took (next_two c.args.tokens.now inside brace.1))

pub braced-returns-in_err-content-clause-reads : goal.braced-returns-in_err-content-clause-reads
braced-returns-in_err-content-clause-reads t c =
    let p = err_from_is_err_and c.from_residual-in_err-content.result c.from_residual-in_err-content.ensures.1 in
    rw (p.1, p.2) (on_fault c.args.tokens.now c.in_ok-inside.inside c.args.at _ (λ s bad k. braces_inner (c.in_ok-inside.ensures.passes s).1 k) c.in_err-content.ensures.reads)

pub braced-returns-in_err-behind-clause-reads : goal.braced-returns-in_err-behind-clause-reads
braced-returns-in_err-behind-clause-reads t c =
    let p = err_from_is_err_and c.from_residual-in_err-behind.result c.from_residual-in_err-behind.ensures.1 in
    rw (p.1, p.2) (on_fault c.args.tokens.now c.in_ok-content.end c.args.at _ (λ s bad k. braces_close (c.in_ok-inside.ensures.passes s).1 (c.in_ok-content.ensures.reads s) k) c.in_err-behind.ensures.passes)

pub braced-returns-clause-inside : goal.braced-returns-clause-inside
braced-returns-clause-inside t c = record { further = omega (arith, c.in_ok-inside.ensures.inside.further, c.in_ok-content.ensures.inside.further, c.in_ok-behind.ensures.inside.further); inside = c.in_ok-behind.ensures.inside.inside }

pub braced-returns-clause-reads : goal.braced-returns-clause-reads
braced-returns-clause-reads t c = λ s. took_same (ap pattern_view (sym c.into_inner.ensures)) (braced_took (c.in_ok-inside.ensures.passes s).1 (c.in_ok-content.ensures.reads s) (c.in_ok-behind.ensures.passes s).1)

pub named-returns-in_err-class-clause-reads : goal.named-returns-in_err-class-clause-reads
named-returns-in_err-class-clause-reads t c =
    let p = err_from_is_err_and c.from_residual.result c.from_residual.ensures.1 in
    rw (p.1, p.2) (on_fault c.args.tokens.now c.args.at c.args.at _ (λ s bad k. class_stuck k) c.in_err-class.ensures.reads)

pub named-returns-in_err-content-clause-reads : goal.named-returns-in_err-content-clause-reads
named-returns-in_err-content-clause-reads t c =
    let p = err_from_is_err_and c.from_residual-in_err-content.result c.from_residual-in_err-content.ensures.1 in
    rw (p.1, p.2) (on_fault c.args.tokens.now c.in_ok-class.end c.args.at _ (λ s bad k. content_stuck (c.in_ok-class.ensures.reads s) k) c.in_err-content.ensures.reads)

pub named-returns-clause-inside : goal.named-returns-clause-inside
named-returns-clause-inside t c = made_advanced (λ b. b.value) _ _ _ _ c.boxed.result c.boxed.ensures (record { further = omega (arith, c.in_ok-class.ensures.inside.further, c.in_ok-content.ensures.inside.further); inside = c.in_ok-content.ensures.inside.inside })

pub named-returns-clause-reads : goal.named-returns-clause-reads
named-returns-clause-reads t c = made_reads boxed_named_view c.args.tokens.now c.args.at c.in_ok-content.behind c.boxed.result (named_is _ _ c.boxed.result c.boxed.ensures) (λ s. content_took (c.in_ok-class.ensures.reads s) (c.in_ok-content.ensures.reads s))

-- ---- cores

pub keyword_core-returns-in_err-named-in-Element-clause-reads : goal.keyword_core-returns-in_err-named-in-Element-clause-reads
keyword_core-returns-in_err-named-in-Element-clause-reads t c =
    let p = err_from_is_err_and c.from_residual.result c.from_residual.ensures.1 in
    rw (p.1, p.2) (on_fault c.args.tokens.now (c.args.at + 1) c.args.at _ (λ s bad k. element_stuck (keyword_here c.args.tokens.now c.args.at word.Element c.requires.inside c.requires.here c.in-Element.is).1 k) c.in_err-named-in-Element.ensures.reads)

pub keyword_core-returns-in_ok-named-in-Element-clause-inside : goal.keyword_core-returns-in_ok-named-in-Element-clause-inside
keyword_core-returns-in_ok-named-in-Element-clause-inside t c = made_advanced boxed_view _ _ _ _ c.element.result c.element.ensures (later _ c.in_ok-named-in-Element.ensures.inside)

pub keyword_core-returns-in_ok-named-in-Element-clause-reads : goal.keyword_core-returns-in_ok-named-in-Element-clause-reads
keyword_core-returns-in_ok-named-in-Element-clause-reads t c = made_reads boxed_view c.args.tokens.now c.args.at c.in_ok-named-in-Element.end c.element.result c.element.ensures (λ s. element_took (keyword_here c.args.tokens.now c.args.at word.Element c.requires.inside c.requires.here c.in-Element.is).1 (c.in_ok-named-in-Element.ensures.reads s))

pub keyword_core-returns-in_err-named-in-Attribute-clause-reads : goal.keyword_core-returns-in_err-named-in-Attribute-clause-reads
keyword_core-returns-in_err-named-in-Attribute-clause-reads t c =
    let p = err_from_is_err_and c.from_residual-in_err-named-in-Attribute.result c.from_residual-in_err-named-in-Attribute.ensures.1 in
    rw (p.1, p.2) (on_fault c.args.tokens.now (c.args.at + 1) c.args.at _ (λ s bad k. attribute_stuck (keyword_here c.args.tokens.now c.args.at word.Attribute c.requires.inside c.requires.here c.in-Attribute.is).1 k) c.in_err-named-in-Attribute.ensures.reads)

pub keyword_core-returns-in_ok-named-in-Attribute-clause-inside : goal.keyword_core-returns-in_ok-named-in-Attribute-clause-inside
keyword_core-returns-in_ok-named-in-Attribute-clause-inside t c = made_advanced boxed_view _ _ _ _ c.attribute.result c.attribute.ensures (later _ c.in_ok-named-in-Attribute.ensures.inside)

pub keyword_core-returns-in_ok-named-in-Attribute-clause-reads : goal.keyword_core-returns-in_ok-named-in-Attribute-clause-reads
keyword_core-returns-in_ok-named-in-Attribute-clause-reads t c = made_reads boxed_view c.args.tokens.now c.args.at c.in_ok-named-in-Attribute.end c.attribute.result c.attribute.ensures (λ s. attribute_took (keyword_here c.args.tokens.now c.args.at word.Attribute c.requires.inside c.requires.here c.in-Attribute.is).1 (c.in_ok-named-in-Attribute.ensures.reads s))

pub keyword_core-returns-in_err-content-in-List-clause-reads : goal.keyword_core-returns-in_err-content-in-List-clause-reads
keyword_core-returns-in_err-content-in-List-clause-reads t c =
    let p = err_from_is_err_and c.from_residual-in_err-content-in-List.result c.from_residual-in_err-content-in-List.ensures.1 in
    rw (p.1, p.2) (on_fault c.args.tokens.now (c.args.at + 1) c.args.at _ (λ s bad k. list_stuck (keyword_here c.args.tokens.now c.args.at word.List c.requires.inside c.requires.here c.in-List.is).1 k) c.in_err-content-in-List.ensures.reads)

pub keyword_core-returns-in_ok-content-in-List-clause-inside : goal.keyword_core-returns-in_ok-content-in-List-clause-inside
keyword_core-returns-in_ok-content-in-List-clause-inside t c = made_advanced boxed_view _ _ _ _ c.list.result c.list.ensures (later _ c.in_ok-content-in-List.ensures.inside)

pub keyword_core-returns-in_ok-content-in-List-clause-reads : goal.keyword_core-returns-in_ok-content-in-List-clause-reads
keyword_core-returns-in_ok-content-in-List-clause-reads t c = made_reads boxed_view c.args.tokens.now c.args.at c.in_ok-content-in-List.end c.list.result c.list.ensures (λ s. list_took (keyword_here c.args.tokens.now c.args.at word.List c.requires.inside c.requires.here c.in-List.is).1 (c.in_ok-content-in-List.ensures.reads s))

pub keyword_core-returns-in_err-content-in-Mixed-clause-reads : goal.keyword_core-returns-in_err-content-in-Mixed-clause-reads
keyword_core-returns-in_err-content-in-Mixed-clause-reads t c =
    let p = err_from_is_err_and c.from_residual-in_err-content-in-Mixed.result c.from_residual-in_err-content-in-Mixed.ensures.1 in
    rw (p.1, p.2) (on_fault c.args.tokens.now (c.args.at + 1) c.args.at _ (λ s bad k. mixed_stuck (keyword_here c.args.tokens.now c.args.at word.Mixed c.requires.inside c.requires.here c.in-Mixed.is).1 k) c.in_err-content-in-Mixed.ensures.reads)

pub keyword_core-returns-in_ok-content-in-Mixed-clause-inside : goal.keyword_core-returns-in_ok-content-in-Mixed-clause-inside
keyword_core-returns-in_ok-content-in-Mixed-clause-inside t c = made_advanced boxed_view _ _ _ _ c.mixed.result c.mixed.ensures (later _ c.in_ok-content-in-Mixed.ensures.inside)

pub keyword_core-returns-in_ok-content-in-Mixed-clause-reads : goal.keyword_core-returns-in_ok-content-in-Mixed-clause-reads
keyword_core-returns-in_ok-content-in-Mixed-clause-reads t c = made_reads boxed_view c.args.tokens.now c.args.at c.in_ok-content-in-Mixed.end c.mixed.result c.mixed.ensures (λ s. mixed_took (keyword_here c.args.tokens.now c.args.at word.Mixed c.requires.inside c.requires.here c.in-Mixed.is).1 (c.in_ok-content-in-Mixed.ensures.reads s))

pub keyword_core-returns-in-Empty-clause-inside : goal.keyword_core-returns-in-Empty-clause-inside
keyword_core-returns-in-Empty-clause-inside t c = made_advanced boxed_view _ _ _ _ c.empty.result c.empty.ensures (one_on c.requires.inside)

pub keyword_core-returns-in-Empty-clause-reads : goal.keyword_core-returns-in-Empty-clause-reads
keyword_core-returns-in-Empty-clause-reads t c = made_reads boxed_view c.args.tokens.now c.args.at (c.args.at + 1) c.empty.result c.empty.ensures (λ s. empty_took (keyword_here c.args.tokens.now c.args.at word.Empty c.requires.inside c.requires.here c.in-Empty.is).1)

pub keyword_core-returns-in-NotAllowed-clause-inside : goal.keyword_core-returns-in-NotAllowed-clause-inside
keyword_core-returns-in-NotAllowed-clause-inside t c = made_advanced boxed_view _ _ _ _ c.not_allowed.result c.not_allowed.ensures (one_on c.requires.inside)

pub keyword_core-returns-in-NotAllowed-clause-reads : goal.keyword_core-returns-in-NotAllowed-clause-reads
keyword_core-returns-in-NotAllowed-clause-reads t c = made_reads boxed_view c.args.tokens.now c.args.at (c.args.at + 1) c.not_allowed.result c.not_allowed.ensures (λ s. not_allowed_took (keyword_here c.args.tokens.now c.args.at word.NotAllowed c.requires.inside c.requires.here c.in-NotAllowed.is).1)

pub keyword_core-returns-in-Text-clause-inside : goal.keyword_core-returns-in-Text-clause-inside
keyword_core-returns-in-Text-clause-inside t c = made_advanced boxed_view _ _ _ _ c.text.result c.text.ensures (one_on c.requires.inside)

pub keyword_core-returns-in-Text-clause-reads : goal.keyword_core-returns-in-Text-clause-reads
keyword_core-returns-in-Text-clause-reads t c = made_reads boxed_view c.args.tokens.now c.args.at (c.args.at + 1) c.text.result c.text.ensures (λ s. text_took (keyword_here c.args.tokens.now c.args.at word.Text c.requires.inside c.requires.here c.in-Text.is).1)

pub keyword_core-returns-in_default-clause-reads : goal.keyword_core-returns-in_default-clause-reads
keyword_core-returns-in_default-clause-reads t c = λ s. no_keyword_core c.args.keyword c.requires.here c.in_default.not-Element c.in_default.not-Attribute c.in_default.not-List c.in_default.not-Mixed c.in_default.not-Empty c.in_default.not-NotAllowed c.in_default.not-Text c.requires.untyped

pub untyped_core-returns-in_err-text-in-Segment-clause-reads : goal.untyped_core-returns-in_err-text-in-Segment-clause-reads
untyped_core-returns-in_err-text-in-Segment-clause-reads t c =
    let p = err_from_is_err_and c.from_residual.result c.from_residual.ensures.1 in
    rw (p.1, p.2) (on_fault c.args.tokens.now c.args.at c.args.at _ (λ s bad k. literal_stuck c.in-Segment.ensures.next.1 k) c.in_err-text-in-Segment.ensures.reads)

pub untyped_core-returns-in_ok-text-in-Segment-clause-inside : goal.untyped_core-returns-in_ok-text-in-Segment-clause-inside
untyped_core-returns-in_ok-text-in-Segment-clause-inside t c = made_advanced boxed_view _ _ _ _ c.plain_value.result c.plain_value.ensures c.in_ok-text-in-Segment.ensures.inside

pub untyped_core-returns-in_ok-text-in-Segment-clause-reads : goal.untyped_core-returns-in_ok-text-in-Segment-clause-reads
untyped_core-returns-in_ok-text-in-Segment-clause-reads t c = made_reads boxed_view c.args.tokens.now c.args.at c.in_ok-text-in-Segment.end c.plain_value.result c.plain_value.ensures (λ s. literal_took c.in-Segment.ensures.next.1 (c.in_ok-text-in-Segment.ensures.reads s))

pub untyped_core-returns-in_err-inner-in-LeftParen-clause-reads : goal.untyped_core-returns-in_err-inner-in-LeftParen-clause-reads
untyped_core-returns-in_err-inner-in-LeftParen-clause-reads t c =
    let p = err_from_is_err_and c.from_residual-in_err-inner-in-LeftParen.result c.from_residual-in_err-inner-in-LeftParen.ensures.1 in
    rw (p.1, p.2) (on_fault c.args.tokens.now (c.args.at + 1) c.args.at _ (λ s bad k. inner_stuck c.in-LeftParen.ensures.next.1 k) c.in_err-inner-in-LeftParen.ensures.reads)

pub untyped_core-returns-in_err-right_paren-in-LeftParen-clause-reads : goal.untyped_core-returns-in_err-right_paren-in-LeftParen-clause-reads
untyped_core-returns-in_err-right_paren-in-LeftParen-clause-reads t c =
    let p = err_from_is_err_and c.from_residual-in_err-right_paren-in-LeftParen.result c.from_residual-in_err-right_paren-in-LeftParen.ensures.1 in
    rw (p.1, p.2) (on_fault c.args.tokens.now c.in_ok-inner-in-LeftParen.end c.args.at _ (λ s bad k. close_stuck c.in-LeftParen.ensures.next.1 (c.in_ok-inner-in-LeftParen.ensures.reads s) k) c.in_err-right_paren-in-LeftParen.ensures.passes)

pub untyped_core-returns-in_ok-right_paren-in-LeftParen-clause-inside : goal.untyped_core-returns-in_ok-right_paren-in-LeftParen-clause-inside
untyped_core-returns-in_ok-right_paren-in-LeftParen-clause-inside t c = record { further = omega (arith, c.in_ok-inner-in-LeftParen.ensures.inside.further, c.in_ok-right_paren-in-LeftParen.ensures.inside.further); inside = c.in_ok-right_paren-in-LeftParen.ensures.inside.inside }

pub untyped_core-returns-in_ok-right_paren-in-LeftParen-clause-reads : goal.untyped_core-returns-in_ok-right_paren-in-LeftParen-clause-reads
untyped_core-returns-in_ok-right_paren-in-LeftParen-clause-reads t c = λ s. parens_took c.in-LeftParen.ensures.next.1 (c.in_ok-inner-in-LeftParen.ensures.reads s) (c.in_ok-right_paren-in-LeftParen.ensures.passes s).1

pub untyped_core-returns-in-Ident-clause-inside : goal.untyped_core-returns-in-Ident-clause-inside
untyped_core-returns-in-Ident-clause-inside t c = made_advanced boxed_view _ _ _ _ c.reference.result c.reference.ensures (one_on c.in-Ident.ensures.inside)

pub untyped_core-returns-in-Ident-clause-reads : goal.untyped_core-returns-in-Ident-clause-reads
untyped_core-returns-in-Ident-clause-reads t c = made_reads boxed_view c.args.tokens.now c.args.at (c.args.at + 1) c.reference.result c.reference.ensures (λ s. ref_took c.in-Ident.ensures.next.1)

pub untyped_core-returns-in_default-clause-reads : goal.untyped_core-returns-in_default-clause-reads
untyped_core-returns-in_default-clause-reads t c = λ s. no_core _ _ c.next.result c.next.ensures.next c.in_default.not-Keyword c.in_default.not-Ident c.in_default.not-Segment c.in_default.not-LeftParen c.requires.untyped

pub core-returns-in-Some-clause-inside : goal.core-returns-in-Some-clause-inside
core-returns-in-Some-clause-inside t c = passed_past _ (c.args.at + 1) _ c.data.result (omega arith) c.data.ensures.inside

pub core-returns-in-Some-clause-reads : goal.core-returns-in-Some-clause-reads
core-returns-in-Some-clause-reads t c = reads_upto boxed_view c.args.tokens.now (c.args.at + 1) c.args.at _ (λ r w. w) (λ s. type_at c.in-Some.ensures.names) c.data.ensures.reads

-- ---- primaries

pub primary-returns-in_err-body-clause-reads : goal.primary-returns-in_err-body-clause-reads
primary-returns-in_err-body-clause-reads t c =
    let p = err_from_is_err_and c.from_residual.result c.from_residual.ensures.1 in
    rw (p.1, p.2) (on_fault c.args.tokens.now c.args.at c.args.at _ (λ s bad k. primary_stuck k) c.in_err-body.ensures.skips)

pub primary-returns-in_err-core-clause-reads : goal.primary-returns-in_err-core-clause-reads
primary-returns-in_err-core-clause-reads t c =
    let p = err_from_is_err_and c.from_residual-in_err-core.result c.from_residual-in_err-core.ensures.1 in
    rw (p.1, p.2) (on_fault c.args.tokens.now c.in_ok-body.body c.args.at _ (λ s bad k. primary_core_stuck (c.in_ok-body.ensures.skips s) k) c.in_err-core.ensures.reads)

pub primary-returns-in_err-skip_follows-clause-reads : goal.primary-returns-in_err-skip_follows-clause-reads
primary-returns-in_err-skip_follows-clause-reads t c =
    let p = err_from_is_err_and c.from_residual-in_err-skip_follows.result c.from_residual-in_err-skip_follows.ensures.1 in
    rw (p.1, p.2) (on_fault c.args.tokens.now c.in_ok-core.end c.args.at _ (λ s bad k. primary_follows_stuck (c.in_ok-body.ensures.skips s) (c.in_ok-core.ensures.reads s) k) c.in_err-skip_follows.ensures.skips)

pub primary-returns-clause-inside : goal.primary-returns-clause-inside
primary-returns-clause-inside t c = record { further = omega (arith, c.in_ok-body.ensures.inside.further, c.in_ok-core.ensures.inside.further, c.in_ok-skip_follows.ensures.inside.further); inside = c.in_ok-skip_follows.ensures.inside.inside }

pub primary-returns-clause-reads : goal.primary-returns-clause-reads
primary-returns-clause-reads t c = λ s. primary_took (c.in_ok-body.ensures.skips s) (c.in_ok-core.ensures.reads s) (c.in_ok-skip_follows.ensures.skips s)

-- ---- operands

pub behind_datatype-returns-in_err-core-clause-reads : goal.behind_datatype-returns-in_err-core-clause-reads
behind_datatype-returns-in_err-core-clause-reads t c =
    let p = err_from_is_err_and c.from_residual.result c.from_residual.ensures.1 in
    rw (p.1, p.2) (on_fault c.args.tokens.now c.args.at c.args.at _ (λ s bad k. text_stuck (datatype_view c.args.datatype) c.in-Segment.ensures.next.1 k) c.in_err-core.ensures.reads)

pub behind_datatype-returns-in-Segment-clause-inside : goal.behind_datatype-returns-in-Segment-clause-inside
behind_datatype-returns-in-Segment-clause-inside t c = passed_on _ c.in_ok-core.end _ c.behind_core.result (omega (arith, c.in_ok-core.ensures.inside.further)) c.behind_core.ensures.inside

pub behind_datatype-returns-in-Segment-clause-reads : goal.behind_datatype-returns-in-Segment-clause-reads
behind_datatype-returns-in-Segment-clause-reads t c = reads_upto boxed_view c.args.tokens.now c.in_ok-core.end c.args.at _ (λ r w. w) (λ s. text_read (datatype_view c.args.datatype) c.in-Segment.ensures.next.1 (c.in_ok-core.ensures.reads s)) c.behind_core.ensures.reads

pub behind_datatype-returns-in_err-params-clause-reads : goal.behind_datatype-returns-in_err-params-clause-reads
behind_datatype-returns-in_err-params-clause-reads t c =
    let p = err_from_is_err_and c.from_residual-in_err-params.result c.from_residual-in_err-params.ensures.1 in
    rw (p.1, p.2) (on_fault c.args.tokens.now c.args.at c.args.at _ (λ s bad k. params_stuck (datatype_view c.args.datatype) (no_segment _ _ c.next.result c.next.ensures.next c.in_default.not-Segment) k) c.in_err-params.ensures.reads)

pub behind_datatype-returns-clause-inside : goal.behind_datatype-returns-clause-inside
behind_datatype-returns-clause-inside t c = passed_on _ c.in_ok-params.end _ c.behind_params.result c.in_ok-params.ensures.inside.further c.behind_params.ensures.inside

pub behind_datatype-returns-clause-reads : goal.behind_datatype-returns-clause-reads
behind_datatype-returns-clause-reads t c = reads_upto boxed_view c.args.tokens.now c.in_ok-params.end c.args.at _ (λ r w. w) (λ s. params_read (datatype_view c.args.datatype) (no_segment _ _ c.next.result c.next.ensures.next c.in_default.not-Segment) (c.in_ok-params.ensures.reads s)) c.behind_params.ensures.reads

pub behind_params-returns-in_err-core-clause-reads : goal.behind_params-returns-in_err-core-clause-reads
behind_params-returns-in_err-core-clause-reads t c =
    let p = err_from_is_err_and c.from_residual.result c.from_residual.ensures.1 in
    rw (p.1, p.2, c.in_err-core.ensures) tt

pub behind_params-returns-in_default-clause-reads : goal.behind_params-returns-in_default-clause-reads
behind_params-returns-in_default-clause-reads t c = reads_upto boxed_view c.args.tokens.now c.in_ok-core.end c.args.at _ (λ r w. w)
    (λ s. core_made c.args.tokens.now c.in_ok-core.ensures (datum_read (datatype_view c.args.datatype) (params_view c.args.params.items) _ c.next.result c.next.ensures.next c.in_default.not-Minus)) c.behind_core.ensures.reads

pub behind_params-returns-in_err-except-clause-reads : goal.behind_params-returns-in_err-except-clause-reads
behind_params-returns-in_err-except-clause-reads t c =
    let p = err_from_is_err_and c.from_residual-in_err-except.result c.from_residual-in_err-except.ensures.1 in
    rw (p.1, p.2) (on_fault c.args.tokens.now (c.args.at + 1) c.args.at _ (λ s bad k. except_stuck (datatype_view c.args.datatype) (params_view c.args.params.items) c.in-Minus.ensures.next.1 k) c.in_err-except.ensures.reads)

pub behind_params-returns-clause-inside : goal.behind_params-returns-clause-inside
behind_params-returns-clause-inside t c = made_passed boxed_view _ _ _ _ c.datum_but.result c.datum_but.ensures (record { further = omega (arith, c.in_ok-except.ensures.inside.further); inside = c.in_ok-except.ensures.inside.inside })

pub behind_params-returns-clause-reads : goal.behind_params-returns-clause-reads
behind_params-returns-clause-reads t c =
    let n = c.in-Minus.ensures.next in
    let d = datatype_view c.args.datatype in
    let ps = params_view c.args.params.items in
    made_reads boxed_view c.args.tokens.now c.args.at c.in_ok-except.end c.datum_but.result c.datum_but.ensures (λ s. took_same (sym (ap (λ i. tree.datum_but d ps i (boxed_view c.in_ok-except.except)) (place_is c.args.tokens.now n.1 c.place.ensures))) (except_took d ps n.1 (c.in_ok-except.ensures.reads s)))

pub any_operand-returns-in_err-body-clause-reads : goal.any_operand-returns-in_err-body-clause-reads
any_operand-returns-in_err-body-clause-reads t c =
    let p = err_from_is_err_and c.from_residual.result c.from_residual.ensures.1 in
    rw (p.1, p.2) (on_fault c.args.tokens.now c.args.at c.args.at _ (λ s bad k. operand_stuck k) c.in_err-body.ensures.skips)

pub any_operand-returns-in-Some-clause-inside : goal.any_operand-returns-in-Some-clause-inside
any_operand-returns-in-Some-clause-inside t c = passed_past _ (c.in_ok-body.body + 1) _ c.behind_datatype.result (omega (arith, c.in_ok-body.ensures.inside.further)) c.behind_datatype.ensures.inside

pub any_operand-returns-in-Some-clause-reads : goal.any_operand-returns-in-Some-clause-reads
any_operand-returns-in-Some-clause-reads t c = reads_upto boxed_view c.args.tokens.now (c.in_ok-body.body + 1) c.args.at _ (λ r w. w) (λ s. operand_typed (c.in_ok-body.ensures.skips s) c.in-Some.ensures.names) c.behind_datatype.ensures.reads

pub any_operand-returns-in_err-core-clause-reads : goal.any_operand-returns-in_err-core-clause-reads
any_operand-returns-in_err-core-clause-reads t c =
    let p = err_from_is_err_and c.from_residual-in_err-core.result c.from_residual-in_err-core.ensures.1 in
    rw (p.1, p.2) (on_fault c.args.tokens.now c.in_ok-body.body c.args.at _ (λ s bad k. operand_core_stuck (c.in_ok-body.ensures.skips s) c.in_default.ensures.names k) c.in_err-core.ensures.reads)

pub any_operand-returns-clause-inside : goal.any_operand-returns-clause-inside
any_operand-returns-clause-inside t c = passed_past _ c.in_ok-core.end _ c.behind_core.result (omega (arith, c.in_ok-body.ensures.inside.further, c.in_ok-core.ensures.inside.further)) c.behind_core.ensures.inside

pub any_operand-returns-clause-reads : goal.any_operand-returns-clause-reads
any_operand-returns-clause-reads t c = reads_upto boxed_view c.args.tokens.now c.in_ok-core.end c.args.at _ (λ r w. w) (λ s. operand_core_read (c.in_ok-body.ensures.skips s) c.in_default.ensures.names (c.in_ok-core.ensures.reads s)) c.behind_core.ensures.reads

pub operand-returns-in_err-core-in-Ident-clause-reads : goal.operand-returns-in_err-core-in-Ident-clause-reads
operand-returns-in_err-core-in-Ident-clause-reads t c =
    let p = err_from_is_err_and c.from_residual.result c.from_residual.ensures.1 in
    rw (p.1, p.2, c.in_err-core-in-Ident.ensures) tt

pub operand-returns-in_ok-core-in-Ident-clause-inside : goal.operand-returns-in_ok-core-in-Ident-clause-inside
operand-returns-in_ok-core-in-Ident-clause-inside t c = passed_past _ c.in_ok-core-in-Ident.end _ c.behind_core.result (omega (arith, c.in_ok-core-in-Ident.ensures.1)) c.behind_core.ensures.inside

pub operand-returns-in_ok-core-in-Ident-clause-reads : goal.operand-returns-in_ok-core-in-Ident-clause-reads
operand-returns-in_ok-core-in-Ident-clause-reads t c =
    let here = c.in-Ident.ensures.next.1 in
    let first = operand_first here refl refl in
    reads_upto boxed_view c.args.tokens.now c.in_ok-core-in-Ident.end c.args.at _ (λ r w. w)
    (λ s. core_made c.args.tokens.now c.in_ok-core-in-Ident.ensures (operand_core_read first.0 first.1 (ref_took here))) c.behind_core.ensures.reads

pub operand-keyword_core-requires : goal.operand-keyword_core-requires
operand-keyword_core-requires t c =
    let here = c.in-Keyword.ensures.next.1 in
    let first = operand_first here refl (no_datatype c.in-Keyword.keyword c.in_default-keyword.not-String c.in_default-keyword.not-Token) in
    (omega (arith, c.decreases), (c.in-Keyword.ensures.inside, (ap first_terminal here, first.1)))

pub operand-returns-in_err-core-in_default-keyword-clause-reads : goal.operand-returns-in_err-core-in_default-keyword-clause-reads
operand-returns-in_err-core-in_default-keyword-clause-reads t c =
    let first = operand_first c.in-Keyword.ensures.next.1 refl (no_datatype c.in-Keyword.keyword c.in_default-keyword.not-String c.in_default-keyword.not-Token) in
    let p = err_from_is_err_and c.from_residual-in_err-core-in_default-keyword.result c.from_residual-in_err-core-in_default-keyword.ensures.1 in
    rw (p.1, p.2) (on_fault c.args.tokens.now c.args.at c.args.at _ (λ s bad k. operand_core_stuck first.0 first.1 k) c.in_err-core-in_default-keyword.ensures.reads)

pub operand-returns-in_ok-core-in_default-keyword-clause-inside : goal.operand-returns-in_ok-core-in_default-keyword-clause-inside
operand-returns-in_ok-core-in_default-keyword-clause-inside t c = passed_past _ c.in_ok-core-in_default-keyword.end _ c.behind_core-in_default-keyword.result (omega (arith, c.in_ok-core-in_default-keyword.ensures.inside.further)) c.behind_core-in_default-keyword.ensures.inside

pub operand-returns-in_ok-core-in_default-keyword-clause-reads : goal.operand-returns-in_ok-core-in_default-keyword-clause-reads
operand-returns-in_ok-core-in_default-keyword-clause-reads t c =
    let first = operand_first c.in-Keyword.ensures.next.1 refl (no_datatype c.in-Keyword.keyword c.in_default-keyword.not-String c.in_default-keyword.not-Token) in
    reads_upto boxed_view c.args.tokens.now c.in_ok-core-in_default-keyword.end c.args.at _ (λ r w. w)
    (λ s. operand_core_read first.0 first.1 (c.in_ok-core-in_default-keyword.ensures.reads s)) c.behind_core-in_default-keyword.ensures.reads

pub operand-untyped_core-requires : goal.operand-untyped_core-requires
operand-untyped_core-requires t c = (omega (arith, c.decreases), (c.requires, (operand_first c.in-LeftParen.ensures.next.1 refl refl).1))

pub operand-returns-in_err-core-in-LeftParen-clause-reads : goal.operand-returns-in_err-core-in-LeftParen-clause-reads
operand-returns-in_err-core-in-LeftParen-clause-reads t c =
    let first = operand_first c.in-LeftParen.ensures.next.1 refl refl in
    let p = err_from_is_err_and c.from_residual-in_err-core-in-LeftParen.result c.from_residual-in_err-core-in-LeftParen.ensures.1 in
    rw (p.1, p.2) (on_fault c.args.tokens.now c.args.at c.args.at _ (λ s bad k. operand_core_stuck first.0 first.1 k) c.in_err-core-in-LeftParen.ensures.reads)

pub operand-returns-in_ok-core-in-LeftParen-clause-inside : goal.operand-returns-in_ok-core-in-LeftParen-clause-inside
operand-returns-in_ok-core-in-LeftParen-clause-inside t c = passed_past _ c.in_ok-core-in-LeftParen.end _ c.behind_core-in-LeftParen.result (omega (arith, c.in_ok-core-in-LeftParen.ensures.inside.further)) c.behind_core-in-LeftParen.ensures.inside

pub operand-returns-in_ok-core-in-LeftParen-clause-reads : goal.operand-returns-in_ok-core-in-LeftParen-clause-reads
operand-returns-in_ok-core-in-LeftParen-clause-reads t c =
    let first = operand_first c.in-LeftParen.ensures.next.1 refl refl in
    reads_upto boxed_view c.args.tokens.now c.in_ok-core-in-LeftParen.end c.args.at _ (λ r w. w)
    (λ s. operand_core_read first.0 first.1 (c.in_ok-core-in-LeftParen.ensures.reads s)) c.behind_core-in-LeftParen.ensures.reads

-- ---- patterns

pub pattern-returns-in_err-first-clause-reads : goal.pattern-returns-in_err-first-clause-reads
pattern-returns-in_err-first-clause-reads t c =
    let p = err_from_is_err_and c.from_residual.result c.from_residual.ensures.1 in
    rw (p.1, p.2) (on_fault c.args.tokens.now c.args.at c.args.at _ (λ s bad k. pattern_stuck k) c.in_err-first.ensures.reads)

pub pattern-returns-in_default-clause-inside : goal.pattern-returns-in_default-clause-inside
pattern-returns-in_default-clause-inside t c = c.in_ok-first.ensures.inside

pub pattern-returns-in_default-clause-reads : goal.pattern-returns-in_default-clause-reads
pattern-returns-in_default-clause-reads t c = λ s. pattern_alone _ c.next.result (c.in_ok-first.ensures.reads s) c.next.ensures.next c.in_default.not-Operator

pub pattern-chain-init : goal.pattern-chain-init
pattern-chain-init t c = record {
  further = c.in_ok-first.ensures.inside.further;
  inside = c.in-Operator.ensures.inside;
  here = c.in-Operator.ensures.next;
  so_far = λ s.
      let here = ap first_terminal c.in-Operator.ensures.next.1 in
      operands_same c.in-Operator.operator _ _ (sym (pushed pattern_view _ _ c.in_ok-push_member.ensures ∙ ap (λ l. map pattern_view l ++ boxed_view c.in_ok-first.first ∷ []) c.in_ok-members.ensures.items))
      (pattern_first c.in-Operator.operator here (c.in_ok-first.ensures.reads s), here);
}

pub pattern-chain-preserved : goal.pattern-chain-preserved
pattern-chain-preserved t c = record {
  further = omega (arith, c.chain.invariant.further, c.in_ok-member.ensures.inside.further);
  inside = c.if-not-is_operator.ensures.inside refl;
  here = terminal_at c.args.tokens.now c.in_ok-member.behind (operator c.in-Operator.operator) (c.if-not-is_operator.ensures.inside refl) c.if-not-is_operator.ensures.is;
  so_far = λ s. operands_same c.in-Operator.operator _ _ (sym (pushed pattern_view _ _ c.in_ok-push_member-2.ensures))
      (chain_read (operands_chain c.in-Operator.operator) _ _ _ (c.chain.invariant.so_far s) c.chain.invariant.here.1 (c.in_ok-member.ensures.reads s));
}

pub pattern-returns-in_err-member-clause-reads : goal.pattern-returns-in_err-member-clause-reads
pattern-returns-in_err-member-clause-reads t c =
    let p = err_from_is_err_and c.from_residual-in_err-member.result c.from_residual-in_err-member.ensures.1 in
    rw (p.1, p.2) (on_fault c.args.tokens.now (c.chain.end + 1) c.args.at _ (λ s bad k. chain_stuck (operands_chain c.in-Operator.operator) _ _ _ (c.chain.invariant.so_far s) c.chain.invariant.here.1 k) c.in_err-member.ensures.reads)

pub pattern-returns-then-not-is_operator-clause-inside : goal.pattern-returns-then-not-is_operator-clause-inside
pattern-returns-then-not-is_operator-clause-inside t c = made_advanced boxed_view _ _ _ _ c.chain-then-not-is_operator.result c.chain-then-not-is_operator.ensures (record { further = omega (arith, c.chain.invariant.further, c.in_ok-member.ensures.inside.further); inside = c.in_ok-member.ensures.inside.inside })

pub pattern-returns-then-not-is_operator-clause-reads : goal.pattern-returns-then-not-is_operator-clause-reads
pattern-returns-then-not-is_operator-clause-reads t c = made_reads boxed_view c.args.tokens.now c.args.at c.in_ok-member.behind c.chain-then-not-is_operator.result c.chain-then-not-is_operator.ensures
    (λ s. chain_end (operands_chain c.in-Operator.operator) _ _ _
    (operands_same c.in-Operator.operator _ _ (sym (pushed pattern_view _ _ c.in_ok-push_member-2.ensures)) (chain_read (operands_chain c.in-Operator.operator) _ _ _ (c.chain.invariant.so_far s) c.chain.invariant.here.1 (c.in_ok-member.ensures.reads s)))
    c.if-not-is_operator.ensures.is)
