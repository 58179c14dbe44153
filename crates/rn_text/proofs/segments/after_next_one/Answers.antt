use Rattle.std.proofs.Common.{◌∷◌, [], sym, refl, subst, ne_eqb}
use Rattle.std.specs.Str.{chars}
use Rattle.rn_text.specs.Segments.{ends_at_one}
use Rattle.rn_text.proofs.Cutting.DelimitedFronts.{Searched, search_start, search_step, search_found, search_none, none_left, one_step, one_none, one_here}
use Rattle.rn_text.proofs.segments.after_next_one.Goals as goal

pub loop-c-init : goal.loop-c-init
loop-c-init c = record { searched = search_start (ends_at_one c.args.delimiter) (chars c.args.text.now); utf8 = c.utf8.text }

pub loop-c-preserved : goal.loop-c-preserved
loop-c-preserved c =
    let test = ends_at_one c.args.delimiter in
    record {
      searched = search_step test (chars c.args.text.now) c.in-Some.c (chars c.in-Some.after.now) refl
          (λ more after split. one_step c.args.delimiter c.in-Some.c more (ne_eqb _ _ c.if-c-delimiter.false) (sym c.if-is_line_end.ensures))
          (subst (Searched test (chars c.args.text.now)) c.in-Some.ensures.cases c.loop-c.invariant.searched);
      utf8 = c.in-Some.ensures.utf8;
    }

pub returns-then-c-delimiter-clause-cases : goal.returns-then-c-delimiter-clause-cases
returns-then-c-delimiter-clause-cases c =
    let test = ends_at_one c.args.delimiter in
    search_found test (chars c.args.text.now) _ (c.in-Some.c ∷ []) (chars c.in-Some.after.now) (subst (Searched test (chars c.args.text.now)) c.in-Some.ensures.cases c.loop-c.invariant.searched) refl
    (one_here c.args.delimiter c.in-Some.c c.if-c-delimiter.true)

pub returns-then-is_line_end-clause-cases : goal.returns-then-is_line_end-clause-cases
returns-then-is_line_end-clause-cases c =
    let test = ends_at_one c.args.delimiter in
    search_none test (chars c.args.text.now) _ (subst (Searched test (chars c.args.text.now)) c.in-Some.ensures.cases c.loop-c.invariant.searched)
    (one_none c.args.delimiter c.in-Some.c (chars c.in-Some.after.now) (ne_eqb _ _ c.if-c-delimiter.false) (sym c.if-is_line_end.ensures))

pub returns-clause-cases : goal.returns-clause-cases
returns-clause-cases c =
    let test = ends_at_one c.args.delimiter in
    search_none test (chars c.args.text.now) (chars c.loop-c.rest.now) c.loop-c.invariant.searched (none_left test (chars c.loop-c.rest.now) refl c.in_default.ensures.cases)
