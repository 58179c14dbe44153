use Rattle.std.proofs.Common.{◌∷◌, ◌++◌, [], ◌∙◌, refl, arith, length}
use Rattle.std.specs.Prelude.{◌≢◌}
use Rattle.rn_xml.specs.XmlTags.{AreAttributes}
use Rattle.rn_xml.specs.inside.Rests.{source}
use Rattle.rn_xml.proofs.TagNames.{attributes_push}
use Rattle.std.specs.Str.{chars}
use Rattle.rn_text.specs.Segments.{begins_with}
use Rattle.rn_text.specs.Texts.{is_white}
use Rattle.std.proofs.lemmas.Bool.{both_ways}
use Rattle.std.proofs.lemmas.Result.{err_from_is_err_and}
use Rattle.rn_xml.proofs.Decoding.DeclarationFields.{no_white, white_there, some_white}
use Rattle.rn_xml.proofs.Refusals.RefusedAttributes.{next_refused, no_end_sign}
use Rattle.rn_xml.proofs.tags.TagReader.read_attributes.Goals as goal

pub loop-c-init : goal.loop-c-init
loop-c-init c = record {
  rest_utf8 = c.utf8.text;
  spaced_utf8 = c.after_space-spaced.utf8;
  len = refl;
  elements = refl;
  spaced_within = c.after_space-spaced.ensures.no_longer;
  rest_within = omega arith;
  run = c.after_space-spaced.ensures.run;
  space = c.after_space-spaced.ensures.space;
  some = c.after_space-spaced.ensures.some;
  so_far = λ outer has. ([], AreAttributes.none, has);
}

pub loop-c-preserved : goal.loop-c-preserved
loop-c-preserved c =
    let before = c.loop-c.invariant in
    let one = c.in_ok-rest.ensures in
    let apart : length c.loop-c.spaced.now ≢ length c.loop-c.rest.now = omega arith in
    record {
      rest_utf8 = one.utf8;
      spaced_utf8 = c.after_space-spaced-in-Some.utf8;
      len = one.same ∙ before.len;
      elements = one.elements ∙ before.elements;
      spaced_within = c.after_space-spaced-in-Some.ensures.no_longer;
      rest_within = omega (arith, one.reads);
      run = c.after_space-spaced-in-Some.ensures.run;
      space = c.after_space-spaced-in-Some.ensures.space;
      some = c.after_space-spaced-in-Some.ensures.some;
      so_far = λ outer has.
          let was = before.so_far outer has in
          (was.0 ++ one.attribute.0 ∷ [], attributes_push was.1 (before.some apart) one.attribute.1, one.attribute.2 c.args.self.now outer was.0 was.2);
    }

pub returns-clause-attributes : goal.returns-clause-attributes
returns-clause-attributes c = λ outer has.
    let was = c.loop-c.invariant.so_far outer has in (was.0, (source c.loop-c.rest.now, was.1, c.loop-c.invariant.space), was.2)

pub returns-then-spaced-rest-clause-refused : goal.returns-then-spaced-rest-clause-refused
returns-then-spaced-rest-clause-refused c = λ own outer has written rest up.
    let before = c.loop-c.invariant in
    let was = before.so_far outer has in
    next_refused (chars c.loop-c.rest.now) (chars c.loop-c.spaced.now) c.in-Some.c (chars c.in-Some.field-0-1.now) (source c.args.text.now) was.0 written rest before.run c.in-Some.ensures.cases
    (no_end_sign c.in-Some.c c.if-c-eq62.false c.if-c-eq47.false) was.1 up (λ a r space is.
    absurd (both_ways (begins_with is_white (chars c.loop-c.rest.now)) (no_white c.loop-c.rest.now c.loop-c.spaced.now before.rest_utf8 before.spaced_utf8 before.run c.if-spaced-rest.true)
    (white_there (chars c.loop-c.rest.now) (some_white (source c.loop-c.rest.now) (source c.loop-c.spaced.now) space).0)))

pub returns-in_err-rest-clause-refused : goal.returns-in_err-rest-clause-refused
returns-in_err-rest-clause-refused c =
    let p = err_from_is_err_and c.from_residual.result c.from_residual.ensures.1 in
    let before = c.loop-c.invariant in
    rw (p.1, p.2) (λ own outer has written rest up.
    let was = before.so_far outer has in
    next_refused (chars c.loop-c.rest.now) (chars c.loop-c.spaced.now) c.in-Some.c (chars c.in-Some.field-0-1.now) (source c.args.text.now) was.0 written rest before.run c.in-Some.ensures.cases
    (no_end_sign c.in-Some.c c.if-c-eq62.false c.if-c-eq47.false) was.1 up (λ a r space is. c.in_err-rest.ensures.refused own a r is c.args.self.now outer was.0 was.2))
