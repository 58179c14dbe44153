use Rattle.std.proofs.Common.{◌≡◌, ◌++◌, ◌∙◌, sym, ap, is_ok, append-nil}
use Rattle.std.proofs.ResultArms.{chosen}
use Rattle.std.specs.Prelude.{encode_utf8}
use Rattle.std.specs.Str.{chars, encode_utf8_all}
use Rattle.std.specs.String.{string_bytes}
use Rattle.rn_text.specs.Literals.{written, delimiter_for, literal_bytes}
use Rattle.rn_text.specs.inside.Writing.{between}
use Rattle.rn_text.proofs.Quoting.WrittenLiterals.{tail_of, step_written, more_written, start_written, start_longer, empty_literal, pushed_ok, pushed_last, pushed_longer, longer_twice, longer_same}
use Rattle.rn_text.proofs.literals.append_literal.Goals as goal

pub returns-in_default-clause-ok : goal.returns-in_default-clause-ok
returns-in_default-clause-ok c = pushed_ok _ _ _ _ _ c.push_str.ensures.bytes (sym (empty_literal _ c.in_default.ensures.cases))

pub returns-in_default-clause-longer : goal.returns-in_default-clause-longer
returns-in_default-clause-longer c = pushed_longer _ _ _ _ c.push_str.ensures.bytes

pub returns-in_err-push-clause-longer : goal.returns-in_err-push-clause-longer
returns-in_err-push-clause-longer c = pushed_longer _ _ _ _ c.push.ensures.bytes

pub returns-in_err-push_written-clause-longer : goal.returns-in_err-push_written-clause-longer
returns-in_err-push_written-clause-longer c = longer_same _ _ _ c.in_err-push_written.ensures.err (pushed_longer _ _ _ _ c.push.ensures.bytes)

pub loop-c-init : goal.loop-c-init
loop-c-init c =
    let old = string_bytes c.args.out.now in
    let first = c.in-Some.first in
    let push : string_bytes c.push.new.self ≡ old ++ encode_utf8 (delimiter_for first)
    = chosen _ _ _ _ c.push.ensures.bytes (ap is_ok c.in_ok-push.was) ∙ ap (λ d. old ++ encode_utf8 d) c.delimiter_for.ensures in
    record {
      written = start_written old (string_bytes c.push.new.self) (string_bytes c.push_written.new.out) c.args.text.now first (chars c.in-Some.after.now) c.in-Some.ensures.cases push c.in_ok-push_written.ensures.ok;
      longer = (
        encode_utf8 (delimiter_for first) ++ encode_utf8_all (written first),
        start_longer old (string_bytes c.push.new.self) (string_bytes c.push_written.new.out) (encode_utf8 (delimiter_for first)) (encode_utf8_all (written first)) push c.in_ok-push_written.ensures.ok,
      );
      utf8 = c.in-Some.ensures.utf8;
    }

pub loop-c-preserved : goal.loop-c-preserved
loop-c-preserved c =
    let old = string_bytes c.args.out.now in
    let d = c.in-Some-split_first.c in
    let last = c.loop-c.last in
    let cs = chars c.in-Some-split_first.after.now in
    let one = string_bytes c.loop-c.out in
    let two = string_bytes c.push_between.new.out in
    let three = string_bytes c.push_written-in-Some-split_first.new.out in
    let here : one ++ encode_utf8_all (between last d ++ (written d ++ tail_of d cs)) ≡ old ++ literal_bytes c.args.text.now
    = ap (λ l. one ++ encode_utf8_all (tail_of last l)) (sym c.in-Some-split_first.ensures.cases) ∙ c.loop-c.invariant.written in
    record {
      written = step_written one two three (old ++ literal_bytes c.args.text.now) (between last d) (written d) (tail_of d cs) c.in_ok-push_between.ensures.ok c.in_ok-push_written-2.ensures.ok here;
      longer = (_, more_written old one two three c.loop-c.invariant.longer.0 (encode_utf8_all (between last d)) (encode_utf8_all (written d)) c.loop-c.invariant.longer.1 c.in_ok-push_between.ensures.ok c.in_ok-push_written-2.ensures.ok);
      utf8 = c.in-Some-split_first.ensures.utf8;
    }

pub returns-in_err-push_between-clause-longer : goal.returns-in_err-push_between-clause-longer
returns-in_err-push_between-clause-longer c = longer_twice _ _ _ c.loop-c.invariant.longer c.in_err-push_between.ensures.longer

pub returns-in_err-push_written-2-clause-longer : goal.returns-in_err-push_written-2-clause-longer
returns-in_err-push_written-2-clause-longer c = longer_same _ _ _ c.in_err-push_written-2.ensures.err (longer_twice _ _ _ c.loop-c.invariant.longer c.in_ok-push_between.ensures.longer)

pub returns-clause-ok : goal.returns-clause-ok
returns-clause-ok c =
    let one = string_bytes c.loop-c.out in
    let last = c.loop-c.last in
    pushed_last c.push-2.result one _ (encode_utf8 c.delimiter_for-2.result) _ c.push-2.ensures.bytes
    (ap (λ d. one ++ encode_utf8 d) c.delimiter_for-2.ensures ∙ ap (λ l. one ++ l) (sym (append-nil (encode_utf8 (delimiter_for last))))
    ∙ ap (λ l. one ++ encode_utf8_all (tail_of last l)) (sym c.in_default-split_first.ensures.cases) ∙ c.loop-c.invariant.written)

pub returns-clause-longer : goal.returns-clause-longer
returns-clause-longer c = longer_twice _ _ _ c.loop-c.invariant.longer (pushed_longer _ _ _ _ c.push-2.ensures.bytes)
