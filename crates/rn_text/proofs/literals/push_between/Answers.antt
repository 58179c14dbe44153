use Rattle.std.proofs.Common.{◌++◌, ◌∙◌, sym, ap, is_ok}
use Rattle.std.proofs.ResultArms.{chosen}
use Rattle.std.specs.Prelude.{encode_utf8}
use Rattle.std.specs.String.{string_bytes}
use Rattle.rn_text.proofs.Quoting.WrittenLiterals.{parted_written, pushed_last, pushed_longer, longer_twice}
use Rattle.rn_text.proofs.literals.push_between.Goals as goal

pub returns-in_err-push-clause-longer : goal.returns-in_err-push-clause-longer
returns-in_err-push-clause-longer c = pushed_longer _ _ _ _ c.push.ensures.bytes

pub returns-in_err-push_str-clause-longer : goal.returns-in_err-push_str-clause-longer
returns-in_err-push_str-clause-longer c = longer_twice _ _ _ (pushed_longer _ _ _ _ c.push.ensures.bytes) (pushed_longer _ _ _ _ c.push_str.ensures.bytes)

pub returns-clause-ok : goal.returns-clause-ok
returns-clause-ok c =
    let old = string_bytes c.args.out.now in
    let two = string_bytes c.push_str.new.self in
    let first = chosen _ _ _ _ c.push.ensures.bytes (ap is_ok c.in_ok-push.was) ∙ ap (λ q. old ++ encode_utf8 q) c.delimiter_for.ensures in
    let second = chosen _ _ _ _ c.push_str.ensures.bytes (ap is_ok c.in_ok-push_str.was) in
    pushed_last c.push-2.result two _ (encode_utf8 c.delimiter_for-2.result) _ c.push-2.ensures.bytes
    (ap (λ q. two ++ encode_utf8 q) c.delimiter_for-2.ensures
    ∙ parted_written old (string_bytes c.push.new.self) two c.args.c c.args.d (sym c.are_parted.ensures ∙ c.if-not-are_parted.false) first second)

pub returns-clause-longer : goal.returns-clause-longer
returns-clause-longer c =
    longer_twice _ _ _ (longer_twice _ _ _ (pushed_longer _ _ _ _ c.push.ensures.bytes) (pushed_longer _ _ _ _ c.push_str.ensures.bytes)) (pushed_longer _ _ _ _ c.push-2.ensures.bytes)
