use Rattle.std.proofs.Common.{◌≡◌, ◌++◌, ap, sym, subst, is_ok}
use Rattle.std.proofs.ResultArms.{chosen}
use Rattle.std.specs.Prelude.{encode_utf8}
use Rattle.std.specs.Str.{chars}
use Rattle.std.specs.String.{string_bytes}
use Rattle.rn_text.proofs.Quoting.SegmentContents.{ReadSoFar, read_start, read_more, read_end, shorter}
use Rattle.rn_text.proofs.literals.literal.Goals as goal

pub loop-c-init : goal.loop-c-init
loop-c-init c = record {
  so_far = subst (ReadSoFar (chars c.args.segment.now.text.now) (chars c.in-Some.rest.now)) (sym c.new-out.ensures.bytes) (read_start (chars c.args.segment.now.text.now) (chars c.in-Some.rest.now) c.in-Some.ensures.cases);
  utf8 = c.in-Some.ensures.utf8;
}

pub loop-c-preserved : goal.loop-c-preserved
loop-c-preserved c =
    let pushed : string_bytes c.push.new.self ≡ string_bytes c.loop-c.out ++ encode_utf8 c.in-Some-split_text.c = chosen _ _ _ _ c.push.ensures.bytes (ap is_ok c.in_ok-push.was) in
    record {
      so_far = subst (ReadSoFar (chars c.args.segment.now.text.now) (chars c.in-Some-split_text.after.now)) (sym pushed)
          (read_more (chars c.args.segment.now.text.now) (chars c.loop-c.rest.now) (chars c.in-Some-split_text.after.now) (string_bytes c.loop-c.out) c.in-Some-split_text.c c.loop-c.invariant.so_far c.in-Some-split_text.ensures.cases);
      utf8 = c.in-Some-split_text.ensures.utf8;
    }

pub loop-c-smaller : goal.loop-c-smaller
loop-c-smaller c = shorter (chars c.loop-c.rest.now) c.in-Some-split_text.c (chars c.in-Some-split_text.after.now) c.in-Some-split_text.ensures.cases

pub returns : goal.returns
returns c = read_end (chars c.args.segment.now.text.now) (chars c.loop-c.rest.now) (string_bytes c.loop-c.out) c.loop-c.invariant.so_far c.in_default-split_text.ensures.cases
