use Rattle.std.proofs.Common.{◌++◌, rules, take}
use Rattle.std.proofs.KnownBytes.{Appends-trans}
use Rattle.rn_merge.proofs.Runs.MovedBytes.{front_grows}
use Rattle.rn_merge.proofs.streams.write_output.Goals as goal

pub loop-rest-preserved : goal.loop-rest-preserved
loop-rest-preserved g c =
    let (front, split, taken) = c.loop-rest.invariant.front in
    let rest = c.loop-rest.rest.now in
    let n = c.in_ok-taken.taken in
    record {
      sound = search rules;
      front = (front ++ take n rest, front_grows _ front rest n split, Appends-trans _ _ _ _ _ taken c.in_ok-taken.ensures.bytes);
    }
