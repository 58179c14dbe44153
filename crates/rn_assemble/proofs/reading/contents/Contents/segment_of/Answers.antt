-- The includes that begin at the component or before it come before all others.
use Rattle.std.proofs.Common.{◌≡◌, ◌≤◌, leb, true, false, List, length, rules, subst, sym}
use Rattle.std.specs.List.Sorted.{IsNonDecreasingBy, IsPartitionPoint}
use Rattle.std.proofs.lemmas.List.Sorted.{IsPartitionPoint-from_clause, IsPartitionedBy-leb}
use Rattle.rn_assemble.specs.declared.reading.contents.Include.{Include}
use Rattle.rn_assemble.proofs.Gathering.FoundSegments.{found_segment}
use Rattle.rn_assemble.proofs.reading.contents.Contents.segment_of.Goals as goal

pub returns : goal.returns
returns c =
    let k = c.args.number in
    let n = c.partition_point.result in
    let seen : c.deref.result.now ≡ c.args.self.now.includes.items = c.deref.ensures.value in
    let rise = subst (λ (is : List Include). IsNonDecreasingBy (λ (i : Include). i.from) is) (sym seen) c.requires in
    let parted = IsPartitionedBy-leb (λ (i : Include). i.from) c.deref.result.now k rise in
    let point = IsPartitionPoint-from_clause (λ (i : Include). leb i.from k) _ _ c.partition_point.ensures.partitioned parted (λ a r q k. search rules) in
    found_segment c.args.self.now k n (subst (λ (is : List Include). n ≤ length is) seen c.partition_point.ensures.bound)
    (subst (λ (is : List Include). IsPartitionPoint (λ (i : Include). leb i.from k ≡ true) (λ (i : Include). leb i.from k ≡ false) is n) seen point)
