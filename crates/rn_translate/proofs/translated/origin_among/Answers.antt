-- The last piece that begins at the byte or before it is before the point at which the pieces part.
use Rattle.std.proofs.Common.{◌≡◌, zero, suc, leb, rules, arith, sym, subst}
use Rattle.std.proofs.lemmas.List.Sorted.{IsPartitionPoint-from_clause}
use Rattle.rn_translate.specs.declared.draft.Origin.{Origin}
use Rattle.rn_translate.proofs.RisingOrigins.{Parts, parted, origin_of_last, origin_of_none}
use Rattle.rn_translate.proofs.translated.origin_among.Goals as goal

pub returns-in-Some : goal.returns-in-Some
returns-in-Some c =
    let origins = c.args.origins.now in
    let point = IsPartitionPoint-from_clause (λ (p : Origin). leb p.from c.args.at) _ _ c.partition_point-begun.ensures.partitioned (parted origins c.args.at c.requires) (λ a r q k. search rules) in
    let is : c.partition_point-begun.result ≡ suc c.in-Some.last = omega (arith, c.in-Some.ensures) in
    sym (origin_of_last c.args.at c.partition_point-begun.result c.in-Some.last (record { from = 0; at = 0 }) origins is c.partition_point-begun.ensures.bound point)

pub returns-in-None : goal.returns-in-None
returns-in-None c =
    let origins = c.args.origins.now in
    let point = IsPartitionPoint-from_clause (λ (p : Origin). leb p.from c.args.at) _ _ c.partition_point-begun.ensures.partitioned (parted origins c.args.at c.requires) (λ a r q k. search rules) in
    let is : c.partition_point-begun.result ≡ zero = omega (arith, c.in-None.ensures) in
    sym (origin_of_none c.args.at origins (subst (λ i. Parts origins c.args.at i) is point))
