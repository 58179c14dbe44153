-- The pieces part at the first segment that the include brought in, and behind the last one.
use Rattle.std.proofs.Common.{ℕ, ltb, rules}
use Rattle.std.proofs.lemmas.List.Sorted.{IsPartitionPoint-from_clause, IsPartitionedBy-ltb}
use Rattle.rn_assemble.specs.declared.including.pieces.Piece.{Piece}
use Rattle.rn_assemble.proofs.KeyPieces.PiecesIn.{pieces_between, segments_rise}
use Rattle.rn_assemble.proofs.including.pieces.pieces_in.Goals as goal

pub returns : goal.returns
returns c =
    let pieces = c.args.pieces.now in
    let b = c.args.brought.now in
    let parted = λ (place : ℕ). IsPartitionedBy-ltb (λ (p : Piece). p.segment) pieces place (segments_rise pieces c.requires.rise) in
    let from = IsPartitionPoint-from_clause (λ (p : Piece). ltb p.segment b.from) _ _ c.partition_point-from.ensures.partitioned (parted b.from) (λ a r q k. search rules) in
    let to = IsPartitionPoint-from_clause (λ (p : Piece). ltb p.segment b.to) _ _ c.partition_point-to.ensures.partitioned (parted b.to) (λ a r q k. search rules) in
    pieces_between pieces b c.partition_point-from.result c.partition_point-to.result c.requires.ordered c.partition_point-from.ensures.bound c.partition_point-to.ensures.bound from to
