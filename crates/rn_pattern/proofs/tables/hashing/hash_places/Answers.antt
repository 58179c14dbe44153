use Rattle.std.proofs.Common.{fold, flat_map, ap, ◌∙◌, arith}
use Rattle.std.specs.Hash as fed
use Rattle.std.proofs.lemmas.List.{take_all}
use Rattle.rn_pattern.proofs.Stores.Gathering.{flat_map-through}
use Rattle.rn_pattern.proofs.Stores.Hashing.{fed_more}
use Rattle.rn_pattern.specs.declared.node.NodeId.{NodeId}
use Rattle.rn_pattern.proofs.tables.hashing.hash_places.Goals as goal

pub returns : goal.returns
returns g c =
    let ids = c.args.ids.now in
    c.loop-id.invariant
    ∙ ap (fold g.H.Hasher.write c.args.state.now)
    (ap (flat_map (λ (i : NodeId). fed.usize i.0)) (take_all c.loop-id.id-index ids (omega arith)) ∙ flat_map-through fed.usize (λ (i : NodeId). i.0) ids)

pub loop-id-preserved : goal.loop-id-preserved
loop-id-preserved g c =
    fed_more g.H.Hasher.write c.args.state.now c.loop-id.state c.write_usize.new.self (λ (i : NodeId). fed.usize i.0) c.args.ids.now c.loop-id.id-index (record { 0 = 0 }) c.loop-id-test.true c.loop-id.invariant c.write_usize.ensures
