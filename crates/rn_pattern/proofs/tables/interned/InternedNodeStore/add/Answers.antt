-- The node is among the others, or behind them.
use Rattle.rn_pattern.proofs.Stores.Interning.{inserted, inserted_earlier, inserted_keeps, inserted_grows, inserted_stands, inserted_adds}
use Rattle.rn_pattern.proofs.tables.interned.InternedNodeStore.add.Goals as goal

pub invariant_of-self : goal.invariant_of-self
invariant_of-self c =
    let ns = c.args.self.now.nodes.keys in
    let ms = c.insert_full.new.self.keys in
    record { earlier = inserted_earlier ns ms c.args.node (inserted c.insert_full.result ns ms c.args.node c.insert_full.ensures.keys c.insert_full.ensures.err) c.args.self.now.earlier c.requires; distinct = c.insert_full.ensures.unique }

pub returns-clause-made : goal.returns-clause-made
returns-clause-made c =
    let ns = c.args.self.now.nodes.keys in
    let ms = c.insert_full.new.self.keys in
    let stored = c.in_ok-place.ensures.stored in
    inserted_stands ns ms c.args.node (record { 0 = c.in_ok-place.place }) stored.0 (inserted c.insert_full.result ns ms c.args.node c.insert_full.ensures.keys c.insert_full.ensures.err) c.args.self.now.earlier c.requires stored.1 stored.2

pub returns-clause-kept : goal.returns-clause-kept
returns-clause-kept c =
    let ns = c.args.self.now.nodes.keys in
    let ms = c.insert_full.new.self.keys in
    inserted_keeps ns ms c.args.node (inserted c.insert_full.result ns ms c.args.node c.insert_full.ensures.keys c.insert_full.ensures.err)

pub returns-clause-grows : goal.returns-clause-grows
returns-clause-grows c =
    let ns = c.args.self.now.nodes.keys in
    let ms = c.insert_full.new.self.keys in
    inserted_grows ns ms c.args.node (inserted c.insert_full.result ns ms c.args.node c.insert_full.ensures.keys c.insert_full.ensures.err)

pub returns-clause-adds : goal.returns-clause-adds
returns-clause-adds c =
    let ns = c.args.self.now.nodes.keys in
    let ms = c.insert_full.new.self.keys in
    let stored = c.in_ok-place.ensures.stored in
    inserted_adds ns ms c.args.node (record { 0 = c.in_ok-place.place }) stored.0 c.in_ok-place.ensures.keys stored.1 stored.2
