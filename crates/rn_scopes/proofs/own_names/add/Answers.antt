-- A look-up of other bytes finds what it found.
use Rattle.std.proofs.Common.{string_bytes, true}
use Rattle.std.proofs.lemmas.Map.Text.{btree_set_updates_text}
use Rattle.rn_scopes.proofs.own_names.add.Goals as goal

pub returns : goal.returns
returns c = λ q. btree_set_updates_text (string_bytes c.args.name) c.args.names.now c.insert.new.self true c.in_ok-insert.ensures.updates q
