-- The component is behind those of its key, and the other rows are as they were.
use Rattle.std.proofs.Common.{arith}
use Rattle.rn_assemble.specs.inside.Views.{names_of}
use Rattle.rn_assemble.proofs.Gathering.AddedRows.{one_row}
use Rattle.rn_assemble.proofs.reading.contents.push_component.Goals as goal

pub returns-clause-rows : goal.returns-clause-rows
returns-clause-rows c = λ within s.
    one_row (names_of c.args.keys.now) s c.args.rows.now.rows.items c.push.new.self.rows.items c.requires.size c.args.key.0
    (record { «module» = c.args.module; number = c.args.contents.now.count; method = c.args.method; body = c.args.body })
    c.in_ok-push.ensures.others (c.in_ok-push.ensures.pushed (omega (arith, within, c.requires.size))) within
