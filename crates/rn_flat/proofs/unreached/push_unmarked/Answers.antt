use Rattle.std.proofs.Common.{sym, ◌∙◌}
use Rattle.rn_flat.proofs.ReachedMarks.{name_at, with_name}
use Rattle.rn_flat.proofs.unreached.push_unmarked.Goals as goal

pub returns-in_ok-push : goal.returns-in_ok-push
returns-in_ok-push c =
    with_name c.args.names.now.items c.push.new.self.items c.in_ok-clone.field-0 _ c.args.has_mark c.if-has_mark.false c.in_ok-push.ensures.items
    (c.in_ok-clone.ensures.cases ∙ sym (name_at c.args.defs.now.entries c.args.number c.in-Some.name.now c.in-Some.field-0-1.now c.in-Some.ensures.entry))
