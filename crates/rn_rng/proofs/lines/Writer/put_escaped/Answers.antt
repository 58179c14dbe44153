use Rattle.std.proofs.Common.{◌≡◌, rules, sym, true}
use Rattle.std.specs.List.{list_all}
use Rattle.rn_rng.specs.inside.Views.{holder_view, is_plain_byte}
use Rattle.rn_rng.proofs.References.{plain_text}
use Rattle.rn_rng.proofs.Writing.{writes_as}
use Rattle.rn_rng.proofs.lines.Writer.put_escaped.Goals as goal

pub returns-then-is_plain : goal.returns-then-is_plain
returns-then-is_plain c =
    let e : list_all is_plain_byte c.args.text.now ≡ true = search rules in
    writes_as (sym (plain_text (holder_view c.args.holder) c.args.text.now e)) c.put.ensures
