use Rattle.std.proofs.Common.{sym}
use Rattle.rn_rng.specs.Layout.{attribute_text}
use Rattle.rn_rng.specs.inside.Views.{optional_view}
use Rattle.rn_rng.proofs.Writing.{flat_map-append, writes_as, writes_then}
use Rattle.rn_rng.proofs.lines.Writer.put_front.Goals as goal

pub returns : goal.returns
returns c =
    let t = c.args.tag.now in
    let attributes = writes_as (sym (flat_map-append attribute_text (optional_view t.first) (optional_view t.second))) (writes_then c.put_optional.ensures c.put_optional-2.ensures) in
    writes_then c.put_indent.ensures (writes_then c.put.ensures (writes_then c.put-2.ensures attributes))
