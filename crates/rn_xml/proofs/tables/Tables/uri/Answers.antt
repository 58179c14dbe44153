use Rattle.std.proofs.Common.{◌≡◌, sym, arith, None}
use Rattle.rn_xml.specs.inside.KnownTexts.{index_in}
use Rattle.rn_xml.proofs.KnownUris.{knows_push, pushed_uri, uri_within_table}
use Rattle.rn_xml.proofs.tables.Tables.uri.Goals as goal
use Rattle.rn_xml.proofs.tables.Tables.uri.Goals.{in-Some+else-index-len, in_default}

pub returns-clause-knows : goal.returns-clause-knows
returns-clause-knows c = λ knows.
    let unknown : index_in c.args.self.now.uris c.args.uri.now ≡ None = elim c.match-find.branch [
      | in-Some+else-index-len w ↦ absurd (omega (arith, w.if-index-len.false, w.len.ensures, uri_within_table c.args.self.now.document w.in-Some.index c.args.uri.now (knows.is_there c.args.uri.now w.in-Some.index (sym w.in-Some.ensures))))
      | in_default w ↦ sym w.in_default.ensures
    ] in
    knows_push c.args.self.now _ c.args.uri.now c.in_ok-from_str.field-0 c.len-index.result knows c.args.self.now.sound.reserved c.in_ok-from_str.ensures.ok c.in_ok-push.ensures.items unknown
    c.len-index.ensures c.in_ok-insert.ensures.ok

pub returns-clause-is : goal.returns-clause-is
returns-clause-is c = λ knows. pushed_uri c.args.self.now.document (record c.args.self.now.document { uris = c.push.new.self }) c.args.uri.now c.in_ok-from_str.field-0 c.len-index.result c.in_ok-from_str.ensures.ok c.in_ok-push.ensures.items c.len-index.ensures
