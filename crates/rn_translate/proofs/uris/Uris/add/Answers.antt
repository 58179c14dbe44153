-- A text that has no index gets the next one.
use Rattle.std.proofs.Common.{◌≡◌, sym, ap, ◌∙◌, None, length, arith}
use Rattle.std.specs.Option.{option_copied}
use Rattle.std.proofs.lemmas.Map.Text.{btree_map_updates_str}
use Rattle.rn_translate.specs.inside.UriTables.{index_of}
use Rattle.rn_translate.proofs.AddedUris.{new_text, no_some}
use Rattle.rn_translate.proofs.uris.Uris.add.Goals as goal

pub returns : goal.returns
returns c = λ are.
    let old = c.args.self.now in
    let text = c.args.text in
    let none : index_of old text.now ≡ None = sym c.get.ensures.value ∙ ap option_copied (no_some c.get.result (sym c.is_some.ensures ∙ c.if-is_some.false)) in
    let len : c.len-index.result ≡ length old.texts.items = omega (arith, c.len-index.ensures, old.texts.ok.0) in
    new_text old (record { texts = c.push.new.self; indices = c.insert.new.self }) text c.len-index.result len are none c.in_ok-push.ensures.items
    (btree_map_updates_str text.now old.indices c.insert.new.self _ c.in_ok-insert.ensures.updates)
