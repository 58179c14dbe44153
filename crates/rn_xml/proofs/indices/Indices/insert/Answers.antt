use Rattle.std.proofs.Common.{◌≡◌, ◌+◌, ◌∙◌, ap, subst, None, Some}
use Rattle.std.specs.BTreeMap.{btree_map_len, get_by_text}
use Rattle.std.specs.Map.{update}
use Rattle.std.specs.Prelude.{bytes_eq, if◌then◌else◌, is_some, string_bytes}
use Rattle.std.proofs.lemmas.Map.Text.{btree_map_updates_text}
use Rattle.rn_xml.proofs.indices.Indices.insert.Goals as goal

pub returns-clause-ok : goal.returns-clause-ok
returns-clause-ok c = λ q.
    subst (λ k. get_by_text c.insert.new.self q ≡ update bytes_eq (get_by_text c.args.self.now.known) k (Some c.args.index) q) c.in_ok-from_str.ensures.ok
    (btree_map_updates_text (string_bytes c.in_ok-from_str.field-0) c.args.self.now.known c.insert.new.self (Some c.args.index) c.in_ok-insert.ensures.updates q)

pub returns-clause-more : goal.returns-clause-more
returns-clause-more c = λ none.
    let old : c.in_ok-insert.field-0 ≡ None = c.in_ok-insert.ensures.old ∙ ap (get_by_text c.args.self.now.known) c.in_ok-from_str.ensures.ok ∙ none in
    c.in_ok-insert.ensures.len ∙ ap (λ o. btree_map_len c.args.self.now.known + (if is_some o then 0 else 1)) old
