use Rattle.std.proofs.Common.{◌≡◌, rules, sym, ap, ◌∙◌, subst, length, nat_eq, true}
use Rattle.std.specs.Prelude.{map, string_bytes}
use Rattle.rn_syntax.specs.Tree.{includes}
use Rattle.rn_syntax.specs.View.{declaration_view, items_view, module_view}
use Rattle.rn_rng.specs.Layout.{items_text}
use Rattle.rn_rng.specs.Translation.{items_xml}
use Rattle.rn_rng.specs.Written.{IsUnwritten, IsWritten}
use Rattle.rn_rng.specs.inside.Writes.{IsHindrance, Writes}
use Rattle.rn_rng.proofs.Finished.{has_none, if_err, if_ok, unwritten, written}
use Rattle.rn_rng.proofs.Writing.{writes_as, writes_then}
use Rattle.rn_rng.proofs.grammar_xml.module_xml.Goals as goal

pub returns : goal.returns
returns c =
    let m = module_view c.args.«module».now in
    let e : nat_eq (length (includes m.items)) 0 ≡ true = search rules in
    let flat = has_none (includes m.items) e in
    let z = c.put-2.new.self in
    let ds = c.in_ok-namespaces.ensures ∙ ap (map declaration_view) c.deref.ensures.value in
    let own = writes_as (λ i. items_text (c.deeper.ensures i) (items_xml (ds i) (items_view (c.deref-2.ensures.value i)))) (c.write_items.ensures (ap (λ xs. includes (items_view xs)) c.deref-2.ensures.value ∙ flat)) in
    let items : Writes (items_text 1 (items_xml (map declaration_view c.args.«module».now.decls.items) m.items)) c.put.new.self c.write_items.new.writer = own in
    let whole = writes_then c.put.ensures (writes_then items c.put-2.ensures) in
    record {
      ok = if_ok _ (λ t. IsWritten m (string_bytes t)) (λ t h. subst (λ s. IsWritten m (string_bytes s)) (sym h.1) (written m flat c.new-writer.ensures.text whole h.0)) c.finish.result c.finish.ensures.ok;
      err = if_err (IsHindrance z) (IsUnwritten m) (unwritten m flat c.new-writer.ensures.text c.new-writer.ensures.goes whole) c.finish.result c.finish.ensures.err;
    }
