use Rattle.std.proofs.Common.{◌≡◌, ◌∷◌, [], length, nat_eq, true, false, sym, subst, rules}
use Rattle.rn_simplify.specs.inside.Writes.{prefixes_view, WritesBytes, none}
use Rattle.rn_simplify.proofs.Texts.PartTexts.{writes_local, writes_full}
use Rattle.rn_simplify.proofs.class_text.write_name.Goals as goal
use Rattle.rn_simplify.proofs.class_text.write_name.Goals.{then-not-is_empty, else-not-is_empty}

pub returns : goal.returns
returns c =
    let f = prefixes_view c.args.prefixes.now in
    elim c.if-not-is_empty.branch [
      | then-not-is_empty w ↦
          let e : nat_eq (length c.args.uri.now) 0 ≡ false = search rules in
          writes_full f c.args.uri.now c.args.local.now e c.utf8.local w.write_namespace.ensures (subst (λ x. WritesBytes (58 ∷ []) none w.write_namespace.new.writer x) (sym w.writer-is) w.put.ensures) c.put-2.ensures
      | else-not-is_empty w ↦
          let e : nat_eq (length c.args.uri.now) 0 ≡ true = search rules in
          writes_local f c.args.uri.now c.args.local.now e c.utf8.local (subst (λ x. WritesBytes c.args.local.now none x c.put-2.new.self) w.writer-is c.put-2.ensures)
    ]
