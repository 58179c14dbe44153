use Rattle.std.proofs.Common.{◌≡◌, ◌∷◌, [], length, nat_eq, true, false, sym, subst, rules}
use Rattle.rn_simplify.specs.inside.Writes.{prefixes_view, WritesBytes, none}
use Rattle.rn_simplify.proofs.Texts.PartTexts.{writes_built_in, writes_library_type}
use Rattle.rn_simplify.proofs.declared_prefixes.Prefixes.write_type.Goals as goal
use Rattle.rn_simplify.proofs.declared_prefixes.Prefixes.write_type.Goals.{then-not-is_empty, else-not-is_empty}

pub returns : goal.returns
returns c =
    let f = prefixes_view c.args.self.now in
    elim c.if-not-is_empty.branch [
      | then-not-is_empty w ↦
          let e : nat_eq (length c.args.library.now) 0 ≡ false = search rules in
          writes_library_type f c.args.library.now c.args.type_name.now e c.utf8.type_name w.write_library.ensures (subst (λ x. WritesBytes (58 ∷ []) none w.write_library.new.writer x) (sym w.writer-is) w.put.ensures) c.put-2.ensures
      | else-not-is_empty w ↦
          let e : nat_eq (length c.args.library.now) 0 ≡ true = search rules in
          writes_built_in f c.args.library.now c.args.type_name.now e c.utf8.type_name (subst (λ x. WritesBytes c.args.type_name.now none x c.put-2.new.self) w.writer-is c.put-2.ensures)
    ]
