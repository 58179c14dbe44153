use Rattle.std.proofs.Common.{◌≡◌, ◌∷◌, [], cond, chars, sym, subst, true, false, rules}
use Rattle.rn_text.specs.Characters.{is_keyword}
use Rattle.rn_simplify.specs.inside.Writes.{WritesBytes, none}
use Rattle.rn_simplify.proofs.Texts.Writing.{bytes_then}
use Rattle.rn_simplify.proofs.writer.Writer.put_identifier.Goals as goal
use Rattle.rn_simplify.proofs.writer.Writer.put_identifier.Goals.{then-is_keyword, else-is_keyword}

pub returns : goal.returns
returns c =
    let name = c.args.name.now in
    elim c.if-is_keyword.branch [
      | then-is_keyword w ↦
          let e : is_keyword (chars name) ≡ true = search rules in
          subst (λ b. WritesBytes (cond b (92 ∷ name) name) none c.args.self.now c.put-2.new.self) (sym e)
          (bytes_then (92 ∷ []) name (subst (λ x. WritesBytes (92 ∷ []) none c.args.self.now x) (sym w.self-is) w.put.ensures) c.put-2.ensures)
      | else-is_keyword w ↦
          let e : is_keyword (chars name) ≡ false = search rules in
          subst (λ b. WritesBytes (cond b (92 ∷ name) name) none c.args.self.now c.put-2.new.self) (sym e)
          (subst (λ x. WritesBytes name none x c.put-2.new.self) w.self-is c.put-2.ensures)
    ]
