-- A reference outside elements is added to both lists, any other to one.
use Rattle.std.proofs.Common.{◌≡◌, ◌∷◌, ◌++◌, [], ℕ, List, append-nil, refl, subst, sym, ◌∙◌}
use Rattle.std.specs.Prelude.{OnOk, Result}
use Rattle.std.proofs.lemmas.Result.{on_ok_weaker}
use Rattle.rn_pattern.specs.declared.references.Reach.{Reach}
use Rattle.rn_pattern.specs.declared.references.Reach.TheVariants.{Everywhere, OutsideElements}
use Rattle.rn_assemble.specs.inside.Referred.{number_within, within}
use Rattle.rn_assemble.proofs.by_key.references.add_key.Goals as goal

added_outside : {T E : Type 0} (r : Result T E) (old new : List ℕ) (k : ℕ) (reach : Reach) → (reach ≡ OutsideElements → OnOk r (new ≡ old ++ k ∷ [])) → (reach ≡ Everywhere → OnOk r (new ≡ old)) → OnOk r (new ≡ old ++ within OutsideElements reach k)
added_outside r old new k Everywhere f g = on_ok_weaker r (λ (e : new ≡ old). e ∙ sym (append-nil old)) (g refl)
added_outside r old new k OutsideElements f g = f refl

pub returns-in-Some-clause-outside : goal.returns-in-Some-clause-outside
returns-in-Some-clause-outside c =
    subst (λ k. OnOk c.add.result (c.add.new.self.outside.items ≡ c.args.row.now.outside.items ++ number_within OutsideElements c.args.reach k)) (sym c.in-Some.is)
    (added_outside c.add.result c.args.row.now.outside.items c.add.new.self.outside.items c.in-Some.key.0 c.args.reach c.add.ensures.outside c.add.ensures.inside)
