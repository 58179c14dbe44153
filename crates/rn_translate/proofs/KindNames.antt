-- Elements that are looked for by their names.
use Rattle.std.proofs.Common.{◌≡◌, cond, true, false, List, [], ◌∷◌, refl, Some}
use Rattle.std.specs.Prelude.{bytes_eq}
use Rattle.std.specs.List.{find}
use Rattle.rn_text.specs.Texts.{Text}
use Rattle.rn_translate.specs.SchemaElements.{kind_in, kind_name}
use Rattle.rn_translate.specs.declared.kinds.Kind.{Kind}

pub found_kind : (x : Text) (ks : List Kind) → find (λ k. bytes_eq (kind_name k) x) ks ≡ kind_in ks x
found_kind x [] = refl
found_kind x (k ∷ ks) = elim (bytes_eq (kind_name k) x) as (λ b. cond b (Some k) (find (λ k. bytes_eq (kind_name k) x) ks) ≡ cond b (Some k) (kind_in ks x)) [ true ↦ refl | false ↦ found_kind x ks ]
