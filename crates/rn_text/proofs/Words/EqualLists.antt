-- What equal lists share, and what an empty one is.
use Rattle.std.proofs.Common.{◌≡◌, ℕ, true, List, [], ◌∷◌, refl}
use Rattle.rn_text.specs.Segments.{is_empty}

pub cons_first : {x y : ℕ} {xs ys : List ℕ} → x ∷ xs ≡ y ∷ ys → x ≡ y
cons_first e = cc

pub cons_rest : {x y : ℕ} {xs ys : List ℕ} → x ∷ xs ≡ y ∷ ys → xs ≡ ys
cons_rest e = cc

pub none_of : (l : List ℕ) → is_empty l ≡ true → l ≡ []
none_of [] e = refl
none_of (c ∷ cs) e = cc
