-- What stands for itself between delimiters is its own text.
use Rattle.std.proofs.Common.{arith, ◌≡◌, ℕ, Bool, true, false, cond, List, [], ◌∷◌, refl}
use Rattle.std.proofs.lemmas.Bool.Decides.{nat_tests}
use Rattle.std.specs.Prelude.{◌==◌, ◌&&◌, not}
use Rattle.std.proofs.lemmas.Bool.{not-true, and_parts}
use Rattle.rn_text.specs.Segments.{escape_front, is_verbatim, text_after}

verbatim_at : (b r : Bool) (c : ℕ) (cs x y : List ℕ) → b ≡ false → r ≡ false → text_after 0 cs ≡ cs → cond b x (cond r y (c ∷ text_after 0 cs)) ≡ c ∷ cs
verbatim_at b r c cs x y h1 h2 h3 = grind (arith, nat_tests)

pub verbatim_text : (cs : List ℕ) → is_verbatim cs ≡ true → text_after 0 cs ≡ cs
verbatim_text [] e = refl
verbatim_text (c ∷ cs) e =
    let p = and_parts (not (escape_front (c ∷ cs))) (not (c == 13) && is_verbatim cs) e in
    let q = and_parts (not (c == 13)) (is_verbatim cs) p.1 in
    verbatim_at (escape_front (c ∷ cs)) (c == 13) c cs _ _ (not-true _ p.0) (not-true _ q.0) (verbatim_text cs q.1)
