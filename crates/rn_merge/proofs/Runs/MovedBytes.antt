-- Bytes that move in several steps.
use Rattle.std.proofs.Common.{◌≡◌, ℕ, ◌<◌, ◌≤◌, ◌-◌, List, ◌++◌, Option, length, take, drop, sym, ap, ◌∙◌, append_assoc, arith, take-append-drop, length-append, length-take-le}
use Rattle.std.proofs.lemmas.List.{take_rest}
use Rattle.std.specs.Io.KnownBytes.{Consumes}
use Rattle.std.proofs.KnownBytes.{Consumes-trans}
use Rattle.rn_merge.specs.Streams.{GivesMore}

-- the first n bytes of what is left join the front
pub front_grows : (all front rest : List ℕ) (n : ℕ) → all ≡ front ++ rest → all ≡ (front ++ take n rest) ++ take (length rest - n) (drop n rest)
front_grows all front rest n e =
    e ∙ ap (λ l. front ++ l) (sym (take-append-drop n rest)) ∙ sym (append_assoc front (take n rest) (drop n rest)) ∙ ap (λ l. (front ++ take n rest) ++ l) (sym (take_rest rest n))

-- a pull goes past the limit
pub gives_more : (a b c : Option (List ℕ)) (bytes piece : List ℕ) (limit n : ℕ) → Consumes a b bytes → Consumes b c (take n piece)
    → n ≤ length piece → length bytes ≤ limit → limit - length bytes < n → GivesMore a c limit
gives_more a b c bytes piece limit n before now within few more =
    let whole = length-append bytes (take n piece) in
    let part = length-take-le n piece within in
    (bytes ++ take n piece, Consumes-trans a b c bytes (take n piece) before now, omega (arith, whole, part))
