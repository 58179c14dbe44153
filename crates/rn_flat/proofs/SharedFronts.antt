-- Texts that agree up to a place.
use Rattle.std.proofs.Common.{◌≡◌, ◌≢◌, ℕ, suc, ◌+◌, ◌<◌, ◌≤◌, List, ◌∷◌, ◌++◌, [], length, take, get_or, min, ⊎_elim, sym, ap, ◌∙◌, arith}
use Rattle.std.specs.Option.{unwrap_or}
use Rattle.std.proofs.Math.Seq.{take-suc}
use Rattle.std.proofs.lemmas.List.{take_all}
use Rattle.std.proofs.lemmas.Option.{slice_get_cases, slice_get_within, unwrap_or-slice_get}
use Rattle.rn_flat.specs.Comparisons.{DifferFirst}

-- equal bytes at the place take them one further
pub shared_next : (a b : List ℕ) (i : ℕ) → i < length a → i < length b → take i a ≡ take i b → get_or a i 0 ≡ get_or b i 0
    → take (i + 1) a ≡ take (i + 1) b
shared_next a b i h k e f =
    let one_more : i + 1 ≡ suc i = omega arith in
    ap (λ n. take n a) one_more ∙ take-suc a i 0 h ∙ ap (λ s. s ++ get_or a i 0 ∷ []) e ∙ ap (λ x. take i b ++ x ∷ []) f
    ∙ sym (ap (λ n. take n b) one_more ∙ take-suc b i 0 k)

-- other bytes at the place
pub other_byte : (a b : List ℕ) (i : ℕ) → i < length a → i < length b → take i a ≡ take i b → get_or a i 0 ≢ get_or b i 0
    → DifferFirst a b i
other_byte a b i h k e f = record {
  same = e;
  within_found = omega arith;
  within_wanted = omega arith;
  other = λ s. f (sym (unwrap_or-slice_get a i 0) ∙ ap (λ o. unwrap_or o 0) s ∙ unwrap_or-slice_get b i 0);
}

-- texts of one length that agree up to their ends
pub same_texts : (a b : List ℕ) (i : ℕ) → length a ≡ length b → length a ≤ i → take i a ≡ take i b → a ≡ b
same_texts a b i l h e =
    let k : length b ≤ i = omega (arith, l) in
    sym (take_all i a h) ∙ e ∙ take_all i b k

-- the end of the one that is the front of the other
pub other_end : (a b : List ℕ) (i : ℕ) → i ≡ min (length a) (length b) → length a ≢ length b → take i a ≡ take i b
    → DifferFirst a b i
other_end a b i m n e = record {
  same = e;
  within_found = omega (arith, m);
  within_wanted = omega (arith, m);
  other = λ s. ⊎_elim
      (λ p. let k : i < length b = slice_get_within b i p.0 (sym s ∙ p.2) in omega (arith, m, p.1, k))
      (λ p. ⊎_elim
      (λ q. let h : i < length a = slice_get_within a i q.0 (s ∙ q.2) in omega (arith, p.0, h))
      (λ q. n (omega (arith, m, p.0, q.0)))
      (slice_get_cases b i).1)
      (slice_get_cases a i).1;
}
