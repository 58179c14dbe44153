-- A set has one verdict at most, where tokens have one tree at most.
use Rattle.std.proofs.Common.{◌≡◌, ◌≤◌, ◌<◌, List, length, refl, sym, ap, ◌∙◌, subst, arith, true, false}
use Rattle.std.proofs.lemmas.Bool.{false≢true}
use Rattle.rn_pattern.specs.Matching.{Grammar}
use Rattle.rn_pattern.specs.Reached.{IsCanonicalOf}
use Rattle.rn_modset.specs.Contributions.{Member}
use Rattle.rn_syntax.specs.Grammar.{Tokens}
use Rattle.rn_syntax.specs.Tree as t
use Rattle.rn_syntax.specs.Beginnings.{HasTree}
use Rattle.rn_assemble.specs.Refusal.{Refusal, IsFirst}
use Rattle.rn_assemble.proofs.Refusals.OneSet.{first_of_set, one_assembled}
use Rattle.rn_simplify.specs.Spelling.{spelling}
use Rattle.rn_simplify.specs.ReadBack.{is_too_deep}
use Rattle.rn_simplify.specs.Verdict.{Verdict, prints, refused, too_large, too_deep, IsCanonicalOfSet, IsVerdict}
use Rattle.rn_simplify.proofs.Simplified.FixedPoint.{one_canonical}

module _ (one_tree : (ts : Tokens) (m n : t.Module) → HasTree ts m → HasTree ts n → m ≡ n) (s : List Member) where
  -- the set has one canonical grammar
  one_normal : (n m : Grammar) → IsCanonicalOfSet s n → IsCanonicalOfSet s m → n ≡ m
  one_normal n m (g, a, c) (h, b, d) = let same : g ≡ h = one_assembled one_tree s g h a b in one_canonical h n m (subst (λ f. IsCanonicalOf f n) same c) d

  not_refused : (r : Refusal) (n : Grammar) → IsFirst s r → IsCanonicalOfSet s n → ⊥
  not_refused r n h (g, a, c) = a.0 r h.0

  not_both_lengths : (n m : Grammar) → IsCanonicalOfSet s n → IsCanonicalOfSet s m → 4194304 < length (spelling n) → length (spelling m) ≤ 4194304 → ⊥
  not_both_lengths n m c d l k = let same : length (spelling n) ≡ length (spelling m) = ap (λ g. length (spelling g)) (one_normal n m c d) in absurd (omega (arith, same, l, k))

  not_both_depths : (n m : Grammar) → IsCanonicalOfSet s n → IsCanonicalOfSet s m → is_too_deep n ≡ true → is_too_deep m ≡ false → ⊥
  not_both_depths n m c d l k = false≢true (sym k ∙ ap is_too_deep (sym (one_normal n m c d)) ∙ l)

  pub one_verdict : (v w : Verdict) → IsVerdict s v → IsVerdict s w → v ≡ w
  one_verdict (refused q) (refused r) h k = ap refused (first_of_set one_tree s q r h k)
  one_verdict (refused q) (prints t) h (n, c, printed) = absurd (not_refused q n h c)
  one_verdict (refused q) too_large h (n, c, long) = absurd (not_refused q n h c)
  one_verdict (refused q) too_deep h (n, c, deep) = absurd (not_refused q n h c)
  one_verdict (prints t) (refused r) (n, c, printed) k = absurd (not_refused r n k c)
  one_verdict too_large (refused r) (n, c, long) k = absurd (not_refused r n k c)
  one_verdict too_deep (refused r) (n, c, deep) k = absurd (not_refused r n k c)
  one_verdict too_large too_large h k = refl
  one_verdict too_deep too_deep h k = refl
  one_verdict too_large too_deep (n, c, long) (m, d, (short, deep)) = absurd (not_both_lengths n m c d long short)
  one_verdict too_deep too_large (n, c, (short, deep)) (m, d, long) = absurd (not_both_lengths m n d c long short)
  one_verdict too_large (prints t) (n, c, long) (m, d, (short, shallow, is)) = absurd (not_both_lengths n m c d long short)
  one_verdict (prints t) too_large (n, c, (short, shallow, is)) (m, d, long) = absurd (not_both_lengths m n d c long short)
  one_verdict too_deep (prints t) (n, c, (short, deep)) (m, d, (short', shallow, is)) = absurd (not_both_depths n m c d deep shallow)
  one_verdict (prints t) too_deep (n, c, (short, shallow, is)) (m, d, (short', deep)) = absurd (not_both_depths m n d c deep shallow)
  one_verdict (prints t) (prints u) (n, c, (short, shallow, is)) (m, d, (short', shallow', is')) = ap prints (is ∙ ap spelling (one_normal n m c d) ∙ sym is')
