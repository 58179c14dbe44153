-- Findings in the order in which a set is refused for them: what is gathered in turn is in order, and the first of all is the first refusal.
use Rattle.std.proofs.Common.{◌≡◌, ◌≢◌, ◌⊎◌, ℕ, zero, suc, ◌<◌, ◌≤◌, inl, inr, ⊎_elim, List, [], ◌∷◌, ◌++◌, length, map, refl, sym, ap, ◌∙◌, subst, arith, Less, Greater, Ordering}
use Rattle.std.specs.Prelude.{Contains}
use Rattle.std.specs.Ordering.{ordering_reverse}
use Rattle.std.specs.List.{All, AllByRecursion}
use Rattle.std.specs.List.Sorted.{IsStrictlySortedBy}
use Rattle.std.proofs.lemmas.List.Elements.{All-from_recursion}
use Rattle.std.proofs.lemmas.List.Kept.{AllPairs-cons}
use Rattle.std.proofs.lemmas.Map.Keys.{Less-from_sorted}
use Rattle.rn_text.specs.Texts.{Text, text_cmp}
use Rattle.rn_pattern.proofs.Ordered.Ascending.{each_append}
use Rattle.rn_pattern.proofs.Ordered.InOrder.{contained_each, contains_cases, each_contained, text_no_less}
use Rattle.rn_assemble.specs.Components.{Key, NamedModule}
use Rattle.rn_assemble.specs.Diagnosed.{AreFindings, AreFindingsInOrder, ComesBefore, IsFirstFinding, IsLesser, IsTrueFor, finding_refusal}
use Rattle.rn_assemble.specs.Least.{key_cmp}
use Rattle.rn_assemble.specs.Refusal.{Refusal, override, plain_twice, mixed_methods, no_start, undefined, rank, IsFirstFor, Lacks, StandsFor}
use Rattle.rn_assemble.specs.declared.diagnosing.findings.Finding.{Finding}
use Rattle.rn_assemble.specs.inside.Diagnosing.{AddsRank}
use Rattle.rn_assemble.specs.inside.Keyed.{key_at}
use Rattle.rn_assemble.proofs.KeyPieces.RowOrder.{pairs_append, pairs_nil}
use Rattle.rn_assemble.proofs.Referring.ListMembers.{map_contained}
use Rattle.rn_assemble.proofs.Refusals.OneRefusal.{key_back}

-- keys rise with their numbers
pub key_rises : (names : List Text) → IsStrictlySortedBy text_cmp names → (m n : ℕ) → m < n → n < suc (length names) → key_cmp (key_at names m) (key_at names n) ≡ Less
key_rises names o zero zero l k = absurd (omega (arith, l))
key_rises names o zero (suc n) l k = refl
key_rises names o (suc m) zero l k = absurd (omega (arith, l))
key_rises names o (suc m) (suc n) l k = Less-from_sorted text_cmp names m n [] o (omega (arith, l)) (omega (arith, k))

key_no_less : (x y : Key) → key_cmp x y ≡ Less → key_cmp y x ≢ Less
key_no_less x y h k = let e : Less ≡ Greater = sym h ∙ key_back x y ∙ ap ordering_reverse k in cc

not_below_itself : (x : Text) → text_cmp x x ≢ Less
not_below_itself x h = text_no_less x x h h

module _ (modules : List NamedModule) (names : List Text) where
  abbrev refused : Finding → Refusal
  refused f = finding_refusal modules names f

  abbrev Before : Finding → Finding → Type 0
  Before x y = ComesBefore (refused x) (refused y)

  -- what is in order behind what is in order
  pub in_order_both : (xs ys : List Finding) → AreFindingsInOrder modules names xs → AreFindingsInOrder modules names ys → ((x y : Finding) → Contains xs x → Contains ys y → Before x y) → AreFindingsInOrder modules names (xs ++ ys)
  in_order_both xs ys h k between = pairs_append Before xs ys h k (each_contained (λ x. All (Before x) ys) xs (λ x c. All-from_recursion (Before x) ys (each_contained (Before x) ys (λ y d. between x y c d))))

  pub in_order_none : AreFindingsInOrder modules names []
  in_order_none = pairs_nil Before

  pub in_order_front : (x : Finding) (xs : List Finding) → ((y : Finding) → Contains xs y → Before x y) → AreFindingsInOrder modules names xs → AreFindingsInOrder modules names (x ∷ xs)
  in_order_front x xs above h = AllPairs-cons Before x xs (All-from_recursion (Before x) xs (each_contained (Before x) xs above)) h

  pub in_order_one : (x : Finding) → AreFindingsInOrder modules names (x ∷ [])
  in_order_one x = in_order_front x [] (λ y c. absurd (omega (arith, c.1))) in_order_none

  -- of a list in order, what it stands for
  pub in_order_map : {X : Type 0} (f : X → Finding) (cmp : X → X → Ordering) (P : X → Type 0) → ((x y : X) → P x → P y → cmp x y ≡ Less → Before (f x) (f y)) → (xs : List X) → IsStrictlySortedBy cmp xs → AllByRecursion P xs → AreFindingsInOrder modules names (map f xs)
  unfolding IsStrictlySortedBy
  in_order_map f cmp P step [] h p = in_order_none
  in_order_map f cmp P step (x ∷ xs) h p =
      in_order_front (f x) (map f xs)
      (λ y c. let (z, among, same) = map_contained f xs y c in subst (Before (f x)) same (step x z p.0 (contained_each P xs p.1 z among) (contained_each (λ w. cmp x w ≡ Less) xs h.0 z among)))
      (in_order_map f cmp P step xs h.1 p.1)

  -- ---- the first of all findings

  module _ (fs : List Finding) (h : AreFindings modules names fs) where
    abbrev IsFront : Finding → Type 0
    IsFront x = (y : Finding) → Contains fs y → (x ≡ y) ⊎ Before x y

    -- no refusal of the same place in the order is less than that of the first
    module _ (x : Finding) (front : IsFront x) where
      front_lesser : (q r : Refusal) → refused x ≡ q → IsTrueFor modules r → rank q ≡ rank r → (q ≡ r) ⊎ IsLesser q r
      front_lesser q r is t e =
          let (y, among, says) = h.all r t in
          elim (front y among) [
            | inl same ↦ inl (sym is ∙ ap refused same ∙ says)
            | inr before ↦ let less : ComesBefore q r = subst (λ p. ComesBefore p r) is (subst (ComesBefore (refused x)) says before) in
                elim less [ inl l ↦ absurd (omega (arith, l, e)) | inr l ↦ inr l ]
          ]

      key_least : (j k : Key) → (j ≡ k) ⊎ (key_cmp j k ≡ Less) → key_cmp k j ≢ Less
      key_least j k (inl e) l = let i : key_cmp j j ≡ Less = subst (λ i. key_cmp i j ≡ Less) (sym e) l in key_no_less j j i i
      key_least j k (inr m) l = key_no_less j k m l

      front_stands : (q : Refusal) → refused x ≡ q → IsTrueFor modules q → StandsFor modules q
      front_stands (override y k) is t = (
        record {
          holds = (k, t);
          least = λ z p l. elim (front_lesser (override y k) (override z p.0) is p.1 refl) [
            | inl e ↦ let same : y ≡ z = cc in not_below_itself y (subst (λ w. text_cmp w y ≡ Less) (sym same) l)
            | inr (inl m) ↦ text_no_less y z m l
            | inr (inr m) ↦ not_below_itself y (subst (λ w. text_cmp w y ≡ Less) (sym m.0) l)
          ];
        },
        record {
          holds = t;
          least = λ j p. key_least k j (elim (front_lesser (override y k) (override y j) is p refl) [
            | inl e ↦ inl cc
            | inr (inl m) ↦ absurd (not_below_itself y m)
            | inr (inr m) ↦ inr m.1
          ]);
        },
      )
      front_stands (plain_twice k) is t = record {
        holds = t;
        least = λ j p. key_least k j (elim (front_lesser (plain_twice k) (plain_twice j) is p refl) [ inl e ↦ inl cc | inr m ↦ inr m ]);
      }
      front_stands (mixed_methods k) is t = record {
        holds = t;
        least = λ j p. key_least k j (elim (front_lesser (mixed_methods k) (mixed_methods j) is p refl) [ inl e ↦ inl cc | inr m ↦ inr m ]);
      }
      front_stands no_start is t = t
      front_stands (undefined y) is t = record {
        holds = t;
        least = λ z p l. elim (front_lesser (undefined y) (undefined z) is p refl) [
          | inl e ↦ let same : y ≡ z = cc in not_below_itself y (subst (λ w. text_cmp w y ≡ Less) (sym same) l)
          | inr m ↦ text_no_less y z m l
        ];
      }
      front_stands q is t = absurd t

  -- a refusal doesn't stand where a lesser one of the same kind is true
  lesser_stands : (q r : Refusal) → IsTrueFor modules q → IsLesser q r → ¬ StandsFor modules r
  lesser_stands (override x k) (override y j) t (inl l) s = s.0.least x (k, t) l
  lesser_stands (override x k) (override y j) t (inr l) s = s.1.least k (subst (λ z. Lacks modules z k) l.0 t) l.1
  lesser_stands (plain_twice k) (plain_twice j) t l s = s.least k t l
  lesser_stands (mixed_methods k) (mixed_methods j) t l s = s.least k t l
  lesser_stands (undefined x) (undefined y) t l s = s.least x t l
  lesser_stands q r t l s = absurd l

  -- the first finding is the first refusal, where all can be found of its kind
  pub first_finding : (fs : List Finding) → AreFindings modules names fs → (r : Refusal) → IsFirstFor modules r → IsTrueFor modules r → IsFirstFinding modules names fs r
  first_finding [] h r first t = let (y, among, says) = h.all r t in absurd (omega (arith, among.1))
  first_finding (x ∷ xs) h r first t =
      let front : IsFront (x ∷ xs) h x = λ y c. ⊎_elim inl (λ k. inr (subst (Before x) k.2 (h.in_order 0 (suc k.0) y (omega arith) (omega (arith, k.1))))) (contains_cases x y xs c) in
      let (y, among, says) = h.all r t in
      elim (front y among) [
        | inl same ↦ (x, refl, ap refused same ∙ says)
        | inr before ↦ let less : ComesBefore (refused x) r = subst (ComesBefore (refused x)) says before in
            elim less [
              | inl l ↦ absurd (first.1 (refused x) l (front_stands (x ∷ xs) h x front (refused x) refl h.true_of.0))
              | inr l ↦ absurd (lesser_stands (refused x) r h.true_of.0 l first.0)
            ]
      ]

-- ---- kind by kind

-- the findings are in order, and none is behind this place in the order of refusals
pub record AreUpTo (modules : List NamedModule) (names : List Text) (r : ℕ) (fs : List Finding) : Type 0 where
  pub in_order : AreFindingsInOrder modules names fs
  pub up_to : AllByRecursion (λ (x : Finding). rank (finding_refusal modules names x) ≤ r) fs

module _ (modules : List NamedModule) (names : List Text) where
  pub up_to_none : (r : ℕ) → AreUpTo modules ([] ∷ names) r []
  up_to_none r = record { in_order = in_order_none modules ([] ∷ names); up_to = tt }

  pub up_to_more : (r s : ℕ) (old new : List Finding) → r < s → AreUpTo modules ([] ∷ names) r old → AddsRank modules names s old new → AreUpTo modules ([] ∷ names) s new
  up_to_more r s old new l h a =
      let R : Finding → ℕ = λ x. rank (finding_refusal modules ([] ∷ names) x) in
      let old_rank = contained_each (λ x. R x ≤ r) old h.up_to in
      let new_rank = contained_each (λ x. R x ≡ s) a.added a.ranked in
      let low = each_contained (λ x. R x ≤ s) old (λ x c. let e = old_rank x c in omega (arith, e, l)) in
      let here = each_contained (λ x. R x ≤ s) a.added (λ x c. let e = new_rank x c in omega (arith, e)) in
      subst (AreUpTo modules ([] ∷ names) s) (sym a.new_is) (record {
        in_order = in_order_both modules ([] ∷ names) old a.added h.in_order a.in_order (λ x y c d. let e = old_rank x c in let g = new_rank y d in inl (omega (arith, e, g, l)));
        up_to = each_append (λ x. R x ≤ s) old a.added low here;
      })
