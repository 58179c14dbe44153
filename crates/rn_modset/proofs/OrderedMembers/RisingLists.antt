-- Lists that rise in a total order: a key put in, what a list has, and that a list is told by what it has.
use Rattle.std.proofs.Common.{◌≡◌, ◌≢◌, ℕ, zero, suc, ◌+◌, ◌<◌, ◌≤◌, Bool, true, false, cond, ◌||◌, ◌⊎◌, inl, inr, List, [], ◌∷◌, length, get_or, refl, sym, ap, subst, ◌∙◌, arith}
use Rattle.std.specs.declared.cmp.Ordering.{Ordering}
use Rattle.std.specs.declared.cmp.Ordering.TheVariants.{Less, Equal, Greater}
use Rattle.std.specs.Ordering.{eq_by_cmp, is_eq, match_ordering, ordering_reverse}
use Rattle.std.specs.Cmp.{IsTotalOrder}
use Rattle.std.specs.List.{list_any, AllByRecursion, insert}
use Rattle.std.specs.List.Sorted.{IsStrictlySortedBy}
use Rattle.std.specs.BTreeSet.{insert_key}
use Rattle.std.proofs.lemmas.Cmp.{alike_right, tied_itself}
use Rattle.std.proofs.lemmas.Bool.{or_left, or_from}
use Rattle.rn_modset.proofs.TestAnswers.Orderings.{less_not_equal, greater_not_equal}

or_absorbs : (a b c : Bool) → a ≡ b → (b || c) ≡ (a || (b || c))
or_absorbs true true c e = refl
or_absorbs false false c e = refl
or_absorbs true false c e = cc
or_absorbs false true c e = cc

or_swap : (a b c : Bool) → (a || (b || c)) ≡ (b || (a || c))
or_swap true true c = refl
or_swap true false c = refl
or_swap false b c = refl

or_cancels : (a b c : Bool) → a ≡ false → (a || b) ≡ (a || c) → b ≡ c
or_cancels true b c e f = cc
or_cancels false b c e f = f

pub all_through : {K : Type 0} (P Q : K → Type 0) → ((y : K) → P y → Q y) → (ks : List K) → AllByRecursion P ks → AllByRecursion Q ks
all_through P Q f [] a = tt
all_through P Q f (k ∷ ks) a = (f k a.0, all_through P Q f ks a.1)

all_insert_by : {K : Type 0} (P : K → Type 0) (r : Ordering) (k x : K) (xs ys : List K) → P k → P x → AllByRecursion P xs → AllByRecursion P ys → AllByRecursion P (match_ordering r (k ∷ x ∷ xs) (x ∷ xs) (x ∷ ys))
all_insert_by P Less k x xs ys p q a b = (p, (q, a))
all_insert_by P Equal k x xs ys p q a b = (q, a)
all_insert_by P Greater k x xs ys p q a b = (q, b)

pub all_insert : {K : Type 0} (R : K → K → Ordering) (P : K → Type 0) (ks : List K) (k : K) → AllByRecursion P ks → P k → AllByRecursion P (insert_key R ks k)
all_insert R P [] k a p = (p, tt)
all_insert R P (x ∷ xs) k a p = all_insert_by P (R k x) k x xs (insert_key R xs k) p a.0 a.1 (all_insert R P xs k a.1 p)

module _ {K : Type 0} {R : K → K → Ordering} (o : IsTotalOrder R) where
  abbrev pub has_key : List K → K → Bool
  has_key ks q = list_any (eq_by_cmp R q) ks

  pub turned : (x y : K) (r : Ordering) → R x y ≡ r → R y x ≡ ordering_reverse r
  turned x y r e = o.antisymm y x ∙ ap ordering_reverse e

  -- a key below all has no equal
  pub lacks_below : (k : K) (ks : List K) → AllByRecursion (λ y. R k y ≡ Less) ks → has_key ks k ≡ false
  lacks_below k [] a = refl
  lacks_below k (x ∷ xs) a = or_from _ _ (less_not_equal _ a.0) (lacks_below k xs a.1)

  has_insert_by : (r : Ordering) (k q x : K) (xs ys : List K) → R k x ≡ r → has_key ys q ≡ (eq_by_cmp R q k || has_key xs q)
      → has_key (match_ordering r (k ∷ x ∷ xs) (x ∷ xs) (x ∷ ys)) q ≡ (eq_by_cmp R q k || (eq_by_cmp R q x || has_key xs q))
  has_insert_by Less k q x xs ys e h = refl
  has_insert_by Equal k q x xs ys e h = or_absorbs _ _ _ (ap is_eq (alike_right o k x q e))
  has_insert_by Greater k q x xs ys e h = ap (λ b. eq_by_cmp R q x || b) h ∙ or_swap (eq_by_cmp R q x) (eq_by_cmp R q k) _

  pub has_insert : (ks : List K) (k q : K) → has_key (insert_key R ks k) q ≡ (eq_by_cmp R q k || has_key ks q)
  has_insert [] k q = refl
  has_insert (x ∷ xs) k q = has_insert_by (R k x) k q x xs _ refl (has_insert xs k q)

  sorted_insert_by : (r : Ordering) (k x : K) (xs ys : List K) → R k x ≡ r → IsStrictlySortedBy R (x ∷ xs) → IsStrictlySortedBy R ys → AllByRecursion (λ y. R x y ≡ Less) (insert_key R xs k) ⊎ (r ≢ Greater) → ys ≡ insert_key R xs k
      → IsStrictlySortedBy R (match_ordering r (k ∷ x ∷ xs) (x ∷ xs) (x ∷ ys))
  unfolding IsStrictlySortedBy
  sorted_insert_by Less k x xs ys e s t a i = ((e, all_through _ _ (λ y h. o.trans k x y e h) xs s.0), s)
  sorted_insert_by Equal k x xs ys e s t a i = s
  sorted_insert_by Greater k x xs ys e s t (inl a) i = (subst (AllByRecursion (λ y. R x y ≡ Less)) (sym i) a, t)
  sorted_insert_by Greater k x xs ys e s t (inr n) i = absurd (n refl)

  greater_or : (r : Ordering) (k x : K) (xs : List K) → R k x ≡ r → AllByRecursion (λ y. R x y ≡ Less) xs → AllByRecursion (λ y. R x y ≡ Less) (insert_key R xs k) ⊎ (r ≢ Greater)
  greater_or Less k x xs e a = inr (λ h. cc)
  greater_or Equal k x xs e a = inr (λ h. cc)
  greater_or Greater k x xs e a = inl (all_insert R (λ y. R x y ≡ Less) xs k a (turned k x Greater e))

  pub sorted_insert : (ks : List K) (k : K) → IsStrictlySortedBy R ks → IsStrictlySortedBy R (insert_key R ks k)
  unfolding IsStrictlySortedBy
  sorted_insert [] k s = (tt, tt)
  sorted_insert (x ∷ xs) k s = sorted_insert_by (R k x) k x xs (insert_key R xs k) refl s (sorted_insert xs k s.1) (greater_or (R k x) k x xs refl s.0) refl

  length_insert_by : (r : Ordering) (k x : K) (xs ys : List K) → R k x ≡ r → AllByRecursion (λ y. R x y ≡ Less) xs → length ys ≡ cond (has_key xs k) (length xs) (length xs + 1)
      → length (match_ordering r (k ∷ x ∷ xs) (x ∷ xs) (x ∷ ys)) ≡ cond (is_eq r || has_key xs k) (suc (length xs)) (suc (length xs) + 1)
  length_insert_by Less k x xs ys e a h = rw (lacks_below k xs (all_through _ _ (λ y h. o.trans k x y e h) xs a)) (omega arith)
  length_insert_by Equal k x xs ys e a h = refl
  length_insert_by Greater k x xs ys e a h = one_more (has_key xs k) (length xs) (length ys) h
    where
      one_more : (b : Bool) (m n : ℕ) → n ≡ cond b m (m + 1) → suc n ≡ cond b (suc m) (suc m + 1)
      one_more true m n e = omega arith
      one_more false m n e = omega arith

  pub length_insert : (ks : List K) (k : K) → IsStrictlySortedBy R ks → length (insert_key R ks k) ≡ cond (has_key ks k) (length ks) (length ks + 1)
  unfolding IsStrictlySortedBy
  length_insert [] k s = omega arith
  length_insert (x ∷ xs) k s = length_insert_by (R k x) k x xs (insert_key R xs k) refl s.0 (length_insert xs k s.1)

  -- a key of the list stays where it is
  insert_held_by : (r : Ordering) (k x : K) (xs ys : List K) → R k x ≡ r → AllByRecursion (λ y. R x y ≡ Less) xs → (is_eq r || has_key xs k) ≡ true → (has_key xs k ≡ true → ys ≡ xs) → match_ordering r (k ∷ x ∷ xs) (x ∷ xs) (x ∷ ys) ≡ x ∷ xs
  insert_held_by Less k x xs ys e a h i = absurd (true_not_false (sym h ∙ lacks_below k xs (all_through _ _ (λ y h. o.trans k x y e h) xs a)))
    where
      true_not_false : true ≢ false
      true_not_false e = cc
  insert_held_by Equal k x xs ys e a h i = refl
  insert_held_by Greater k x xs ys e a h i = ap (λ t. x ∷ t) (i h)

  pub insert_held : (ks : List K) (k : K) → IsStrictlySortedBy R ks → has_key ks k ≡ true → insert_key R ks k ≡ ks
  unfolding IsStrictlySortedBy
  insert_held [] k s h = cc
  insert_held (x ∷ xs) k s h = insert_held_by (R k x) k x xs (insert_key R xs k) refl s.0 h (insert_held xs k s.1)

  lacks_below_at : (ks : List K) (k : K) → ((j : ℕ) (d : K) → j < length ks → R k (get_or ks j d) ≡ Less) → has_key ks k ≡ false
  lacks_below_at [] k h = refl
  lacks_below_at (x ∷ xs) k h = or_from _ _ (less_not_equal _ (h 0 x (omega arith))) (lacks_below_at xs k (λ j d b. h (suc j) d (omega arith)))

  -- the place between the lesser and the greater is the key's
  pub insert_at : (ks : List K) (k : K) (i : ℕ) → ((j : ℕ) (d : K) → j < i → R (get_or ks j d) k ≡ Less) → ((j : ℕ) (d : K) → i ≤ j → j < length ks → R (get_or ks j d) k ≡ Greater) → i ≤ length ks
      → (insert ks i k ≡ insert_key R ks k) × (has_key ks k ≡ false)
  insert_at [] k zero below above le = (refl, refl)
  insert_at [] k (suc i) below above le = absurd (omega arith)
  insert_at (x ∷ xs) k zero below above le =
      let e : R k x ≡ Less = turned x k Greater (above 0 x (omega arith) (omega arith)) in
      (rw e, lacks_below_at (x ∷ xs) k (λ j d h. turned _ k Greater (above j d (omega arith) h)))
  insert_at (x ∷ xs) k (suc i) below above le =
      let e : R k x ≡ Greater = turned x k Less (below 0 x (omega arith)) in
      let rest = insert_at xs k i (λ j d h. below (suc j) d (omega arith)) (λ j d h h2. above (suc j) d (omega arith) (omega arith)) (omega arith) in
      (rw e (ap (λ t. x ∷ t) rest.0), or_from _ _ (greater_not_equal _ e) rest.1)

  all_apart : (q x : K) (ks : List K) → R q x ≡ Equal → AllByRecursion (λ y. R x y ≡ Less) ks → has_key ks q ≡ false
  all_apart q x [] e a = refl
  all_apart q x (y ∷ ys) e a = or_from _ _ (less_not_equal _ (o.congr q x y e ∙ a.0)) (all_apart q x ys e a.1)

  module _ (same : (x y : K) → R x y ≡ Equal → x ≡ y) where
    one_list_by : (r : Ordering) (x y : K) (xs ys : List K) → R x y ≡ r → IsStrictlySortedBy R (x ∷ xs) → IsStrictlySortedBy R (y ∷ ys)
        → ((q : K) → has_key (x ∷ xs) q ≡ has_key (y ∷ ys) q) → (((q : K) → has_key xs q ≡ has_key ys q) → xs ≡ ys) → x ∷ xs ≡ y ∷ ys
    unfolding IsStrictlySortedBy
    one_list_by Less x y xs ys e s t h ih =
        let held : has_key (x ∷ xs) x ≡ true = or_left _ _ (ap is_eq (tied_itself o x)) in
        let lacks : has_key (y ∷ ys) x ≡ false = lacks_below x (y ∷ ys) (e, all_through _ _ (λ z b. o.trans x y z e b) ys t.0) in
        absurd (both (sym held ∙ h x ∙ lacks))
      where
        both : true ≢ false
        both e = cc
    one_list_by Greater x y xs ys e s t h ih =
        let b : R y x ≡ Less = turned x y Greater e in
        let held : has_key (y ∷ ys) y ≡ true = or_left _ _ (ap is_eq (tied_itself o y)) in
        let lacks : has_key (x ∷ xs) y ≡ false = lacks_below y (x ∷ xs) (b, all_through _ _ (λ z c. o.trans y x z b c) xs s.0) in
        absurd (both (sym held ∙ sym (h y) ∙ lacks))
      where
        both : true ≢ false
        both e = cc
    one_list_by Equal x y xs ys e s t h ih =
        let rest : xs ≡ ys = ih (λ q. tails q (R q x) refl) in
        λ i. same x y e i ∷ rest i
      where
        tails : (q : K) (r : Ordering) → R q x ≡ r → has_key xs q ≡ has_key ys q
        tails q Less f = or_cancels _ _ _ (less_not_equal _ f) (h q ∙ ap (λ b. b || has_key ys q) (ap is_eq (sym (alike_right o x y q e))))
        tails q Greater f = or_cancels _ _ _ (greater_not_equal _ f) (h q ∙ ap (λ b. b || has_key ys q) (ap is_eq (sym (alike_right o x y q e))))
        tails q Equal f = all_apart q x xs f s.0 ∙ sym (all_apart q y ys (sym (alike_right o x y q e) ∙ f) t.0)

    -- lists that rise and have the same keys are one
    pub one_list : (xs ys : List K) → IsStrictlySortedBy R xs → IsStrictlySortedBy R ys → ((q : K) → has_key xs q ≡ has_key ys q) → xs ≡ ys
    unfolding IsStrictlySortedBy
    one_list [] [] s t h = refl
    one_list [] (y ∷ ys) s t h = absurd (both (h y ∙ or_left _ _ (ap is_eq (tied_itself o y))))
      where
        both : false ≢ true
        both e = cc
    one_list (x ∷ xs) [] s t h = absurd (both (sym (h x) ∙ or_left _ _ (ap is_eq (tied_itself o x))))
      where
        both : false ≢ true
        both e = cc
    one_list (x ∷ xs) (y ∷ ys) s t h = one_list_by (R x y) x y xs ys refl s t h (one_list xs ys s.1 t.1)
