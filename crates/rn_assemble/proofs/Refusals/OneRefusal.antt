-- Of the refusals of one place in the order one stands at most, so that modules have one first refusal at most.
use Rattle.std.proofs.Common.{◌≡◌, ◌≢◌, refl, ap, ◌∙◌, subst, List, arith, ⊎_elim, Ordering, Less, Equal, Greater}
use Rattle.std.proofs.lemmas.Bool.{cases_order}
use Rattle.std.specs.Ordering.{ordering_reverse}
use Rattle.std.proofs.lemmas.Cmp.{nat_list_cmp_total}
use Rattle.rn_text.specs.Texts.{Text, text_cmp}
use Rattle.rn_pattern.proofs.Ordered.Orders.{text_same}
use Rattle.rn_assemble.specs.Components.{Key, start_key, name_key, NamedModule}
use Rattle.rn_assemble.specs.Least.{IsLeast, key_cmp}
use Rattle.rn_assemble.specs.Refusal.{Refusal, conflict, faulty, missing, cycle, too_many_instances, override, plain_twice, mixed_methods, no_start, undefined, recursive, name_class, rank, Wants, Lacks, StandsFor, IsFirstFor}

-- neither is less
pub same_at : {X : Type 0} (cmp : X → X → Ordering) (x y : X) (o : Ordering) → ((x y : X) → cmp x y ≡ ordering_reverse (cmp y x)) → ((x y : X) → cmp x y ≡ Equal → x ≡ y) → cmp x y ≡ o → cmp x y ≢ Less → cmp y x ≢ Less → x ≡ y
same_at cmp x y Less back one e a b = absurd (a e)
same_at cmp x y Equal back one e a b = one x y e
same_at cmp x y Greater back one e a b = absurd (b (back y x ∙ ap ordering_reverse e))

pub one_least : {X : Type 0} (cmp : X → X → Ordering) → ((x y : X) → cmp x y ≡ ordering_reverse (cmp y x)) → ((x y : X) → cmp x y ≡ Equal → x ≡ y) → (P : X → Type 0) (x y : X) → IsLeast cmp P x → IsLeast cmp P y → x ≡ y
one_least cmp back one P x y l m = same_at cmp x y (cmp x y) back one refl (m.least x l.holds) (l.least y m.holds)

pub key_back : (x y : Key) → key_cmp x y ≡ ordering_reverse (key_cmp y x)
key_back start_key start_key = refl
key_back start_key (name_key y) = refl
key_back (name_key x) start_key = refl
key_back (name_key x) (name_key y) = nat_list_cmp_total.antisymm x y

pub key_same : (x y : Key) → key_cmp x y ≡ Equal → x ≡ y
key_same start_key start_key e = refl
key_same start_key (name_key y) e = cc
key_same (name_key x) start_key e = cc
key_same (name_key x) (name_key y) e = ap name_key (text_same x y e)

pub least_text : (P : Text → Type 0) (x y : Text) → IsLeast text_cmp P x → IsLeast text_cmp P y → x ≡ y
least_text = one_least text_cmp nat_list_cmp_total.antisymm text_same

pub least_key : (P : Key → Type 0) (x y : Key) → IsLeast key_cmp P x → IsLeast key_cmp P y → x ≡ y
least_key = one_least key_cmp key_back key_same

module _ (modules : List NamedModule) where
  -- two refusals of one place that stand are one
  pub one_of_rank : (q r : Refusal) → rank q ≡ rank r → StandsFor modules q → StandsFor modules r → q ≡ r
  one_of_rank (missing x w) (missing y v) e s t =
      let p = least_text _ x y s.0 t.0 in
      let q = least_text (Wants modules y) w v (subst (λ (z : Text). IsLeast text_cmp (Wants modules z) w) p s.1) t.1 in
      λ i. missing (p i) (q i)
  one_of_rank (cycle x) (cycle y) e s t = ap cycle (least_text _ x y s t)
  one_of_rank too_many_instances too_many_instances e s t = refl
  one_of_rank (override x j) (override y k) e s t =
      let p = least_text _ x y s.0 t.0 in
      let q = least_key (Lacks modules y) j k (subst (λ (z : Text). IsLeast key_cmp (Lacks modules z) j) p s.1) t.1 in
      λ i. override (p i) (q i)
  one_of_rank (plain_twice j) (plain_twice k) e s t = ap plain_twice (least_key _ j k s t)
  one_of_rank (mixed_methods j) (mixed_methods k) e s t = ap mixed_methods (least_key _ j k s t)
  one_of_rank no_start no_start e s t = refl
  one_of_rank (undefined x) (undefined y) e s t = ap undefined (least_text _ x y s t)
  one_of_rank (recursive x) (recursive y) e s t = ap recursive (least_text _ x y s t)
  one_of_rank (name_class j) (name_class k) e s t = ap name_class (least_key _ j k s t)
  one_of_rank (conflict x r) q e s t = absurd s
  one_of_rank (faulty f x) q e s t = absurd s
  one_of_rank q r e s t = absurd (omega (arith, e))

  pub one_first : (q r : Refusal) → IsFirstFor modules q → IsFirstFor modules r → q ≡ r
  one_first q r s t = ⊎_elim (λ e. one_of_rank q r e s.0 t.0) (⊎_elim (λ h. absurd (t.1 q h s.0)) (λ h. absurd (s.1 r h t.0))) (cases_order (rank q) (rank r))
