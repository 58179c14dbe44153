-- Marks on nodes, and the list of those that are marked.
use Rattle.std.proofs.Common.{◌≡◌, ℕ, ◌+◌, ◌<◌, ◌≤◌, ◌⊎◌, inl, inr, Bool, true, false, cond, List, [], ◌∷◌, ◌++◌, length, get_or, set, take, refl, sym, ap, ◌∙◌, subst, arith, below_more, replicate}
use Rattle.std.specs.Prelude.{Contains, Decides}
use Rattle.std.proofs.lemmas.List.{take_more, length_push, length-set, get_or-replicate, length-replicate, append_assoc, append-nil, get_or-set_same, get_or-set_other, get_or_past, get_or_default, get_or_append_left, length-append}
use Rattle.std.proofs.lemmas.List.Elements.{Contains-append_left, Contains-append_right, Contains-append_cases, Contains-push, Contains-push_cases, Contains-get_or}
use Rattle.std.proofs.lemmas.List.Sums.{sum_by-set}
use Rattle.std.proofs.lemmas.Bool.{cases_eq, cases_lt, false≢true}
use Rattle.rn_graph.specs.Graph.{is_marked, row, Reached, at_first, along}
use Rattle.rn_graph.specs.inside.Marking.{Agrees, Marks}

-- a mark that is set, or was there
set_marked : (seen : List Bool) (x y : ℕ) → x < length seen → (x ≡ y) ⊎ (is_marked seen y ≡ true) → is_marked (set seen x true) y ≡ true
set_marked seen x y h (inl e) = subst (λ (z : ℕ). is_marked (set seen x true) z ≡ true) e (get_or-set_same seen x true false h)
set_marked seen x y h (inr m) =
    elim (cases_eq y x) [ inl e ↦ rw e (get_or-set_same seen x true false h) | inr ne ↦ get_or-set_other seen x y true false ne ∙ m ]

was_marked : (seen : List Bool) (x y : ℕ) → is_marked (set seen x true) y ≡ true → (x ≡ y) ⊎ (is_marked seen y ≡ true)
was_marked seen x y m = elim (cases_eq y x) [ inl e ↦ inl (sym e) | inr ne ↦ inr (sym (get_or-set_other seen x y true false ne) ∙ m) ]

contains_one : (x y : ℕ) → Contains (x ∷ []) y → x ≡ y
contains_one x y c = elim (Contains-push_cases [] x y c) [ inl n ↦ absurd (omega (arith, n.1)) | inr e ↦ e ]

pub one_more : (seen : List Bool) (order : List ℕ) (x : ℕ) → x < length seen → is_marked seen x ≡ false → Agrees seen order → Marks (x ∷ []) seen order (set seen x true) (order ++ x ∷ [])
one_more seen order x h new a = record {
  agrees = record {
    listed = λ y m. elim (was_marked seen x y m) [ inl e ↦ subst (λ (z : ℕ). Contains (order ++ x ∷ []) z) e (Contains-push order x) | inr o ↦ Contains-append_left order (x ∷ []) y (a.listed y o) ];
    marked = λ y c. set_marked seen x y h (elim (Contains-push_cases order x y c) [ inl o ↦ inr (a.marked y o) | inr e ↦ inl e ]);
    size =
        let s = sum_by-set (λ (b : Bool). cond {A = ℕ} b 1 0) seen x true false h in
        let z : ◌≡◌ {A = ℕ} (cond (get_or seen x false) 1 0) 0 = ap (λ (b : Bool). cond {A = ℕ} b 1 0) new in
        omega (arith, s, z, a.size, length_push order x);
  };
  size = length-set seen x true;
  grows = (x ∷ [], refl);
  still = λ y m. set_marked seen x y h (inr m);
  all = λ y c. set_marked seen x y h (inl (contains_one x y c));
  only = λ y m. elim (was_marked seen x y m) [ inl e ↦ inr (subst (λ (z : ℕ). Contains (x ∷ []) z) e (Contains-push [] x)) | inr o ↦ inl o ];
}

pub none_marked : (seen : List Bool) (order : List ℕ) → Agrees seen order → Marks [] seen order seen order
none_marked seen order a = record { agrees = a; size = refl; grows = ([], sym (append-nil order)); still = λ y m. m; all = λ y c. absurd (omega (arith, c.1)); only = λ y m. inl m }

pub more_marked : (xs ys : List ℕ) (s : List Bool) (o : List ℕ) (s1 : List Bool) (o1 : List ℕ) (s2 : List Bool) (o2 : List ℕ) → Marks xs s o s1 o1 → Marks ys s1 o1 s2 o2 → Marks (xs ++ ys) s o s2 o2
more_marked xs ys s o s1 o1 s2 o2 m n = record {
  agrees = n.agrees;
  size = n.size ∙ m.size;
  grows = (m.grows.0 ++ n.grows.0, n.grows.1 ∙ ap (λ (l : List ℕ). l ++ n.grows.0) m.grows.1 ∙ append_assoc o m.grows.0 n.grows.0);
  still = λ y h. n.still y (m.still y h);
  all = λ y c. elim (Contains-append_cases xs ys y c) [ inl l ↦ n.still y (m.all y l) | inr r ↦ n.all y r ];
  only = λ y h. elim (n.only y h) [ inl p ↦ elim (m.only y p) [ inl q ↦ inl q | inr q ↦ inr (Contains-append_left xs ys y q) ] | inr r ↦ inr (Contains-append_right xs ys y r) ];
}

pub row_more : (xs : List ℕ) (i : ℕ) (s : List Bool) (o : List ℕ) (s1 : List Bool) (o1 : List ℕ) (s2 : List Bool) (o2 : List ℕ) → i < length xs → Marks (take i xs) s o s1 o1 → Marks (get_or xs i 0 ∷ []) s1 o1 s2 o2 → Marks (take (i + 1) xs) s o s2 o2
row_more xs i s o s1 o1 s2 o2 h m n =
    subst (λ (l : List ℕ). Marks l s o s2 o2) (sym (take_more xs i 0 h)) (more_marked (take i xs) (get_or xs i 0 ∷ []) s o s1 o1 s2 o2 m n)

pub marked_below : (seen : List Bool) (y : ℕ) → is_marked seen y ≡ true → y < length seen
marked_below seen y m = elim (cases_lt y (length seen)) [ inl h ↦ h | inr h ↦ absurd (false≢true (sym (get_or_past seen y false h) ∙ m)) ]

-- the search so far: the rows of the nodes listed before next are done
pub record Searching (rows : List (List ℕ)) (first : List ℕ) (seen : List Bool) (order : List ℕ) (next : ℕ) : Type 0 where
  pub agrees : Agrees seen order
  pub size : length seen ≡ length rows
  pub so_far : next ≤ length order
  pub sound : (y : ℕ) → Contains order y → Reached rows first y
  pub firsts : (y : ℕ) → Contains first y → is_marked seen y ≡ true
  pub closed : (k : ℕ) → k < next → (y : ℕ) → Contains (row rows (get_or order k 0)) y → is_marked seen y ≡ true

module _ (rows : List (List ℕ)) (first : List ℕ) where
  pub search_begins : (s : List Bool) (s1 : List Bool) (o1 : List ℕ) → ((y : ℕ) → is_marked s y ≡ true → ⊥) → length s ≡ length rows → Marks first s [] s1 o1 → Searching rows first s1 o1 0
  search_begins s s1 o1 none e m = record {
    agrees = m.agrees;
    size = m.size ∙ e;
    so_far = omega arith;
    sound = λ y c. elim (m.only y (m.agrees.marked y c)) [ inl n ↦ absurd (none y n) | inr f ↦ at_first f ];
    firsts = m.all;
    closed = λ k h. absurd (omega (arith, h));
  }

  pub search_goes_on : (s : List Bool) (o : List ℕ) (s1 : List Bool) (o1 : List ℕ) (next : ℕ) → next < length o → Searching rows first s o next → Marks (row rows (get_or o next 0)) s o s1 o1 → Searching rows first s1 o1 (next + 1)
  search_goes_on s o s1 o1 next h w m = record {
    agrees = m.agrees;
    size = m.size ∙ w.size;
    so_far = omega (arith, longer);
    sound = λ y c. elim (m.only y (m.agrees.marked y c)) [ inl n ↦ w.sound y (w.agrees.listed y n) | inr f ↦ along (w.sound (get_or o next 0) (Contains-get_or o next 0 h)) f ];
    firsts = λ y c. m.still y (w.firsts y c);
    closed = below_more (λ (k : ℕ). (y : ℕ) → Contains (row rows (get_or o1 k 0)) y → is_marked s1 y ≡ true) next
        (λ k lt y c. m.still y (w.closed k lt y (subst (λ (x : ℕ). Contains (row rows x) y) (kept k (omega (arith, lt, h))) c)))
        (λ y c. m.all y (subst (λ (x : ℕ). Contains (row rows x) y) (kept next h) c));
  }
    where
      longer : length o ≤ length o1
      longer = omega (arith, ap length m.grows.1, length-append o m.grows.0)

      kept : (k : ℕ) → k < length o → get_or o1 k 0 ≡ get_or o k 0
      kept k lt = ap (λ (l : List ℕ). get_or l k 0) m.grows.1 ∙ get_or_append_left o m.grows.0 0 k lt

  pub search_ends : (s : List Bool) (o : List ℕ) (next : ℕ) → length o ≤ next → Searching rows first s o next → (x : ℕ) → Decides (is_marked s x) (Reached rows first x)
  search_ends s o next h w x = ((λ m. w.sound x (w.agrees.listed x m)), found x)
    where
      found : (x : ℕ) → Reached rows first x → is_marked s x ≡ true
      found x (at_first c) = w.firsts x c
      found y (along {x = x} r c) =
          let l = w.agrees.listed x (found x r) in
          let e : get_or o l.0 0 ≡ x = get_or_default o l.0 0 x l.1 ∙ l.2 in
          w.closed l.0 (omega (arith, l.1, h)) y (subst (λ (z : ℕ). Contains (row rows z) y) (sym e) c)

pub not_marked : (s : List Bool) (n : ℕ) → s ≡ replicate n false → (y : ℕ) → is_marked s y ≡ false
not_marked s n e y = ap (λ (l : List Bool). get_or l y false) e ∙ (elim (cases_lt y n) [
  | inl h ↦ get_or-replicate n y false false h
  | inr h ↦ get_or_past (replicate n false) y false (omega (arith, h, length-replicate n false))
])

pub none_yet : (s : List Bool) (n : ℕ) → s ≡ replicate n false → (y : ℕ) → is_marked s y ≡ true → ⊥
none_yet s n e y m = false≢true (sym (not_marked s n e y) ∙ m)
