-- The names that components define, in the order of their first places.
use Rattle.std.proofs.Common.{◌≡◌, ◌⊎◌, ℕ, suc, ◌<◌, ◌≤◌, inl, inr, ⊎_elim, Bool, true, false, not, ◌||◌, cond, List, [], ◌∷◌, length, map, filter, refl, sym, ap, ◌∙◌, subst, arith, Contains, nat_eq}
use Rattle.std.specs.Prelude.{bytes_eq, ⊤}
use Rattle.std.specs.List.{AllByRecursion, AllPairs, IsDistinct, list_any}
use Rattle.std.specs.List.Sorted.{IsStrictlySortedBy}
use Rattle.std.proofs.lemmas.Bool.{cases_Bool, false≢true}
use Rattle.std.proofs.lemmas.Bool.Decides.{Decides-eqb}
use Rattle.std.proofs.lemmas.Map.Keys.{IsDistinct-head, IsDistinct-tail}
use Rattle.std.proofs.lemmas.Slice.Eq.{bytes_eq-Decides}
use Rattle.rn_text.specs.Texts.{Text, text_cmp}
use Rattle.rn_pattern.proofs.Ordered.InOrder.{contained_each, contains_behind, contains_cases, contains_front}
use Rattle.rn_assemble.specs.Combine.{defined_names, first_of}
use Rattle.rn_assemble.specs.Components.{Component, Key, name_key, start_key}
use Rattle.rn_assemble.specs.declared.by_key.settling_order.FirstPlace.{FirstPlace}
use Rattle.rn_assemble.specs.inside.Keyed.{key_at}
use Rattle.rn_assemble.specs.inside.Rows.{Placed}
use Rattle.rn_assemble.proofs.KeyPieces.RowOrder.{IsBefore}
use Rattle.rn_assemble.proofs.Naming.LeftComponents.{key_of}
use Rattle.rn_assemble.proofs.Referring.KeyNumbers.{keyed_name, same_at}
use Rattle.rn_assemble.proofs.Referring.ListMembers.{map_contains}

-- ---- places before others

abbrev pub Before : (m q n r : ℕ) → Type 0
Before m q n r = (m < n) ⊎ ((m ≡ n) × (q < r))

abbrev pub NotAfter : (m q n r : ℕ) → Type 0
NotAfter m q n r = (m < n) ⊎ ((m ≡ n) × (q ≤ r))

before_then : (m q n r i j : ℕ) → NotAfter m q n r → NotAfter n r i j → NotAfter m q i j
before_then m q n r i j (inl a) (inl b) = inl (omega (arith, a, b))
before_then m q n r i j (inl a) (inr b) = inl (omega (arith, a, b.0))
before_then m q n r i j (inr a) (inl b) = inl (omega (arith, a.0, b))
before_then m q n r i j (inr a) (inr b) = inr (omega (arith, a.0, b.0), omega (arith, a.1, b.1))

not_before : (m q n r : ℕ) → NotAfter m q n r → Before n r m q → ⊥
not_before m q n r (inl a) (inl b) = omega (arith, a, b)
not_before m q n r (inl a) (inr b) = omega (arith, a, b.0)
not_before m q n r (inr a) (inl b) = omega (arith, a.0, b)
not_before m q n r (inr a) (inr b) = omega (arith, a.1, b.1)

same_place : (m q n r : ℕ) → NotAfter m q n r → NotAfter n r m q → (m ≡ n) × (q ≡ r)
same_place m q n r (inl a) (inl b) = absurd (omega (arith, a, b))
same_place m q n r (inl a) (inr b) = absurd (omega (arith, a, b.0))
same_place m q n r (inr a) (inl b) = absurd (omega (arith, a.0, b))
same_place m q n r (inr a) (inr b) = (a.0, omega (arith, a.1, b.1))

-- ---- names without those that were seen

abbrev pub names_in : List Key → List Text
names_in [] = []
names_in (k ∷ ks) = first_of k (names_in ks)

pub names_of_keys : (cs : List Component) → defined_names cs ≡ names_in (map (λ (c : Component). c.key) cs)
names_of_keys [] = refl
names_of_keys (c ∷ cs) = ap (first_of c.key) (names_of_keys cs)

abbrev pub is_new : List Text → Text → Bool
is_new seen y = not (list_any (bytes_eq y) seen)

abbrev is_other : Text → Text → Bool
is_other x y = not (bytes_eq x y)

-- a name that was seen need not be left out
seen_at : (seen : List Text) (x y : Text) (ys : List Text) (b : Bool) → bytes_eq x y ≡ b → list_any (bytes_eq x) seen ≡ true → filter (is_new seen) (filter (is_other x) ys) ≡ filter (is_new seen) ys
    → filter (is_new seen) (cond (not b) (y ∷ filter (is_other x) ys) (filter (is_other x) ys)) ≡ filter (is_new seen) (y ∷ ys)
seen_at seen x y ys true e s h =
    let there : list_any (bytes_eq y) seen ≡ true = ap (λ z. list_any (bytes_eq z) seen) (sym ((bytes_eq-Decides x y).0 e)) ∙ s in
    h ∙ sym (ap (λ b. cond (not b) (y ∷ filter (is_new seen) ys) (filter (is_new seen) ys)) there)
seen_at seen x y ys false e s h = ap (λ zs. cond (is_new seen y) (y ∷ zs) zs) h

without_seen : (seen : List Text) (x : Text) (ys : List Text) → list_any (bytes_eq x) seen ≡ true → filter (is_new seen) (filter (is_other x) ys) ≡ filter (is_new seen) ys
without_seen seen x [] s = refl
without_seen seen x (y ∷ ys) s = seen_at seen x y ys (bytes_eq x y) refl s (without_seen seen x ys s)

either_way : (x y : Text) (a b : Bool) → bytes_eq x y ≡ a → bytes_eq y x ≡ b → a ≡ b
either_way x y true true e f = refl
either_way x y true false e f = sym ((bytes_eq-Decides y x).1 (sym ((bytes_eq-Decides x y).0 e))) ∙ f
either_way x y false true e f = sym (sym ((bytes_eq-Decides x y).1 (sym ((bytes_eq-Decides y x).0 f))) ∙ e)
either_way x y false false e f = refl

-- one more name was seen
one_more_at : (seen : List Text) (x y : Text) (ys : List Text) (b : Bool) → bytes_eq x y ≡ b → filter (is_new seen) (filter (is_other x) ys) ≡ filter (is_new (x ∷ seen)) ys
    → filter (is_new seen) (cond (not b) (y ∷ filter (is_other x) ys) (filter (is_other x) ys)) ≡ filter (is_new (x ∷ seen)) (y ∷ ys)
one_more_at seen x y ys true e h =
    let flipped : bytes_eq y x ≡ true = sym (either_way x y true (bytes_eq y x) e refl) in
    h ∙ sym (ap (λ t. cond (not (t || list_any (bytes_eq y) seen)) (y ∷ filter (is_new (x ∷ seen)) ys) (filter (is_new (x ∷ seen)) ys)) flipped)
one_more_at seen x y ys false e h =
    let flipped : bytes_eq y x ≡ false = sym (either_way x y false (bytes_eq y x) e refl) in
    ap (λ zs. cond (is_new seen y) (y ∷ zs) zs) h ∙ sym (ap (λ t. cond (not (t || list_any (bytes_eq y) seen)) (y ∷ filter (is_new (x ∷ seen)) ys) (filter (is_new (x ∷ seen)) ys)) flipped)

one_more : (seen : List Text) (x : Text) (ys : List Text) → filter (is_new seen) (filter (is_other x) ys) ≡ filter (is_new (x ∷ seen)) ys
one_more seen x [] = refl
one_more seen x (y ∷ ys) = one_more_at seen x y ys (bytes_eq x y) refl (one_more seen x ys)

pub none_seen : (ys : List Text) → filter (is_new []) ys ≡ ys
none_seen [] = refl
none_seen (y ∷ ys) = ap (λ zs. y ∷ zs) (none_seen ys)

key_cases : (k : Key) → (k ≡ start_key) ⊎ ((x : Text) × (k ≡ name_key x))
key_cases start_key = inl refl
key_cases (name_key x) = inr (x, refl)

another_name : (b : Bool) (x y : Text) → bytes_eq x y ≡ b → ¬ (x ≡ y) → b ≡ false
another_name true x y e h = absurd (h ((bytes_eq-Decides x y).0 e))
another_name false x y e h = refl

neither : (a b : Bool) → (a || b) ≡ false → (a ≡ false) × (b ≡ false)
neither true b e = let wrong : true ≡ false = e in cc
neither false b e = (refl, e)

-- ---- first places in order

abbrev pub InOrder : List FirstPlace → Type 0
InOrder [] = ⊤
InOrder (p ∷ ps) = AllByRecursion (λ (q : FirstPlace). NotAfter p.segment p.number q.segment q.number) ps × InOrder ps

module _ (names : List Text) (sorted : IsStrictlySortedBy text_cmp names) where
  -- the place is that of the first component with its key
  pub record IsFirstOf (ls : List Placed) (p : FirstPlace) (x : Text) : Type 0 where
    pub name : key_at names p.key.0 ≡ name_key x
    pub within : p.key.0 < suc (length names)
    pub l : Placed
    pub there : Contains ls l
    pub key : key_of l ≡ name_key x
    pub segment : l.module_at ≡ p.segment
    pub number : l.number ≡ p.number
    pub least : (m : Placed) → Contains ls m → key_of m ≡ name_key x → NotAfter p.segment p.number m.module_at m.number

  -- these are the first places of all names but for those that were seen, in order
  pub record AreFirsts (seen : List Text) (ls : List Placed) (ps : List FirstPlace) : Type 0 where
    pub each : (p : FirstPlace) → Contains ps p → (x : Text) × IsFirstOf ls p x × (list_any (bytes_eq x) seen ≡ false)
    pub all : (l : Placed) (x : Text) → Contains ls l → key_of l ≡ name_key x → list_any (bytes_eq x) seen ≡ false → (p : FirstPlace) × Contains ps p × (key_at names p.key.0 ≡ name_key x)
    pub order : InOrder ps
    pub once : IsDistinct nat_eq (map (λ (p : FirstPlace). p.key.0) ps)

  behind : (l : Placed) (ls : List Placed) → AllPairs IsBefore (l ∷ ls) → (m : Placed) → Contains ls m → IsBefore l m
  behind l ls h m (k, b, e) = subst (IsBefore l) e (h 0 (suc k) m (omega arith) (omega (arith, b)))

  tail_pairs : (l : Placed) (ls : List Placed) → AllPairs IsBefore (l ∷ ls) → AllPairs IsBefore ls
  tail_pairs l ls h i j d a b = h (suc i) (suc j) d (omega (arith, a)) (omega (arith, b))

  -- a component whose name was seen, or of the start
  skip : (seen : List Text) (l : Placed) (ls : List Placed) (ps : List FirstPlace) → ((x : Text) → key_of l ≡ name_key x → list_any (bytes_eq x) seen ≡ true) → AreFirsts seen (l ∷ ls) ps → AreFirsts seen ls ps
  skip seen l ls ps s h = record {
    each = λ p c. let (x, f, n) = h.each p c in (
      x,
      record {
        name = f.name;
        within = f.within;
        l = f.l;
        there = ⊎_elim (λ e. absurd (false≢true (sym n ∙ s x (ap key_of e ∙ f.key)))) (λ k. k) (contains_cases l f.l ls f.there);
        key = f.key;
        segment = f.segment;
        number = f.number;
        least = λ m d. f.least m (contains_behind l m ls d);
      },
      n,
    );
    all = λ m x c. h.all m x (contains_behind l m ls c);
    order = h.order;
    once = h.once;
  }

  -- the first of the places is that of the first component, if this has a name that wasn't seen
  module _ (seen : List Text) (l : Placed) (ls : List Placed) (p : FirstPlace) (ps : List FirstPlace) (x : Text) (pairs : AllPairs IsBefore (l ∷ ls)) (h : AreFirsts seen (l ∷ ls) (p ∷ ps)) (is : key_of l ≡ name_key x) (unseen : list_any (bytes_eq x) seen ≡ false) where
    not_after : NotAfter p.segment p.number l.module_at l.number
    not_after =
        let (q, c, name) = h.all l x (contains_front l ls) is unseen in
        let (y, f, n) = h.each q c in
        let same : x ≡ y = keyed_name x y (sym name ∙ f.name) in
        let here = f.least l (contains_front l ls) (is ∙ ap name_key same) in
        before_then p.segment p.number q.segment q.number l.module_at l.number
        (⊎_elim (λ e. subst (λ (r : FirstPlace). NotAfter p.segment p.number r.segment r.number) e (inr (refl, omega arith))) (λ k. contained_each (λ (r : FirstPlace). NotAfter p.segment p.number r.segment r.number) ps h.order.0 q k) (contains_cases p q ps c))
        here

    head_key : key_at names p.key.0 ≡ name_key x
    head_key =
        let (y, f, n) = h.each p (contains_front p ps) in
        ⊎_elim (λ e. f.name ∙ sym f.key ∙ sym (ap key_of e) ∙ is)
        (λ k. let b : Before l.module_at l.number p.segment p.number = subst (λ i. Before l.module_at l.number i p.number) f.segment (subst (λ i. Before l.module_at l.number f.l.module_at i) f.number (behind l ls pairs f.l k)) in
        absurd (not_before p.segment p.number l.module_at l.number not_after b))
        (contains_cases l f.l ls f.there)

    no_other : (q : FirstPlace) (y : Text) → Contains ps q → key_at names q.key.0 ≡ name_key y → q.key.0 < suc (length names) → ¬ (y ≡ x)
    no_other q y c name within e =
        let first = (h.each p (contains_front p ps)).1 in
        let far = contained_each (λ k. nat_eq p.key.0 k ≡ false) (map (λ (r : FirstPlace). r.key.0) ps) (IsDistinct-head nat_eq p.key.0 (map (λ (r : FirstPlace). r.key.0) ps) h.once) q.key.0 (map_contains (λ (r : FirstPlace). r.key.0) ps q c) in
        let same : p.key.0 ≡ q.key.0 = same_at names sorted p.key.0 q.key.0 first.within within (head_key ∙ ap name_key (sym e) ∙ sym name) in
        false≢true (sym far ∙ (Decides-eqb p.key.0 q.key.0).1 same)

    rest : AreFirsts (x ∷ seen) ls ps
    rest = record {
      each = λ q c. let (y, f, n) = h.each q (contains_behind p q ps c) in
          let other = no_other q y c f.name f.within in (
            y,
            record {
              name = f.name;
              within = f.within;
              l = f.l;
              there = ⊎_elim (λ e. absurd (other (keyed_name y x (sym f.key ∙ sym (ap key_of e) ∙ is)))) (λ k. k) (contains_cases l f.l ls f.there);
              key = f.key;
              segment = f.segment;
              number = f.number;
              least = λ m d. f.least m (contains_behind l m ls d);
            },
            ap (λ b. b || list_any (bytes_eq y) seen) (another_name (bytes_eq y x) y x refl other) ∙ n,
          );
      all = λ m y c key n. let parts = neither (bytes_eq y x) (list_any (bytes_eq y) seen) n in
          let (q, d, name) = h.all m y (contains_behind l m ls c) key parts.1 in
          ⊎_elim (λ e. let same : y ≡ x = keyed_name y x (sym name ∙ ap (λ (r : FirstPlace). key_at names r.key.0) (sym e) ∙ head_key) in
          absurd (false≢true (sym parts.0 ∙ (bytes_eq-Decides y x).1 same)))
          (λ k. (q, k, name)) (contains_cases p q ps d);
      order = h.order.1;
      once = IsDistinct-tail nat_eq p.key.0 (map (λ (r : FirstPlace). r.key.0) ps) h.once;
    }

  abbrev Listed : List Text → List Placed → List FirstPlace → Type 0
  Listed seen ls ps = map (λ (p : FirstPlace). key_at names p.key.0) ps ≡ map name_key (filter (is_new seen) (names_in (map key_of ls)))

  new_name : (seen : List Text) (l : Placed) (ls : List Placed) (ps : List FirstPlace) (x : Text) → AllPairs IsBefore (l ∷ ls) → AreFirsts seen (l ∷ ls) ps → key_of l ≡ name_key x → list_any (bytes_eq x) seen ≡ false
      → ((qs : List FirstPlace) → AreFirsts (x ∷ seen) ls qs → Listed (x ∷ seen) ls qs) → Listed seen (l ∷ ls) ps
  new_name seen l ls [] x pairs h is n f = let (q, c, name) = h.all l x (contains_front l ls) is n in absurd (omega (arith, c.1))
  new_name seen l ls (p ∷ ps) x pairs h is n f =
      let others = names_in (map key_of ls) in
      let here : key_at names p.key.0 ≡ name_key x = head_key seen l ls p ps x pairs h is n in
      let behind_it = f ps (rest seen l ls p ps x pairs h is n) ∙ ap (map name_key) (sym (one_more seen x others)) in
      (λ i. here i ∷ behind_it i)
      ∙ sym (ap (λ k. map name_key (filter (is_new seen) (first_of k others))) is
      ∙ ap (λ b. map name_key (cond (not b) (x ∷ filter (is_new seen) (filter (is_other x) others)) (filter (is_new seen) (filter (is_other x) others)))) n)

  pub in_order : (seen : List Text) (ls : List Placed) (ps : List FirstPlace) → AllPairs IsBefore ls → AreFirsts seen ls ps → Listed seen ls ps
  in_order seen [] [] pairs h = refl
  in_order seen [] (p ∷ ps) pairs h = let (x, f, n) = h.each p (contains_front p ps) in absurd (omega (arith, f.there.1))
  in_order seen (l ∷ ls) ps pairs h =
      let others = names_in (map key_of ls) in
      elim (key_cases (key_of l)) [
        | inl s ↦
            let none : (y : Text) → key_of l ≡ name_key y → list_any (bytes_eq y) seen ≡ true = λ y k. let wrong : start_key ≡ name_key y = sym s ∙ k in cc in
            in_order seen ls ps (tail_pairs l ls pairs) (skip seen l ls ps none h) ∙ sym (ap (λ k. map name_key (filter (is_new seen) (first_of k others))) s)
        | inr named ↦ elim (cases_Bool (list_any (bytes_eq named.0) seen)) [
          | inl t ↦
              let known : (y : Text) → key_of l ≡ name_key y → list_any (bytes_eq y) seen ≡ true = λ y k. subst (λ z. list_any (bytes_eq z) seen ≡ true) (keyed_name named.0 y (sym named.1 ∙ k)) t in
              in_order seen ls ps (tail_pairs l ls pairs) (skip seen l ls ps known h)
              ∙ sym (ap (λ k. map name_key (filter (is_new seen) (first_of k others))) named.1
              ∙ ap (λ b. map name_key (cond (not b) (named.0 ∷ filter (is_new seen) (filter (is_other named.0) others)) (filter (is_new seen) (filter (is_other named.0) others)))) t
              ∙ ap (map name_key) (without_seen seen named.0 others t))
          | inr n ↦ new_name seen l ls ps named.0 pairs h named.1 n (λ qs g. in_order (named.0 ∷ seen) ls qs (tail_pairs l ls pairs) g)
        ]
      ]
