-- Each step of a search for nodes that come back to themselves keeps its groups.
use Rattle.std.proofs.Common.{◌≡◌, ℕ, ◌-◌, ◌<◌, ◌≤◌, inl, inr, List, [], ◌∷◌, ◌++◌, length, get_or, set, refl, sym, ap, ◌∙◌, subst, arith}
use Rattle.std.specs.Prelude.{Contains, Option, Some, None}
use Rattle.std.proofs.lemmas.List.{length_push, length-set, get_or_push, get_or-set_same, get_or-set_other, get_or_past, get_or_append_left}
use Rattle.std.proofs.lemmas.List.Elements.{Contains-append_left, Contains-push, Contains-push_cases, Contains-get_or}
use Rattle.std.proofs.lemmas.Bool.{cases_eq, cases_lt}
use Rattle.rn_graph.specs.Graph.{row}
use Rattle.rn_graph.specs.Ranks.{Leads, by_edge, and_edge}
use Rattle.rn_graph.specs.inside.Searching.{EndsWith, GroupingBy, IsLeastLooped, IsClosed, IsSettled, IsUnited, AllLead, Comes, Rises, node_at, place_of}
use Rattle.rn_graph.proofs.Graphs.Searches.Rising.{contains_take, rises_left, rises_take, rises_push, first_take, greatest_last, has_last}

pub met_below : (places : List (Option ℕ)) (x p : ℕ) → place_of places x ≡ Some p → x < length places
met_below places x p e = elim (cases_lt x (length places)) [ inl h ↦ h | inr h ↦ let q = get_or_past places x None h in cc ]

-- what is closed beside a new node was closed before
pub closed_before : (places : List (Option ℕ)) (stack : List ℕ) (x p y : ℕ) → IsClosed (set places x (Some p)) (stack ++ x ∷ []) y → IsClosed places stack y
closed_before places stack x p y c =
    let ne : y ≡ x → ⊥ = λ q. c.2 (subst (Contains (stack ++ x ∷ [])) (sym q) (Contains-push stack x)) in
    (c.0, sym (get_or-set_other places x y (Some p) None ne) ∙ c.1, λ k. c.2 (Contains-append_left stack (x ∷ []) y k))

module _ (rows : List (List ℕ)) where
  pub leads_on : {x y z : ℕ} → Leads rows x y → Leads rows y z → Leads rows x z
  leads_on a (by_edge c) = and_edge a c
  leads_on a (and_edge l c) = and_edge (leads_on a l) c

  pub comes_then : (x y z : ℕ) → Comes rows x y → Leads rows y z → Leads rows x z
  comes_then x y z (inl e) l = subst (λ (w : ℕ). Leads rows w z) (sym e) l
  comes_then x y z (inr a) l = leads_on a l

  pub leads_then : (x y z : ℕ) → Leads rows x y → Comes rows y z → Leads rows x z
  leads_then x y z l (inl e) = subst (λ (w : ℕ). Leads rows x w) e l
  leads_then x y z l (inr a) = leads_on l a

  pub least_of_fewer : (P Q : ℕ → Type 0) (least : Option ℕ) → ((x : ℕ) → Q x → Leads rows x x → P x) → IsLeastLooped rows P least → IsLeastLooped rows Q least
  least_of_fewer P Q None f h = λ x q l. h x (f x q l) l
  least_of_fewer P Q (Some m) f h = (h.0, λ x q l. h.1 x (f x q l) l)

  module _ (places : List (Option ℕ)) (left stack path bounds : List ℕ) (least : Option ℕ) (w : GroupingBy rows places left stack path bounds least) where
    pub node_below : (i : ℕ) → i < length stack → node_at stack i < length rows
    node_below i h = omega (arith, met_below places (node_at stack i) i (w.placed i h), w.places_size)

    pub same_place : (i j : ℕ) → i < length stack → j < length stack → node_at stack i ≡ node_at stack j → i ≡ j
    same_place i j h k e =
        let a = w.placed i h in
        let b = w.placed j k in
        let c : place_of places (node_at stack i) ≡ place_of places (node_at stack j) = ap (place_of places) e in
        cc

    -- the last node of the path is left behind
    pub left_path : (front : List ℕ) (p : ℕ) → path ≡ front ++ p ∷ [] → get_or left (node_at stack p) 0 ≡ 0 → GroupingBy rows places left stack front bounds least
    left_path front p e l = record {
      places_size = w.places_size;
      left_size = w.left_size;
      left_within = w.left_within;
      fresh = w.fresh;
      placed = w.placed;
      path_within = λ q c. w.path_within q (subst (λ (xs : List ℕ). Contains xs q) (sym e) (Contains-append_left front (p ∷ []) q c));
      path_rises = rises_left front (p ∷ []) (subst Rises e w.path_rises);
      on_path = λ i h k. elim (Contains-push_cases front p i (subst (λ (xs : List ℕ). Contains xs i) e (w.on_path i h k))) [
        | inl c ↦ c
        | inr q ↦ absurd (omega (arith, k, l, ap (λ (z : ℕ). get_or left (node_at stack z) 0) q))
      ];
      bounds_within = w.bounds_within;
      bounds_rise = w.bounds_rise;
      first_bound = w.first_bound;
      bounded = w.bounded;
      leads = w.leads;
      looked = w.looked;
      closed = w.closed;
      least_is = w.least_is;
    }

    -- an edge is left behind
    pub passed : (i : ℕ) → i < length stack → 0 < get_or left (node_at stack i) 0 → IsSettled places stack bounds i (get_or (row rows (node_at stack i)) (get_or left (node_at stack i) 0 - 1) 0)
        → GroupingBy rows places (set left (node_at stack i) (get_or left (node_at stack i) 0 - 1)) stack path bounds least
    passed i h some settled = record {
      places_size = w.places_size;
      left_size = length-set left v n ∙ w.left_size;
      left_within = λ x. omega (arith, lower x, w.left_within x);
      fresh = λ x e. other x (λ q. let a = w.placed i h in let b : place_of places x ≡ place_of places v = ap (place_of places) q in cc) ∙ w.fresh x e;
      placed = w.placed;
      path_within = w.path_within;
      path_rises = w.path_rises;
      on_path = λ j k l. w.on_path j k (omega (arith, l, lower (node_at stack j)));
      bounds_within = w.bounds_within;
      bounds_rise = w.bounds_rise;
      first_bound = w.first_bound;
      bounded = w.bounded;
      leads = w.leads;
      looked = λ j k l m o. elim (cases_eq (node_at stack j) v) [
        | inl e ↦ subst (λ (z : ℕ). IsSettled places stack bounds z (get_or (row rows (node_at stack z)) k 0)) (same_place i j h l (sym e))
            (here k (omega (arith, m, same, ap (λ (z : ℕ). get_or (set left v n) z 0) e)) (omega (arith, o, ap (λ (z : ℕ). length (row rows z)) e)))
        | inr ne ↦ w.looked j k l (omega (arith, m, other (node_at stack j) ne)) o
      ];
      closed = w.closed;
      least_is = w.least_is;
    }
      where
        v : ℕ
        v = node_at stack i

        n : ℕ
        n = get_or left v 0 - 1

        same : get_or (set left v n) v 0 ≡ n
        same = get_or-set_same left v n 0 (omega (arith, node_below i h, w.left_size))

        other : (x : ℕ) → (x ≡ v → ⊥) → get_or (set left v n) x 0 ≡ get_or left x 0
        other x ne = get_or-set_other left v x n 0 ne

        lower : (x : ℕ) → get_or (set left v n) x 0 ≤ get_or left x 0
        lower x = elim (cases_eq x v) [
          | inl e ↦ omega (arith, same, ap (λ (z : ℕ). get_or (set left v n) z 0) e, ap (λ (z : ℕ). get_or left z 0) e)
          | inr ne ↦ omega (arith, other x ne)
        ]

        here : (k : ℕ) → n ≤ k → k < length (row rows v) → IsSettled places stack bounds i (get_or (row rows v) k 0)
        here k l m = elim (cases_eq k n) [
          | inl e ↦ subst (λ (z : ℕ). IsSettled places stack bounds i (get_or (row rows v) z 0)) (sym e) settled
          | inr ne ↦ w.looked i k h (omega (arith, l, ne)) m
        ]

    -- groups are united
    pub united : (bounds' : List ℕ) (p : ℕ) → IsUnited bounds bounds' p → p < length stack → AllLead rows stack (node_at stack p) → GroupingBy rows places left stack path bounds' least
    united bounds' p g h all = record {
      places_size = w.places_size;
      left_size = w.left_size;
      left_within = w.left_within;
      fresh = w.fresh;
      placed = w.placed;
      path_within = w.path_within;
      path_rises = w.path_rises;
      on_path = w.on_path;
      bounds_within = λ c m. w.bounds_within c (was c m);
      bounds_rise = subst Rises (sym g.front.1) (rises_take g.front.0 bounds w.bounds_rise);
      first_bound = ap (λ (l : List ℕ). get_or l 0 0) g.front.1 ∙ first_take g.front.0 bounds w.first_bound;
      bounded = λ k. let c = g.kept 0 (subst (Contains bounds) w.first_bound (Contains-get_or bounds 0 0 (w.bounded k))) (omega arith) in omega (arith, c.1);
      leads = λ i j k l near. elim (cases_lt i p) [
        | inl lt ↦ w.leads i j k l (λ c m o. elim (cases_lt i c) [ inl q ↦ q | inr q ↦ near c (g.kept c m (omega (arith, lt, q))) o ])
        | inr ge ↦ inr (leads_then (node_at stack i) (node_at stack p) (node_at stack j) (all i k) (w.leads p j h l
            (λ c m o. elim (cases_lt p c) [ inl q ↦ q | inr q ↦ let z : i < c = near c (g.kept c m q) o in omega (arith, z, q, ge) ])))
      ];
      looked = λ i k l m o. elim (w.looked i k l m o) [ inl c ↦ inl c | inr s ↦ inr (s.0, s.1, s.2, λ c m o. s.3 c (was c m) o) ];
      closed = w.closed;
      least_is = w.least_is;
    }
      where
        was : (c : ℕ) → Contains bounds' c → Contains bounds c
        was c m = contains_take g.front.0 bounds c (subst (λ (l : List ℕ). Contains l c) g.front.1 m)

    -- a new node is a group of its own
    pub entered : (x : ℕ) → x < length rows → place_of places x ≡ None → AllLead rows stack x
        → GroupingBy rows (set places x (Some (length stack))) left (stack ++ x ∷ []) (path ++ length stack ∷ []) (bounds ++ length stack ∷ []) least
    entered x h new all = record {
      places_size = length-set places x (Some n) ∙ w.places_size;
      left_size = w.left_size;
      left_within = w.left_within;
      fresh = λ y e. w.fresh y (sym (other y (λ q. let a : place_of places' y ≡ place_of places' x = ap (place_of places') q in let b = same in cc)) ∙ e);
      placed = λ i k. elim (cases_lt i n) [
        | inl l ↦ ap (place_of places') (old i l) ∙ other (node_at stack i) (apart i l) ∙ w.placed i l
        | inr l ↦ subst (λ (z : ℕ). place_of places' (node_at stack' z) ≡ Some z) (is_last i k l) (ap (place_of places') last ∙ same)
      ];
      path_within = λ p c. elim (Contains-push_cases path n p c) [ inl o ↦ omega (arith, w.path_within p o, length_push stack x) | inr e ↦ omega (arith, e, length_push stack x) ];
      path_rises = rises_push path n w.path_rises w.path_within;
      on_path = λ i k l. elim (cases_lt i n) [
        | inl o ↦ Contains-append_left path (n ∷ []) i (w.on_path i o (omega (arith, l, ap (λ (z : ℕ). get_or left z 0) (old i o))))
        | inr o ↦ subst (Contains (path ++ n ∷ [])) (is_last i k o) (Contains-push path n)
      ];
      bounds_within = λ c m. elim (Contains-push_cases bounds n c m) [ inl o ↦ omega (arith, w.bounds_within c o, length_push stack x) | inr e ↦ omega (arith, e, length_push stack x) ];
      bounds_rise = rises_push bounds n w.bounds_rise w.bounds_within;
      first_bound = elim (cases_lt 0 (length bounds)) [
        | inl l ↦ get_or_append_left bounds (n ∷ []) 0 0 l ∙ w.first_bound
        | inr l ↦ get_or_push bounds n 0 0 (omega (arith, l)) ∙ (elim (cases_lt 0 n) [ inl o ↦ absurd (omega (arith, w.bounded o, l)) | inr o ↦ omega (arith, o) ])
      ];
      bounded = λ k. omega (arith, length_push bounds n);
      leads = λ i j k l near. elim (cases_lt j n) [
        | inl jl ↦ elim (cases_lt i n) [
          | inl il ↦ comes_at _ _ _ _ (old i il) (old j jl) (w.leads i j il jl (λ c m o. near c (Contains-append_left bounds (n ∷ []) c m) o))
          | inr il ↦ absurd (omega (arith, near n (Contains-push bounds n) jl, il))
        ]
        | inr jl ↦ elim (cases_lt i n) [
          | inl il ↦ comes_at _ _ _ _ (old i il) (sym (ap (node_at stack') (is_last j l jl)) ∙ last) (inr (all i il))
          | inr il ↦ inl (ap (node_at stack') (omega (arith, k, l, il, jl, length_push stack x)))
        ]
      ];
      looked = λ i k l m o. elim (cases_lt i n) [
        | inl il ↦ subst (λ (z : ℕ). IsSettled places' stack' bounds' i (get_or (row rows z) k 0)) (sym (old i il)) (grow i _ il
            (w.looked i k il (omega (arith, m, ap (λ (z : ℕ). get_or left z 0) (old i il))) (omega (arith, o, ap (λ (z : ℕ). length (row rows z)) (old i il)))))
        | inr il ↦ let e : node_at stack' i ≡ x = sym (ap (node_at stack') (is_last i l il)) ∙ last in
            absurd (omega (arith, m, o, w.fresh x new, ap (λ (z : ℕ). get_or left z 0) e, ap (λ (z : ℕ). length (row rows z)) e))
      ];
      closed = λ y z c e. still z (w.closed y z (was y c) e);
      least_is = least_of_fewer (IsClosed places stack) (IsClosed places' stack') least (λ y c l. was y c) w.least_is;
    }
      where
        n : ℕ
        n = length stack

        places' : List (Option ℕ)
        places' = set places x (Some n)

        stack' : List ℕ
        stack' = stack ++ x ∷ []

        bounds' : List ℕ
        bounds' = bounds ++ n ∷ []

        old : (i : ℕ) → i < n → node_at stack' i ≡ node_at stack i
        old i l = get_or_append_left stack (x ∷ []) 0 i l

        last : node_at stack' n ≡ x
        last = get_or_push stack x 0 n refl

        is_last : (i : ℕ) → i < length stack' → n ≤ i → n ≡ i
        is_last i k l = omega (arith, k, l, length_push stack x)

        same : place_of places' x ≡ Some n
        same = get_or-set_same places x (Some n) None (omega (arith, h, w.places_size))

        other : (y : ℕ) → (y ≡ x → ⊥) → place_of places' y ≡ place_of places y
        other y ne = get_or-set_other places x y (Some n) None ne

        apart : (i : ℕ) → i < n → node_at stack i ≡ x → ⊥
        apart i l e = let a = w.placed i l in let b : place_of places (node_at stack i) ≡ place_of places x = ap (place_of places) e in cc

        comes_at : (a a' b b' : ℕ) → a' ≡ a → b' ≡ b → Comes rows a b → Comes rows a' b'
        comes_at a a' b b' e q c = subst (λ (z : ℕ). Comes rows z b') (sym e) (subst (λ (z : ℕ). Comes rows a z) (sym q) c)

        still : (y : ℕ) → IsClosed places stack y → IsClosed places' stack' y
        still y c =
            let ne : y ≡ x → ⊥ = λ q. let b : place_of places y ≡ place_of places x = ap (place_of places) q in let d = c.1 in cc in
            (c.0, other y ne ∙ c.1, λ k. elim (Contains-push_cases stack x y k) [ inl o ↦ c.2 o | inr q ↦ ne (sym q) ])

        was : (y : ℕ) → IsClosed places' stack' y → IsClosed places stack y
        was y c = closed_before places stack x n y c

        grow : (i y : ℕ) → i < n → IsSettled places stack bounds i y → IsSettled places' stack' bounds' i y
        grow i y l (inl c) = inl (still y c)
        grow i y l (inr s) = inr (
          s.0,
          omega (arith, s.1, length_push stack x),
          old s.0 s.1 ∙ s.2,
          λ c m o. elim (Contains-push_cases bounds n c m) [ inl k ↦ s.3 c k o | inr q ↦ omega (arith, l, q) ],
        )

    pub entered_at : (x n : ℕ) (stack' path' bounds' : List ℕ) → x < length rows → place_of places x ≡ None → AllLead rows stack x
        → n ≡ length stack → stack' ≡ stack ++ x ∷ [] → path' ≡ path ++ n ∷ [] → bounds' ≡ bounds ++ n ∷ []
        → GroupingBy rows (set places x (Some n)) left stack' path' bounds' least
    entered_at x n stack' path' bounds' h new all e s p b =
        subst (λ (z : ℕ). GroupingBy rows (set places x (Some z)) left stack' path' bounds' least) (sym e)
        (subst (λ (z : List ℕ). GroupingBy rows (set places x (Some (length stack))) left z path' bounds' least) (sym s)
        (subst (λ (z : List ℕ). GroupingBy rows (set places x (Some (length stack))) left (stack ++ x ∷ []) z bounds' least) (sym (p ∙ ap (λ (m : ℕ). path ++ m ∷ []) e))
        (subst (λ (z : List ℕ). GroupingBy rows (set places x (Some (length stack))) left (stack ++ x ∷ []) (path ++ length stack ∷ []) z least) (sym (b ∙ ap (λ (m : ℕ). bounds ++ m ∷ []) e))
        (entered x h new all))))

    pub passed_at : (i v n : ℕ) → i < length stack → v ≡ node_at stack i → n ≡ get_or left v 0 → 0 < get_or left (node_at stack i) 0
        → IsSettled places stack bounds i (get_or (row rows (node_at stack i)) (get_or left (node_at stack i) 0 - 1) 0) → GroupingBy rows places (set left v (n - 1)) stack path bounds least
    passed_at i v n h e m some settled =
        subst (λ (l : List ℕ). GroupingBy rows places l stack path bounds least) (λ j. set left (sym e j) (sym (m ∙ ap (λ (z : ℕ). get_or left z 0) e) j - 1)) (passed i h some settled)

    pub place_below : (p : ℕ) → EndsWith path p → p < length stack
    place_below p e = w.path_within p (has_last path e.0 p e.1)

    -- each node on the stack leads to where an edge of the last group leads
    pub leads_next : (b p y : ℕ) → EndsWith bounds b → b ≤ p → p < length stack → Contains (row rows (node_at stack p)) y → AllLead rows stack y
    leads_next b p y last h k e = λ i l. comes_then (node_at stack i) (node_at stack p) y
        (w.leads i p l k (λ c m o. absurd (omega (arith, greatest_last bounds last.0 b c last.1 w.bounds_rise m, h, o)))) (by_edge e)

  pub met_still : (places : List (Option ℕ)) (x n : ℕ) (y : ℕ) → (place_of places y ≡ None → ⊥) → place_of (set places x (Some n)) y ≡ None → ⊥
  met_still places x n y h e = elim (cases_eq y x) [
    | inl q ↦ elim (cases_lt x (length places)) [
      | inl l ↦ let a = get_or-set_same places x (Some n) None l in let b : place_of (set places x (Some n)) y ≡ place_of (set places x (Some n)) x = ap (place_of (set places x (Some n))) q in cc
      | inr l ↦ h (get_or_past places y None (omega (arith, q, l)))
    ]
    | inr ne ↦ h (sym (get_or-set_other places x y (Some n) None ne) ∙ e)
  ]
