-- The last group of a search is closed.
use Rattle.std.proofs.Common.{◌≡◌, ℕ, ◌+◌, ◌-◌, ◌<◌, ◌≤◌, ◌⊎◌, inl, inr, List, [], ◌∷◌, ◌++◌, length, get_or, set, take, drop, min, refl, sym, ap, ◌∙◌, subst, arith}
use Rattle.std.specs.Prelude.{Contains, Option, Some, None, MatchOption}
use Rattle.std.proofs.lemmas.List.{length-drop, length-set, length-take-le, get_or-take, get_or-drop, get_or_push, get_or-set_same, get_or-set_other}
use Rattle.std.proofs.lemmas.List.Elements.{Contains-append_left, Contains-push_cases, Contains-get_or}
use Rattle.std.proofs.lemmas.Bool.{cases_eq, cases_lt}
use Rattle.rn_graph.specs.Graph.{row}
use Rattle.rn_graph.specs.Ranks.{Leads, by_edge, and_edge, rank_of}
use Rattle.rn_graph.specs.inside.Searching.{GroupingBy, RankingBy, IsLeastLooped, IsClosed, IsSettled, IsNear, Comes, Rises, node_at, place_of}
use Rattle.rn_graph.proofs.Graphs.Searches.Rising.{stands, contains_take, rises_left, rises_last, first_left, greatest_last, has_last}
use Rattle.rn_graph.proofs.Graphs.Searches.KeptGroups.{node_below, same_place, leads_on, leads_then, comes_then, least_of_fewer}

module _ (rows : List (List ℕ)) (places : List (Option ℕ)) (left stack path bounds : List ℕ) (least : Option ℕ) (w : GroupingBy rows places left stack path bounds least)
    (front : List ℕ) (b : ℕ) (last : bounds ≡ front ++ b ∷ []) (all_looked : (p : ℕ) → Contains path p → p < b) where
  rest : List ℕ
  rest = take b stack

  begins : Contains bounds b
  begins = has_last bounds front b last

  pub begin_below : b < length stack
  begin_below = w.bounds_within b begins

  size : length (take b stack) ≡ b
  size = length-take-le b stack (omega (arith, begin_below))

  at : (i : ℕ) → i < b → node_at (take b stack) i ≡ node_at stack i
  at i h = get_or-take b stack i 0 h

  -- a node that stands in the last group
  abbrev InGroup : ℕ → Type 0
  InGroup x = (j : ℕ) × (b ≤ j) × (j < length stack) × (node_at stack j ≡ x)

  gone : (y : ℕ) → InGroup y → IsClosed places (take b stack) y
  gone y g = (
    g.0,
    ap (place_of places) (sym g.3) ∙ w.placed g.0 g.2,
    λ k.
        let s = stands (take b stack) y k in
        let lt : s.0 < b = omega (arith, s.1, size) in
        let q = same_place rows places left stack path bounds least w s.0 g.0 (omega (arith, lt, begin_below)) g.2 (sym (at s.0 lt) ∙ s.2 ∙ sym g.3) in
        omega (arith, q, lt, g.1),
  )

  shrink : (y : ℕ) → IsClosed places stack y → IsClosed places (take b stack) y
  shrink y c = (c.0, c.1, λ k. c.2 (contains_take b stack y k))

  was : (x : ℕ) → IsClosed places (take b stack) x → IsClosed places stack x ⊎ InGroup x
  was x c = elim (cases_lt c.0 (length stack)) [
    | inl h ↦ elim (cases_eq (node_at stack c.0) x) [
      | inl e ↦ elim (cases_lt c.0 b) [
        | inl lt ↦ absurd (c.2 (subst (Contains (take b stack)) (at c.0 lt ∙ e) (Contains-get_or (take b stack) c.0 0 (omega (arith, lt, size)))))
        | inr ge ↦ inr (c.0, ge, h, e)
      ]
      | inr ne ↦ inl (c.0, c.1, λ k. let s = stands stack x k in ne (ap (node_at stack) (sym (same s.0 s.1 s.2)) ∙ s.2))
    ]
    | inr h ↦ inl (c.0, c.1, λ k. let s = stands stack x k in omega (arith, same s.0 s.1 s.2, s.1, h))
  ]
    where
      same : (i : ℕ) → i < length stack → node_at stack i ≡ x → i ≡ c.0
      same i h e = let a = w.placed i h in let d : place_of places (node_at stack i) ≡ place_of places x = ap (place_of places) e in let f = c.1 in cc

  -- the edges of the group's nodes stay in it, or lead to closed nodes
  onward : (x y : ℕ) → InGroup x → Contains (row rows x) y → IsClosed places stack y ⊎ InGroup y
  onward x y g e =
      let k = stands (row rows x) y e in
      elim (w.looked g.0 k.0 g.2 (omega (arith, none_left)) (omega (arith, k.1, ap (λ (z : ℕ). length (row rows z)) g.3))) [
        | inl c ↦ inl (subst (IsClosed places stack) (is k.0 k.2) c)
        | inr s ↦ inr (s.0, behind s.0 s.3, s.1, s.2 ∙ is k.0 k.2)
      ]
    where
      none_left : get_or left (node_at stack g.0) 0 ≡ 0
      none_left = elim (cases_lt 0 (get_or left (node_at stack g.0) 0)) [
        | inl h ↦ absurd (omega (arith, all_looked g.0 (w.on_path g.0 g.2 h), g.1))
        | inr h ↦ omega (arith, h)
      ]

      is : (k : ℕ) → get_or (row rows x) k 0 ≡ y → get_or (row rows (node_at stack g.0)) k 0 ≡ y
      is k q = ap (λ (z : ℕ). get_or (row rows z) k 0) g.3 ∙ q

      behind : (j : ℕ) → IsNear bounds g.0 j → b ≤ j
      behind j near = elim (cases_lt j b) [ inl lt ↦ absurd (omega (arith, near b begins lt, g.1)) | inr ge ↦ ge ]

  pub group_closed : (least' : Option ℕ) → IsLeastLooped rows (IsClosed places (take b stack)) least' → GroupingBy rows places left (take b stack) path front least'
  group_closed least' l' = record {
    places_size = w.places_size;
    left_size = w.left_size;
    left_within = w.left_within;
    fresh = w.fresh;
    placed = λ i h. ap (place_of places) (at i (in_rest i h)) ∙ w.placed i (still i h);
    path_within = λ p c. omega (arith, all_looked p c, size);
    path_rises = w.path_rises;
    on_path = λ i h k. w.on_path i (still i h) (omega (arith, k, ap (λ (z : ℕ). get_or left z 0) (at i (in_rest i h))));
    bounds_within = λ c k. omega (arith, rises_last front b c (subst Rises last w.bounds_rise) k, size);
    bounds_rise = rises_left front (b ∷ []) (subst Rises last w.bounds_rise);
    first_bound = first_left front (b ∷ []) first;
    bounded = λ h. elim (cases_lt 0 (length front)) [
      | inl k ↦ k
      | inr k ↦ absurd (omega (arith, h, size, first, get_or_push front b 0 0 (omega (arith, k))))
    ];
    leads = λ i j h k near. comes_at (node_at stack i) (node_at (take b stack) i) (node_at stack j) (node_at (take b stack) j) (at i (in_rest i h)) (at j (in_rest j k))
        (w.leads i j (still i h) (still j k) (λ c m o. elim (Contains-push_cases front b c (subst (λ (xs : List ℕ). Contains xs c) last m)) [ inl f ↦ near c f o | inr q ↦ omega (arith, in_rest i h, q) ]));
    looked = λ i k h l m. subst (λ (z : ℕ). IsSettled places (take b stack) front i (get_or (row rows z) k 0)) (sym (at i (in_rest i h)))
        (settle i _ (w.looked i k (still i h) (omega (arith, l, ap (λ (z : ℕ). get_or left z 0) (at i (in_rest i h)))) (omega (arith, m, ap (λ (z : ℕ). length (row rows z)) (at i (in_rest i h))))));
    closed = λ x y c e. elim (was x c) [
      | inl o ↦ shrink y (w.closed x y o e)
      | inr g ↦ elim (onward x y g e) [ inl o ↦ shrink y o | inr f ↦ gone y f ]
    ];
    least_is = l';
  }
    where
      in_rest : (i : ℕ) → i < length (take b stack) → i < b
      in_rest i h = omega (arith, h, size)

      still : (i : ℕ) → i < length (take b stack) → i < length stack
      still i h = omega (arith, h, size, begin_below)

      first : get_or (front ++ b ∷ []) 0 0 ≡ 0
      first = ap (λ (xs : List ℕ). get_or xs 0 0) (sym last) ∙ w.first_bound

      comes_at : (a a' d d' : ℕ) → a' ≡ a → d' ≡ d → Comes rows a d → Comes rows a' d'
      comes_at a a' d d' e q c = subst (λ (z : ℕ). Comes rows z d') (sym e) (subst (λ (z : ℕ). Comes rows a z) (sym q) c)

      settle : (i y : ℕ) → IsSettled places stack bounds i y → IsSettled places (take b stack) front i y
      settle i y (inl c) = inl (shrink y c)
      settle i y (inr s) = elim (cases_lt s.0 b) [
        | inl lt ↦ inr (s.0, omega (arith, lt, size), at s.0 lt ∙ s.2, λ c m o. s.3 c (subst (λ (xs : List ℕ). Contains xs c) (sym last) (Contains-append_left front (b ∷ []) c m)) o)
        | inr ge ↦ inl (gone y (s.0, ge, s.1, s.2))
      ]

  -- nodes of the group lead to one another
  together : (i j : ℕ) → b ≤ i → i < length stack → b ≤ j → j < length stack → Comes rows (node_at stack i) (node_at stack j)
  together i j h k l m = w.leads i j k m (λ c n o. omega (arith, greatest_last bounds front b c last w.bounds_rise n, l, o))

  leads_apart : (i j : ℕ) → b ≤ i → i < length stack → b ≤ j → j < length stack → (i ≡ j → ⊥) → Leads rows (node_at stack i) (node_at stack j)
  leads_apart i j h k l m ne = elim (together i j h k l m) [ inl e ↦ absurd (ne (same_place rows places left stack path bounds least w i j k m e)) | inr a ↦ a ]

  group_size : length (drop b stack) + b ≡ length stack
  group_size = omega (arith, length-drop b stack, begin_below)

  group_first : node_at (drop b stack) 0 ≡ node_at stack b
  group_first = get_or-drop b stack 0 0 ∙ ap (node_at stack) (omega arith)

  -- a group of several nodes, or of one with an edge to itself, is on a loop
  pub all_looped : (1 < length (drop b stack)) ⊎ Contains (row rows (node_at (drop b stack) 0)) (node_at (drop b stack) 0) → (x : ℕ) → InGroup x → Leads rows x x
  all_looped (inl h) x g = subst (λ (z : ℕ). Leads rows z z) g.3 (elim (cases_eq g.0 b) [
    | inl e ↦ there (b + 1) (omega arith) (omega (arith, h, group_size)) (λ q. omega (arith, q, e))
    | inr ne ↦ there b (omega arith) begin_below ne
  ])
    where
      there : (j : ℕ) → b ≤ j → j < length stack → (g.0 ≡ j → ⊥) → Leads rows (node_at stack g.0) (node_at stack g.0)
      there j h k ne = leads_on rows (leads_apart g.0 j g.1 g.2 h k ne) (leads_apart j g.0 h k g.1 g.2 (λ q. ne (sym q)))
  all_looped (inr c) x g = subst (λ (z : ℕ). Leads rows z z) g.3
      (leads_then rows _ _ _ (comes_then rows _ _ _ (together g.0 b g.1 g.2 (omega arith) begin_below) (subst (λ (z : ℕ). Leads rows z z) group_first (by_edge c))) (together b g.0 (omega arith) begin_below g.1 g.2))

  -- a node that is alone and has no edge to itself is on none
  pub not_looped : length (drop b stack) ≡ 1 → (Contains (row rows (node_at (drop b stack) 0)) (node_at (drop b stack) 0) → ⊥) → (x : ℕ) → IsClosed places (take b stack) x → Leads rows x x → IsClosed places stack x
  not_looped one bare x c l = elim (was x c) [ inl o ↦ o | inr g ↦ leaves g l ]
    where
      alone : (y : ℕ) → InGroup y → y ≡ node_at (drop b stack) 0
      alone y g = sym g.3 ∙ ap (node_at stack) (omega (arith, g.1, g.2, group_size, one)) ∙ sym group_first

      leaves : {x y : ℕ} → InGroup x → Leads rows x y → IsClosed places stack y
      leaves g (by_edge {x = x} {y = y} e) = elim (onward x y g e) [
        | inl o ↦ o
        | inr f ↦ absurd (bare (subst (λ (z : ℕ). Contains (row rows z) (node_at (drop b stack) 0)) (alone x g) (subst (Contains (row rows x)) (alone y f) e)))
      ]
      leaves g (and_edge {y = y} {z = z} l e) = w.closed y z (leaves g l) e

  in_group : (x : ℕ) → Contains (drop b stack) x → InGroup x
  in_group x c = let s = stands (drop b stack) x c in (b + s.0, omega arith, omega (arith, s.1, group_size), sym (get_or-drop b stack s.0 0) ∙ s.2)

  of_group : (x : ℕ) → InGroup x → Contains (drop b stack) x
  of_group x g = subst (Contains (drop b stack)) (get_or-drop b stack (g.0 - b) 0 ∙ ap (node_at stack) (omega (arith, g.1)) ∙ g.3) (Contains-get_or (drop b stack) (g.0 - b) 0 (omega (arith, g.1, g.2, group_size)))

  pub least_bare : length (drop b stack) ≡ 1 → (Contains (row rows (node_at (drop b stack) 0)) (node_at (drop b stack) 0) → ⊥) → IsLeastLooped rows (IsClosed places (take b stack)) least
  least_bare one bare = least_of_fewer rows (IsClosed places stack) (IsClosed places (take b stack)) least (not_looped one bare) w.least_is

  pub least_looped : (m r : ℕ) → ((1 < length (drop b stack)) ⊎ Contains (row rows (node_at (drop b stack) 0)) (node_at (drop b stack) 0)) → Contains (drop b stack) m → ((x : ℕ) → Contains (drop b stack) x → m ≤ x)
      → MatchOption least (r ≡ m) (λ h. r ≡ min h m) → IsLeastLooped rows (IsClosed places (take b stack)) (Some r)
  least_looped m r looped among below is = by least refl is w.least_is
    where
      here : (x : ℕ) → InGroup x → m ≤ x
      here x g = below x (of_group x g)

      on_loop : Leads rows m m
      on_loop = all_looped looped m (in_group m among)

      by : (o : Option ℕ) → o ≡ least → MatchOption o (r ≡ m) (λ h. r ≡ min h m) → IsLeastLooped rows (IsClosed places stack) o → IsLeastLooped rows (IsClosed places (take b stack)) (Some r)
      by None e q l = (
        subst (λ (z : ℕ). Leads rows z z) (sym q) on_loop,
        λ x c k. elim (was x c) [ inl o ↦ absurd (l x o k) | inr g ↦ omega (arith, q, here x g) ],
      )
      by (Some h) e q l = (
        elim (cases_lt h m) [
          | inl lt ↦ subst (λ (z : ℕ). Leads rows z z) (omega (arith, q, lt)) l.0
          | inr ge ↦ subst (λ (z : ℕ). Leads rows z z) (omega (arith, q, ge)) on_loop
        ],
        λ x c k. elim (was x c) [ inl o ↦ omega (arith, q, l.1 x o k) | inr g ↦ omega (arith, q, here x g) ],
      )

  -- the group's first node is ranked behind all that were ranked before
  pub group_ranked : (closed : ℕ) (ranks : List ℕ) (v : ℕ) → v ≡ node_at stack b → RankingBy rows places stack closed ranks → RankingBy rows places (take b stack) (closed + 1) (set ranks v closed)
  group_ranked closed ranks v is r = record {
    ranks_size = length-set ranks v closed ∙ r.ranks_size;
    counted = omega (arith, r.counted, size, begin_below);
    within = λ x. omega (arith, at_most x);
    below = λ x c. omega (arith, at_most x);
    falls = λ x y c free e. elim (was x c) [
      | inl o ↦ let d = w.closed x y o e in omega (arith, r.falls x y o free e, other x (apart x o), other y (apart y d))
      | inr g ↦ elim (onward x y g e) [
        | inl d ↦ omega (arith, r.below y d, other y (apart y d), same, ap (rank_of (set ranks v closed)) (first x g free))
        | inr f ↦ absurd (free (leads_then rows x y x (by_edge e) (back y x f g)))
      ]
    ];
  }
    where
      same : rank_of (set ranks v closed) v ≡ closed
      same = get_or-set_same ranks v closed 0 (omega (arith, is, r.ranks_size, node_below rows places left stack path bounds least w b begin_below))

      other : (x : ℕ) → (x ≡ v → ⊥) → rank_of (set ranks v closed) x ≡ rank_of ranks x
      other x ne = get_or-set_other ranks v x closed 0 ne

      at_most : (x : ℕ) → rank_of (set ranks v closed) x ≤ closed
      at_most x = elim (cases_eq x v) [ inl e ↦ omega (arith, same, ap (rank_of (set ranks v closed)) e) | inr ne ↦ omega (arith, other x ne, r.within x) ]

      apart : (x : ℕ) → IsClosed places stack x → x ≡ v → ⊥
      apart x c e = c.2 (subst (Contains stack) (sym (e ∙ is)) (Contains-get_or stack b 0 begin_below))

      back : (y x : ℕ) → InGroup y → InGroup x → Comes rows y x
      back y x f g = subst (λ (z : ℕ). Comes rows z x) f.3 (subst (Comes rows (node_at stack f.0)) g.3 (together f.0 g.0 f.1 f.2 g.1 g.2))

      first : (x : ℕ) → InGroup x → (Leads rows x x → ⊥) → x ≡ v
      first x g free = elim (cases_eq g.0 b) [
        | inl e ↦ sym g.3 ∙ ap (node_at stack) e ∙ sym is
        | inr ne ↦ absurd (free (subst (λ (z : ℕ). Leads rows z z) g.3
            (leads_on rows (leads_apart g.0 b g.1 g.2 (omega arith) begin_below ne) (leads_apart b g.0 (omega arith) begin_below g.1 g.2 (λ q. ne (sym q))))))
      ]
