-- A search that has not begun, and what it answers when all nodes are behind it.
use Rattle.std.proofs.Common.{◌≡◌, ℕ, ◌<◌, inl, inr, List, [], length, get_or, replicate, map, refl, sym, ap, ◌∙◌, subst, arith}
use Rattle.std.specs.Prelude.{Contains, Option, Some, None, MatchOption, IfSome}
use Rattle.std.proofs.lemmas.List.{length-map, length-replicate, get_or-map, get_or_past}
use Rattle.std.proofs.lemmas.List.Sums.{count_by-le-length}
use Rattle.std.proofs.lemmas.Bool.{cases_lt}
use Rattle.std.specs.Option.{is_some}
use Rattle.rn_graph.specs.Graph.{row}
use Rattle.rn_graph.specs.Ranks.{Leads, by_edge, and_edge, HasNoLoop, IsFirstLoop, IsRanking}
use Rattle.rn_graph.specs.inside.Searching.{GroupingBy, Grouping, IsClosed, IsLeastLooped, place_of}
use Rattle.rn_graph.specs.declared.search.Search.{Search}
use Rattle.rn_graph.proofs.Graphs.Searches.Ranking.{none_met}

module _ (rows : List (List ℕ)) where
  pub not_begun : (places : List (Option ℕ)) (left stack path bounds : List ℕ) → places ≡ replicate (length rows) None → left ≡ map (λ (r : List ℕ). length r) rows → stack ≡ [] → path ≡ [] → bounds ≡ [] → GroupingBy rows places left stack path bounds None
  not_begun places left stack path bounds m l s p b = record {
    places_size = ap (λ (ms : List (Option ℕ)). length ms) m ∙ length-replicate (length rows) None;
    left_size = ap (λ (ls : List ℕ). length ls) l ∙ length-map rows (λ (r : List ℕ). length r);
    left_within = λ x. omega (arith, size x);
    fresh = λ x e. size x;
    placed = λ i h. absurd (none stack s i h);
    path_within = λ q c. absurd (none path p c.0 c.1);
    path_rises = λ i j h k. absurd (none path p j k);
    on_path = λ i h. absurd (none stack s i h);
    bounds_within = λ q c. absurd (none bounds b c.0 c.1);
    bounds_rise = λ i j h k. absurd (none bounds b j k);
    first_bound = ap (λ (xs : List ℕ). get_or xs 0 0) b;
    bounded = λ h. absurd (none stack s 0 h);
    leads = λ i j h. absurd (none stack s i h);
    looked = λ i k h. absurd (none stack s i h);
    closed = λ x y c. let n = new x in let e = c.1 in absurd (cc);
    least_is = λ x c. let n = new x in let e = c.1 in absurd (cc);
  }
    where
      none : (xs : List ℕ) → xs ≡ [] → (i : ℕ) → i < length xs → ⊥
      none xs e i h = omega (arith, h, ap (λ (ys : List ℕ). length ys) e)

      new : (x : ℕ) → place_of places x ≡ None
      new = none_met (length rows) places m

      size : (x : ℕ) → get_or left x 0 ≡ length (row rows x)
      size x = elim (cases_lt x (length rows)) [
        | inl h ↦ ap (λ (ls : List ℕ). get_or ls x 0) l ∙ get_or-map (λ (r : List ℕ). length r) rows x [] 0 h
        | inr h ↦ get_or_past left x 0 (omega (arith, h, ap (λ (ls : List ℕ). length ls) l, length-map rows (λ (r : List ℕ). length r)))
            ∙ sym (ap (λ (r : List ℕ). length r) (get_or_past rows x [] h))
      ]

  -- an edge begins at a node
  pub source_within : (x y : ℕ) → Contains (row rows x) y → x < length rows
  source_within x y c = elim (cases_lt x (length rows)) [
    | inl h ↦ h
    | inr h ↦ let none : Contains [] y = subst (λ (l : List ℕ). Contains l y) (get_or_past rows x [] h) c in absurd (omega (arith, none.1))
  ]

  pub starts_within : {x y : ℕ} → Leads rows x y → x < length rows
  starts_within (by_edge {x = x} {y = y} c) = source_within x y c
  starts_within (and_edge l c) = starts_within l

  -- the nodes before the root are behind the search
  pub record Searched (s : Search) (root : ℕ) : Type 0 where
    pub grouping : Grouping rows s
    pub empty : s.stack.items ≡ []
    pub behind : (x : ℕ) → x < root → place_of s.places.items x ≡ None → ⊥

  module _ (s : Search) (searched : Searched s (length rows)) where
    is_closed : (x : ℕ) → x < length rows → IsClosed s.places.items s.stack.items x
    is_closed x h = by (place_of s.places.items x) refl
      where
        by : (o : Option ℕ) → place_of s.places.items x ≡ o → IsClosed s.places.items s.stack.items x
        by None e = absurd (searched.behind x h e)
        by (Some p) e = (p, e, λ c. omega (arith, c.1, ap (λ (xs : List ℕ). length xs) searched.empty))

    pub first_loop : (least : Option ℕ) → least ≡ s.least → MatchOption least (HasNoLoop rows) (IsFirstLoop rows)
    first_loop least e = by least (subst (IsLeastLooped rows (IsClosed s.places.items s.stack.items)) (sym e) searched.grouping.groups.least_is)
      where
        by : (o : Option ℕ) → IsLeastLooped rows (IsClosed s.places.items s.stack.items) o → MatchOption o (HasNoLoop rows) (IsFirstLoop rows)
        by None f = λ x l. f x (is_closed x (starts_within l)) l
        by (Some m) f = record { holds = f.0; least = λ y h l. omega (arith, h, f.1 y (is_closed y (starts_within l)) l) }

    pub all_ranked : HasNoLoop rows → IsRanking rows s.ranks.items
    all_ranked none =
        let r = searched.grouping.ranking in
        let size = searched.grouping.groups.places_size in
        record {
          sized = r.ranks_size;
          below = λ x h. omega (arith, r.below x (is_closed x h), r.counted, count_by-le-length {X = Option ℕ} is_some s.places.items, size);
          falls = λ x y h e. r.falls x y (is_closed x h) (none x) e;
        }

  pub first_within : (least : Option ℕ) → MatchOption least (HasNoLoop rows) (IsFirstLoop rows) → IfSome least (λ x. x < length rows)
  first_within None f = tt
  first_within (Some m) f = starts_within f.holds
