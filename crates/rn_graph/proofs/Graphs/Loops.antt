-- A walk along the edges of a graph, and the loop that it closes.
use Rattle.std.proofs.Common.{◌≡◌, ℕ, ◌+◌, ◌<◌, ◌≤◌, inl, inr, true, false, List, [], ◌∷◌, ◌++◌, length, get_or, set, take, reverse, refl, sym, ap, ◌∙◌, subst, arith, below_more}
use Rattle.std.specs.Prelude.{Contains}
use Rattle.std.proofs.lemmas.List.{append-nil, append_assoc, get_or_append_left, get_or_default, get_or_push, length-append, length_push, reverse-append, take_more}
use Rattle.std.proofs.lemmas.List.Elements.{Contains-append_cases, Contains-get_or}
use Rattle.std.proofs.lemmas.Bool.{cases_lt}
use Rattle.rn_graph.specs.Graph.{is_marked, row}
use Rattle.rn_graph.specs.Loops.{LeadOnTo}
use Rattle.rn_graph.specs.Ranks.{Leads, by_edge, and_edge}
use Rattle.rn_graph.specs.inside.Marking.{Marks}
use Rattle.rn_graph.specs.inside.Walks.{IsWalk, WalksOn, first_of, node_at, place_before}
use Rattle.rn_graph.specs.declared.loops.Walk.{Walk}
use Rattle.rn_graph.proofs.Graphs.FirstLoop.{source_within}
use Rattle.rn_graph.proofs.Graphs.Marking.{marked_below, one_more}

module _ (rows : List (List ℕ)) where
  edge_still : (x x' y y' : ℕ) → x' ≡ x → y' ≡ y → Contains (row rows x) y → Contains (row rows x') y'
  edge_still x x' y y' e f c = subst (λ (z : ℕ). Contains (row rows z) y') (sym e) (subst (λ (z : ℕ). Contains (row rows x) z) (sym f) c)

  -- the nodes of a walk are nodes of the graph
  pub node_below : (w : Walk) (i : ℕ) → IsWalk rows w → i < length w.nodes.items → node_at w i < length rows
  node_below w i walk h =
      omega (arith, marked_below w.met.items (node_at w i) (walk.agrees.marked (node_at w i) (Contains-get_or w.nodes.items i 0 h)), walk.size)

  -- a node that is new
  pub one_met : (w w' : Walk) (place node : ℕ) → IsWalk rows w → place < length w.nodes.items → Contains (row rows (node_at w place)) node
      → node < length w.met.items → is_marked w.met.items node ≡ false → w'.met.items ≡ set w.met.items node true
      → w'.nodes.items ≡ w.nodes.items ++ node ∷ [] → w'.before.items ≡ w.before.items ++ place ∷ [] → WalksOn rows (node ∷ []) w w'
  one_met w w' place node walk within edge below new em en eb = record {
    walk = record {
      agrees = marks.agrees;
      size = marks.size ∙ walk.size;
      counted = omega (arith, ap length eb, length_push w.before.items place, longer, walk.counted);
      behind = λ i some h. elim (cases_lt i (length w.nodes.items)) [
        | inl lt ↦ omega (arith, old_place i lt, walk.behind i some lt)
        | inr ge ↦ omega (arith, new_place i (last i h ge), within, ge)
      ];
      led = λ i some h. elim (cases_lt i (length w.nodes.items)) [
        | inl lt ↦ edge_still (node_at w (place_before w i)) (node_at w' (place_before w' i)) (node_at w i) (node_at w' i)
            (ap (node_at w') (old_place i lt) ∙ old_node (place_before w i) (omega (arith, walk.behind i some lt, lt))) (old_node i lt) (walk.led i some lt)
        | inr ge ↦ edge_still (node_at w place) (node_at w' (place_before w' i)) node (node_at w' i)
            (ap (node_at w') (new_place i (last i h ge)) ∙ old_node place within) (new_node i (last i h ge)) edge
      ];
    };
    grows = (node ∷ [], en);
    still = marks.still;
    all = λ y c _. marks.all y c;
  }
    where
      marks : Marks (node ∷ []) w.met.items w.nodes.items w'.met.items w'.nodes.items
      marks = subst (λ ns. Marks (node ∷ []) w.met.items w.nodes.items w'.met.items ns) (sym en)
          (subst (λ ms. Marks (node ∷ []) w.met.items w.nodes.items ms (w.nodes.items ++ node ∷ [])) (sym em)
          (one_more w.met.items w.nodes.items node below new walk.agrees))

      longer : length w'.nodes.items ≡ length w.nodes.items + 1
      longer = ap length en ∙ length_push w.nodes.items node

      last : (i : ℕ) → i < length w'.nodes.items → length w.nodes.items ≤ i → length w.nodes.items ≡ i
      last i h ge = omega (arith, h, ge, longer)

      old_node : (i : ℕ) → i < length w.nodes.items → node_at w' i ≡ node_at w i
      old_node i h = ap (λ (l : List ℕ). get_or l i 0) en ∙ get_or_append_left w.nodes.items (node ∷ []) 0 i h

      old_place : (i : ℕ) → i < length w.nodes.items → place_before w' i ≡ place_before w i
      old_place i h = ap (λ (l : List ℕ). get_or l i 0) eb ∙ get_or_append_left w.before.items (place ∷ []) 0 i (omega (arith, h, walk.counted))

      new_node : (i : ℕ) → length w.nodes.items ≡ i → node_at w' i ≡ node
      new_node i e = ap (λ (l : List ℕ). get_or l i 0) en ∙ get_or_push w.nodes.items node 0 i e

      new_place : (i : ℕ) → length w.nodes.items ≡ i → place_before w' i ≡ place
      new_place i e = ap (λ (l : List ℕ). get_or l i 0) eb ∙ get_or_push w.before.items place 0 i (walk.counted ∙ e)

  -- nothing is met yet
  pub none_met : (w : Walk) → IsWalk rows w → WalksOn rows [] w w
  none_met w walk = record { walk = walk; grows = ([], sym (append-nil w.nodes.items)); still = λ y m. m; all = λ y c. absurd (omega (arith, c.1)) }

  both_met : (xs ys : List ℕ) (a b c : Walk) → WalksOn rows xs a b → WalksOn rows ys b c → WalksOn rows (xs ++ ys) a c
  both_met xs ys a b c m n = record {
    walk = n.walk;
    grows = (m.grows.0 ++ n.grows.0, n.grows.1 ∙ ap (λ (l : List ℕ). l ++ n.grows.0) m.grows.1 ∙ append_assoc a.nodes.items m.grows.0 n.grows.0);
    still = λ y h. n.still y (m.still y h);
    all = λ y h below. elim (Contains-append_cases xs ys y h) [ inl l ↦ n.still y (m.all y l below) | inr r ↦ n.all y r below ];
  }

  -- the next node of a row
  pub next_met : (xs : List ℕ) (i : ℕ) (a b c : Walk) → i < length xs → WalksOn rows (take i xs) a b → WalksOn rows (get_or xs i 0 ∷ []) b c
      → WalksOn rows (take (i + 1) xs) a c
  next_met xs i a b c h m n = subst (λ (l : List ℕ). WalksOn rows l a c) (sym (take_more xs i 0 h)) (both_met (take i xs) (get_or xs i 0 ∷ []) a b c m n)

  -- a node that was met stays where it is
  pub node_still : (xs : List ℕ) (a b : Walk) (i : ℕ) → WalksOn rows xs a b → i < length a.nodes.items → node_at b i ≡ node_at a i
  node_still xs a b i m h = ap (λ (l : List ℕ). get_or l i 0) m.grows.1 ∙ get_or_append_left a.nodes.items m.grows.0 0 i h

  pub still_within : (xs : List ℕ) (a b : Walk) (i : ℕ) → WalksOn rows xs a b → i < length a.nodes.items → i < length b.nodes.items
  still_within xs a b i m h = omega (arith, h, ap length m.grows.1, length-append a.nodes.items m.grows.0)

  -- the walk so far: the nodes to which edges lead from those before the place are met, and none of these edges closes a loop
  pub record Looking (first : ℕ) (w : Walk) (place : ℕ) : Type 0 where
    pub walk : IsWalk rows w
    pub some : 0 < length w.nodes.items
    pub begins : first_of w ≡ first
    pub so_far : place ≤ length w.nodes.items
    pub met : (k : ℕ) → k < place → (y : ℕ) → Contains (row rows (node_at w k)) y → y < length rows → is_marked w.met.items y ≡ true
    pub opened : (k : ℕ) → k < place → ¬ Contains (row rows (node_at w k)) first

  pub looks_on : (first : ℕ) (w w' : Walk) (place : ℕ) → place < length w.nodes.items → Looking first w place
      → ¬ Contains (row rows (node_at w place)) first → WalksOn rows (row rows (node_at w place)) w w' → Looking first w' (place + 1)
  looks_on first w w' place h so none m = record {
    walk = m.walk;
    some = still 0 so.some;
    begins = node_still (row rows (node_at w place)) w w' 0 m so.some ∙ so.begins;
    so_far = omega (arith, still place h);
    met = below_more (λ (k : ℕ). (y : ℕ) → Contains (row rows (node_at w' k)) y → y < length rows → is_marked w'.met.items y ≡ true) place
        (λ k lt y c b. m.still y (so.met k lt y (was k (omega (arith, lt, h)) y c) b))
        (λ y c b. m.all y (was place h y c) b);
    opened = below_more (λ (k : ℕ). ¬ Contains (row rows (node_at w' k)) first) place
        (λ k lt c. so.opened k lt (was k (omega (arith, lt, h)) first c))
        (λ c. none (was place h first c));
  }
    where
      still : (i : ℕ) → i < length w.nodes.items → i < length w'.nodes.items
      still i lt = still_within (row rows (node_at w place)) w w' i m lt

      was : (k : ℕ) → k < length w.nodes.items → (y : ℕ) → Contains (row rows (node_at w' k)) y → Contains (row rows (node_at w k)) y
      was k lt y c = subst (λ (z : ℕ). Contains (row rows z) y) (node_still (row rows (node_at w place)) w w' k m lt) c

  -- where no edge is left, the node doesn't come back to itself
  pub no_loop : (first : ℕ) (w : Walk) (place : ℕ) → length w.nodes.items ≤ place → Looking first w place → ¬ Leads rows first first
  no_loop first w place end so l = closes l
    where
      from_first : (y : ℕ) → Contains (row rows first) y → Contains (row rows (node_at w 0)) y
      from_first y c = subst (λ (z : ℕ). Contains (row rows z) y) (sym so.begins) c

      begun : 0 < place
      begun = omega (arith, so.some, end)

      from_met : (x : ℕ) → is_marked w.met.items x ≡ true
          → (k : ℕ) × (k < place) × ((y : ℕ) → Contains (row rows x) y → Contains (row rows (node_at w k)) y)
      from_met x m =
          let at = so.walk.agrees.listed x m in
          let e : node_at w at.0 ≡ x = get_or_default w.nodes.items at.0 0 x at.1 ∙ at.2 in
          (at.0, omega (arith, at.1, end), λ y c. subst (λ (z : ℕ). Contains (row rows z) y) (sym e) c)

      is_met : {y : ℕ} → Leads rows first y → y < length rows → is_marked w.met.items y ≡ true
      is_met (by_edge {x = x} {y = y} c) h = so.met 0 begun y (from_first y c) h
      is_met (and_edge {x = x} {y = y} {z = z} l c) h =
          let at = from_met y (is_met l (source_within rows y z c)) in so.met at.0 at.1 z (at.2 z c) h

      closes : Leads rows first first → ⊥
      closes (by_edge c) = so.opened 0 begun (from_first first c)
      closes (and_edge {x = x} {y = y} {z = z} l c) =
          let at = from_met y (is_met l (source_within rows y first c)) in so.opened at.0 at.1 (at.2 first c)

  -- the nodes from the place on, in their order: they lead on to the first one
  abbrev pub LeadsFrom : Walk → ℕ → List ℕ → Type 0
  LeadsFrom w place nodes = (others : List ℕ) × (reverse nodes ≡ node_at w place ∷ others) × LeadOnTo rows (node_at w place ∷ others) (first_of w)

  pub leads_from_before : (w : Walk) (place before : ℕ) (nodes more : List ℕ) → IsWalk rows w → 0 < place → place < length w.nodes.items
      → before ≡ place_before w place → more ≡ nodes ++ node_at w before ∷ [] → LeadsFrom w place nodes → LeadsFrom w before more
  leads_from_before w place before nodes more walk some h e pushed from = (
    node_at w place ∷ from.0,
    ap reverse pushed ∙ reverse-append nodes (node_at w before ∷ []) ∙ ap (λ (l : List ℕ). node_at w before ∷ l) from.1,
    (
      edge_still (node_at w (place_before w place)) (node_at w before) (node_at w place) (node_at w place) (ap (node_at w) e) refl (walk.led place some h),
      from.2,
    ),
  )
