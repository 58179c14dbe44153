-- A list within a list of its kind comes to the same as its members do.
use Rattle.std.proofs.Common.{◌≡◌, Bool, true, false, cond, List, [], ◌∷◌, ◌++◌, refl, sym, ap, ◌∙◌}
use Rattle.std.specs.Prelude.{flat_map, ◌||◌}
use Rattle.std.specs.List.{AllByRecursion}
use Rattle.std.proofs.lemmas.Bool.{false≢true, or_right}
use Rattle.std.proofs.lemmas.Grind.{flat_map-append}
use Rattle.rn_pattern.specs.Tree.{Tree, Trees, not_allowed, empty, group, interleave, choice}
use Rattle.rn_pattern.specs.Order.{tree_cmp}
use Rattle.rn_pattern.specs.Canonical.{sorted, sorted_once, node_of, is_not_allowed, has_not_allowed, alternatives, grouped, interleaved, choice_step, group_step, interleave_step}
use Rattle.rn_pattern.specs.CanonicalShape.{may_choose, may_group, may_interleave, IsCanonicalPattern, AnyName}
use Rattle.rn_pattern.proofs.Ordered.Ascending.{each_sorted, each_sorted_once}
use Rattle.rn_pattern.proofs.CanonicalForms.CanonicalForm.{Member, each_allowed, flat_choice, flat_group, flat_interleave}
use Rattle.rn_pattern.proofs.Matches.StepsKeep.{list_of-trees_of}
use Rattle.rn_pattern.proofs.Ordered.Orders.{tree_same}
use Rattle.rn_pattern.proofs.Ordered.TotalOrder.{tree_cmp_total}
use Rattle.rn_pattern.proofs.Ordered.Within.{sorted_behind, sorted_once_behind, sorted_within, sorted_once_within}

flat_between : (f : Tree → List Tree) (front ps rest : List Tree) → flat_map f (front ++ (ps ++ rest)) ≡ flat_map f front ++ (flat_map f ps ++ flat_map f rest)
flat_between f front ps rest = flat_map-append f front (ps ++ rest) ∙ ap (λ x. flat_map f front ++ x) (flat_map-append f ps rest)

-- ---- choice

pub one_choice : (p : Tree) → may_choose p ≡ true → alternatives p ≡ p ∷ []
one_choice not_allowed h = absurd (false≢true h)
one_choice (choice ps) h = absurd (false≢true h)
one_choice p h = refl

choice_members : (ps : List Tree) → AllByRecursion (Member AnyName may_choose) ps → alternatives (node_of not_allowed choice ps) ≡ ps
choice_members [] h = refl
choice_members (p ∷ []) h = one_choice p h.0.1
choice_members (p ∷ q ∷ ps) h = list_of-trees_of (p ∷ q ∷ ps)

pub choice_within : (front ps rest : List Tree) → AllByRecursion IsCanonicalPattern ps → choice_step (front ++ (choice_step ps ∷ rest)) ≡ choice_step (front ++ (ps ++ rest))
choice_within front ps rest h =
    let flat = flat_map alternatives in
    let once = sorted_once tree_cmp in
    let opened : alternatives (choice_step ps) ≡ once (flat ps) = choice_members (once (flat ps)) (each_sorted_once (Member AnyName may_choose) tree_cmp (flat ps) (flat_choice AnyName ps h)) in
    ap (node_of not_allowed choice)
    (ap once (flat_map-append alternatives front (choice_step ps ∷ rest) ∙ ap (λ x. flat front ++ (x ++ flat rest)) opened)
    ∙ sorted_once_behind tree_cmp (flat front) (once (flat ps) ++ flat rest) (flat ps ++ flat rest) (sorted_once_within tree_cmp tree_cmp_total tree_same (flat ps) (flat rest))
    ∙ ap once (sym (flat_between alternatives front ps rest)))

-- ---- group and interleave

has_more : (b c d e : Bool) → c ≡ (d || e) → (b || c) ≡ ((b || d) || e)
has_more true c d e h = refl
has_more false c d e h = h

has-append : (ps qs : List Tree) → has_not_allowed (ps ++ qs) ≡ (has_not_allowed ps || has_not_allowed qs)
has-append [] qs = refl
has-append (p ∷ ps) qs = has_more (is_not_allowed p) (has_not_allowed (ps ++ qs)) (has_not_allowed ps) (has_not_allowed qs) (has-append ps qs)

module _ (order : List Tree → List Tree) (over : Trees → Tree) (inside : Tree → List Tree)
    (between : (front ps rest : List Tree) → order (front ++ (order ps ++ rest)) ≡ order (front ++ (ps ++ rest))) where
  abbrev node : List Tree → Tree
  node ps = node_of empty over (order (flat_map inside ps))

  abbrev step : List Tree → Tree
  step ps = cond (has_not_allowed ps) not_allowed (node ps)

  forbidden : (ps : List Tree) → has_not_allowed ps ≡ true → step ps ≡ not_allowed
  forbidden ps e = ap (λ b. cond b not_allowed (node ps)) e

  same_step : (ps qs : List Tree) → has_not_allowed ps ≡ has_not_allowed qs → node ps ≡ node qs → step ps ≡ step qs
  same_step ps qs e f = λ i. cond (e i) not_allowed (f i)

  within_at : (b : Bool) (front ps rest : List Tree) → has_not_allowed ps ≡ b
      → (b ≡ false → (is_not_allowed (node ps) ≡ false) × (inside (node ps) ≡ order (flat_map inside ps)))
      → step (front ++ (cond b not_allowed (node ps) ∷ rest)) ≡ step (front ++ (ps ++ rest))
  within_at true front ps rest e h =
      forbidden (front ++ (not_allowed ∷ rest)) (has-append front (not_allowed ∷ rest) ∙ or_right (has_not_allowed front) true refl)
      ∙ sym (forbidden (front ++ (ps ++ rest)) (has-append front (ps ++ rest) ∙ ap (λ b. has_not_allowed front || b) (has-append ps rest ∙ ap (λ b. b || has_not_allowed rest) e) ∙ or_right (has_not_allowed front) true refl))
  within_at false front ps rest e h =
      let flat = flat_map inside in
      same_step (front ++ (node ps ∷ rest)) (front ++ (ps ++ rest))
      (has-append front (node ps ∷ rest) ∙ ap (λ b. has_not_allowed front || (b || has_not_allowed rest)) ((h refl).0 ∙ sym e) ∙ ap (λ b. has_not_allowed front || b) (sym (has-append ps rest)) ∙ sym (has-append front (ps ++ rest)))
      (ap (node_of empty over)
      (ap order (flat_map-append inside front (node ps ∷ rest) ∙ ap (λ x. flat front ++ (x ++ flat rest)) (h refl).1)
      ∙ between (flat front) (flat ps) (flat rest)
      ∙ ap order (sym (flat_between inside front ps rest))))

  within : (front ps rest : List Tree) → (has_not_allowed ps ≡ false → (is_not_allowed (node ps) ≡ false) × (inside (node ps) ≡ order (flat_map inside ps)))
      → step (front ++ (step ps ∷ rest)) ≡ step (front ++ (ps ++ rest))
  within front ps rest h = within_at (has_not_allowed ps) front ps rest refl h

pub one_group : (p : Tree) → may_group p ≡ true → (is_not_allowed p ≡ false) × (grouped p ≡ p ∷ [])
one_group not_allowed h = absurd (false≢true h)
one_group empty h = absurd (false≢true h)
one_group (group ps) h = absurd (false≢true h)
one_group p h = (refl, refl)

group_members : (ps : List Tree) → AllByRecursion (Member AnyName may_group) ps → (is_not_allowed (node_of empty group ps) ≡ false) × (grouped (node_of empty group ps) ≡ ps)
group_members [] h = (refl, refl)
group_members (p ∷ []) h = one_group p h.0.1
group_members (p ∷ q ∷ ps) h = (refl, list_of-trees_of (p ∷ q ∷ ps))

pub group_within : (front ps rest : List Tree) → AllByRecursion IsCanonicalPattern ps → group_step (front ++ (group_step ps ∷ rest)) ≡ group_step (front ++ (ps ++ rest))
group_within front ps rest h =
    within (λ xs. xs) group grouped (λ _ _ _. refl) front ps rest (λ e. group_members (flat_map grouped ps) (flat_group AnyName ps (each_allowed AnyName ps h e)))

pub one_interleave : (p : Tree) → may_interleave p ≡ true → (is_not_allowed p ≡ false) × (interleaved p ≡ p ∷ [])
one_interleave not_allowed h = absurd (false≢true h)
one_interleave empty h = absurd (false≢true h)
one_interleave (interleave ps) h = absurd (false≢true h)
one_interleave p h = (refl, refl)

interleave_members : (ps : List Tree) → AllByRecursion (Member AnyName may_interleave) ps
    → (is_not_allowed (node_of empty interleave ps) ≡ false) × (interleaved (node_of empty interleave ps) ≡ ps)
interleave_members [] h = (refl, refl)
interleave_members (p ∷ []) h = one_interleave p h.0.1
interleave_members (p ∷ q ∷ ps) h = (refl, list_of-trees_of (p ∷ q ∷ ps))

pub interleave_within : (front ps rest : List Tree) → AllByRecursion IsCanonicalPattern ps → interleave_step (front ++ (interleave_step ps ∷ rest)) ≡ interleave_step (front ++ (ps ++ rest))
interleave_within front ps rest h =
    let order = sorted tree_cmp in
    within order interleave interleaved
    (λ front ps rest. sorted_behind tree_cmp front (order ps ++ rest) (ps ++ rest) (sorted_within tree_cmp tree_cmp_total tree_same ps rest))
    front ps rest
    (λ e. interleave_members (order (flat_map interleaved ps)) (each_sorted (Member AnyName may_interleave) tree_cmp (flat_map interleaved ps) (flat_interleave AnyName ps (each_allowed AnyName ps h e))))
