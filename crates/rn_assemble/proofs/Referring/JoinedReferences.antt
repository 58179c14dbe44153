-- What is joined of components refers to what one of them refers to.
use Rattle.std.proofs.Common.{◌≡◌, ◌⊎◌, inl, inr, ⊎_elim, Bool, true, false, cond, List, [], ◌∷◌, Option, Some, None, sym, subst, arith, Contains}
use Rattle.std.specs.Prelude.{IsSomeAnd}
use Rattle.rn_pattern.specs.Tree as tree
use Rattle.rn_pattern.specs.Tree.{Tree, Trees, interleave, choice, no_trees, more_trees, trees_of}
use Rattle.rn_text.specs.Texts.{Text}
use Rattle.rn_pattern.specs.Matching.{Grammar, definition_of}
use Rattle.rn_pattern.specs.Reached.{RefersTo, SomeRefersTo}
use Rattle.rn_pattern.specs.References.{RefersOutside, SomeRefersOutside}
use Rattle.rn_pattern.proofs.Ordered.InOrder.{contains_behind, contains_front, contains_cases}
use Rattle.rn_assemble.specs.Components.{Key, name_key, Component}
use Rattle.rn_assemble.specs.Combine.{bodies, method_node, uses, is_interleave, joined_tree, joined_pattern, joined_grammar}
use Rattle.rn_assemble.proofs.Combined.Combinations.{some_joined, joined_definition}

module _ (R : Tree → Type 0) (S : Trees → Type 0) (none : S no_trees → ⊥) (split : (p : Tree) (ps : Trees) → S (more_trees p ps) → R p ⊎ S ps) (some : (p : Tree) (ps : Trees) → R p ⊎ S ps → S (more_trees p ps))
    (to_choice : (ps : Trees) → S ps → R (choice ps)) (of_choice : (ps : Trees) → R (choice ps) → S ps)
    (to_interleave : (ps : Trees) → S ps → R (interleave ps)) (of_interleave : (ps : Trees) → R (interleave ps) → S ps) where
  member : (ps : List Tree) → S (trees_of ps) → (p : Tree) × Contains ps p × R p
  member [] s = absurd (none s)
  member (p ∷ ps) s = ⊎_elim (λ r. (p, contains_front p ps, r)) (λ t. let m = member ps t in (m.0, contains_behind p m.0 ps m.1, m.2)) (split p (trees_of ps) s)

  members : (ps : List Tree) (p : Tree) → Contains ps p → R p → S (trees_of ps)
  members [] p c r = absurd (omega (arith, c.1))
  members (q ∷ ps) p c r = ⊎_elim (λ e. some q (trees_of ps) (inl (subst R (sym e) r))) (λ k. some q (trees_of ps) (inr (members ps p k r))) (contains_cases q p ps c)

  of_node : (b : Bool) (ps : Trees) → R (cond b (interleave ps) (choice ps)) → S ps
  of_node true ps r = of_interleave ps r
  of_node false ps r = of_choice ps r

  to_node : (b : Bool) (ps : Trees) → S ps → R (cond b (interleave ps) (choice ps))
  to_node true ps s = to_interleave ps s
  to_node false ps s = to_choice ps s

  of_join : (b : Bool) (ps : List Tree) → R (joined_tree (λ ts. cond b (interleave ts) (choice ts)) ps) → S (trees_of ps)
  of_join b [] r = of_node b no_trees r
  of_join b (p ∷ []) r = some p no_trees (inl r)
  of_join b (p ∷ q ∷ ps) r = of_node b (trees_of (p ∷ q ∷ ps)) r

  to_join : (b : Bool) (ps : List Tree) → S (trees_of ps) → R (joined_tree (λ ts. cond b (interleave ts) (choice ts)) ps)
  to_join b [] s = to_node b no_trees s
  to_join b (p ∷ []) s = ⊎_elim (λ r. r) (λ n. absurd (none n)) (split p no_trees s)
  to_join b (p ∷ q ∷ ps) s = to_node b (trees_of (p ∷ q ∷ ps)) s

  pub of_joined : (cs : List Component) (k : Key) → R (joined_pattern cs k) → (p : Tree) × Contains (bodies k cs) p × R p
  of_joined cs k r = member (bodies k cs) (of_join (uses is_interleave k cs) (bodies k cs) r)

  pub to_joined : (cs : List Component) (k : Key) (p : Tree) → Contains (bodies k cs) p → R p → R (joined_pattern cs k)
  to_joined cs k p c r = to_join (uses is_interleave k cs) (bodies k cs) (members (bodies k cs) p c r)

  -- the definition of a name is what is joined of its components, if there are any
  some_of : (cs : List Component) (k : Key) (o : Option Tree) → some_joined (method_node k cs) (bodies k cs) ≡ o → IsSomeAnd o R → R (joined_pattern cs k)
  some_of cs k o e h = at (method_node k cs) (bodies k cs) (subst (λ o. IsSomeAnd o R) (sym e) h)
    where
      at : (over : Trees → Tree) (ps : List Tree) → IsSomeAnd (some_joined over ps) R → R (joined_tree over ps)
      at over [] h = absurd h
      at over (p ∷ ps) h = h

  pub definition_refers : (cs : List Component) (x : Text) → IsSomeAnd (definition_of (joined_grammar cs) x) R → R (joined_pattern cs (name_key x))
  definition_refers cs x h = some_of cs (name_key x) (definition_of (joined_grammar cs) x) (sym (joined_definition cs x)) h

  pub refers_definition : (cs : List Component) (x : Text) → R (joined_pattern cs (name_key x)) → IsSomeAnd (definition_of (joined_grammar cs) x) R
  refers_definition cs x r = subst (λ o. IsSomeAnd o R) (sym (joined_definition cs x)) (at (method_node (name_key x) cs) (bodies (name_key x) cs) (of_joined cs (name_key x) r) r)
    where
      at : (over : Trees → Tree) (ps : List Tree) → (p : Tree) × Contains ps p × R p → R (joined_tree over ps) → IsSomeAnd (some_joined over ps) R
      at over [] m r = absurd (omega (arith, m.1.1))
      at over (p ∷ ps) m r = r

-- ---- references anywhere, and outside elements

module _ (x : Text) where
  pub refers_of_joined : (cs : List Component) (k : Key) → RefersTo x (joined_pattern cs k) → (p : Tree) × Contains (bodies k cs) p × RefersTo x p
  refers_of_joined = of_joined (RefersTo x) (SomeRefersTo x) (λ h. h) (λ _ _ h. h) (λ _ _ h. h) (λ _ h. h) (λ _ h. h) (λ _ h. h) (λ _ h. h)

  pub refers_to_joined : (cs : List Component) (k : Key) (p : Tree) → Contains (bodies k cs) p → RefersTo x p → RefersTo x (joined_pattern cs k)
  refers_to_joined = to_joined (RefersTo x) (SomeRefersTo x) (λ h. h) (λ _ _ h. h) (λ _ _ h. h) (λ _ h. h) (λ _ h. h) (λ _ h. h) (λ _ h. h)

  pub refers_in_definition : (cs : List Component) (y : Text) → RefersTo x (joined_pattern cs (name_key y)) → IsSomeAnd (definition_of (joined_grammar cs) y) (RefersTo x)
  refers_in_definition = refers_definition (RefersTo x) (SomeRefersTo x) (λ h. h) (λ _ _ h. h) (λ _ _ h. h) (λ _ h. h) (λ _ h. h) (λ _ h. h) (λ _ h. h)

  pub definition_refers_to : (cs : List Component) (y : Text) → IsSomeAnd (definition_of (joined_grammar cs) y) (RefersTo x) → RefersTo x (joined_pattern cs (name_key y))
  definition_refers_to = definition_refers (RefersTo x) (SomeRefersTo x) (λ h. h) (λ _ _ h. h) (λ _ _ h. h) (λ _ h. h) (λ _ h. h) (λ _ h. h) (λ _ h. h)

  pub outside_of_joined : (cs : List Component) (k : Key) → RefersOutside x (joined_pattern cs k) → (p : Tree) × Contains (bodies k cs) p × RefersOutside x p
  outside_of_joined = of_joined (RefersOutside x) (SomeRefersOutside x) (λ h. h) (λ _ _ h. h) (λ _ _ h. h) (λ _ h. h) (λ _ h. h) (λ _ h. h) (λ _ h. h)

  pub outside_to_joined : (cs : List Component) (k : Key) (p : Tree) → Contains (bodies k cs) p → RefersOutside x p → RefersOutside x (joined_pattern cs k)
  outside_to_joined = to_joined (RefersOutside x) (SomeRefersOutside x) (λ h. h) (λ _ _ h. h) (λ _ _ h. h) (λ _ h. h) (λ _ h. h) (λ _ h. h) (λ _ h. h)

  pub outside_in_definition : (cs : List Component) (y : Text) → RefersOutside x (joined_pattern cs (name_key y)) → IsSomeAnd (definition_of (joined_grammar cs) y) (RefersOutside x)
  outside_in_definition = refers_definition (RefersOutside x) (SomeRefersOutside x) (λ h. h) (λ _ _ h. h) (λ _ _ h. h) (λ _ h. h) (λ _ h. h) (λ _ h. h) (λ _ h. h)

  pub definition_refers_outside : (cs : List Component) (y : Text) → IsSomeAnd (definition_of (joined_grammar cs) y) (RefersOutside x) → RefersOutside x (joined_pattern cs (name_key y))
  definition_refers_outside = definition_refers (RefersOutside x) (SomeRefersOutside x) (λ h. h) (λ _ _ h. h) (λ _ _ h. h) (λ _ h. h) (λ _ h. h) (λ _ h. h) (λ _ h. h)

mutual
  -- what is outside elements is anywhere
  pub outside_anywhere : (x : Text) (p : Tree) → RefersOutside x p → RefersTo x p
  outside_anywhere x (tree.ref y) h = h
  outside_anywhere x (tree.datum_but l n ps p) h = outside_anywhere x p h
  outside_anywhere x (tree.list p) h = outside_anywhere x p h
  outside_anywhere x (tree.attribute c p) h = outside_anywhere x p h
  outside_anywhere x (tree.one_or_more p) h = outside_anywhere x p h
  outside_anywhere x (tree.group ps) h = some_outside_anywhere x ps h
  outside_anywhere x (tree.interleave ps) h = some_outside_anywhere x ps h
  outside_anywhere x (tree.choice ps) h = some_outside_anywhere x ps h
  outside_anywhere x p h = absurd h

  some_outside_anywhere : (x : Text) (ps : Trees) → SomeRefersOutside x ps → SomeRefersTo x ps
  some_outside_anywhere x no_trees h = absurd h
  some_outside_anywhere x (more_trees p ps) h = ⊎_elim (λ a. inl (outside_anywhere x p a)) (λ b. inr (some_outside_anywhere x ps b)) h

pub some_definition : (G : Grammar) (x y : Text) (o : Option Tree) → definition_of G y ≡ o → IsSomeAnd o (RefersTo x) → (p : Tree) × (definition_of G y ≡ Some p) × RefersTo x p
some_definition G x y None e h = absurd h
some_definition G x y (Some p) e h = (p, e, h)
