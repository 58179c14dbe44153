-- What renamed components are joined to is what the components are joined to, renamed; and all its URIs are known.
use Rattle.std.proofs.Common.{◌≡◌, ◌<◌, Bool, true, ◌&&◌, cond, List, [], ◌∷◌, map, count_by, refl, sym, ap, ◌∙◌}
use Rattle.std.specs.List.{AllByRecursion, list_any}
use Rattle.std.proofs.lemmas.Simd.{map-map}
use Rattle.std.proofs.lemmas.List.Folds.{fold-map}
use Rattle.rn_text.specs.Texts.{Text}
use Rattle.rn_pattern.specs.Tree.{Tree, Trees, interleave, choice, no_trees, more_trees, trees_of}
use Rattle.rn_syntax.specs.declared.tree.Method.{Method}
use Rattle.rn_assemble.specs.Components.{Key, start_key, name_key, same_key, Component}
use Rattle.rn_assemble.specs.Combine.{of_key, bodies, is_plain, is_choice, is_interleave, uses, IsPlainTwice, IsMixed, method_node, joined_tree, joined_pattern, first_of, defined_names, joined_grammar}
use Rattle.rn_assemble.specs.Renamed.{renamed_tree, renamed_trees, renamed_definition, renamed_grammar, HasKnownUris, HaveKnownUris, IsOfKnownUris}
use Rattle.rn_assemble.proofs.Combined.JoinedProperties.{joined_kept}
use Rattle.rn_assemble.proofs.Renaming.MappedTests.{cond_inside, filter_inside, any_inside}
use Rattle.rn_assemble.proofs.Renaming.RenamedComponents.{renamed_component, renamed_components, HasKnownBody}

module _ (named : Text → Text) where
  of_key-renamed : (k : Key) (cs : List Component)
      → of_key k (renamed_components named cs) ≡ renamed_components named (of_key k cs)
  of_key-renamed k cs = filter_inside (renamed_component named) (λ c. same_key k c.key) (λ c. same_key k c.key) (λ c. refl) cs

  bodies-renamed : (k : Key) (cs : List Component)
      → bodies k (renamed_components named cs) ≡ map (renamed_tree named) (bodies k cs)
  bodies-renamed k cs =
      ap (map (λ (c : Component). c.body)) (of_key-renamed k cs)
      ∙ map-map (λ (c : Component). c.body) (renamed_component named) (of_key k cs)
      ∙ sym (map-map (renamed_tree named) (λ (c : Component). c.body) (of_key k cs))

  uses-renamed : (test : Method → Bool) (k : Key) (cs : List Component)
      → uses test k (renamed_components named cs) ≡ uses test k cs
  uses-renamed test k cs =
      ap (list_any (λ (c : Component). test c.method)) (of_key-renamed k cs)
      ∙ any_inside (renamed_component named) (λ c. test c.method) (λ c. test c.method) (λ c. refl) (of_key k cs)

  pub IsPlainTwice-renamed : (k : Key) (cs : List Component) → IsPlainTwice k (renamed_components named cs) ≡ IsPlainTwice k cs
  IsPlainTwice-renamed k cs =
      let count = ap (count_by (λ (c : Component). is_plain c.method)) (of_key-renamed k cs)
      ∙ fold-map _ (renamed_component named) 0 (of_key k cs) in
      ap (λ n. 1 < n) count

  pub IsMixed-renamed : (k : Key) (cs : List Component) → IsMixed k (renamed_components named cs) ≡ IsMixed k cs
  IsMixed-renamed k cs =
      let choices = uses-renamed is_choice k cs in
      let interleaves = uses-renamed is_interleave k cs in
      λ i. (choices i && interleaves i) ≡ true

  -- ---- joined trees

  pub trees_of-renamed : (ps : List Tree) → trees_of (map (renamed_tree named) ps) ≡ renamed_trees named (trees_of ps)
  trees_of-renamed [] = refl
  trees_of-renamed (p ∷ ps) = ap (more_trees (renamed_tree named p)) (trees_of-renamed ps)

  joined_tree-renamed : (node : Trees → Tree) → ((ts : Trees) → node (renamed_trees named ts) ≡ renamed_tree named (node ts))
      → (ps : List Tree) → joined_tree node (map (renamed_tree named) ps) ≡ renamed_tree named (joined_tree node ps)
  joined_tree-renamed node inside [] = inside no_trees
  joined_tree-renamed node inside (p ∷ []) = refl
  joined_tree-renamed node inside (p ∷ q ∷ ps) =
      ap (λ ts. node (more_trees (renamed_tree named p) (more_trees (renamed_tree named q) ts))) (trees_of-renamed ps)
      ∙ inside (more_trees p (more_trees q (trees_of ps)))

  pub joined_pattern-renamed : (cs : List Component) (k : Key)
      → joined_pattern (renamed_components named cs) k ≡ renamed_tree named (joined_pattern cs k)
  joined_pattern-renamed cs k =
      let interleaves = uses-renamed is_interleave k cs in
      let parts = bodies-renamed k cs in
      let inside = λ (ts : Trees). cond_inside (renamed_tree named) (uses is_interleave k cs) (interleave ts) (choice ts) in
      (λ i. joined_tree (λ ts. cond (interleaves i) (interleave ts) (choice ts)) (parts i))
      ∙ joined_tree-renamed (method_node k cs) inside (bodies k cs)

  defined_names-renamed : (cs : List Component) → defined_names (renamed_components named cs) ≡ defined_names cs
  defined_names-renamed [] = refl
  defined_names-renamed (c ∷ cs) = ap (first_of c.key) (defined_names-renamed cs)

  -- ---- the grammar

  pub joined_grammar-renamed : (cs : List Component)
      → joined_grammar (renamed_components named cs) ≡ renamed_grammar named (joined_grammar cs)
  joined_grammar-renamed cs =
      let start = joined_pattern-renamed cs start_key in
      let names = defined_names-renamed cs in
      let definitions = (λ i. map (λ (x : Text). (x, joined_pattern-renamed cs (name_key x) i)) (names i))
      ∙ sym (map-map (renamed_definition named) (λ (x : Text). (x, joined_pattern cs (name_key x))) (defined_names cs)) in
      λ i. record { start = start i; definitions = definitions i }

module _ (Known : Text → Type 0) where
  all_known : (ps : List Tree) → AllByRecursion (HasKnownUris Known) ps → HaveKnownUris Known (trees_of ps)
  all_known [] h = tt
  all_known (p ∷ ps) h = (h.0, all_known ps h.1)

  pub joined_pattern-known : (cs : List Component) (k : Key) → AllByRecursion (HasKnownBody Known) cs → HasKnownUris Known (joined_pattern cs k)
  joined_pattern-known = joined_kept (HasKnownUris Known) all_known all_known

  definitions-known : (f : Text → Tree) → ((x : Text) → HasKnownUris Known (f x)) → (xs : List Text)
      → AllByRecursion (λ (d : Text × Tree). HasKnownUris Known d.1) (map (λ (x : Text). (x, f x)) xs)
  definitions-known f h [] = tt
  definitions-known f h (x ∷ xs) = (h x, definitions-known f h xs)

  pub joined_grammar-known : (cs : List Component) → AllByRecursion (HasKnownBody Known) cs → IsOfKnownUris Known (joined_grammar cs)
  joined_grammar-known cs h = record {
    start = joined_pattern-known cs start_key h;
    definitions = definitions-known _ (λ x. joined_pattern-known cs (name_key x) h) (defined_names cs);
  }
