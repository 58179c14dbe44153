-- However components are paired up and in whatever order, what is combined of them matches the same.
use Rattle.std.proofs.Common.{◌≡◌, ◌↔◌, ℕ, zero, suc, Bool, true, false, ◌||◌, cond, not, List, [], ◌∷◌, ◌++◌, length, map, arith, Option, Some, None, refl, sym, ap, ◌∙◌, subst}
use Rattle.std.specs.Prelude.{bytes_eq, IsSomeAnd, MatchOption, IsPermutation, filter}
use Rattle.std.specs.Map.{lookup}
use Rattle.std.specs.Cmp.Lexicographic.{bytes_decides}
use Rattle.std.proofs.lemmas.Bool.{false≢true}
use Rattle.std.proofs.lemmas.List.Sorted.{length_permutation}
use Rattle.rn_pattern.specs.Tree.{Tree, Trees, interleave, choice, trees_of}
use Rattle.rn_text.specs.Texts.{Text}
use Rattle.rn_pattern.specs.Document.{Attribute, Item}
use Rattle.rn_pattern.specs.Datatype.{Table}
use Rattle.rn_pattern.specs.Matching.{Matches, Grammar, definition_of, MatchesWithin, IsValid, Meaning}
use Rattle.rn_assemble.specs.Components.{Key, start_key, name_key, Component, same_key}
use Rattle.rn_assemble.specs.Combine.{of_key, bodies, method_node, PairedUp, alone, paired, Combines, IsCombination, joined_tree, joined_pattern, first_of, defined_names, joined_grammar}
use Rattle.rn_pattern.proofs.Matches.Compositions.{Content, Matching}
use Rattle.rn_pattern.proofs.Matches.Pairings.{paired_choice, paired_interleave, some_permuted, side_permuted}
use Rattle.rn_pattern.proofs.Matches.StepsKeep.{list_of-trees_of, SomeOf, some_of_trees, trees_of_some}
use Rattle.rn_pattern.proofs.Matches.Alike.{Alike, refers_alike, alike_then}
use Rattle.std.specs.List.{list_any}
use Rattle.rn_pattern.proofs.Matches.OpenedKeeps.{one_or_choice, one_or_interleave, Side}

-- by the number of its parts
abbrev pub some_joined : (Trees → Tree) → List Tree → Option Tree
some_joined over [] = None
some_joined over (p ∷ ps) = Some (joined_tree over (p ∷ ps))

abbrev pub is_some : List Tree → Bool
is_some [] = false
is_some (p ∷ ps) = true

pub same_text : (x y : Text) → bytes_eq x y ≡ true → x ≡ y
same_text x y e = (bytes_decides x y).0 e

lookup_name_at : (b : Bool) (x y : Text) (f : Text → Tree) (r : Bool) (o : Option Tree) → bytes_eq x y ≡ b → o ≡ cond r (Some (f x)) None → cond b (Some (f y)) o ≡ cond (b || r) (Some (f x)) None
lookup_name_at true x y f r o e h = ap (λ t. Some (f t)) (sym (same_text x y e))
lookup_name_at false x y f r o e h = h

pub lookup_name : (x : Text) (f : Text → Tree) (xs : List Text) → lookup (bytes_eq x) (map (λ y. (y, f y)) xs) ≡ cond (list_any (bytes_eq x) xs) (Some (f x)) None
lookup_name x f [] = refl
lookup_name x f (y ∷ ys) = lookup_name_at (bytes_eq x y) x y f (list_any (bytes_eq x) ys) (lookup (bytes_eq x) (map (λ y. (y, f y)) ys)) refl (lookup_name x f ys)

among_filter_at : (b : Bool) (x y z : Text) (zs : List Text) → bytes_eq y z ≡ b → bytes_eq x y ≡ false → list_any (bytes_eq x) (filter (λ t. not (bytes_eq y t)) zs) ≡ list_any (bytes_eq x) zs
    → list_any (bytes_eq x) (cond (not b) (z ∷ filter (λ t. not (bytes_eq y t)) zs) (filter (λ t. not (bytes_eq y t)) zs)) ≡ (bytes_eq x z || list_any (bytes_eq x) zs)
among_filter_at true x y z zs e n h = h ∙ ap (λ c. c || list_any (bytes_eq x) zs) (sym n ∙ ap (bytes_eq x) (same_text y z e))
among_filter_at false x y z zs e n h = ap (λ c. bytes_eq x z || c) h

among_filter : (x y : Text) (zs : List Text) → bytes_eq x y ≡ false → list_any (bytes_eq x) (filter (λ t. not (bytes_eq y t)) zs) ≡ list_any (bytes_eq x) zs
among_filter x y [] n = refl
among_filter x y (z ∷ zs) n = among_filter_at (bytes_eq y z) x y z zs refl n (among_filter x y zs n)

named_at : (b : Bool) (x y : Text) (ys : List Text) (c : Component) (cs : List Component) → bytes_eq x y ≡ b → list_any (bytes_eq x) ys ≡ is_some (map (λ (d : Component). d.body) cs)
    → (b || list_any (bytes_eq x) (filter (λ t. not (bytes_eq y t)) ys)) ≡ is_some (map (λ (d : Component). d.body) (cond b (c ∷ cs) cs))
named_at true x y ys c cs e h = refl
named_at false x y ys c cs e h = among_filter x y ys e ∙ h

named_by : (k : Key) (x : Text) (ys : List Text) (c : Component) (cs : List Component) → list_any (bytes_eq x) ys ≡ is_some (map (λ (d : Component). d.body) cs)
    → list_any (bytes_eq x) (first_of k ys) ≡ is_some (map (λ (d : Component). d.body) (cond (same_key (name_key x) k) (c ∷ cs) cs))
named_by start_key x ys c cs h = h
named_by (name_key y) x ys c cs h = named_at (bytes_eq x y) x y ys c cs refl h

-- a name is defined where it has a component
pub named : (x : Text) (cs : List Component) → list_any (bytes_eq x) (defined_names cs) ≡ is_some (bodies (name_key x) cs)
named x [] = refl
named x (c ∷ cs) = named_by c.key x (defined_names cs) c (of_key (name_key x) cs) (named x cs)

some_at : (over : Trees → Tree) (ps : List Tree) → cond (is_some ps) (Some (joined_tree over ps)) None ≡ some_joined over ps
some_at over [] = refl
some_at over (p ∷ ps) = refl

pub joined_definition : (cs : List Component) (x : Text) → definition_of (joined_grammar cs) x ≡ some_joined (method_node (name_key x) cs) (bodies (name_key x) cs)
joined_definition cs x =
    lookup_name x (λ y. joined_pattern cs (name_key y)) (defined_names cs) ∙ ap (λ b. cond b (Some (joined_pattern cs (name_key x))) None) (named x cs) ∙ some_at (method_node (name_key x) cs) (bodies (name_key x) cs)

module _ (T : Table) (μ : Meaning) where
  abbrev M : Tree → Content → Type 0
  M = Matching T μ

  join_choice : (ps : List Tree) (a : List Attribute) (m : List Item) → Matches T μ a m (joined_tree choice ps) ↔ SomeOf T μ a m ps
  join_choice ps a m = (
    λ h. subst (λ (x : List Tree). SomeOf T μ a m x) (list_of-trees_of ps) (some_of_trees T μ a m (trees_of ps) ((one_or_choice T μ (trees_of ps) a m).0 h)),
    λ h. (one_or_choice T μ (trees_of ps) a m).1 (trees_of_some T μ a m (trees_of ps) (subst (λ (x : List Tree). SomeOf T μ a m x) (sym (list_of-trees_of ps)) h)),
  )

  join_interleave : (ps : List Tree) (s : Content) → M (joined_tree interleave ps) s ↔ Side T μ ps s
  join_interleave ps s = (
    λ h. subst (λ (x : List Tree). Side T μ x s) (list_of-trees_of ps) ((one_or_interleave T μ (trees_of ps) s).0 h),
    λ h. (one_or_interleave T μ (trees_of ps) s).1 (subst (λ (x : List Tree). Side T μ x s) (sym (list_of-trees_of ps)) h),
  )

  combined_at : (b : Bool) (ps qs : List Tree) (p : Tree) → IsPermutation ps qs → PairedUp (λ ts. cond b (interleave ts) (choice ts)) ps p → Alike T μ μ p (joined_tree (λ ts. cond b (interleave ts) (choice ts)) qs)
  combined_at true ps qs p e v a m = (
    λ h. (join_interleave qs (a, m)).1 ((side_permuted T μ ps qs (a, m) e).0 ((paired_interleave T μ ps p v (a, m)).0 h)),
    λ h. (paired_interleave T μ ps p v (a, m)).1 ((side_permuted T μ ps qs (a, m) e).1 ((join_interleave qs (a, m)).0 h)),
  )
  combined_at false ps qs p e v a m = (
    λ h. (join_choice qs a m).1 ((some_permuted T μ ps qs a m e).0 ((paired_choice T μ ps p v a m).0 h)),
    λ h. (paired_choice T μ ps p v a m).1 ((some_permuted T μ ps qs a m e).1 ((join_choice qs a m).0 h)),
  )

  -- what combines the components of a key matches what the joined node does
  pub combined_alike : (cs : List Component) (k : Key) (p : Tree) → Combines cs k p → Alike T μ μ p (joined_pattern cs k)
  combined_alike cs k p (ps, e, v) = combined_at _ ps (bodies k cs) p e v

paired_some : (over : Trees → Tree) (ps : List Tree) (p : Tree) → PairedUp over ps p → is_some ps ≡ true
paired_some over ps p alone = refl
paired_some over ts t (paired {ps = ps} {qs = qs} {p = p} v w) = some_front ps qs (paired_some over ps p v)
  where
    some_front : (ps qs : List Tree) → is_some ps ≡ true → is_some (ps ++ qs) ≡ true
    some_front [] qs h = absurd (false≢true h)
    some_front (p ∷ ps) qs h = refl

same_length : (ps qs : List Tree) → length ps ≡ length qs → is_some ps ≡ is_some qs
same_length [] [] h = refl
same_length [] (q ∷ qs) h = absurd (omega (arith, h))
same_length (p ∷ ps) [] h = absurd (omega (arith, h))
same_length (p ∷ ps) (q ∷ qs) h = refl

some_there : (over : Trees → Tree) (ps : List Tree) → is_some ps ≡ true → some_joined over ps ≡ Some (joined_tree over ps)
some_there over [] h = absurd (false≢true h)
some_there over (p ∷ ps) h = refl

combines_some : (cs : List Component) (k : Key) (p : Tree) → Combines cs k p → some_joined (method_node k cs) (bodies k cs) ≡ Some (joined_pattern cs k)
combines_some cs k p (ps, e, v) = some_there (method_node k cs) (bodies k cs) (sym (same_length ps (bodies k cs) (sym (length_permutation ps (bodies k cs) e))) ∙ paired_some (method_node k cs) ps p v)

module _ (T : Table) (cs : List Component) (C : Grammar) (c : IsCombination cs C) where
  abbrev J : Grammar
  J = joined_grammar cs

  combined_definition : (n : ℕ) (x : Text) (a : List Attribute) (m : List Item) (o : Option Tree) → MatchOption o (bodies (name_key x) cs ≡ []) (λ p. Combines cs (name_key x) p)
      → ((y : Text) (b : List Attribute) (k : List Item) → MatchesWithin n C T y b k ↔ MatchesWithin n J T y b k)
      → IsSomeAnd o (λ p. Matches T (MatchesWithin n C T) a m p) ↔ IsSomeAnd (some_joined (method_node (name_key x) cs) (bodies (name_key x) cs)) (λ p. Matches T (MatchesWithin n J T) a m p)
  combined_definition n x a m None e ih = (λ h. absurd h, λ h. subst (λ (ps : List Tree). IsSomeAnd (some_joined (method_node (name_key x) cs) ps) (λ p. Matches T (MatchesWithin n J T) a m p)) e h)
  combined_definition n x a m (Some p) e ih =
      let same = alike_then T (MatchesWithin n C T) (MatchesWithin n J T) p (joined_pattern cs (name_key x)) (joined_pattern cs (name_key x)) (combined_alike T (MatchesWithin n C T) cs (name_key x) p e)
      (refers_alike T (MatchesWithin n C T) (MatchesWithin n J T) (joined_pattern cs (name_key x)) (λ y _. ih y)) in
      subst (λ (o : Option Tree). Matches T (MatchesWithin n C T) a m p ↔ IsSomeAnd o (λ q. Matches T (MatchesWithin n J T) a m q)) (sym (combines_some cs (name_key x) p e)) (same a m)

  pub combined_within : (n : ℕ) (x : Text) (a : List Attribute) (m : List Item) → MatchesWithin n C T x a m ↔ MatchesWithin n J T x a m
  combined_within zero x a m = (λ h. h, λ h. h)
  combined_within (suc n) x a m =
      subst (λ (o : Option Tree). MatchesWithin (suc n) C T x a m ↔ IsSomeAnd o (λ p. Matches T (MatchesWithin n J T) a m p)) (sym (joined_definition cs x))
      (combined_definition n x a m (definition_of C x) (c.definitions x) (combined_within n))

  start_alike : (n : ℕ) → Alike T (MatchesWithin n C T) (MatchesWithin n J T) C.start J.start
  start_alike n =
      alike_then T (MatchesWithin n C T) (MatchesWithin n J T) C.start J.start J.start (combined_alike T (MatchesWithin n C T) cs start_key C.start c.start)
      (refers_alike T (MatchesWithin n C T) (MatchesWithin n J T) J.start (λ y _. combined_within n y))

  -- each combination of the components accepts the documents of the joined grammar
  pub combined_valid : (doc : Item) → IsValid C T doc ↔ IsValid J T doc
  combined_valid doc = (λ v. (v.0, (start_alike v.0 [] (doc ∷ [])).0 v.1), λ v. (v.0, (start_alike v.0 [] (doc ∷ [])).1 v.1))
