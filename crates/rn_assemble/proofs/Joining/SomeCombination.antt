-- Components with a start have a combination.
use Rattle.std.proofs.Common.{◌≡◌, Bool, true, false, ◌||◌, cond, List, [], ◌∷◌, map, None, Some, Option, refl, sym, ap, ◌∙◌, subst}
use Rattle.std.specs.Prelude.{IsPermutation, MatchOption}
use Rattle.std.proofs.lemmas.Bool.{false≢true}
use Rattle.std.proofs.lemmas.List.Sorted.{IsPermutation-refl}
use Rattle.rn_pattern.specs.Tree.{Tree, Trees, trees_of}
use Rattle.rn_text.specs.Texts.{Text}
use Rattle.rn_pattern.specs.Matching.{Grammar, definition_of}
use Rattle.rn_pattern.specs.Opened.{pair}
use Rattle.rn_assemble.specs.Components.{Key, start_key, name_key, Component, has_key, same_key}
use Rattle.rn_assemble.specs.Combine.{of_key, bodies, method_node, PairedUp, alone, paired, Combines, IsCombination, defined_names}
use Rattle.rn_assemble.proofs.Combined.Combinations.{is_some, lookup_name, named}

-- the leaves put together from the front
abbrev paired_of : (Trees → Tree) → Tree → List Tree → Tree
paired_of over p [] = p
paired_of over p (q ∷ qs) = over (pair p (paired_of over q qs))

paired_up : (over : Trees → Tree) (p : Tree) (ps : List Tree) → PairedUp over (p ∷ ps) (paired_of over p ps)
paired_up over p [] = alone
paired_up over p (q ∷ qs) = paired alone (paired_up over q qs)

abbrev all_paired : (Trees → Tree) → List Tree → Tree
all_paired over [] = over (trees_of [])
all_paired over (p ∷ ps) = paired_of over p ps

all_paired_up : (over : Trees → Tree) (ps : List Tree) → is_some ps ≡ true → (qs : List Tree) × IsPermutation qs ps × PairedUp over qs (all_paired over ps)
all_paired_up over [] h = absurd (false≢true h)
all_paired_up over (p ∷ ps) h = (p ∷ ps, IsPermutation-refl (p ∷ ps), paired_up over p ps)

no_trees_there : (ps : List Tree) → is_some ps ≡ false → ps ≡ []
no_trees_there [] e = refl
no_trees_there (p ∷ ps) e = absurd (false≢true (sym e))

keyed_at : (b : Bool) (c : Component) (cs : List Component) (r : Bool) → r ≡ is_some (map (λ (d : Component). d.body) cs) → (b || r) ≡ is_some (map (λ (d : Component). d.body) (cond b (c ∷ cs) cs))
keyed_at true c cs r e = refl
keyed_at false c cs r e = e

keyed : (k : Key) (cs : List Component) → has_key k cs ≡ is_some (bodies k cs)
keyed k [] = refl
keyed k (c ∷ cs) = keyed_at (same_key k c.key) c (of_key k cs) (has_key k cs) (keyed k cs)

module _ (cs : List Component) where
  abbrev put_together : Key → Tree
  put_together k = all_paired (method_node k cs) (bodies k cs)

  abbrev together : Grammar
  together = record { start = put_together start_key; definitions = map (λ (x : Text). (x, put_together (name_key x))) (defined_names cs) }

  combines_all : (k : Key) → is_some (bodies k cs) ≡ true → Combines cs k (put_together k)
  combines_all k h = all_paired_up (method_node k cs) (bodies k cs) h

  together_at : (x : Text) (b : Bool) → is_some (bodies (name_key x) cs) ≡ b → MatchOption (cond b (Some (put_together (name_key x))) None) (bodies (name_key x) cs ≡ []) (λ p. Combines cs (name_key x) p)
  together_at x true e = combines_all (name_key x) e
  together_at x false e = no_trees_there (bodies (name_key x) cs) e

  together_definition : (x : Text) → definition_of together x ≡ cond (is_some (bodies (name_key x) cs)) (Some (put_together (name_key x))) None
  together_definition x = lookup_name x (λ y. put_together (name_key y)) (defined_names cs) ∙ ap (λ b. cond b (Some (put_together (name_key x))) None) (named x cs)

  pub some_combination : has_key start_key cs ≡ true → (C : Grammar) × IsCombination cs C
  some_combination h = (
    together,
    record {
      start = combines_all start_key (sym (keyed start_key cs) ∙ h);
      definitions = λ x. subst (λ (o : Option Tree). MatchOption o (bodies (name_key x) cs ≡ []) (λ p. Combines cs (name_key x) p)) (sym (together_definition x)) (together_at x (is_some (bodies (name_key x) cs)) refl);
    },
  )
