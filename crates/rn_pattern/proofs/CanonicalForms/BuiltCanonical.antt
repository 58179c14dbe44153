-- What is made of canonical patterns is canonical, and so are the patterns of a store.
use Rattle.std.proofs.Common.{◌≡◌, List, [], ◌∷◌, map, length, Bool, IsTrue, Option, Some, None, inl, inr, sym, ap, ◌∙◌, subst, arith}
use Rattle.std.specs.Prelude.{◌⊎◌, All, IfSome}
use Rattle.std.specs.Option.{option_map}
use Rattle.std.specs.List.{AllByRecursion}
use Rattle.std.proofs.lemmas.List.Elements.{recursion_from_All}
use Rattle.rn_pattern.specs.Tree.{Parameters, Tree}
use Rattle.rn_text.specs.Texts.{Text}
use Rattle.rn_pattern.specs.Canonical.{choice_step, group_step, interleave_step}
use Rattle.rn_pattern.specs.CanonicalShape.{AnyName, IsCanonicalPattern}
use Rattle.rn_pattern.specs.inside.Stored.{knows, tree_at}
use Rattle.rn_pattern.specs.Store.{AddsOnly, KeepsTrees, StandsFor, datum_step}
use Rattle.rn_pattern.specs.Built.{IsMade, is_not_allowed, is_empty, is_text, is_reference, is_value, is_datum, is_list, is_attribute, is_element, is_choice, is_group, is_interleave, is_one_or_more, HoldsCanonical, StaysCanonical}
use Rattle.rn_pattern.specs.declared.node.NodeId.{NodeId}
use Rattle.rn_pattern.proofs.CanonicalForms.CanonicalForm.{canonical_name_is, choice_canonical, group_canonical, interleave_canonical, one_or_more_canonical, list_canonical, attribute_canonical, datum_but_canonical}
use Rattle.rn_pattern.proofs.Stores.NodeTrees.{knows_place, place_known}

pub choice_of_canonical : (ps : List Tree) → All IsCanonicalPattern ps → IsCanonicalPattern (choice_step ps)
choice_of_canonical ps h = choice_canonical AnyName ps (recursion_from_All IsCanonicalPattern ps h)

pub group_of_canonical : (ps : List Tree) → All IsCanonicalPattern ps → IsCanonicalPattern (group_step ps)
group_of_canonical ps h = group_canonical AnyName ps (recursion_from_All IsCanonicalPattern ps h)

pub interleave_of_canonical : (ps : List Tree) → All IsCanonicalPattern ps → IsCanonicalPattern (interleave_step ps)
interleave_of_canonical ps h = interleave_canonical AnyName ps (recursion_from_All IsCanonicalPattern ps h)

datum_of_canonical : (library type : Text) (params : Parameters) (o : Option Tree) → IfSome o IsCanonicalPattern → IsCanonicalPattern (datum_step library type params o)
datum_of_canonical library type params None h = tt
datum_of_canonical library type params (Some p) h = datum_but_canonical AnyName library type params p h

module _ {I : Type 0} (known : I → Bool) (tree_of : I → Tree) (holds : HoldsCanonical known tree_of) where
  members_canonical : (is : List I) → AllByRecursion (λ i. IsTrue (known i)) is → AllByRecursion IsCanonicalPattern (map tree_of is)
  members_canonical [] h = tt
  members_canonical (i ∷ is) h = (holds i h.0, members_canonical is h.1)

  members_are : (is : List I) → All (λ i. IsTrue (known i)) is → AllByRecursion IsCanonicalPattern (map tree_of is)
  members_are is h = members_canonical is (recursion_from_All (λ i. IsTrue (known i)) is h)

  except_canonical : (o : Option I) → IfSome o (λ i. IsTrue (known i)) → IfSome (option_map tree_of o) IsCanonicalPattern
  except_canonical None h = tt
  except_canonical (Some i) h = holds i h

  made_canonical : (t : Tree) → IsMade known tree_of t → IsCanonicalPattern t
  made_canonical t is_not_allowed = tt
  made_canonical t is_empty = tt
  made_canonical t is_text = tt
  made_canonical t (is_reference x) = tt
  made_canonical t (is_value library type s) = tt
  made_canonical t (is_datum library type params o h) = datum_of_canonical library type params (option_map tree_of o) (except_canonical o h)
  made_canonical t (is_list i h) = list_canonical AnyName (tree_of i) (holds i h)
  made_canonical t (is_attribute c i h) = attribute_canonical AnyName _ (tree_of i) (canonical_name_is c) (holds i h)
  made_canonical t (is_element c i h) = (canonical_name_is c, holds i h)
  made_canonical t (is_choice is h) = choice_canonical AnyName (map tree_of is) (members_are is h)
  made_canonical t (is_group is h) = group_canonical AnyName (map tree_of is) (members_are is h)
  made_canonical t (is_interleave is h) = interleave_canonical AnyName (map tree_of is) (members_are is h)
  made_canonical t (is_one_or_more i h) = one_or_more_canonical AnyName (tree_of i) (holds i h)

  -- the ids of a store that keeps its ids, and knows no other but the answered one
  answered_canonical : (known' : I → Bool) (tree_of' : I → Tree) (t : Tree) (answer : I) → IsMade known tree_of t → KeepsTrees known tree_of known' tree_of' → AddsOnly known known' answer → StandsFor known' tree_of' t answer → HoldsCanonical known' tree_of'
  answered_canonical known' tree_of' t answer made keeps adds stands i k = by (adds i k)
    where
      by : IsTrue (known i) ⊎ (i ≡ answer) → IsCanonicalPattern (tree_of' i)
      by (inl h) = subst IsCanonicalPattern (sym (keeps i h).1) (holds i h)
      by (inr e) = subst IsCanonicalPattern (sym (ap tree_of' e ∙ stands.1)) (made_canonical t made)

-- stores whose ids are the places of a list of trees
module _ {S : Type 0} (trees : S → List Tree) where
  none_known : (s : S) → length (trees s) ≡ 0 → (i : NodeId) → IsTrue (knows (trees s) i) → ⊥
  none_known s e i h = omega (arith, e, knows_place (trees s) i h)

  pub stays_canonical : StaysCanonical (λ s i. knows (trees s) i) (λ s i. tree_at (trees s) i) (λ s. length (trees s))
  stays_canonical = record {
    at_first = λ s e i h. absurd (none_known s e i h);
    answered = λ old new t answer holds made keeps adds stands. answered_canonical (knows (trees old)) (tree_at (trees old)) holds (knows (trees new)) (tree_at (trees new)) t answer made keeps adds stands;
    refused = λ old new holds keeps e i h.
        let known : IsTrue (knows (trees old) i) = place_known (trees old) i (omega (arith, e, knows_place (trees new) i h)) in
        subst IsCanonicalPattern (sym (keeps i known).1) (holds i known);
  }
