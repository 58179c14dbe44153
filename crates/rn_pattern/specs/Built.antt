-- What the constructors of a store make, and stores whose patterns are all canonical.
use Rattle.std.specs.Prelude.{◌≡◌, ℕ, List, map, Bool, IsTrue, Option, IfSome}
use Rattle.std.specs.Option.{option_map}
use Rattle.rn_pattern.specs.Tree.{Parameters, NameTree, Tree, not_allowed, empty, text, ref, value, element}
use Rattle.rn_text.specs.Texts.{Text}
use Rattle.rn_pattern.specs.Canonical.{canonical_name, choice_step, group_step, interleave_step, one_or_more_step, list_step, attribute_step}
use Rattle.rn_pattern.specs.CanonicalShape.{IsCanonicalPattern}
use Rattle.rn_pattern.specs.Store.{AddsOnly, KeepsIds, KnowsAll, StandsFor, datum_step}

-- a constructor makes the tree of ids that the store knows
pub data IsMade {I : Type 0} (knows : I → Bool) (tree_of : I → Tree) : Tree → Type 0 where
  is_not_allowed : IsMade knows tree_of not_allowed
  is_empty : IsMade knows tree_of empty
  is_text : IsMade knows tree_of text
  is_reference : (x : Text) → IsMade knows tree_of (ref x)
  is_value : (library type t : Text) → IsMade knows tree_of (value library type t)
  is_datum : (library type : Text) (params : Parameters) (except : Option I) → IfSome except (λ i. IsTrue (knows i)) → IsMade knows tree_of (datum_step library type params (option_map tree_of except))
  is_list : (content : I) → IsTrue (knows content) → IsMade knows tree_of (list_step (tree_of content))
  is_attribute : (c : NameTree) (content : I) → IsTrue (knows content) → IsMade knows tree_of (attribute_step (canonical_name c) (tree_of content))
  is_element : (c : NameTree) (content : I) → IsTrue (knows content) → IsMade knows tree_of (element (canonical_name c) (tree_of content))
  is_choice : (members : List I) → KnowsAll knows members → IsMade knows tree_of (choice_step (map tree_of members))
  is_group : (members : List I) → KnowsAll knows members → IsMade knows tree_of (group_step (map tree_of members))
  is_interleave : (members : List I) → KnowsAll knows members → IsMade knows tree_of (interleave_step (map tree_of members))
  is_one_or_more : (content : I) → IsTrue (knows content) → IsMade knows tree_of (one_or_more_step (tree_of content))

-- each id stands for a canonical pattern
abbrev pub HoldsCanonical : {I : Type 0} → (I → Bool) → (I → Tree) → Type 0
HoldsCanonical {I} knows tree_of = (i : I) → IsTrue (knows i) → IsCanonicalPattern (tree_of i)

-- the stores of a type hold canonical patterns alone: with no id, after a constructor's answer, and after a refusal
pub record StaysCanonical {S I : Type 0} (knows : S → I → Bool) (tree_of : S → I → Tree) (size : S → ℕ) : Type 0 where
  pub at_first : (s : S) → size s ≡ 0 → HoldsCanonical (knows s) (tree_of s)
  pub answered : (old new : S) (t : Tree) (answer : I) → HoldsCanonical (knows old) (tree_of old) → IsMade (knows old) (tree_of old) t
      → KeepsIds knows tree_of old new → AddsOnly (knows old) (knows new) answer → StandsFor (knows new) (tree_of new) t answer → HoldsCanonical (knows new) (tree_of new)
  pub refused : (old new : S) → HoldsCanonical (knows old) (tree_of old) → KeepsIds knows tree_of old new → size new ≡ size old → HoldsCanonical (knows new) (tree_of new)
