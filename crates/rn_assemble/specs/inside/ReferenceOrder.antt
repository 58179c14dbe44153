-- The keys that start reaches, in the order of their references outside elements (RELAX NG 2001, 4.19), and the keys of definitions.
use Rattle.std.specs.Prelude.{◌≡◌, ◌↔◌, ℕ, Bool, true, suc, ◌<◌, List, length, map, take, slice_index_or, Contains, Some, None, nat_eq}
use Rattle.std.specs.List.{AllByRecursion, IsDistinct}
use Rattle.std.specs.List.Sorted.{IsNonDecreasingBy}
use Rattle.rn_text.specs.Texts.{Text}
use Rattle.rn_pattern.specs.Matching.{definition_of}
use Rattle.rn_pattern.specs.Reached.{IsReached}
use Rattle.rn_pattern.specs.References.{RefersOutside}
use Rattle.rn_pattern.specs.Tree.{Tree}
use Rattle.rn_assemble.specs.declared.by_key.settling_order.KeyOrder.{KeyOrder}
use Rattle.rn_assemble.specs.declared.by_key.settling_order.KeyOrder.TheVariants.{Ordered, Recursive}
use Rattle.rn_assemble.specs.Combine.{defined_names, joined_grammar, joined_pattern}
use Rattle.rn_assemble.specs.Components.{Component, name_key}
use Rattle.rn_assemble.specs.inside.Keyed.{IsNameNumber, key_at}
use Rattle.rn_assemble.specs.inside.Views.{key_numbers}
use Rattle.rn_assemble.specs.inside.Referred.{IsLeastRecursive}
use Rattle.rn_graph.specs.Graph.{Reached, is_marked, row}

-- exactly the places that have a mark, each once
pub record ArePlaces (marks : List Bool) (places : List ℕ) : Type 0 where
  pub listed : (k : ℕ) → is_marked marks k ≡ true → Contains places k
  pub only : (k : ℕ) → Contains places k → is_marked marks k ≡ true
  pub once : IsDistinct nat_eq places

-- the places that have a mark, each once, by ranks that do not fall
pub record IsOrderBy (marks : List Bool) (rank : ℕ → ℕ) (order : List ℕ) : Type 0 where
  pub places : ArePlaces marks order
  pub rises : IsNonDecreasingBy rank order

-- the marks are those of the keys that start reaches along these references
abbrev pub AreReached : List (List ℕ) → List Bool → Type 0
AreReached all marks = (k : ℕ) → (is_marked marks k ≡ true) ↔ Reached all (row all 0) k

-- the numbers of the names that start reaches, which are all defined: each once, and behind those of the names that it refers to outside elements
pub record IsReferenceOrder (names : List Text) (cs : List Component) (order : List ℕ) : Type 0 where
  pub reached : (k : ℕ) → Contains order k → (x : Text) × IsNameNumber names x k × IsReached (joined_grammar cs) x
  pub listed : (x : Text) (k : ℕ) → IsReached (joined_grammar cs) x → IsNameNumber names x k → Contains order k
  pub defined : (x : Text) → IsReached (joined_grammar cs) x → (p : Tree) × (definition_of (joined_grammar cs) x ≡ Some p)
  pub once : IsDistinct nat_eq order
  pub behind : (i k : ℕ) (x y : Text) → i < length order → IsNameNumber names x (slice_index_or order i 0) → RefersOutside y (joined_pattern cs (name_key x)) → IsNameNumber names y k → Contains (take i order) k

-- the order, where no key that start reaches comes back to itself, or the least that does
abbrev pub IsKeyOrder : List Text → List Component → KeyOrder → Type 0
IsKeyOrder names cs (Ordered order) = IsLeastRecursive names cs None × IsReferenceOrder names cs (key_numbers order.items)
IsKeyOrder names cs (Recursive k) = IsLeastRecursive names cs (Some k.0)

-- the numbers of the names that the components define, in the order of each one's first component
pub record AreDefinedKeys (names : List Text) (cs : List Component) (keys : List ℕ) : Type 0 where
  pub named : map (key_at names) keys ≡ map name_key (defined_names cs)
  pub within : AllByRecursion (λ k. k < suc (length names)) keys
