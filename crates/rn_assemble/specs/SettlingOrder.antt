-- An order in which the definitions of a grammar can be settled: each behind those that it refers to outside elements (RELAX NG 2001, 4.19).
use Rattle.std.specs.Prelude.{◌≡◌, ◌≢◌, ℕ, Bool, true, ◌<◌, List, length, map, position, take, slice_index_or, Option, Some, bytes_eq, nat_eq}
use Rattle.std.specs.List.{list_any}
use Rattle.std.specs.Map.{lookup}
use Rattle.rn_text.specs.Texts.{Text}
use Rattle.rn_pattern.specs.Matching.{Grammar}
use Rattle.rn_pattern.specs.Reached.{IsReached}
use Rattle.rn_pattern.specs.References.{RefersOutside}
use Rattle.rn_pattern.specs.Tree.{Tree}

-- the place of the name's definition
abbrev pub number_of : List (Text × Tree) → Text → Option ℕ
number_of ds x = position (bytes_eq x) (map (λ d. d.0) ds)

-- whether the number is one of them
abbrev pub holds : List ℕ → ℕ → Bool
holds ns k = list_any (nat_eq k) ns

-- numbers of definitions, each once: exactly those that are reached, each behind those that its definition refers to outside elements
pub record IsSettlingOrder (G : Grammar) (order : List ℕ) : Type 0 where
  pub within : (i : ℕ) → i < length order → slice_index_or order i 0 < length G.definitions
  pub once : (i j : ℕ) → i < j → j < length order → slice_index_or order i 0 ≢ slice_index_or order j 0
  pub listed : (x : Text) (k : ℕ) → IsReached G x → number_of G.definitions x ≡ Some k → holds order k ≡ true
  pub reached : (i : ℕ) (x : Text) → i < length order → number_of G.definitions x ≡ Some (slice_index_or order i 0) → ∥ IsReached G x ∥₁
  pub behind : (i k : ℕ) (x y : Text) (p : Tree) → i < length order → number_of G.definitions x ≡ Some (slice_index_or order i 0) → lookup (bytes_eq x) G.definitions ≡ Some p → RefersOutside y p
      → number_of G.definitions y ≡ Some k → holds (take i order) k ≡ true
