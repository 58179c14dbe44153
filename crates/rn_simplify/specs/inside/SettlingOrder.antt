-- The order in which references are settled: each behind those that its definition refers to outside elements (RELAX NG 2001, 4.19).
use Rattle.std.specs.Prelude.{◌≡◌, ℕ, ◌<◌, List, length, take, slice_index_or, Some, Contains, bytes_eq}
use Rattle.std.specs.Map.{lookup}
use Rattle.rn_pattern.specs.Tree.{Tree}
use Rattle.rn_text.specs.Texts.{Text}
use Rattle.rn_pattern.specs.References.{RefersOutside}
use Rattle.rn_assemble.specs.SettlingOrder.{number_of}

-- numbers of definitions, each once, and each behind those of the names that its definition refers to outside elements
pub record IsInOrder (ds : List (Text × Tree)) (order : List ℕ) : Type 0 where
  pub once : (i : ℕ) → i < length order → ¬ Contains (take i order) (slice_index_or order i 0)
  pub behind : (i k : ℕ) (x y : Text) (p : Tree) → i < length order → number_of ds x ≡ Some (slice_index_or order i 0) → lookup (bytes_eq x) ds ≡ Some p → RefersOutside y p → number_of ds y ≡ Some k → Contains (take i order) k
