-- The names of definitions that the start doesn't reach (RELAX NG 2001, 4.19).
use Rattle.std.specs.Prelude.{◌≡◌, ℕ, Bool, true, false, List, [], ◌∷◌, length, map, Some}
use Rattle.rn_text.specs.Texts.{Text}
use Rattle.rn_graph.specs.Graph.{is_marked}
use Rattle.rn_pattern.specs.Matching.{Grammar}
use Rattle.rn_pattern.specs.Reached.{IsReached}
use Rattle.rn_pattern.specs.Tree.{Tree}
use Rattle.rn_assemble.specs.SettlingOrder.{number_of}

-- marks of definitions, exactly of those that the start reaches
pub record TellReached (G : Grammar) (marks : List Bool) : Type 0 where
  pub size : length marks ≡ length G.definitions
  pub listed : (x : Text) (k : ℕ) → IsReached G x → number_of G.definitions x ≡ Some k → is_marked marks k ≡ true
  pub reached : (x : Text) (k : ℕ) → number_of G.definitions x ≡ Some k → is_marked marks k ≡ true → ∥ IsReached G x ∥₁

abbrev pub names_of_definitions : List (Text × Tree) → List Text
names_of_definitions ds = map (λ d. d.0) ds

-- the names without a mark, in their order
abbrev pub unmarked : List Bool → List Text → List Text
unmarked [] xs = []
unmarked (m ∷ ms) [] = []
unmarked (true ∷ ms) (x ∷ xs) = unmarked ms xs
unmarked (false ∷ ms) (x ∷ xs) = x ∷ unmarked ms xs

-- the names of exactly the definitions that the start doesn't reach, in the order of the grammar
pub record AreUnreached (G : Grammar) (names : List Text) : Type 0 where
  pub marks : List Bool
  pub tell : TellReached G marks
  pub are : names ≡ unmarked marks (names_of_definitions G.definitions)
