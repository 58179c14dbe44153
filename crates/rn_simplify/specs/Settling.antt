-- References settled one after the other, each behind those that its definition refers to outside elements (RELAX NG 2001, 4.19 to 4.21).
use Rattle.std.specs.Prelude.{◌≡◌, ℕ, ◌<◌, length, Some}
use Rattle.std.specs.Option.{option_map_or}
use Rattle.rn_pattern.specs.Tree.{Tree, ref}
use Rattle.rn_text.specs.Texts.{Text}
use Rattle.rn_pattern.specs.Matching.{Grammar, definition_of}
use Rattle.rn_pattern.specs.Canonical.{canonical, ref_unless_settled}
use Rattle.rn_pattern.specs.CanonicalShape.{IsCanonicalPattern}
use Rattle.rn_pattern.specs.Reached.{IsReached}
use Rattle.rn_pattern.specs.References.{RefersOutside}

-- ranks of the names that are reached: they fall along references outside elements, and are below the number of definitions
pub record AreRanks (G : Grammar) (rank : Text → ℕ) : Type 0 where
  pub falls : (x y : Text) (p : Tree) → IsReached G x → definition_of G x ≡ Some p → RefersOutside y p → rank y < rank x
  pub below : (x : Text) → IsReached G x → rank x < length G.definitions

-- t is what each name is settled as: of a name that is reached, by what the names of its definition are settled as
pub record IsSettling (G : Grammar) (t : Text → Tree) (rank : Text → ℕ) : Type 0 where
  pub forms : (x : Text) → IsCanonicalPattern (t x)
  pub made : (x : Text) → IsReached G x → t x ≡ option_map_or (λ p. ref_unless_settled x (canonical t p)) (definition_of G x) (ref x)
  pub ranks : AreRanks G rank
