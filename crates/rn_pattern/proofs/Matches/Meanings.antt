-- What a constructor's answer matches, by the tree that it stands for.
use Rattle.std.proofs.Common.{◌≡◌, List, Option, Some, None, Result, Ok, Err, Bool, sym, ◌∙◌, subst}
use Rattle.std.specs.Prelude.{IfOk}
use Rattle.rn_pattern.specs.Tree.{Parameters, Tree}
use Rattle.rn_text.specs.Texts.{Text}
use Rattle.rn_pattern.specs.Matching.{MatchAlike}
use Rattle.rn_pattern.specs.Store.{StandsFor, datum_by, datum_step}
use Rattle.rn_pattern.specs.inside.Stored.{tree_at}
use Rattle.rn_pattern.specs.inside.Reduced.{reduced_tree}
use Rattle.rn_pattern.specs.declared.canonical.Reduced.{Reduced}
use Rattle.rn_pattern.specs.declared.node.NodeId.{NodeId}
use Rattle.rn_pattern.proofs.Matches.Constructors.{datum_but_means}

pub means_by : {I E : Type 0} (r : Result I E) (knows : I → Bool) (at : I → Tree) (p t q : Tree) → IfOk r (StandsFor knows at p) → p ≡ q → MatchAlike t q → IfOk r (λ i. MatchAlike t (at i))
means_by (Ok i) knows at p t q h e m = subst (λ (u : Tree). MatchAlike t u) (sym (h.1 ∙ e)) m
means_by (Err e) knows at p t q h f m = tt

-- the step over the trees of the table is that over the store's
pub over_store : (ts us : List Tree) (r : Reduced) (f : (NodeId → Tree) → Tree) → ts ≡ us → reduced_tree ts r ≡ f (tree_at ts) → reduced_tree us r ≡ f (tree_at us)
over_store ts us r f e h = subst (λ vs. reduced_tree vs r ≡ f (tree_at vs)) e h

pub datum_means : (library type : Text) (params : Parameters) (e : Option Tree) → MatchAlike (datum_by library type params e) (datum_step library type params e)
datum_means library type params None = λ n G T a m. (λ h. h, λ h. h)
datum_means library type params (Some p) = datum_but_means library type params p
