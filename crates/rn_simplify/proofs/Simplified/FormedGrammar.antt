-- What is settled in order.
use Rattle.std.proofs.Common.{◌≡◌, ℕ, List, Option, Some, None, refl}
use Rattle.std.specs.Option.{option_map_or}
use Rattle.rn_pattern.specs.Tree.{Tree, ref}
use Rattle.rn_text.specs.Texts.{Text}
use Rattle.rn_pattern.specs.Matching.{Grammar, definition_of}
use Rattle.rn_pattern.specs.Canonical.{canonical, ref_unless_settled}
use Rattle.rn_pattern.specs.CanonicalShape.{IsCanonicalPattern}
use Rattle.rn_pattern.specs.Reached.{IsReached}
use Rattle.rn_assemble.specs.WellFormed.{IsWellFormed}
use Rattle.rn_simplify.specs.inside.DefinitionNumbers.{AreSettled}
use Rattle.rn_simplify.specs.Settling.{IsSettling}
use Rattle.rn_assemble.specs.SettlingOrder.{IsSettlingOrder}
use Rattle.rn_assemble.proofs.Referring.DefinitionNumbers.{number_some}
use Rattle.rn_assemble.proofs.Referring.KeyOrders.{reached_refers}
use Rattle.rn_simplify.proofs.Simplified.SettlingOrder.{listed, rank, ranks}

module _ (G : Grammar) (t : Text → Tree) (order : List ℕ) (w : IsWellFormed G) (o : IsSettlingOrder G order) (forms : (x : Text) → IsCanonicalPattern (t x)) (settled : AreSettled G.definitions order t) where
  made_at : (x : Text) (d : Option Tree) → definition_of G x ≡ d → IsReached G x → t x ≡ option_map_or (λ p. ref_unless_settled x (canonical t p)) d (ref x)
  made_at x None e r = absurd (w.defined x (reached_refers G x r, e))
  made_at x (Some p) e r = let (k, n) = number_some G.definitions x p e in settled x k p n e (listed G order o x k r n)

  pub settling_is : IsSettling G t (rank G order o)
  settling_is = record { forms = forms; made = λ x r. made_at x (definition_of G x) refl r; ranks = ranks G order o w }
