use Rattle.std.proofs.Common.{◌≡◌, ℕ, List, ◌∷◌, subst, sym}
use Rattle.rn_syntax.specs.Terminal.{◌#◌, any_of, postfix}
use Rattle.rn_syntax.specs.Tree as t
use Rattle.rn_syntax.specs.Grammar as g
use Rattle.rn_syntax.specs.Grammar.{Tokens, IsAnyName}
use Rattle.rn_syntax.specs.inside.Sequence.{IsHere}
use Rattle.rn_syntax.proofs.ProductionsRead.Next.{place_is}
use Rattle.rn_syntax.proofs.ProductionsRead.Parameters.{is_here}
use Rattle.rn_syntax.proofs.productions.names.any_name.Goals as goal

-- a prefix before `:*`, whose name and place these are
any_here : {n p : List ℕ} {i j : ℕ} {ts next : Tokens} → ts ≡ any_of n # i ∷ next → p ≡ n → j ≡ i → IsHere IsAnyName ts (t.any_of p j) next
any_here {n = n} {i = i} {j = j} {ts = ts} {next = next} e a same =
    subst (λ (x : List ℕ). IsHere IsAnyName ts (t.any_of x j) next) (sym a) (is_here IsAnyName ts next (any_of n) i j (t.any_of n) e same g.of)

pub returns-in-Star-clause-names : goal.returns-in-Star-clause-names
returns-in-Star-clause-names c = let n = c.in-Postfix.ensures.next in record { token = _; holds = subst (λ s. IsAnyName (postfix s # n.0) t.any) (sym c.in-Star.is) g.all; here = n.1 }

pub returns-in-AnyOf-clause-names : goal.returns-in-AnyOf-clause-names
returns-in-AnyOf-clause-names c = let n = c.in-AnyOf.ensures.next in any_here n.1 c.prefix_name.ensures (place_is c.args.tokens.now n.1 c.place.ensures)
