-- The token there names a datatype.
use Rattle.std.proofs.Common.{◌≡◌, ℕ, List, ◌∷◌, subst, sym}
use Rattle.rn_syntax.specs.Terminal.{◌#◌, keyword, prefixed}
use Rattle.rn_syntax.specs.Tree as t
use Rattle.rn_syntax.specs.Grammar as g
use Rattle.rn_syntax.specs.Grammar.{Tokens, IsDatatype}
use Rattle.rn_syntax.specs.inside.Sequence.{IsHere}
use Rattle.rn_syntax.proofs.ProductionsRead.Next.{place_is}
use Rattle.rn_syntax.proofs.ProductionsRead.Parameters.{is_here}
use Rattle.rn_syntax.proofs.productions.datatypes.datatype.Goals as goal

-- a name with a prefix, whose parts and place these are
named_here : {n l p m : List ℕ} {i j : ℕ} {ts next : Tokens} → ts ≡ prefixed n l # i ∷ next → p ≡ n → m ≡ l → j ≡ i → IsHere IsDatatype ts (t.named p m j) next
named_here {n = n} {l = l} {m = m} {i = i} {j = j} {ts = ts} {next = next} e a b same =
    subst (λ (x : List ℕ). IsHere IsDatatype ts (t.named x m j) next) (sym a)
    (subst (λ (x : List ℕ). IsHere IsDatatype ts (t.named n x j) next) (sym b)
    (is_here IsDatatype ts next (prefixed n l) i j (t.named n l) e same g.named))

pub returns-in-Prefixed-clause-names : goal.returns-in-Prefixed-clause-names
returns-in-Prefixed-clause-names c =
    let n = c.in-Prefixed.ensures.next in
    named_here n.1 c.prefix_name.ensures c.local_name.ensures (place_is c.args.tokens.now n.1 c.place.ensures)

pub returns-in-String-clause-names : goal.returns-in-String-clause-names
returns-in-String-clause-names c =
    let n = c.in-Keyword.ensures.next in
    is_here IsDatatype _ _ _ n.0 _ t.string n.1 (place_is c.args.tokens.now n.1 c.place-in-String.ensures) (subst (λ w. IsDatatype (keyword w # n.0) (t.string n.0)) (sym c.in-String.is) g.string)

pub returns-in-Token-clause-names : goal.returns-in-Token-clause-names
returns-in-Token-clause-names c =
    let n = c.in-Keyword.ensures.next in
    is_here IsDatatype _ _ _ n.0 _ t.token n.1 (place_is c.args.tokens.now n.1 c.place-in-Token.ensures) (subst (λ w. IsDatatype (keyword w # n.0) (t.token n.0)) (sym c.in-Token.is) g.token)
