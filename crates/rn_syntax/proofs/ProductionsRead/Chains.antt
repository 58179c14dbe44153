-- Operands with one operator between each two.
use Rattle.std.proofs.Common.{◌≡◌, ℕ, Bool, true, false, List, [], ◌∷◌, refl, ap, sym, ◌∙◌, subst, unwrap_or}
use Rattle.std.proofs.lemmas.Bool.{false≢true}
use Rattle.rn_syntax.specs.declared.tree.Operator.{Operator}
use Rattle.rn_syntax.specs.declared.tree.Postfix.{Postfix}
use Rattle.rn_syntax.specs.declared.productions.terminals.Terminal as code
use Rattle.rn_syntax.specs.declared.productions.terminals.Terminal.TheVariants as c
use Rattle.rn_syntax.specs.Terminal.{Terminal, ◌#◌, operator, right_brace, other}
use Rattle.rn_syntax.specs.Tree as tree
use Rattle.rn_syntax.specs.Tree.{Pattern, patterns_of}
use Rattle.rn_syntax.specs.Grammar as g
use Rattle.rn_syntax.specs.Grammar.{Tokens, IsPattern, AreMore, IsOperand, IsCore}
use Rattle.rn_syntax.specs.inside.Follow.{Starts, first_terminal, no_bracket, begins_datatype, behind_core, behind_operand, behind_pattern}
use Rattle.rn_syntax.specs.inside.Sequence.{Then, both}
use Rattle.rn_syntax.specs.inside.Readers.{Took, Stuck, seen, IsNext}
use Rattle.rn_syntax.proofs.OneReading.OneClass.{starts_to, tail}
use Rattle.rn_syntax.proofs.OneReading.OnePattern.{to_operand, more_front, more_op, same_op}
use Rattle.rn_syntax.proofs.ProductionsRead.Compose.{Upto, Fits, upto_at, upto_then, took_upto, stuck_upto, reads, stuck_in, first_alike}
use Rattle.rn_syntax.proofs.ProductionsRead.Repeating.{Whole}
use Rattle.rn_syntax.proofs.ProductionsRead.Chaining.{Rest, none, some, Chained, alone, many, IsChain, So_far}
use Rattle.rn_syntax.proofs.ProductionsRead.Next.{first_next}
use Rattle.rn_syntax.proofs.ProductionsRead.Operands.{core_alone}
use Rattle.rn_syntax.proofs.ProductionsRead.Primaries.{operand_first, operand_core_read}

abbrev pub chain_of : Operator → List Pattern → Pattern
chain_of op l = tree.chain op (patterns_of l)

more_to : {op : Operator} {t r : Tokens} {l : List Pattern} {i : ℕ} → Then IsOperand (λ (p : Pattern). Whole (Rest (AreMore op)) (p ∷ [])) t l r → AreMore op (operator op # i ∷ t) l r
more_to {op = op} {t = t} {r = r} {i = i} (both {a = p} d b) = subst (λ (l : List Pattern). AreMore op (operator op # i ∷ t) l r) (sym b.is) (go d b.behind)
  where
    go : {mid : Tokens} {m : List Pattern} → IsOperand t p mid → Rest (AreMore op) mid m r → AreMore op (operator op # i ∷ t) (p ∷ m) r
    go d none = g.last d
    go d (some m) = g.more d m

more_split : {op : Operator} {ts r : Tokens} {l : List Pattern} → AreMore op ts l r → Then IsOperand (λ (p : Pattern). Whole (Rest (AreMore op)) (p ∷ [])) (tail ts) l r
more_split (g.last d) = both d (record { more = []; is = refl; behind = none })
more_split (g.more {ps = ps} d m) = both d (record { more = ps; is = refl; behind = some m })

more_from : {op : Operator} {t r : Tokens} {l : List Pattern} {i : ℕ} → AreMore op (operator op # i ∷ t) l r → Then IsOperand (λ (p : Pattern). Whole (Rest (AreMore op)) (p ∷ [])) t l r
more_from m = more_split m

ends_at : (op : Operator) (t : Tokens) → first_terminal t ≡ operator op → Starts behind_pattern t → ⊥
ends_at op [] e w = cc
ends_at op (y # i ∷ t) e w = false≢true (sym (ap behind_pattern e) ∙ w)

part_ends_at : (op : Operator) (t : Tokens) → first_terminal t ≡ operator op → Starts behind_operand t
part_ends_at op [] e = tt
part_ends_at op (y # i ∷ t) e = ap behind_operand e

pub operands_chain : (op : Operator) → IsChain IsPattern IsOperand (Starts behind_operand) (Starts behind_pattern) (AreMore op) (chain_of op) (operator op)
operands_chain op = record {
  to = λ t l r i d. more_to d;
  from = λ t l r i d. more_from d;
  begins = λ t l r d. more_op d;
  ends = ends_at op;
  part_ends = part_ends_at op;
  less = λ t w. starts_to behind_pattern behind_operand to_operand t w;
}

-- ---- behind the first operand

data Behind (p : Pattern) : Tokens → Pattern → Tokens → Type 0 where
  single : {ts : Tokens} → Behind p ts p ts
  several : {op : Operator} {ts rest : Tokens} {ps : List Pattern} → AreMore op ts ps rest → Behind p ts (chain_of op (p ∷ ps)) rest

pattern_at : {ts : Tokens} → Upto IsPattern (Then IsOperand Behind) (Starts behind_pattern) ts ts
pattern_at = upto_at (λ t z r d. to d) (λ t a z r d w. from d)
  where
    to : {t r : Tokens} {z : Pattern} → Then IsOperand Behind t z r → IsPattern t z r
    to (both d single) = g.one d
    to (both d (several m)) = g.chain d m

    from : {t r : Tokens} {z : Pattern} → IsPattern t z r → Then IsOperand Behind t z r
    from (g.one d) = both d single
    from (g.chain d m) = both d (several m)

fits_behind : Fits (Starts behind_operand) Behind (Starts behind_pattern)
fits_behind = record { fits = λ p mid z r d w. front d w }
  where
    front : {p z : Pattern} {t r : Tokens} → Behind p t z r → Starts behind_pattern r → Starts behind_operand t
    front {t = t} single w = starts_to behind_pattern behind_operand to_operand t w
    front (several m) w = more_front m

pub pattern_stuck : {ts bad : Tokens} → Stuck IsOperand (Starts behind_operand) ts bad → Stuck IsPattern (Starts behind_pattern) ts bad
pattern_stuck h = stuck_upto pattern_at (stuck_in fits_behind (λ more. (more, λ p. (p, single))) h)

first_read : {ts now : Tokens} {p : Pattern} → Took IsOperand (Starts behind_operand) ts p now → Upto IsPattern (Behind p) (Starts behind_pattern) ts now
first_read h = upto_then pattern_at (reads fits_behind h)

same_more : {op op' : Operator} {t r : Tokens} {p : Pattern} {ps : List Pattern} → op' ≡ op → AreMore op' t ps r → Chained (AreMore op) (chain_of op) p t (chain_of op' (p ∷ ps)) r
same_more {op = op} {t = t} {r = r} {p = p} {ps = ps} e m = subst (λ (o : Operator). Chained (AreMore op) (chain_of op) p t (chain_of o (p ∷ ps)) r) (sym e) (many (subst (λ (o : Operator). AreMore o t ps r) e m))

pub pattern_first : (op : Operator) {ts now : Tokens} {p : Pattern} → first_terminal now ≡ operator op → Took IsOperand (Starts behind_operand) ts p now → Upto IsPattern (Chained (AreMore op) (chain_of op) p) (Starts behind_pattern) ts now
pattern_first op {p = p} e h = upto_then (first_read h) (upto_at (λ t z r d. to d) (λ t a z r d w. from (first_alike a ∙ e) d))
  where
    to : {t r : Tokens} {z : Pattern} → Chained (AreMore op) (chain_of op) p t z r → Behind p t z r
    to alone = single
    to (many m) = several m

    from : {t r : Tokens} {z : Pattern} → first_terminal t ≡ operator op → Behind p t z r → Chained (AreMore op) (chain_of op) p t z r
    from e single = alone
    from e (several {op = op'} m) = same_more (same_op op' op (sym (more_op m) ∙ e)) m

abbrev is_operator : Terminal → Bool
is_operator (operator op) = true
is_operator x = false

not_operator : (x : code.Terminal) → ((op : Operator) → x ≡ c.Operator op → ⊥) → is_operator (unwrap_or (seen x) other) ≡ false
not_operator (c.Operator op) h = absurd (h op refl)
not_operator x h = refl

only_single : {p z : Pattern} {t r : Tokens} → is_operator (first_terminal t) ≡ false → Behind p t z r → (z ≡ p) × (r ≡ t)
only_single e single = (refl, refl)
only_single e (several m) = absurd (false≢true (sym e ∙ ap is_operator (more_op m)))

pub pattern_alone : {ts now : Tokens} {p : Pattern} (behind : Tokens) (x : code.Terminal) → Took IsOperand (Starts behind_operand) ts p now → IsNext now (seen x) behind → ((op : Operator) → x ≡ c.Operator op → ⊥) → Took IsPattern (Starts behind_pattern) ts p now
pattern_alone {now = now} behind x h n e = took_upto (first_read h) (record {
  front = [];
  cut = refl;
  derives = λ more. single;
  only = λ t a y r d w. only_single (ap is_operator (first_alike a) ∙ ap is_operator (first_next now behind (seen x) n) ∙ not_operator x e) d;
})

-- a core of one token before `}` is a pattern
pub lone_pattern : {x : Terminal} {i j : ℕ} {now next behind : Tokens} {p : Pattern} → now ≡ x # i ∷ next → no_bracket x ≡ true → begins_datatype x ≡ false
    → Took IsCore (Starts behind_core) now p next → next ≡ right_brace # j ∷ behind → Took IsPattern (Starts behind_pattern) now p next
lone_pattern {j = j} {next = next} {behind = behind} {p = p} e b d h close =
    let first = operand_first e b d in
    let operand = took_upto (operand_core_read first.0 first.1 h) (core_alone p next behind c.RightBrace (j, close) no_follow no_postfix) in
    pattern_alone behind c.RightBrace operand (j, close) no_operator
  where
    no_follow : c.RightBrace ≡ c.Follow → ⊥
    no_follow e = cc

    no_postfix : (s : Postfix) → c.RightBrace ≡ c.Postfix s → ⊥
    no_postfix s e = cc

    no_operator : (op : Operator) → c.RightBrace ≡ c.Operator op → ⊥
    no_operator op e = cc

pub operands_same : (op : Operator) {xs ys : List Pattern} (ts now : Tokens) → xs ≡ ys → So_far (operands_chain op) xs ts now → So_far (operands_chain op) ys ts now
operands_same op ts now e u = subst (λ (l : List Pattern). So_far (operands_chain op) l ts now) e u
