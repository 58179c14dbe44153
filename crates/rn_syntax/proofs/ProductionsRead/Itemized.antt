-- Items, part by part.
use Rattle.std.proofs.Common.{◌≡◌, ℕ, List, [], ◌∷◌, refl, sym, subst}
use Rattle.std.proofs.lemmas.Bool.{false≢true}
use Rattle.rn_text.specs.declared.keywords.Keyword.TheVariants as k
use Rattle.rn_syntax.specs.declared.tree.Method.TheVariants as m
use Rattle.rn_syntax.specs.Terminal as t
use Rattle.rn_syntax.specs.Terminal.{◌#◌, keyword, left_bracket}
use Rattle.rn_syntax.specs.Tree as tree
use Rattle.rn_syntax.specs.Tree.{Item}
use Rattle.rn_syntax.specs.Grammar as g
use Rattle.rn_syntax.specs.Grammar.{Tokens, IsAnnotation, MayHaveAnnotation, AreItems}
use Rattle.rn_syntax.specs.inside.Follow.{Starts, is_end, behind_item}
use Rattle.rn_syntax.specs.inside.Sequence.{Then, both}
use Rattle.rn_syntax.specs.inside.Readers.{Took, Stuck}
use Rattle.rn_syntax.specs.inside.Including as n
use Rattle.rn_syntax.specs.inside.Including.{IsItem, AreItemsBehind}
use Rattle.rn_syntax.specs.inside.Itemizing.{AreAnnotatedItems, first_items}
use Rattle.rn_syntax.proofs.OneReading.OneTree.{component_grammar, items_front}
use Rattle.rn_syntax.proofs.ProductionsRead.Compose.{Upto, Fits, CanBe, upto_at, upto_then, reads, stuck_in, stuck_upto}

pub first_items_to : {ts mid r : Tokens} {xs : List Item} → MayHaveAnnotation ts mid → AreAnnotatedItems mid xs r → AreItems ts xs r
first_items_to a (first_items (n.component c) r) = g.component a c r
first_items_to a (first_items (n.div d) r) = g.div a d r
first_items_to a (first_items (n.include l h o) r) = g.include a l h o r

pub first_items_from : {i : ℕ} {ts r : Tokens} {xs : List Item} → AreItems (left_bracket # i ∷ ts) xs r → Starts is_end r → (mid : Tokens) × IsAnnotation (left_bracket # i ∷ ts) mid × AreAnnotatedItems mid xs r
first_items_from g.none e = absurd (false≢true e)
first_items_from (g.component {mid = mid} (g.annotated a) c r) e = (mid, a, first_items (n.component c) r)
first_items_from (g.component g.bare c r) e = elim c [ ]
first_items_from (g.div (g.annotated a) d r) e = (_, a, first_items (n.div d) r)
first_items_from (g.include (g.annotated a) l h o r) e = (_, a, first_items (n.include l h o) r)
first_items_from (g.note n k) e = elim n [ ]

pub first_items_grammar : {i : ℕ} {ts r : Tokens} {xs : List Item} → AreAnnotatedItems (keyword k.Grammar # i ∷ ts) xs r → ⊥
first_items_grammar (first_items (n.component c) r) = component_grammar c

pub can_first_items : CanBe AreAnnotatedItems
can_first_items more = (
  keyword k.Start # 0 ∷ t.assign m.Plain # 0 ∷ keyword k.Empty # 0 ∷ more,
  tree.start m.Plain tree.empty ∷ [],
  first_items (n.component (g.start (g.one (g.plain (g.primary g.bare g.empty g.none))))) g.none,
)

-- ---- their reader

start_items : {ts : Tokens} → Upto AreAnnotatedItems (Then IsItem (λ (y : Item). AreItemsBehind (y ∷ []))) (Starts is_end) ts ts
start_items = upto_at (λ l z r d. to d) (λ l a z r d h. from d)
  where
    to : {l r : Tokens} {z : List Item} → Then IsItem (λ (y : Item). AreItemsBehind (y ∷ [])) l z r → AreAnnotatedItems l z r
    to {l = l} {r = r} (both d b) = subst (λ (z : List Item). AreAnnotatedItems l z r) (sym b.is) (first_items d b.behind)

    from : {l r : Tokens} {z : List Item} → AreAnnotatedItems l z r → Then IsItem (λ (y : Item). AreItemsBehind (y ∷ [])) l z r
    from (first_items {xs = xs} d b) = both d (record { more = xs; is = refl; behind = b })

fits_items : Fits (Starts behind_item) (λ (y : Item). AreItemsBehind (y ∷ [])) (Starts is_end)
fits_items = record { fits = λ y mid z r b h. items_front b.behind h }

pub first_read : {ts now : Tokens} {y : Item} {ys : List Item} → ys ≡ y ∷ [] → Took IsItem (Starts behind_item) ts y now → Upto AreAnnotatedItems (AreItemsBehind ys) (Starts is_end) ts now
first_read {ts = ts} {now = now} e k = subst (λ (l : List Item). Upto AreAnnotatedItems (AreItemsBehind l) (Starts is_end) ts now) (sym e) (upto_then start_items (reads fits_items k))

pub first_stuck : {ts bad : Tokens} → Stuck IsItem (Starts behind_item) ts bad → Stuck AreAnnotatedItems (Starts is_end) ts bad
first_stuck k = stuck_upto start_items (stuck_in fits_items (λ more. (more, λ y. (y ∷ [], record { more = []; is = refl; behind = g.none }))) k)
