-- Items and what they are made of, part by part.
use Rattle.std.proofs.Common.{◌≡◌, ℕ, Bool, true, false, List, [], ◌∷◌, ◌++◌, ◌+◌, refl, ap, sym, ◌∙◌, subst, unwrap_or}
use Rattle.std.proofs.lemmas.Bool.{false≢true}
use Rattle.rn_text.specs.declared.source.Token.{Token}
use Rattle.rn_text.specs.declared.keywords.Keyword.{Keyword}
use Rattle.rn_text.specs.declared.keywords.Keyword.TheVariants as k
use Rattle.rn_syntax.specs.declared.tree.Method.{Method}
use Rattle.rn_syntax.specs.declared.tree.Method.TheVariants as m
use Rattle.rn_syntax.specs.declared.productions.terminals.Terminal as code
use Rattle.rn_syntax.specs.declared.productions.terminals.Terminal.TheVariants as c
use Rattle.rn_syntax.specs.Terminal as x
use Rattle.rn_syntax.specs.Terminal.{Terminal, ◌#◌, ident, keyword, prefixed, assign, left_brace, right_brace, left_bracket}
use Rattle.rn_syntax.specs.Tree as t
use Rattle.rn_syntax.specs.Tree.{Item, Pattern, items_of}
use Rattle.rn_syntax.specs.Grammar as g
use Rattle.rn_syntax.specs.Grammar.{Tokens, IsPattern, IsComponent, AreItems, AreInnerItems}
use Rattle.rn_syntax.specs.inside.Follow.{Starts, Anything, first_terminal, no_bracket, behind_item, behind_pattern, is_end}
use Rattle.rn_syntax.specs.inside.Sequence.{Then, both, Gives, gives, IsToken, token, IsOf, of, IsAssign, by_method, is_note}
use Rattle.rn_syntax.specs.inside.Including as i
use Rattle.rn_syntax.specs.inside.Including.{begins_item, begins_inner, IsItem, IsInnerItem, UpToBrace, InBraces, IsDivEnd, IsInnerDivEnd, IsIncludeEnd, AreItemsBehind}
use Rattle.rn_syntax.specs.inside.Readers.{Took, Stuck, seen, IsNext, rest}
use Rattle.rn_syntax.proofs.OneReading.OneClass.{starts_to}
use Rattle.rn_syntax.proofs.OneReading.OneTree.{item_to_pattern}
use Rattle.rn_syntax.proofs.ProductionsRead.Compose.{Upto, Fits, Can, CanBe, upto_at, upto_token, upto_then, took_upto, stuck_upto, reads, stuck_in, took_gives, first_alike, stuck_here, fits_anything, fits_token, fits_gives, can_gives, can_then}
use Rattle.rn_syntax.proofs.ProductionsRead.Next.{first_next, next_index}
use Rattle.rn_syntax.proofs.ProductionsRead.Rows.{Rows, none, row, note, IsRow, So_far}

-- ---- what begins an item

item_opens : (y : Terminal) → begins_item y ≡ true → behind_item y ≡ true
item_opens (ident n) e = refl
item_opens (prefixed n l) e = refl
item_opens (keyword k.Start) e = refl
item_opens (keyword k.Div) e = refl
item_opens (keyword k.Include) e = refl
item_opens left_bracket e = refl
item_opens y e = absurd (false≢true e)

item_not_end : (y : Terminal) → begins_item y ≡ true → is_end y ≡ false
item_not_end right_brace e = absurd (false≢true e)
item_not_end y e = refl

inner_item : (y : Terminal) → begins_inner y ≡ true → begins_item y ≡ true
inner_item (keyword k.Include) e = absurd (false≢true e)
inner_item y e = e

component_opens : (ts : Tokens) (x : Item) (r : Tokens) → IsComponent ts x r → begins_inner (first_terminal ts) ≡ true
component_opens ts x r (g.define p) = refl
component_opens ts x r (g.start p) = refl

component_unbracketed : (ts : Tokens) (x : Item) (r : Tokens) → IsComponent ts x r → Starts no_bracket ts
component_unbracketed ts x r (g.define p) = refl
component_unbracketed ts x r (g.start p) = refl

component_plain : (ts : Tokens) (x : Item) (r : Tokens) → IsComponent ts x r → is_note ts ≡ false
component_plain ts x r (g.define p) = refl
component_plain ts x r (g.start p) = refl

pub text_pattern : (i : ℕ) (more : Tokens) → IsPattern (keyword k.Text # i ∷ more) t.text more
text_pattern i more = g.one (g.plain (g.primary g.bare g.text g.none))

item_begins : (ts : Tokens) (x : Item) (r : Tokens) → IsItem ts x r → begins_item (first_terminal ts) ≡ true
item_begins ts x r (i.component d) = inner_item (first_terminal ts) (component_opens ts x r d)
item_begins ts x r (i.div d) = refl
item_begins ts x r (i.include l h o) = refl

item_unbracketed : (ts : Tokens) (x : Item) (r : Tokens) → IsItem ts x r → Starts no_bracket ts
item_unbracketed ts x r (i.component d) = component_unbracketed ts x r d
item_unbracketed ts x r (i.div d) = refl
item_unbracketed ts x r (i.include l h o) = refl

item_plain : (ts : Tokens) (x : Item) (r : Tokens) → IsItem ts x r → is_note ts ≡ false
item_plain ts x r (i.component d) = component_plain ts x r d
item_plain ts x r (i.div d) = refl
item_plain ts x r (i.include l h o) = refl

pub item_row : IsRow IsItem begins_item
item_row = record {
  begins = item_begins;
  unbracketed = item_unbracketed;
  plain = item_plain;
  named = λ n j more. i.component (g.define (text_pattern 0 more));
  opens = item_opens;
  not_end = item_not_end;
  bracket = refl;
  by_ident = λ n. refl;
  by_prefixed = λ n l. refl;
  nothing = refl;
}

inner_begins : (ts : Tokens) (x : Item) (r : Tokens) → IsInnerItem ts x r → begins_inner (first_terminal ts) ≡ true
inner_begins ts x r (i.component d) = component_opens ts x r d
inner_begins ts x r (i.div d) = refl

inner_unbracketed : (ts : Tokens) (x : Item) (r : Tokens) → IsInnerItem ts x r → Starts no_bracket ts
inner_unbracketed ts x r (i.component d) = component_unbracketed ts x r d
inner_unbracketed ts x r (i.div d) = refl

inner_plain : (ts : Tokens) (x : Item) (r : Tokens) → IsInnerItem ts x r → is_note ts ≡ false
inner_plain ts x r (i.component d) = component_plain ts x r d
inner_plain ts x r (i.div d) = refl

pub inner_row : IsRow IsInnerItem begins_inner
inner_row = record {
  begins = inner_begins;
  unbracketed = inner_unbracketed;
  plain = inner_plain;
  named = λ n j more. i.component (g.define (text_pattern 0 more));
  opens = λ y e. item_opens y (inner_item y e);
  not_end = λ y e. item_not_end y (inner_item y e);
  bracket = refl;
  by_ident = λ n. refl;
  by_prefixed = λ n l. refl;
  nothing = refl;
}

-- ---- lists of items are rows of them

items_rows : {ts r : Tokens} {xs : List Item} → AreItems ts xs r → Rows IsItem ts xs r
items_rows g.none = none
items_rows (g.component a d n) = row (both a (i.component d)) (items_rows n)
items_rows (g.div a d n) = row (both a (i.div d)) (items_rows n)
items_rows (g.include a l h o n) = row (both a (i.include l h o)) (items_rows n)
items_rows (g.note n d) = note n (items_rows d)

pub rows_items : {ts r : Tokens} {xs : List Item} → Rows IsItem ts xs r → AreItems ts xs r
rows_items none = g.none
rows_items (row (both a (i.component d)) n) = g.component a d (rows_items n)
rows_items (row (both a (i.div d)) n) = g.div a d (rows_items n)
rows_items (row (both a (i.include l h o)) n) = g.include a l h o (rows_items n)
rows_items (note n d) = g.note n (rows_items d)

inner_rows : {ts r : Tokens} {xs : List Item} → AreInnerItems ts xs r → Rows IsInnerItem ts xs r
inner_rows g.none = none
inner_rows (g.component a d n) = row (both a (i.component d)) (inner_rows n)
inner_rows (g.div a d n) = row (both a (i.div d)) (inner_rows n)
inner_rows (g.note n d) = note n (inner_rows d)

rows_inner : {ts r : Tokens} {xs : List Item} → Rows IsInnerItem ts xs r → AreInnerItems ts xs r
rows_inner none = g.none
rows_inner (row (both a (i.component d)) n) = g.component a d (rows_inner n)
rows_inner (row (both a (i.div d)) n) = g.div a d (rows_inner n)
rows_inner (note n d) = g.note n (rows_inner d)

pub behind_so_far : (xs : List Item) (ts : Tokens) → So_far (AreItemsBehind xs) IsItem xs ts ts
behind_so_far xs ts = upto_at (λ t z r d. record { more = d.more; is = d.is; behind = rows_items d.behind }) (λ t a z r d g. record { more = d.more; is = d.is; behind = items_rows d.behind })

pub inner_so_far : (ts : Tokens) → So_far AreInnerItems IsInnerItem [] ts ts
inner_so_far ts = upto_at (λ t z r d. subst (λ (l : List Item). AreInnerItems t l r) (sym d.is) (rows_inner d.behind)) (λ t a z r d g. record { more = z; is = refl; behind = inner_rows d })

-- behind none there are all
pub items_behind_none : {xs : List Item} (ts : Tokens) → xs ≡ [] → Upto AreItems (AreItemsBehind xs) (Starts is_end) ts ts
items_behind_none {xs = xs} ts e = upto_at (λ t z r d. subst (λ (l : List Item). AreItems t l r) (sym (d.is ∙ ap (λ (l : List Item). l ++ d.more) e)) d.behind) (λ t a z r d g. record { more = z; is = ap (λ (l : List Item). l ++ z) (sym e); behind = d })

-- ---- define and start

abbrev pub MethodBody : (Method → Pattern → Item) → Tokens → Item → Tokens → Type 0
MethodBody f = Then (IsOf IsAssign) (λ w. Then IsPattern (λ p. Gives (f w p)))

-- the index of the pattern behind a name and a method
pub method_read : (xs : List Token) (at : ℕ) {w : Method} → Took (IsOf IsAssign) Anything (rest xs (at + 1)) w (rest xs (at + 1 + 1)) → Took (IsOf IsAssign) Anything (rest xs (at + 1)) w (rest xs (at + 2))
method_read xs at {w = w} k = subst (λ (l : Tokens). Took (IsOf IsAssign) Anything (rest xs (at + 1)) w l) (next_index xs at) k

can_body : (f : Method → Pattern → Item) → Can (λ w. Then IsPattern (λ p. Gives (f w p)))
can_body f more = (keyword k.Text # 0 ∷ more, λ w. (f w t.text, both (text_pattern 0 more) gives))

fits_body : (f : Method → Pattern → Item) (w : Method) → Fits (Starts behind_pattern) (λ p. Gives (f w p)) (Starts behind_pattern)
fits_body f w = fits_gives (λ (p : Pattern). f w p) (λ r g. g)

pub define_at : {n : List ℕ} {j : ℕ} {now next : Tokens} → now ≡ ident n # j ∷ next → Upto IsComponent (MethodBody (t.define n)) (Starts behind_pattern) now next
define_at {n = n} {j = j} e = upto_token e (λ l z r d. to d) (λ l z r d g. from d)
  where
    to : {l r : Tokens} {z : Item} → MethodBody (t.define n) l z r → IsComponent (ident n # j ∷ l) z r
    to (both (of by_method) (both p gives)) = g.define p

    from : {l r : Tokens} {z : Item} → IsComponent (ident n # j ∷ l) z r → MethodBody (t.define n) l z r
    from (g.define p) = both (of by_method) (both p gives)

pub start_at : {j : ℕ} {now next : Tokens} → now ≡ keyword k.Start # j ∷ next → Upto IsComponent (MethodBody t.start) (Starts behind_pattern) now next
start_at {j = j} e = upto_token e (λ l z r d. to d) (λ l z r d g. from d)
  where
    to : {l r : Tokens} {z : Item} → MethodBody t.start l z r → IsComponent (keyword k.Start # j ∷ l) z r
    to (both (of by_method) (both p gives)) = g.start p

    from : {l r : Tokens} {z : Item} → IsComponent (keyword k.Start # j ∷ l) z r → MethodBody t.start l z r
    from (g.start p) = both (of by_method) (both p gives)

module _ (f : Method → Pattern → Item) {ts now : Tokens} (u : Upto IsComponent (MethodBody f) (Starts behind_pattern) ts now) where
  pub body_method : {bad : Tokens} → Stuck (IsOf IsAssign) Anything now bad → Stuck IsComponent (Starts behind_pattern) ts bad
  body_method k = stuck_upto u (stuck_in fits_anything (can_body f) k)

  pub body_stuck : {w : Method} {next bad : Tokens} → Took (IsOf IsAssign) Anything now w next → Stuck IsPattern (Starts behind_pattern) next bad → Stuck IsComponent (Starts behind_pattern) ts bad
  body_stuck {w = w} a k = stuck_upto (upto_then u (reads fits_anything a)) (stuck_in (fits_body f w) (can_gives (λ (p : Pattern). f w p)) k)

  pub body_took : {w : Method} {p : Pattern} {next behind : Tokens} → Took (IsOf IsAssign) Anything now w next → Took IsPattern (Starts behind_pattern) next p behind → Took IsComponent (Starts behind_pattern) ts (f w p) behind
  body_took {w = w} {p = p} {behind = behind} a k = took_upto (upto_then (upto_then u (reads fits_anything a)) (reads (fits_body f w) k)) (took_gives (f w p) behind)

begins_component : Terminal → Bool
begins_component (ident n) = true
begins_component (keyword k.Start) = true
begins_component y = false

component_begins : {ts r : Tokens} {x : Item} → IsComponent ts x r → begins_component (first_terminal ts) ≡ true
unfolding begins_component
component_begins (g.define p) = refl
component_begins (g.start p) = refl

can_component : CanBe IsComponent
can_component more = (keyword k.Start # 0 ∷ assign m.Plain # 0 ∷ keyword k.Text # 0 ∷ more, t.start m.Plain t.text, g.start (text_pattern 0 more))

not_component : (y : code.Terminal) → ((n : _) → y ≡ c.Ident n → ⊥) → ((w : _) → y ≡ c.Keyword w → ⊥) → begins_component (unwrap_or (seen y) x.other) ≡ false
unfolding begins_component
not_component (c.Ident n) h l = absurd (h n refl)
not_component (c.Keyword w) h l = absurd (l w refl)
not_component y h l = refl

pub no_component : (now behind : Tokens) (y : code.Terminal) → IsNext now (seen y) behind → ((n : _) → y ≡ c.Ident n → ⊥) → ((w : _) → y ≡ c.Keyword w → ⊥) → Stuck IsComponent (Starts behind_pattern) now now
no_component now behind y e h l = stuck_here begins_component (λ ts a r d. component_begins d) (ap begins_component (first_next now behind (seen y) e) ∙ not_component y h l) can_component

other_keyword : (w : Keyword) → (w ≡ k.Start → ⊥) → begins_component (keyword w) ≡ false
unfolding begins_component
other_keyword k.Start h = absurd (h refl)
other_keyword w h = refl

pub no_start : {w : Keyword} {j : ℕ} {now next : Tokens} → now ≡ keyword w # j ∷ next → (w ≡ k.Start → ⊥) → Stuck IsComponent (Starts behind_pattern) now now
no_start {w = w} e h = stuck_here begins_component (λ ts a r d. component_begins d) (ap (λ (l : Tokens). begins_component (first_terminal l)) e ∙ other_keyword w h) can_component

-- ---- braces

module _ {C : Type 0} (L : Tokens → List Item → Tokens → Type 0) (M : List Item → Tokens → C → Tokens → Type 0) (G : Tokens → Type 0) (can_list : CanBe L) (can_rest : Can M) where
  fits_list : Fits (Starts is_end) (λ xs. Then (IsToken right_brace) (λ (j : ℕ). M xs)) G
  fits_list = fits_token is_end refl

  can_brace : Can (λ xs. Then (IsToken right_brace) (λ (j : ℕ). M xs))
  can_brace more = let w = can_rest more in (right_brace # 0 ∷ w.0, λ xs. let d = w.1 xs in (d.0, both token d.1))

  pub list_stuck : {ts bad : Tokens} → Stuck L (Starts is_end) ts bad → Stuck (UpToBrace L M) G ts bad
  list_stuck k = stuck_in fits_list can_brace k

  pub list_read : {ts end : Tokens} {xs : List Item} → Took L (Starts is_end) ts xs end → Upto (UpToBrace L M) (Then (IsToken right_brace) (λ (j : ℕ). M xs)) G ts end
  list_read k = reads fits_list k

  pub brace_stuck : (xs : List Item) {ts bad : Tokens} → Stuck (IsToken right_brace) Anything ts bad → Stuck (Then (IsToken right_brace) (λ (j : ℕ). M xs)) G ts bad
  brace_stuck xs k = stuck_in fits_anything (λ more. let w = can_rest more in (w.0, λ j. w.1 xs)) k

  pub brace_read : {xs : List Item} {ts end behind : Tokens} {j : ℕ} → Took L (Starts is_end) ts xs end → Took (IsToken right_brace) Anything end j behind → Upto (UpToBrace L M) (M xs) G ts behind
  brace_read k b = upto_then (list_read k) (reads fits_anything b)

  pub open_stuck : {ts bad : Tokens} → Stuck (IsToken left_brace) Anything ts bad → Stuck (InBraces L M) G ts bad
  open_stuck k = stuck_in fits_anything (λ more. let w = can_then can_list can_brace more in (w.0, λ j. (w.1, w.2))) k

  pub open_read : {ts inside : Tokens} {j : ℕ} → Took (IsToken left_brace) Anything ts j inside → Upto (InBraces L M) (UpToBrace L M) G ts inside
  open_read k = reads fits_anything k

pub can_items : CanBe AreItems
can_items more = (more, [], g.none)

pub can_inner : CanBe AreInnerItems
can_inner more = (more, [], g.none)

abbrev pub DivGives : List Item → Tokens → Item → Tokens → Type 0
DivGives xs = Gives (t.div (items_of xs))

pub can_div : Can DivGives
can_div = can_gives (λ (xs : List Item). t.div (items_of xs))

-- ---- items

pub div_item : {j : ℕ} {now next : Tokens} → now ≡ keyword k.Div # j ∷ next → Upto IsItem IsDivEnd (Starts behind_item) now next
div_item {j = j} e = upto_token e (λ l z r d. to d) (λ l z r d g. from d)
  where
    to : {l r : Tokens} {z : Item} → IsDivEnd l z r → IsItem (keyword k.Div # j ∷ l) z r
    to (both token (both d (both token gives))) = i.div d

    from : {l r : Tokens} {z : Item} → IsItem (keyword k.Div # j ∷ l) z r → IsDivEnd l z r
    from (i.div d) = both token (both d (both token gives))
    from (i.component d) = elim d [ ]

pub include_item : {j : ℕ} {now next : Tokens} → now ≡ keyword k.Include # j ∷ next → Upto IsItem IsIncludeEnd (Starts behind_item) now next
include_item {j = j} e = upto_token e (λ l z r d. to d) (λ l z r d g. from d)
  where
    to : {l r : Tokens} {z : Item} → IsIncludeEnd l z r → IsItem (keyword k.Include # j ∷ l) z r
    to (both d (both h (both o gives))) = i.include d h o

    from : {l r : Tokens} {z : Item} → IsItem (keyword k.Include # j ∷ l) z r → IsIncludeEnd l z r
    from (i.include d h o) = both d (both h (both o gives))
    from (i.component d) = elim d [ ]

pub div_inner : {j : ℕ} {now next : Tokens} → now ≡ keyword k.Div # j ∷ next → Upto IsInnerItem IsInnerDivEnd (Starts behind_item) now next
div_inner {j = j} e = upto_token e (λ l z r d. to d) (λ l z r d g. from d)
  where
    to : {l r : Tokens} {z : Item} → IsInnerDivEnd l z r → IsInnerItem (keyword k.Div # j ∷ l) z r
    to (both token (both d (both token gives))) = i.div d

    from : {l r : Tokens} {z : Item} → IsInnerItem (keyword k.Div # j ∷ l) z r → IsInnerDivEnd l z r
    from (i.div d) = both token (both d (both token gives))
    from (i.component d) = elim d [ ]

abbrev pub not_group : Terminal → Bool
not_group (keyword k.Div) = false
not_group (keyword k.Include) = false
not_group y = true

pub component_item : {now : Tokens} → not_group (first_terminal now) ≡ true → Upto IsItem IsComponent (Starts behind_item) now now
component_item h = upto_at (λ l z r d. i.component d) (λ l a z r d g. from (ap not_group (first_alike a) ∙ h) d)
  where
    from : {l r : Tokens} {z : Item} → not_group (first_terminal l) ≡ true → IsItem l z r → IsComponent l z r
    from h (i.component d) = d
    from h (i.div d) = absurd (false≢true h)
    from h (i.include d o p) = absurd (false≢true h)

abbrev pub not_div : Terminal → Bool
not_div (keyword k.Div) = false
not_div y = true

pub component_inner : {now : Tokens} → not_div (first_terminal now) ≡ true → Upto IsInnerItem IsComponent (Starts behind_item) now now
component_inner h = upto_at (λ l z r d. i.component d) (λ l a z r d g. from (ap not_div (first_alike a) ∙ h) d)
  where
    from : {l r : Tokens} {z : Item} → not_div (first_terminal l) ≡ true → IsInnerItem l z r → IsComponent l z r
    from h (i.component d) = d
    from h (i.div d) = absurd (false≢true h)

no_keyword_group : (y : code.Terminal) → ((w : _) → y ≡ c.Keyword w → ⊥) → not_group (unwrap_or (seen y) x.other) ≡ true
no_keyword_group (c.Keyword w) h = absurd (h w refl)
no_keyword_group y h = refl

no_keyword_div : (y : code.Terminal) → ((w : _) → y ≡ c.Keyword w → ⊥) → not_div (unwrap_or (seen y) x.other) ≡ true
no_keyword_div (c.Keyword w) h = absurd (h w refl)
no_keyword_div y h = refl

other_group : (w : Keyword) → (w ≡ k.Div → ⊥) → (w ≡ k.Include → ⊥) → not_group (keyword w) ≡ true
other_group k.Div h l = absurd (h refl)
other_group k.Include h l = absurd (l refl)
other_group w h l = refl

other_div : (w : Keyword) → (w ≡ k.Div → ⊥) → not_div (keyword w) ≡ true
other_div k.Div h = absurd (h refl)
other_div w h = refl

pub item_keyword : {w : Keyword} {j : ℕ} {now next : Tokens} → now ≡ keyword w # j ∷ next → (w ≡ k.Div → ⊥) → (w ≡ k.Include → ⊥) → Upto IsItem IsComponent (Starts behind_item) now now
item_keyword {w = w} e h l = component_item (ap (λ (ts : Tokens). not_group (first_terminal ts)) e ∙ other_group w h l)

pub item_other : (now behind : Tokens) (y : code.Terminal) → IsNext now (seen y) behind → ((w : _) → y ≡ c.Keyword w → ⊥) → Upto IsItem IsComponent (Starts behind_item) now now
item_other now behind y e h = component_item (ap not_group (first_next now behind (seen y) e) ∙ no_keyword_group y h)

pub inner_keyword : {w : Keyword} {j : ℕ} {now next : Tokens} → now ≡ keyword w # j ∷ next → (w ≡ k.Div → ⊥) → Upto IsInnerItem IsComponent (Starts behind_item) now now
inner_keyword {w = w} e h = component_inner (ap (λ (ts : Tokens). not_div (first_terminal ts)) e ∙ other_div w h)

pub inner_other : (now behind : Tokens) (y : code.Terminal) → IsNext now (seen y) behind → ((w : _) → y ≡ c.Keyword w → ⊥) → Upto IsInnerItem IsComponent (Starts behind_item) now now
inner_other now behind y e h = component_inner (ap not_div (first_next now behind (seen y) e) ∙ no_keyword_div y h)

pub item_pattern : (r : Tokens) → Starts behind_item r → Starts behind_pattern r
item_pattern r h = starts_to behind_item behind_pattern item_to_pattern r h
