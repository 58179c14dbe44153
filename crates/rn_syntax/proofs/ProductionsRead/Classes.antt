-- Name classes, part by part.
use Rattle.std.proofs.Common.{◌≡◌, ◌⊎◌, inl, inr, ℕ, Bool, true, false, List, [], ◌∷◌, ◌++◌, refl, ap, sym, ◌∙◌, subst, unwrap_or}
use Rattle.std.proofs.lemmas.Bool.{false≢true}
use Rattle.rn_syntax.specs.declared.tree.Operator.TheVariants as o
use Rattle.rn_syntax.specs.declared.productions.terminals.Terminal as code
use Rattle.rn_syntax.specs.declared.productions.terminals.Terminal.TheVariants as c
use Rattle.rn_syntax.specs.Terminal as x
use Rattle.rn_syntax.specs.Terminal.{Terminal, Placed, ◌#◌, ident, operator, minus, left_brace, left_paren, right_paren}
use Rattle.rn_syntax.specs.Tree as t
use Rattle.rn_syntax.specs.Tree.{AnyName, NameClass, classes_of}
use Rattle.rn_syntax.specs.Grammar as g
use Rattle.rn_syntax.specs.Grammar.{Tokens, IsWord, MayHaveAnnotation, AreFollows, IsAnyName, IsNameClass, AreMoreClasses, IsClassOperand, IsClassPrimary, IsClassCore}
use Rattle.rn_syntax.specs.inside.Follow.{Starts, Anything, first_terminal, no_bracket, no_follow, behind_name, behind_class, begins_any}
use Rattle.rn_syntax.specs.inside.Sequence.{Then, both, Gives, gives, IsToken, token, IsHere, IsClassEnd, IsAnyClassEnd}
use Rattle.rn_syntax.specs.inside.Readers.{Took, Stuck, Bare, seen, IsNext}
use Rattle.rn_syntax.proofs.OneReading.OneClass.{class_core_one, class_core_front, any_no_bracket, any_one, word_is, minus_stays, name_to_follow, class_to_name, starts_to}
use Rattle.rn_syntax.proofs.ProductionsRead.Compose.{Upto, Fits, Can, CanBe, upto_at, upto_token, upto_then, took_upto, stuck_upto, reads, stuck_in, took_gives, first_alike, stuck_here, fits_anything, fits_token, fits_gives, can_gives, can_then}
use Rattle.rn_syntax.proofs.ProductionsRead.Repeating.{Whole}
use Rattle.rn_syntax.proofs.ProductionsRead.Chaining.{Rest, none, some, Chained, alone, many, IsChain, fits_chained, alone_at, So_far}
use Rattle.rn_syntax.proofs.ProductionsRead.Next.{first_next}
use Rattle.rn_syntax.proofs.ProductionsRead.Skipping.{bare_here, none_here}

-- ---- cores

pub core_took : (front : Tokens) {now next : Tokens} {c : NameClass} → now ≡ front ++ next → ((more : Tokens) → IsClassCore (front ++ more) c more) → Took IsClassCore Anything now c next
core_took front e d = record { front = front; cut = e; derives = d; only = λ t a y r f g. class_core_one f (d t) }

pub word_core : {y : Terminal} {n : List ℕ} {i : ℕ} {now next : Tokens} → IsWord y n → now ≡ y # i ∷ next → Took IsClassCore Anything now (t.name (t.local n)) next
word_core {y = y} {i = i} w e = core_took (y # i ∷ []) e (λ more. g.word w)

pub prefixed_core : {n l : List ℕ} {i j : ℕ} {now next : Tokens} → j ≡ i → now ≡ x.prefixed n l # i ∷ next → Took IsClassCore Anything now (t.name (t.prefixed n l j)) next
prefixed_core {n = n} {l = l} {i = i} {j = j} {now = now} {next = next} same e = subst (λ (k : ℕ). Took IsClassCore Anything now (t.name (t.prefixed n l k)) next) (sym same) (core_took (x.prefixed n l # i ∷ []) e (λ more. g.prefixed_name))

abbrev pub Closed : NameClass → Tokens → NameClass → Tokens → Type 0
Closed k = Then (IsToken right_paren) (λ (j : ℕ). Gives k)

pub parens_at : {i : ℕ} {now next : Tokens} → now ≡ left_paren # i ∷ next → Upto IsClassCore (Then IsNameClass Closed) Anything now next
parens_at {i = i} e = upto_token e (λ t z r d. to d) (λ t z r d f. from d)
  where
    to : {t r : Tokens} {z : NameClass} → Then IsNameClass Closed t z r → IsClassCore (left_paren # i ∷ t) z r
    to (both k (both token gives)) = g.parens k

    from : {t r : Tokens} {z : NameClass} → IsClassCore (left_paren # i ∷ t) z r → Then IsNameClass Closed t z r
    from (g.parens k) = both k (both token gives)
    from (g.word w) = absurd (false≢true (word_is w))
    from (g.any_name n) = elim n [ ]

pub fits_closed : Fits (Starts behind_class) Closed Anything
fits_closed = fits_token behind_class refl

pub can_closed : Can Closed
can_closed more = (right_paren # 0 ∷ more, λ k. (k, both token gives))

pub parens_inner : {i : ℕ} {ts now bad : Tokens} → ts ≡ left_paren # i ∷ now → Stuck IsNameClass (Starts behind_class) now bad → Stuck IsClassCore Anything ts bad
parens_inner e k = stuck_upto (parens_at e) (stuck_in fits_closed can_closed k)

pub parens_open : {i : ℕ} {ts now next : Tokens} {k : NameClass} → ts ≡ left_paren # i ∷ now → Took IsNameClass (Starts behind_class) now k next → Upto IsClassCore (Closed k) Anything ts next
parens_open e k = upto_then (parens_at e) (reads fits_closed k)

pub parens_stuck : {i : ℕ} {ts now next bad : Tokens} {k : NameClass} → ts ≡ left_paren # i ∷ now → Took IsNameClass (Starts behind_class) now k next → Stuck (IsToken right_paren) Anything next bad → Stuck IsClassCore Anything ts bad
parens_stuck {k = n} e k s = stuck_upto (parens_open e k) (stuck_in fits_anything (can_gives (λ (j : ℕ). n)) s)

pub parens_took : {i j : ℕ} {ts now next rest : Tokens} {k : NameClass} → ts ≡ left_paren # i ∷ now → Took IsNameClass (Starts behind_class) now k next → Took (IsToken right_paren) Anything next j rest → Took IsClassCore Anything ts k rest
parens_took {k = n} e k s = took_upto (upto_then (parens_open e k) (reads fits_anything s)) (took_gives n _)

-- no core begins here
abbrev is_class : Terminal → Bool
is_class (x.ident n) = true
is_class (x.keyword w) = true
is_class (x.prefixed n l) = true
is_class x.left_paren = true
is_class y = begins_any y

word_class : (y : Terminal) {n : List ℕ} → IsWord y n → is_class y ≡ true
word_class y g.by_name = refl
word_class y g.by_keyword = refl

core_class : {ts r : Tokens} {k : NameClass} → IsClassCore ts k r → is_class (first_terminal ts) ≡ true
core_class (g.word {x = y} w) = word_class y w
core_class g.prefixed_name = refl
core_class (g.any_name g.all) = refl
core_class (g.any_name g.of) = refl
core_class (g.parens k) = refl

not_class : (y : code.Terminal) → ((n : _) → y ≡ c.Ident n → ⊥) → ((w : _) → y ≡ c.Keyword w → ⊥) → ((n : _) → y ≡ c.Prefixed n → ⊥) → (y ≡ c.LeftParen → ⊥) → begins_any (unwrap_or (seen y) x.other) ≡ false → is_class (unwrap_or (seen y) x.other) ≡ false
not_class (c.Ident n) h1 h2 h3 h4 e = absurd (h1 n refl)
not_class (c.Keyword w) h1 h2 h3 h4 e = absurd (h2 w refl)
not_class (c.Prefixed n) h1 h2 h3 h4 e = absurd (h3 n refl)
not_class c.LeftParen h1 h2 h3 h4 e = absurd (h4 refl)
not_class y h1 h2 h3 h4 e = e

can_core : CanBe IsClassCore
can_core more = (ident [] # 0 ∷ more, t.name (t.local []), g.word g.by_name)

pub no_core : (now behind : Tokens) (y : code.Terminal) → IsNext now (seen y) behind → ((n : _) → y ≡ c.Ident n → ⊥) → ((w : _) → y ≡ c.Keyword w → ⊥) → ((n : _) → y ≡ c.Prefixed n → ⊥) → (y ≡ c.LeftParen → ⊥) → begins_any (first_terminal now) ≡ false
    → Stuck IsClassCore Anything now now
no_core now behind y e h1 h2 h3 h4 h =
    let f = first_next now behind (seen y) e in
    stuck_here is_class (λ t a r d. core_class d) (ap is_class f ∙ not_class y h1 h2 h3 h4 (sym (ap begins_any f) ∙ h)) can_core

-- ---- what follows

pub to_follow : (r : Tokens) → Starts behind_name r → Starts no_follow r
to_follow r h = starts_to behind_name no_follow name_to_follow r h

abbrev pub Followed : NameClass → Tokens → NameClass → Tokens → Type 0
Followed k = Then (Bare AreFollows) (λ (u : Unit {0}). Gives k)

pub fits_followed : (k : NameClass) → Fits (Starts no_follow) (λ (u : Unit {0}). Gives k) (Starts behind_name)
fits_followed k = fits_gives (λ (u : Unit {0}). k) to_follow

pub followed_took : (k : NameClass) {ts rest : Tokens} → Took (Bare AreFollows) (Starts no_follow) ts tt rest → Took (Followed k) (Starts behind_name) ts k rest
followed_took k f = took_upto (reads (fits_followed k) f) (took_gives k _)

pub followed_stuck : (k : NameClass) {ts bad : Tokens} → Stuck (Bare AreFollows) (Starts no_follow) ts bad → Stuck (Followed k) (Starts behind_name) ts bad
followed_stuck k f = stuck_in (fits_followed k) (can_gives (λ (u : Unit {0}). k)) f

can_followed : Can Followed
can_followed more = (more, λ k. (k, both g.none gives))

pub end_core : {ts now : Tokens} {k : NameClass} → Took IsClassCore Anything ts k now → Upto IsClassEnd (Followed k) (Starts behind_name) ts now
end_core k = reads fits_anything k

pub end_stuck : {ts bad : Tokens} → Stuck IsClassCore Anything ts bad → Stuck IsClassEnd (Starts behind_name) ts bad
end_stuck k = stuck_in fits_anything can_followed k

can_end : Can (λ (u : Unit {0}). IsClassEnd)
can_end more = let w = can_then can_core can_followed more in (w.0, λ u. (w.1, w.2))

-- ---- primaries

end_front : {mid r : Tokens} {k : NameClass} → IsClassEnd mid k r → Starts no_bracket mid
end_front (both k d) = class_core_front k

pub fits_end : Fits (Starts no_bracket) (λ (u : Unit {0}). IsClassEnd) (Starts behind_name)
fits_end = record { fits = λ u mid k r d g. end_front d }

pub primary_start : {ts : Tokens} → Upto IsClassPrimary (Then (Bare MayHaveAnnotation) (λ (u : Unit {0}). IsClassEnd)) (Starts behind_name) ts ts
primary_start = upto_at (λ t z r d. to d) (λ t a z r d g. from d)
  where
    to : {t r : Tokens} {z : NameClass} → Then (Bare MayHaveAnnotation) (λ (u : Unit {0}). IsClassEnd) t z r → IsClassPrimary t z r
    to (both a (both k (both f gives))) = g.primary a k f

    from : {t r : Tokens} {z : NameClass} → IsClassPrimary t z r → Then (Bare MayHaveAnnotation) (λ (u : Unit {0}). IsClassEnd) t z r
    from (g.primary a k f) = both a (both k (both f gives))

pub primary_body : {ts body : Tokens} → Took (Bare MayHaveAnnotation) (Starts no_bracket) ts tt body → Upto IsClassPrimary IsClassEnd (Starts behind_name) ts body
primary_body a = upto_then primary_start (reads fits_end a)

pub primary_stuck : {ts bad : Tokens} → Stuck (Bare MayHaveAnnotation) (Starts no_bracket) ts bad → Stuck IsClassPrimary (Starts behind_name) ts bad
primary_stuck a = stuck_upto primary_start (stuck_in fits_end can_end a)

any_core_is : {y : Placed} {us r : Tokens} {k : NameClass} {a : AnyName} → IsClassCore (y ∷ us) k r → IsAnyName y a → (k ≡ t.all a) × (r ≡ us)
any_core_is {us = us} k n = class_core_one k (g.any_name n)

any_to : {y : Placed} {a : AnyName} {t r : Tokens} {z : NameClass} → IsAnyName y a → IsAnyClassEnd a t z r → IsClassEnd (y ∷ t) z r
any_to n (both f gives) = both (g.any_name n) (both f gives)

any_from : {y : Placed} {a : AnyName} {t r : Tokens} {z : NameClass} → IsAnyName y a → IsClassEnd (y ∷ t) z r → IsAnyClassEnd a t z r
any_from {a = a} {t = t} {r = r} n (both {a = k} k' (both f gives)) =
    let s = any_core_is k' n in
    subst (λ (z : NameClass). IsAnyClassEnd a t z r) (sym s.0) (both (subst (λ (l : Tokens). AreFollows l r) s.1 f) gives)

pub any_at : {now next : Tokens} {a : AnyName} → IsHere IsAnyName now a next → Upto IsClassEnd (IsAnyClassEnd a) (Starts behind_name) now next
any_at h = upto_token h.here (λ t z r d. any_to h.holds d) (λ t z r d g. any_from h.holds d)

-- ---- operands

pub data OperandEnd : Tokens → NameClass → Tokens → Type 0 where
  plain_end : {ts rest : Tokens} {k : NameClass} → IsClassEnd ts k rest → OperandEnd ts k rest
  except_end : {y : Placed} {i : ℕ} {mid rest : Tokens} {a : AnyName} {k : NameClass} → IsAnyName y a → IsClassPrimary mid k rest → OperandEnd (y ∷ minus # i ∷ mid) (t.all_but a k) rest

-- behind `*` or a name before `:*`
pub data AnyTail (a : AnyName) : Tokens → NameClass → Tokens → Type 0 where
  plain_tail : {ts rest : Tokens} → AreFollows ts rest → AnyTail a ts (t.all a) rest
  except_tail : {i : ℕ} {mid rest : Tokens} {k : NameClass} → IsClassPrimary mid k rest → AnyTail a (minus # i ∷ mid) (t.all_but a k) rest

operand_front : {mid r : Tokens} {k : NameClass} → OperandEnd mid k r → Starts no_bracket mid
operand_front (plain_end d) = end_front d
operand_front (except_end {i = i} {mid = mid} n p) = any_no_bracket (minus # i ∷ mid) n

pub fits_operand : Fits (Starts no_bracket) (λ (u : Unit {0}). OperandEnd) (Starts behind_name)
fits_operand = record { fits = λ u mid k r d g. operand_front d }

can_operand : Can (λ (u : Unit {0}). OperandEnd)
can_operand more = let w = can_then can_core can_followed more in (w.0, λ u. (w.1, plain_end w.2))

operand_start : {ts : Tokens} → Upto IsClassOperand (Then (Bare MayHaveAnnotation) (λ (u : Unit {0}). OperandEnd)) (Starts behind_name) ts ts
operand_start = upto_at (λ t z r d. to d) (λ t a z r d g. from d)
  where
    to : {t r : Tokens} {z : NameClass} → Then (Bare MayHaveAnnotation) (λ (u : Unit {0}). OperandEnd) t z r → IsClassOperand t z r
    to (both a (plain_end (both k (both f gives)))) = g.plain (g.primary a k f)
    to (both a (except_end n p)) = g.except a n p

    from : {t r : Tokens} {z : NameClass} → IsClassOperand t z r → Then (Bare MayHaveAnnotation) (λ (u : Unit {0}). OperandEnd) t z r
    from (g.plain (g.primary a k f)) = both a (plain_end (both k (both f gives)))
    from (g.except a n p) = both a (except_end n p)

pub operand_body : {ts body : Tokens} → Took (Bare MayHaveAnnotation) (Starts no_bracket) ts tt body → Upto IsClassOperand OperandEnd (Starts behind_name) ts body
operand_body a = upto_then operand_start (reads fits_operand a)

pub operand_stuck : {ts bad : Tokens} → Stuck (Bare MayHaveAnnotation) (Starts no_bracket) ts bad → Stuck IsClassOperand (Starts behind_name) ts bad
operand_stuck a = stuck_upto operand_start (stuck_in fits_operand can_operand a)

any_begins : {y : Placed} {a : AnyName} (us : Tokens) → IsAnyName y a → begins_any (first_terminal (y ∷ us)) ≡ true
any_begins us g.all = refl
any_begins us g.of = refl

-- another core
-- what begins with a word begins neither an annotation nor any name
pub word_first : (y : code.Terminal) (now behind : Tokens) → ((n : _) × (y ≡ c.Ident n)) ⊎ ((w : _) × (y ≡ c.Keyword w)) → IsNext now (seen y) behind
    → (no_bracket (first_terminal now) ≡ true) × (begins_any (first_terminal now) ≡ false)
word_first y now behind (inl (n, e)) h = let f = subst (λ (z : code.Terminal). IsNext now (seen z) behind) e h in (ap (λ ts. no_bracket (first_terminal ts)) f.1, ap (λ ts. begins_any (first_terminal ts)) f.1)
word_first y now behind (inr (w, e)) h = let f = subst (λ (z : code.Terminal). IsNext now (seen z) behind) e h in (ap (λ ts. no_bracket (first_terminal ts)) f.1, ap (λ ts. begins_any (first_terminal ts)) f.1)

pub operand_plain : {now : Tokens} → begins_any (first_terminal now) ≡ false → Upto OperandEnd IsClassEnd (Starts behind_name) now now
operand_plain h = upto_at (λ t z r d. plain_end d) (λ t a z r d g. from (ap begins_any (first_alike a) ∙ h) d)
  where
    from : {t r : Tokens} {z : NameClass} → begins_any (first_terminal t) ≡ false → OperandEnd t z r → IsClassEnd t z r
    from e (plain_end d) = d
    from e (except_end {i = i} {mid = mid} n p) = absurd (false≢true (sym e ∙ any_begins (minus # i ∷ mid) n))

tail_to : {y : Placed} {a : AnyName} {t r : Tokens} {z : NameClass} → IsAnyName y a → AnyTail a t z r → OperandEnd (y ∷ t) z r
tail_to n (plain_tail f) = plain_end (both (g.any_name n) (both f gives))
tail_to n (except_tail p) = except_end n p

plain_from : {a : AnyName} {t r : Tokens} {z : NameClass} → IsAnyClassEnd a t z r → AnyTail a t z r
plain_from (both f gives) = plain_tail f

tail_from : {y : Placed} {a : AnyName} {t r : Tokens} {z : NameClass} → IsAnyName y a → OperandEnd (y ∷ t) z r → AnyTail a t z r
tail_from n (plain_end d) = plain_from (any_from n d)
tail_from {a = a} {t = ts} {r = r} n (except_end {k = k} m p) = subst (λ (b : AnyName). AnyTail a ts (t.all_but b k) r) (any_one n m) (except_tail p)

pub operand_any : {now next : Tokens} {a : AnyName} → IsHere IsAnyName now a next → Upto OperandEnd (AnyTail a) (Starts behind_name) now next
operand_any h = upto_token h.here (λ t z r d. tail_to h.holds d) (λ t z r d g. tail_from h.holds d)

-- at a `-`
abbrev Excepted : AnyName → Tokens → NameClass → Tokens → Type 0
Excepted a = Then IsClassPrimary (λ (k : NameClass). Gives (t.all_but a k))

except_at : (a : AnyName) {i : ℕ} {now next : Tokens} → now ≡ minus # i ∷ next → Upto (AnyTail a) (Excepted a) (Starts behind_name) now next
except_at a {i = i} e = upto_token e (λ t z r d. to d) (λ t z r d f. from d f)
  where
    to : {t r : Tokens} {z : NameClass} → Excepted a t z r → AnyTail a (minus # i ∷ t) z r
    to (both p gives) = except_tail p

    from : {t r : Tokens} {z : NameClass} → AnyTail a (minus # i ∷ t) z r → Starts behind_name r → Excepted a t z r
    from (except_tail p) f = both p gives
    from (plain_tail d) f = absurd (false≢true (subst (Starts behind_name) (minus_stays d) f))

fits_except : (a : AnyName) → Fits (Starts behind_name) (λ (k : NameClass). Gives (t.all_but a k)) (Starts behind_name)
fits_except a = fits_gives (λ (k : NameClass). t.all_but a k) (λ r g. g)

pub except_took : (a : AnyName) {i : ℕ} {ts now next rest : Tokens} {k : NameClass} → Upto IsClassOperand (AnyTail a) (Starts behind_name) ts now → now ≡ minus # i ∷ next → Took IsClassPrimary (Starts behind_name) next k rest → Took IsClassOperand (Starts behind_name) ts (t.all_but a k) rest
except_took a {rest = rest} {k = k} u e p = took_upto (upto_then u (upto_then (except_at a e) (reads (fits_except a) p))) (took_gives (t.all_but a k) rest)

pub except_stuck : (a : AnyName) {i : ℕ} {ts now next bad : Tokens} → Upto IsClassOperand (AnyTail a) (Starts behind_name) ts now → now ≡ minus # i ∷ next → Stuck IsClassPrimary (Starts behind_name) next bad → Stuck IsClassOperand (Starts behind_name) ts bad
except_stuck a u e p = stuck_upto u (stuck_upto (except_at a e) (stuck_in (fits_except a) (can_gives (λ (k : NameClass). t.all_but a k)) p))

not_minus : (y : code.Terminal) → (y ≡ c.Minus → ⊥) → unwrap_or (seen y) x.other ≡ minus → ⊥
not_minus c.Minus h e = h refl
not_minus y h e = cc

pub tail_plain : (a : AnyName) (now behind : Tokens) (y : code.Terminal) → IsNext now (seen y) behind → (y ≡ c.Minus → ⊥) → Upto (AnyTail a) (IsAnyClassEnd a) (Starts behind_name) now now
tail_plain a now behind y e h = upto_at (λ t z r d. plain_from d) (λ t b z r d g. from (λ f. not_minus y h (sym (first_next now behind (seen y) e) ∙ sym (first_alike b) ∙ f)) d)
  where
    from : {t r : Tokens} {z : NameClass} → (first_terminal t ≡ minus → ⊥) → AnyTail a t z r → IsAnyClassEnd a t z r
    from n (plain_tail f) = both f gives
    from n (except_tail p) = absurd (n refl)

-- ---- name classes

abbrev pub choice_of : List NameClass → NameClass
choice_of l = t.choice (classes_of l)

bar_first : {ts r : Tokens} {l : List NameClass} → AreMoreClasses ts l r → first_terminal ts ≡ operator o.Bar
bar_first (g.last d) = refl
bar_first (g.more d m) = refl

more_to : {t r : Tokens} {l : List NameClass} {i : ℕ} → Then IsClassOperand (λ (k : NameClass). Whole (Rest AreMoreClasses) (k ∷ [])) t l r → AreMoreClasses (operator o.Bar # i ∷ t) l r
more_to {t = t} {r = r} {i = i} (both {a = k} d b) = subst (λ (l : List NameClass). AreMoreClasses (operator o.Bar # i ∷ t) l r) (sym b.is) (go d b.behind)
  where
    go : {mid : Tokens} {m : List NameClass} → IsClassOperand t k mid → Rest AreMoreClasses mid m r → AreMoreClasses (operator o.Bar # i ∷ t) (k ∷ m) r
    go d none = g.last d
    go d (some m) = g.more d m

more_from : {t r : Tokens} {l : List NameClass} {i : ℕ} → AreMoreClasses (operator o.Bar # i ∷ t) l r → Then IsClassOperand (λ (k : NameClass). Whole (Rest AreMoreClasses) (k ∷ [])) t l r
more_from (g.last d) = both d (record { more = []; is = refl; behind = none })
more_from (g.more {cs = cs} d m) = both d (record { more = cs; is = refl; behind = some m })

ends_at : (t : Tokens) → first_terminal t ≡ operator o.Bar → Starts behind_class t → ⊥
ends_at [] e g = cc
ends_at (y # i ∷ t) e g = false≢true (sym (ap behind_class e) ∙ g)

part_ends_at : (t : Tokens) → first_terminal t ≡ operator o.Bar → Starts behind_name t
part_ends_at [] e = tt
part_ends_at (y # i ∷ t) e = ap behind_name e

pub classes_chain : IsChain IsNameClass IsClassOperand (Starts behind_name) (Starts behind_class) AreMoreClasses choice_of (operator o.Bar)
classes_chain = record {
  to = λ t l r i d. more_to d;
  from = λ t l r i d. more_from d;
  begins = λ t l r d. bar_first d;
  ends = ends_at;
  part_ends = part_ends_at;
  less = λ t g. starts_to behind_class behind_name class_to_name t g;
}

class_start : {ts : Tokens} → Upto IsNameClass (Then IsClassOperand (Chained AreMoreClasses choice_of)) (Starts behind_class) ts ts
class_start = upto_at (λ t z r d. to d) (λ t a z r d g. from d)
  where
    to : {t r : Tokens} {z : NameClass} → Then IsClassOperand (Chained AreMoreClasses choice_of) t z r → IsNameClass t z r
    to (both d alone) = g.one d
    to (both d (many m)) = g.choice d m

    from : {t r : Tokens} {z : NameClass} → IsNameClass t z r → Then IsClassOperand (Chained AreMoreClasses choice_of) t z r
    from (g.one d) = both d alone
    from (g.choice d m) = both d (many m)

pub class_first : {ts now : Tokens} {k : NameClass} → Took IsClassOperand (Starts behind_name) ts k now → Upto IsNameClass (Chained AreMoreClasses choice_of k) (Starts behind_class) ts now
class_first k = upto_then class_start (reads (fits_chained classes_chain) k)

pub class_stuck : {ts bad : Tokens} → Stuck IsClassOperand (Starts behind_name) ts bad → Stuck IsNameClass (Starts behind_class) ts bad
class_stuck k = stuck_upto class_start (stuck_in (fits_chained classes_chain) (λ more. (more, λ k. (k, alone))) k)

pub class_alone : {ts now : Tokens} {k : NameClass} → Took IsClassOperand (Starts behind_name) ts k now → (first_terminal now ≡ operator o.Bar → ⊥) → Took IsNameClass (Starts behind_class) ts k now
class_alone {now = now} {k = k} d n = took_upto (upto_then (class_first d) (alone_at classes_chain k n)) (took_gives k now)

-- a name before `{` is a class
pub lone_class : {n : List ℕ} {i : ℕ} {now next : Tokens} → now ≡ ident n # i ∷ next → first_terminal next ≡ left_brace → Took IsNameClass (Starts behind_class) now (t.name (t.local n)) next
lone_class {n = n} {now = now} {next = next} e b =
    let bare = bare_here now (ap (λ ts. no_bracket (first_terminal ts)) e) in
    let plain = operand_plain (ap (λ ts. begins_any (first_terminal ts)) e) in
    let behind = followed_took (t.name (t.local n)) (none_here next (ap no_follow b)) in
    class_alone (took_upto (upto_then (operand_body bare) (upto_then plain (end_core (word_core g.by_name e)))) behind) (λ f. other_sign (sym b ∙ f))
  where
    other_sign : left_brace ≡ operator o.Bar → ⊥
    other_sign e = cc

pub so_far_same : {xs ys : List NameClass} (ts now : Tokens) → xs ≡ ys → So_far classes_chain xs ts now → So_far classes_chain ys ts now
so_far_same ts now e u = subst (λ (l : List NameClass). So_far classes_chain l ts now) e u
