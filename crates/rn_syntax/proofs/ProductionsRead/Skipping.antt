-- Annotations, bracket by bracket, and what follows them.
use Rattle.std.proofs.Common.{◌≡◌, ℕ, zero, suc, Bool, true, false, List, [], ◌∷◌, ◌⊎◌, inl, inr, refl, ap, sym, ◌∙◌, subst, unwrap_or, Bor}
use Rattle.std.proofs.lemmas.Bool.{false≢true}
use Rattle.rn_syntax.specs.declared.productions.terminals.Terminal as code
use Rattle.rn_syntax.specs.declared.productions.terminals.Terminal.TheVariants as c
use Rattle.rn_text.specs.declared.keywords.Keyword.{Keyword}
use Rattle.rn_syntax.specs.Terminal as t
use Rattle.rn_syntax.specs.Terminal.{Terminal, ◌#◌, left_bracket, right_bracket, follow, is_bracket}
use Rattle.rn_syntax.specs.Grammar as g
use Rattle.rn_syntax.specs.Grammar.{Tokens, Closed, IsAnnotation, MayHaveAnnotation, AreFollows, IsFollowName}
use Rattle.rn_syntax.specs.inside.Follow.{Starts, Anything, first_terminal, no_bracket, no_follow}
use Rattle.rn_syntax.specs.inside.Sequence.{Then, both, Gives, gives, IsFollow, named}
use Rattle.rn_syntax.specs.inside.Readers.{Alike, Took, Stuck, Bare, seen, IsNext}
use Rattle.rn_syntax.proofs.ProductionsRead.Compose.{Upto, Can, CanBe, upto_at, upto_then, stuck_upto, reads, stuck_in, stuck_here, first_alike, alike_end, upto_token, fits_anything}
use Rattle.rn_syntax.proofs.ProductionsRead.Next.{first_next}

-- this many brackets close
abbrev pub Closings : ℕ → Tokens → Unit {0} → Tokens → Type 0
Closings zero = Gives tt
Closings (suc n) = Then (Bare Closed) (λ u. Closings n)

pub closings_start : (ts : Tokens) → Upto (Bare Closed) (Closings 1) Anything ts ts
closings_start ts = upto_at (λ t z r d. to d) (λ t a z r d g. both d gives)
  where
    to : {t r : Tokens} {z : Unit {0}} → Closings 1 t z r → Closed t r
    to (both d gives) = d

closed_end : {i : ℕ} {ts r : Tokens} → Closed (right_bracket # i ∷ ts) r → ts ≡ r
closed_end g.close = refl
closed_end (g.other e d) = absurd (false≢true (sym e))

close_took : {F : Tokens → Type 0} {i : ℕ} {now next : Tokens} → now ≡ right_bracket # i ∷ next → Took (Bare Closed) F now tt next
close_took {i = i} e = record { front = right_bracket # i ∷ []; cut = e; derives = λ more. g.close; only = λ t a y r d f. (refl, sym (closed_end d)) }

pub closing : (n : ℕ) {i : ℕ} {now next : Tokens} → now ≡ right_bracket # i ∷ next → Upto (Closings (suc n)) (Closings n) Anything now next
closing n e = reads fits_anything (close_took e)

pub closings_same : {n k : ℕ} {ts now : Tokens} → n ≡ k → Upto (Bare Closed) (Closings n) Anything ts now → Upto (Bare Closed) (Closings k) Anything ts now
closings_same {ts = ts} {now = now} e u = subst (λ (m : ℕ). Upto (Bare Closed) (Closings m) Anything ts now) e u

-- one bracket more is open
pub opening : (n : ℕ) {i : ℕ} {now next : Tokens} → now ≡ left_bracket # i ∷ next → Upto (Closings (suc n)) (Closings (suc (suc n))) Anything now next
opening n {i = i} e = upto_token e (λ t z r d. to d) (λ t z r d g. from d)
  where
    to : {t r : Tokens} {z : Unit {0}} → Closings (suc (suc n)) t z r → Closings (suc n) (left_bracket # i ∷ t) z r
    to (both c (both d m)) = both (g.nested c d) m

    from : {t r : Tokens} {z : Unit {0}} → Closings (suc n) (left_bracket # i ∷ t) z r → Closings (suc (suc n)) t z r
    from (both (g.nested c d) m) = both c (both d m)
    from (both (g.other e c) m) = absurd (false≢true (sym e))

-- a token that is no bracket
pub passing : (n : ℕ) {x : Terminal} {i : ℕ} {now next : Tokens} → is_bracket x ≡ false → now ≡ x # i ∷ next → Upto (Closings (suc n)) (Closings (suc n)) Anything now next
passing n {x = x} {i = i} plain e = upto_token e (λ t z r d. to d) (λ t z r d g. from plain d)
  where
    to : {t r : Tokens} {z : Unit {0}} → Closings (suc n) t z r → Closings (suc n) (x # i ∷ t) z r
    to (both c m) = both (g.other plain c) m

    from : {y : Terminal} {t r : Tokens} {z : Unit {0}} → is_bracket y ≡ false → Closings (suc n) (y # i ∷ t) z r → Closings (suc n) t z r
    from h (both (g.other e c) m) = both c m
    from h (both g.close m) = absurd (false≢true (sym h))
    from h (both (g.nested c d) m) = absurd (false≢true (sym h))

pub closings_stuck : (n : ℕ) {now : Tokens} → ((t r : Tokens) → Alike t now → Closed t r → ⊥) → Stuck (Closings (suc n)) Anything now now
closings_stuck n h = stuck_in fits_anything (can_close n) (record { front = []; cut = refl; begins = λ more. (right_bracket # 0 ∷ more, tt, g.close); refuses = λ t a x r d f. h t r a d })
  where
    can_close : (n : ℕ) → Can (λ (u : Unit {0}). Closings n)
    can_close zero more = (more, λ u. (tt, gives))
    can_close (suc n) more = let m = can_close n more in (right_bracket # 0 ∷ m.0, λ u. (tt, both g.close (m.1 tt).1))

-- no annotation goes on at another bracket or at the end
abbrev goes_on : Terminal → Bool
goes_on t.left_brace = false
goes_on t.right_brace = false
goes_on t.left_paren = false
goes_on t.right_paren = false
goes_on x = true

plain_goes : (x : Terminal) → is_bracket x ≡ false → goes_on x ≡ true
plain_goes t.left_brace e = absurd (false≢true (sym e))
plain_goes t.right_brace e = absurd (false≢true (sym e))
plain_goes t.left_paren e = absurd (false≢true (sym e))
plain_goes t.right_paren e = absurd (false≢true (sym e))
plain_goes x e = refl

closed_goes : {t r : Tokens} → Closed t r → goes_on (first_terminal t) ≡ true
closed_goes g.close = refl
closed_goes (g.other {x = x} e c) = plain_goes x e
closed_goes (g.nested c d) = refl

closed_nothing : {r : Tokens} → Closed [] r → ⊥
closed_nothing d = elim d [ ]

at_bracket : (n : ℕ) {y : Terminal} {i : ℕ} {now next : Tokens} → goes_on y ≡ false → now ≡ y # i ∷ next → Stuck (Closings (suc n)) Anything now now
at_bracket n h e = closings_stuck n (λ t r a d. false≢true (sym h ∙ ap (λ l. goes_on (first_terminal l)) (sym e) ∙ ap goes_on (sym (first_alike a)) ∙ closed_goes d))

pub refusing : (n : ℕ) (x : code.Terminal) (now next : Tokens) → (x ≡ c.LeftBrace) ⊎ ((x ≡ c.RightBrace) ⊎ ((x ≡ c.LeftParen) ⊎ ((x ≡ c.RightParen) ⊎ (x ≡ c.End)))) → IsNext now (seen x) next
    → Stuck (Closings (suc n)) Anything now now
refusing n x now next (inl e) h = let f = subst (λ (y : code.Terminal). IsNext now (seen y) next) e h in at_bracket n refl f.1
refusing n x now next (inr (inl e)) h = let f = subst (λ (y : code.Terminal). IsNext now (seen y) next) e h in at_bracket n refl f.1
refusing n x now next (inr (inr (inl e))) h = let f = subst (λ (y : code.Terminal). IsNext now (seen y) next) e h in at_bracket n refl f.1
refusing n x now next (inr (inr (inr (inl e)))) h = let f = subst (λ (y : code.Terminal). IsNext now (seen y) next) e h in at_bracket n refl f.1
refusing n x now next (inr (inr (inr (inr e)))) h =
    let f = subst (λ (y : code.Terminal). IsNext now (seen y) next) e h in
    closings_stuck n (λ t r a d. closed_nothing (subst (λ (l : Tokens). Closed l r) (alike_end f a) d))

-- the token of which the code saw none of these
pub record IsPlain (now next : Tokens) : Type 0 where
  pub token : Terminal
  pub place : ℕ
  pub here : now ≡ token # place ∷ next
  pub plain : is_bracket token ≡ false

pub is_plain : (x : code.Terminal) (now next : Tokens) → (x ≡ c.LeftBrace → ⊥) → (x ≡ c.RightBrace → ⊥) → (x ≡ c.LeftParen → ⊥) → (x ≡ c.RightParen → ⊥)
    → (x ≡ c.LeftBracket → ⊥) → (x ≡ c.RightBracket → ⊥) → (x ≡ c.End → ⊥) → IsNext now (seen x) next → IsPlain now next
is_plain c.LeftBrace now next h1 h2 h3 h4 h5 h6 h7 e = absurd (h1 refl)
is_plain c.RightBrace now next h1 h2 h3 h4 h5 h6 h7 e = absurd (h2 refl)
is_plain c.LeftParen now next h1 h2 h3 h4 h5 h6 h7 e = absurd (h3 refl)
is_plain c.RightParen now next h1 h2 h3 h4 h5 h6 h7 e = absurd (h4 refl)
is_plain c.LeftBracket now next h1 h2 h3 h4 h5 h6 h7 e = absurd (h5 refl)
is_plain c.RightBracket now next h1 h2 h3 h4 h5 h6 h7 e = absurd (h6 refl)
is_plain c.End now next h1 h2 h3 h4 h5 h6 h7 e = absurd (h7 refl)
is_plain x now next h1 h2 h3 h4 h5 h6 h7 e = record { token = _; place = e.0; here = e.1; plain = refl }

-- ---- behind a bracket

pub annotation_at : {i : ℕ} {now next : Tokens} → now ≡ left_bracket # i ∷ next → Upto (Bare IsAnnotation) (Bare Closed) Anything now next
annotation_at {i = i} e = upto_token e (λ t z r d. g.bracketed d) (λ t z r d g. from d)
  where
    from : {t r : Tokens} → IsAnnotation (left_bracket # i ∷ t) r → Closed t r
    from (g.bracketed d) = d

pub may_at : {i : ℕ} {now next : Tokens} → now ≡ left_bracket # i ∷ next → Upto (Bare MayHaveAnnotation) (Bare Closed) (Starts no_bracket) now next
may_at {i = i} e = upto_token e (λ t z r d. g.annotated (g.bracketed d)) (λ t z r d f. from d f)
  where
    from : {t r : Tokens} → MayHaveAnnotation (left_bracket # i ∷ t) r → Starts no_bracket r → Closed t r
    from (g.annotated (g.bracketed d)) f = d
    from g.bare f = absurd (false≢true f)

not_bracket : (x : code.Terminal) → (x ≡ c.LeftBracket → ⊥) → no_bracket (unwrap_or (seen x) t.other) ≡ true
not_bracket c.LeftBracket h = absurd (h refl)
not_bracket x h = refl

-- no bracket stands here
pub first_no_bracket : (now behind : Tokens) (x : code.Terminal) → IsNext now (seen x) behind → (x ≡ c.LeftBracket → ⊥) → no_bracket (first_terminal now) ≡ true
first_no_bracket now behind x e h = ap no_bracket (first_next now behind (seen x) e) ∙ not_bracket x h

pub begins_bracket : {t r : Tokens} → IsAnnotation t r → no_bracket (first_terminal t) ≡ false
begins_bracket (g.bracketed d) = refl

pub can_annotation : CanBe (Bare IsAnnotation)
can_annotation more = (left_bracket # 0 ∷ right_bracket # 0 ∷ more, tt, g.bracketed g.close)

pub no_annotation : (now behind : Tokens) (x : code.Terminal) → IsNext now (seen x) behind → (x ≡ c.LeftBracket → ⊥) → Stuck (Bare IsAnnotation) Anything now now
no_annotation now behind x e h = record {
  front = [];
  cut = refl;
  begins = can_annotation;
  refuses = λ t a u r d f. false≢true (sym (begins_bracket d) ∙ ap no_bracket (first_alike a) ∙ first_no_bracket now behind x e h);
}

bare_from : {t r : Tokens} → no_bracket (first_terminal t) ≡ true → MayHaveAnnotation t r → r ≡ t
bare_from h g.bare = refl
bare_from h (g.annotated (g.bracketed d)) = absurd (false≢true h)

-- nothing is skipped
pub bare_here : (now : Tokens) → no_bracket (first_terminal now) ≡ true → Took (Bare MayHaveAnnotation) (Starts no_bracket) now tt now
bare_here now h = record {
  front = [];
  cut = refl;
  derives = λ more. g.bare;
  only = λ t a u r d f. (refl, bare_from (ap no_bracket (first_alike a) ∙ h) d);
}

pub bare : (now behind : Tokens) (x : code.Terminal) → IsNext now (seen x) behind → (x ≡ c.LeftBracket → ⊥) → Took (Bare MayHaveAnnotation) (Starts no_bracket) now tt now
bare now behind x e h = bare_here now (first_no_bracket now behind x e h)

-- ---- what follows a core

abbrev is_follow_name : Terminal → Bool
is_follow_name (t.ident n) = true
is_follow_name (t.keyword w) = true
is_follow_name (t.prefixed n l) = true
is_follow_name x = false

name_is : {x : Terminal} → IsFollowName x → is_follow_name x ≡ true
name_is (g.by_word g.by_name) = refl
name_is (g.by_word g.by_keyword) = refl
name_is g.by_prefixed = refl

named_begins : {t r : Tokens} → IsFollow t r → is_follow_name (first_terminal t) ≡ true
named_begins (named n d) = name_is n

pub can_named : CanBe (Bare IsFollow)
can_named more = (t.ident [] # 0 ∷ left_bracket # 0 ∷ right_bracket # 0 ∷ more, tt, named (g.by_word g.by_name) (g.bracketed g.close))

not_name : (x : code.Terminal) → ((n : _) → x ≡ c.Ident n → ⊥) → ((w : _) → x ≡ c.Keyword w → ⊥) → ((n : _) → x ≡ c.Prefixed n → ⊥) → is_follow_name (unwrap_or (seen x) t.other) ≡ false
not_name (c.Ident n) h k l = absurd (h n refl)
not_name (c.Keyword w) h k l = absurd (k w refl)
not_name (c.Prefixed n) h k l = absurd (l n refl)
not_name x h k l = refl

pub no_name : (now behind : Tokens) (x : code.Terminal) → IsNext now (seen x) behind → ((n : _) → x ≡ c.Ident n → ⊥) → ((w : _) → x ≡ c.Keyword w → ⊥) → ((n : _) → x ≡ c.Prefixed n → ⊥) → Stuck (Bare IsFollow) Anything now now
no_name now behind x e h k l = stuck_here is_follow_name (λ t a r d. named_begins d) (ap is_follow_name (first_next now behind (seen x) e) ∙ not_name x h k l) can_named

-- the name that the code saw
pub follow_name : (x : code.Terminal) (now behind : Tokens) → ((n : Bor (List ℕ)) × (x ≡ c.Ident n)) ⊎ (((w : Keyword) × (x ≡ c.Keyword w)) ⊎ ((n : Bor (List ℕ)) × (x ≡ c.Prefixed n))) → IsNext now (seen x) behind
    → (y : Terminal) × (i : ℕ) × (now ≡ y # i ∷ behind) × IsFollowName y
follow_name x now behind (inl (n, e)) h = let f = subst (λ (y : code.Terminal). IsNext now (seen y) behind) e h in (t.ident n.now, f.0, f.1, g.by_word g.by_name)
follow_name x now behind (inr (inl (w, e))) h = let f = subst (λ (y : code.Terminal). IsNext now (seen y) behind) e h in (t.keyword w, f.0, f.1, g.by_word g.by_keyword)
follow_name x now behind (inr (inr (n, e))) h = let f = subst (λ (y : code.Terminal). IsNext now (seen y) behind) e h in (_, f.0, f.1, g.by_prefixed)

pub named_at : {x : Terminal} {i : ℕ} {now next : Tokens} → IsFollowName x → now ≡ x # i ∷ next → Upto (Bare IsFollow) (Bare IsAnnotation) Anything now next
named_at {x = x} {i = i} n e = upto_token e (λ t z r d. named n d) (λ t z r d g. from d)
  where
    from : {t r : Tokens} → IsFollow (x # i ∷ t) r → IsAnnotation t r
    from (named n d) = d

-- one more
pub follow_at : {i : ℕ} {now next : Tokens} → now ≡ follow # i ∷ next → Upto (Bare AreFollows) (Then (Bare IsFollow) (λ (u : Unit {0}). Bare AreFollows)) (Starts no_follow) now next
follow_at {i = i} e = upto_token e (λ t z r d. to d) (λ t z r d f. from d f)
  where
    to : {t r : Tokens} {z : Unit {0}} → Then (Bare IsFollow) (λ (u : Unit {0}). Bare AreFollows) t z r → AreFollows (follow # i ∷ t) r
    to (both (named n a) m) = g.more n a m

    from : {t r : Tokens} {z : Unit {0}} → AreFollows (follow # i ∷ t) r → Starts no_follow r → Then (Bare IsFollow) (λ (u : Unit {0}). Bare AreFollows) t z r
    from (g.more n a m) f = both (named n a) m
    from g.none f = absurd (false≢true f)

pub follow_then : {i : ℕ} {now next end : Tokens} → now ≡ follow # i ∷ next → Took (Bare IsFollow) Anything next tt end → Upto (Bare AreFollows) (Bare AreFollows) (Starts no_follow) now end
follow_then e k = upto_then (follow_at e) (reads fits_anything k)

pub follow_stuck : {i : ℕ} {now next bad : Tokens} → now ≡ follow # i ∷ next → Stuck (Bare IsFollow) Anything next bad → Stuck (Bare AreFollows) (Starts no_follow) now bad
follow_stuck e k = stuck_upto (follow_at e) (stuck_in fits_anything (λ more. (more, λ u. (tt, g.none))) k)

not_follow : (x : code.Terminal) → (x ≡ c.Follow → ⊥) → no_follow (unwrap_or (seen x) t.other) ≡ true
not_follow c.Follow h = absurd (h refl)
not_follow x h = refl

none_from : {t r : Tokens} → no_follow (first_terminal t) ≡ true → AreFollows t r → r ≡ t
none_from h g.none = refl
none_from h (g.more n a m) = absurd (false≢true h)

-- none comes
pub none_here : (now : Tokens) → no_follow (first_terminal now) ≡ true → Took (Bare AreFollows) (Starts no_follow) now tt now
none_here now h = record {
  front = [];
  cut = refl;
  derives = λ more. g.none;
  only = λ t a u r d f. (refl, none_from (ap no_follow (first_alike a) ∙ h) d);
}

pub no_follows : (now behind : Tokens) (x : code.Terminal) → IsNext now (seen x) behind → (x ≡ c.Follow → ⊥) → Took (Bare AreFollows) (Starts no_follow) now tt now
no_follows now behind x e h = none_here now (ap no_follow (first_next now behind (seen x) e) ∙ not_follow x h)
