-- Datatypes and their parameters.
use Rattle.std.proofs.Common.{◌≡◌, ℕ, true, false, [], ◌∷◌, ◌++◌, refl, ap, sym, ◌∙◌, subst, append-nil}
use Rattle.std.proofs.lemmas.Bool.{false≢true}
use Rattle.rn_text.specs.Texts.{Text}
use Rattle.rn_syntax.specs.declared.tree.Method.TheVariants as m
use Rattle.rn_syntax.specs.declared.productions.terminals.Terminal as code
use Rattle.rn_syntax.specs.declared.productions.terminals.Terminal.TheVariants as c
use Rattle.rn_syntax.specs.Terminal.{Terminal, Placed, ◌#◌, ident, assign, segment, left_brace, right_brace}
use Rattle.rn_syntax.specs.Tree.{Params}
use Rattle.rn_syntax.specs.Grammar as g
use Rattle.rn_syntax.specs.Grammar.{Tokens, MayHaveAnnotation, IsLiteral, AreParams, MayHaveParams}
use Rattle.rn_syntax.specs.inside.Follow.{Starts, Anything, first_terminal, is_end, no_bracket, no_tilde, no_brace}
use Rattle.rn_syntax.specs.inside.Sequence.{Then, both, Gives, gives, IsToken, token, IsOf, of, IsWordAt, word_at, IsHere, IsParam}
use Rattle.rn_syntax.specs.inside.Readers.{Took, Stuck, Bare, seen, IsNext}
use Rattle.rn_syntax.proofs.OneReading.OneClass.{params_no_tilde, param_front, word_no_bracket}
use Rattle.rn_syntax.proofs.ProductionsRead.Compose.{Upto, Fits, Can, CanBe, upto_at, upto_token, upto_then, took_upto, reads, stuck_in, took_gives, can_then, first_alike, fits_anything, fits_gives, can_gives}
use Rattle.rn_syntax.proofs.ProductionsRead.Repeating.{Whole, behind_start, part_read, part_stuck, parts_took}
use Rattle.rn_syntax.proofs.ProductionsRead.Next.{first_no_brace}

-- a token that names a datatype, where the code knows its place
pub is_here : {A : Type 0} (P : Placed → A → Type 0) (ts next : Tokens) (x : Terminal) (i j : ℕ) (d : ℕ → A) → ts ≡ x # i ∷ next → j ≡ i → P (x # i) (d i) → IsHere P ts (d j) next
is_here P ts next x i j d here same h = record { token = x # i; holds = subst (λ (n : ℕ). P (x # i) (d n)) (sym same) h; here = here }

-- ---- one parameter

abbrev Value : Text → ℕ → Tokens → Text × Text → Tokens → Type 0
Value n i = Then IsLiteral (λ s. Gives (n, s))

abbrev Named : Text → Tokens → Text × Text → Tokens → Type 0
Named n = Then (IsToken (assign m.Plain)) (Value n)

abbrev Unannotated : Unit {0} → Tokens → Text × Text → Tokens → Type 0
Unannotated u = Then (IsOf IsWordAt) Named

fits_name : Fits (Starts no_bracket) Unannotated (Starts no_tilde)
fits_name = record { fits = λ a mid c r d g. begins d }
  where
    begins : {mid r : Tokens} {c : Text × Text} → Unannotated tt mid c r → Starts no_bracket mid
    begins (both (of (word_at w)) d) = word_no_bracket w

fits_text : (n : Text) → Fits {C = Text × Text} (Starts no_tilde) (λ (s : Text). Gives {A = Text × Text} (n, s)) (Starts no_tilde)
fits_text n = fits_gives {C = Text × Text} (λ (s : Text). (n, s)) (λ r g. g)

can_text : (n : Text) → Can {C = Text × Text} (λ (s : Text). Gives {A = Text × Text} (n, s))
can_text n = can_gives {C = Text × Text} (λ (s : Text). (n, s))

can_literal : CanBe IsLiteral
can_literal more = (segment [] # 0 ∷ more, [], g.one)

can_value : (n : Text) → Can (Value n)
can_value n more = let w = can_then can_literal (can_text n) more in (w.0, λ i. (w.1, w.2))

can_named : Can Named
can_named more = (assign m.Plain # 0 ∷ segment [] # 0 ∷ more, λ n. ((n, []), both token (both g.one gives)))

can_name : CanBe (IsOf IsWordAt)
can_name more = (ident [] # 0 ∷ more, [], of (word_at g.by_name))

can_unannotated : Can Unannotated
can_unannotated more = let w = can_then can_name can_named more in (w.0, λ u. (w.1, w.2))

module _ {ts body : Tokens} (a : Took (Bare MayHaveAnnotation) (Starts no_bracket) ts tt body) where
  pub param_body : Upto IsParam (Unannotated tt) (Starts no_tilde) ts body
  param_body = reads fits_name a

  module _ {behind : Tokens} {n : Text} (w : Took (IsOf IsWordAt) Anything body n behind) where
    pub param_name : Upto IsParam (Named n) (Starts no_tilde) ts behind
    param_name = upto_then param_body (reads fits_anything w)

    module _ {value : Tokens} {i : ℕ} (e : Took (IsToken (assign m.Plain)) Anything behind i value) where
      pub param_value : Upto IsParam (Value n i) (Starts no_tilde) ts value
      param_value = upto_then param_name (reads fits_anything e)

      pub param_read : {rest : Tokens} {s : Text} → Took IsLiteral (Starts no_tilde) value s rest → Took IsParam (Starts no_tilde) ts (n, s) rest
      param_read {rest = rest} {s = s} l = took_upto (upto_then param_value (reads (fits_text n) l)) (took_gives (n, s) rest)

pub param_stuck-annotation : {ts bad : Tokens} → Stuck (Bare MayHaveAnnotation) (Starts no_bracket) ts bad → Stuck IsParam (Starts no_tilde) ts bad
param_stuck-annotation k = stuck_in fits_name can_unannotated k

pub stuck-name : {bad body : Tokens} → Stuck (IsOf IsWordAt) Anything body bad → Stuck (Unannotated tt) (Starts no_tilde) body bad
stuck-name k = stuck_in fits_anything can_named k

pub stuck-equals : (n : Text) {bad behind : Tokens} → Stuck (IsToken (assign m.Plain)) Anything behind bad → Stuck (Named n) (Starts no_tilde) behind bad
stuck-equals n k = stuck_in fits_anything (can_value n) k

pub stuck-value : (n : Text) (i : ℕ) {bad value : Tokens} → Stuck IsLiteral (Starts no_tilde) value bad → Stuck (Value n i) (Starts no_tilde) value bad
stuck-value n i k = stuck_in (fits_text n) (can_text n) k

-- ---- parameters

can_close : (more : Tokens) → (w : Tokens) × (ps : Params) × AreParams w ps more
can_close more = (right_brace # 0 ∷ more, [], g.close)

-- behind the brace
pub params_at : {i : ℕ} {now next : Tokens} → now ≡ left_brace # i ∷ next → Upto MayHaveParams AreParams (Starts no_brace) now next
params_at {i = i} e = upto_token e (λ t z r d. g.braces d) (λ t z r d f. from d f)
  where
    from : {t r : Tokens} {ps : Params} → MayHaveParams (left_brace # i ∷ t) ps r → Starts no_brace r → AreParams t ps r
    from (g.braces d) f = d
    from g.none f = absurd (false≢true f)

param_to : {t r : Tokens} {ps : Params} → Then IsParam (λ p. Whole AreParams (p ∷ [])) t ps r → AreParams t ps r
param_to {t = t} {r = r} (both (both a (both (of (word_at w)) (both token (both l gives)))) b) = subst (λ (l : Params). AreParams t l r) (sym b.is) (g.param a w l b.behind)

param_from : {t r : Tokens} {ps : Params} → is_end (first_terminal t) ≡ false → AreParams t ps r → Then IsParam (λ p. Whole AreParams (p ∷ [])) t ps r
param_from e g.close = absurd (false≢true (sym e))
param_from e (g.param {ps = ps} a w l d) = both (both a (both (of (word_at w)) (both token (both l gives)))) (record { more = ps; is = refl; behind = d })

pub param_follows : {now : Tokens} → is_end (first_terminal now) ≡ false → Upto AreParams (Then IsParam (λ p. Whole AreParams (p ∷ []))) (Starts no_brace) now now
param_follows e = upto_at (λ t z r d. param_to d) (λ t a z r d g. param_from (ap is_end (first_alike a) ∙ e) d)

pub fits_params : Fits (Starts no_tilde) (λ p. Whole AreParams (p ∷ [])) (Starts no_brace)
fits_params = record { fits = λ p mid c r d g. params_no_tilde d.behind }

end_from : {i : ℕ} {t r : Tokens} {ps : Params} → AreParams (right_brace # i ∷ t) ps r → (ps ≡ []) × (r ≡ t)
end_from g.close = (refl, refl)
end_from (g.param a w l d) = absurd (false≢true (param_front a w))

-- at the brace
pub params_end : {i : ℕ} {now next : Tokens} → now ≡ right_brace # i ∷ next → Took AreParams (Starts no_brace) now [] next
params_end {i = i} e = record { front = right_brace # i ∷ []; cut = e; derives = λ more. g.close; only = λ t a y r d f. end_from d }

-- no brace comes
none_from : {t r : Tokens} {ps : Params} → no_brace (first_terminal t) ≡ true → MayHaveParams t ps r → (ps ≡ []) × (r ≡ t)
none_from e g.none = (refl, refl)
none_from e (g.braces d) = absurd (false≢true e)

pub no_params : (now behind : Tokens) (x : code.Terminal) → IsNext now (seen x) behind → (x ≡ c.LeftBrace → ⊥) → Took MayHaveParams (Starts no_brace) now [] now
no_params now behind x e h = record {
  front = [];
  cut = refl;
  derives = λ more. g.none;
  only = λ t a y r d f. none_from (ap no_brace (first_alike a) ∙ first_no_brace now behind x e h) d;
}

-- ---- the loop

abbrev pub So_far : Params → Tokens → Tokens → Type 0
So_far ps ts now = Upto MayHaveParams (Whole AreParams ps) (Starts no_brace) ts now

pub params_start : {i : ℕ} {now next : Tokens} → now ≡ left_brace # i ∷ next → So_far [] now next
params_start e = upto_then (params_at e) behind_start

pub params_read : (ps : Params) {ts now next : Tokens} {p : Text × Text} → So_far ps ts now → is_end (first_terminal now) ≡ false → Took IsParam (Starts no_tilde) now p next → So_far (ps ++ p ∷ []) ts next
params_read ps so_far e k = part_read (λ (l : Params). l) ps so_far (param_follows e) fits_params k

pub params_stuck : (ps : Params) {ts now bad : Tokens} → So_far ps ts now → is_end (first_terminal now) ≡ false → Stuck IsParam (Starts no_tilde) now bad → Stuck MayHaveParams (Starts no_brace) ts bad
params_stuck ps so_far e k = part_stuck (λ (l : Params). l) ps so_far (param_follows e) fits_params can_close k

pub params_took : (ps : Params) {ts now next : Tokens} {i : ℕ} → So_far ps ts now → now ≡ right_brace # i ∷ next → Took MayHaveParams (Starts no_brace) ts ps next
params_took ps so_far e = parts_took (λ (l : Params). l) ps [] (sym (append-nil ps)) so_far (params_end e)

pub params_same : {ps qs : Params} {ts now : Tokens} → ps ≡ qs → So_far ps ts now → So_far qs ts now
params_same {ts = ts} {now = now} e u = subst (λ (l : Params). So_far l ts now) e u
