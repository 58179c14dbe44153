-- Literals, segment by segment.
use Rattle.std.proofs.Common.{◌≡◌, ℕ, Bool, true, false, List, [], ◌∷◌, ◌++◌, refl, ap, sym, ◌∙◌, subst, append_assoc, append-nil, unwrap_or, cond, not}
use Rattle.std.specs.Prelude.{◌&&◌, ◌==◌}
use Rattle.std.proofs.lemmas.Bool.{false≢true, and_parts, not-true}
use Rattle.rn_text.specs.Segments.{after_run, between_delimiters, escape_front, begins_with, is_verbatim, is_x}
use Rattle.rn_syntax.specs.declared.productions.terminals.Terminal as code
use Rattle.rn_syntax.specs.declared.productions.terminals.Terminal.TheVariants as c
use Rattle.rn_syntax.specs.Terminal as t
use Rattle.rn_syntax.specs.Terminal.{Terminal, ◌#◌, segment, tilde}
use Rattle.rn_syntax.specs.Grammar as g
use Rattle.rn_syntax.specs.Grammar.{Tokens, IsLiteral}
use Rattle.rn_syntax.specs.inside.Follow.{Starts, Anything, first_terminal, no_tilde}
use Rattle.rn_syntax.specs.inside.Sequence.{Then, both, Gives, gives, IsSegment, segment_here}
use Rattle.rn_syntax.specs.inside.Readers.{Took, Stuck, seen, IsNext, is_plain}
use Rattle.rn_syntax.proofs.ProductionsRead.Compose.{Upto, Fits, Can, CanBe, upto_at, upto_token, upto_then, took_upto, stuck_upto, reads, stuck_in, took_gives, stuck_here, first_alike, fits_anything}
use Rattle.rn_syntax.proofs.ProductionsRead.Next.{first_next, is_segment, not_segment}

-- ---- text that is written as it is

verbatim_at : (b r n : Bool) → b ≡ false → r ≡ false → (not b && (not r && n)) ≡ n
verbatim_at false false n p q = refl
verbatim_at true r n p q = cc
verbatim_at false true n p q = cc

no_escape : (b x y : Bool) → b ≡ false → (b && x && y) ≡ false
no_escape false x y e = refl
no_escape true x y e = cc

verbatim_first : (d : ℕ) (cs : List ℕ) (b : Bool) → is_plain d ≡ b → is_verbatim (after_run is_plain cs) ≡ is_verbatim cs → is_verbatim (cond b (after_run is_plain cs) (d ∷ cs)) ≡ is_verbatim (d ∷ cs)
verbatim_first d cs false h e = refl
verbatim_first d cs true h e =
    let p = and_parts (not (d == 92)) (not (d == 13)) h in
    e ∙ sym (verbatim_at (escape_front (d ∷ cs)) (d == 13) (is_verbatim cs) (no_escape (d == 92) (begins_with is_x cs) (begins_with (λ e. e == 123) (after_run is_x cs)) (not-true (d == 92) p.0)) (not-true (d == 13) p.1))

-- plain characters at the front change nothing
verbatim_behind : (cs : List ℕ) → is_verbatim (after_run is_plain cs) ≡ is_verbatim cs
verbatim_behind [] = refl
verbatim_behind (d ∷ cs) = verbatim_first d cs (is_plain d) refl (verbatim_behind cs)

-- whether a segment is written as its text, where this is between its delimiters and what is not plain begins so
pub written_is : (quoted written behind : List ℕ) (b : Bool) → written ≡ between_delimiters quoted → behind ≡ after_run is_plain written → b ≡ is_verbatim behind → is_verbatim (between_delimiters quoted) ≡ b
written_is quoted written behind b cut e is = ap is_verbatim (sym cut) ∙ sym (verbatim_behind written) ∙ ap is_verbatim (sym e) ∙ sym is

-- one segment, or several
pub borrows_alone : (b w n : Bool) → b ≡ w → n ≡ true → b ≡ (w && n)
borrows_alone b true n e h = e ∙ sym h
borrows_alone b false n e h = e

pub copied : (w n : Bool) → n ≡ false → false ≡ (w && n)
copied true n h = sym h
copied false n h = refl

-- ---- segments

segment_is : {s u : List ℕ} {i : ℕ} {ts r : Tokens} → IsSegment (segment s # i ∷ ts) u r → (u ≡ s) × (r ≡ ts)
segment_is segment_here = (refl, refl)

pub segment_took : {s u : List ℕ} {i : ℕ} {now next : Tokens} → u ≡ s → now ≡ segment s # i ∷ next → Took IsSegment Anything now u next
segment_took {s = s} {i = i} same e = record {
  front = segment s # i ∷ [];
  cut = e;
  derives = λ more. subst (λ (v : List ℕ). IsSegment (segment s # i ∷ more) v more) (sym same) segment_here;
  only = λ t a y r d f. let o = segment_is d in (o.0 ∙ sym same, o.1);
}

segment_begins : {t r : Tokens} {s : List ℕ} → IsSegment t s r → is_segment (first_terminal t) ≡ true
segment_begins segment_here = refl

can_segment : CanBe IsSegment
can_segment more = (segment [] # 0 ∷ more, [], segment_here)

pub no_segment : (now behind : Tokens) (x : code.Terminal) → IsNext now (seen x) behind → ((s : _) → x ≡ c.Segment s → ⊥) → Stuck IsSegment Anything now now
no_segment now behind x e h = stuck_here is_segment (λ t a r d. segment_begins d) (ap is_segment (first_next now behind (seen x) e) ∙ not_segment x h) can_segment

-- ---- literals

-- "~" literal, if it comes
pub data More : Tokens → List ℕ → Tokens → Type 0 where
  nothing : {ts : Tokens} → More ts [] ts
  onward : {s : List ℕ} {i : ℕ} {ts rest : Tokens} → IsLiteral ts s rest → More (tilde # i ∷ ts) s rest

-- behind this text
pub record Joins (s : List ℕ) (ts : Tokens) (z : List ℕ) (rest : Tokens) : Type 0 where
  pub text : List ℕ
  pub joined : z ≡ s ++ text
  pub behind : More ts text rest

abbrev Literal : Tokens → List ℕ → Tokens → Type 0
Literal = Then IsSegment Joins

literal_to : {t r : Tokens} {z : List ℕ} → Literal t z r → IsLiteral t z r
literal_to {t = t} {r = r} (both {a = s} segment_here j) = go j.behind j.joined
  where
    go : {u v : Tokens} {m z : List ℕ} {i : ℕ} → More u m v → z ≡ s ++ m → IsLiteral (segment s # i ∷ u) z v
    go {v = v} {i = i} nothing e = subst (λ (y : List ℕ). IsLiteral (segment s # i ∷ v) y v) (sym (e ∙ append-nil s)) g.one
    go {u = u} {v = v} {i = i} (onward l) e = subst (λ (y : List ℕ). IsLiteral (segment s # i ∷ u) y v) (sym e) (g.joined l)

literal_from : {t r : Tokens} {z : List ℕ} → IsLiteral t z r → Literal t z r
literal_from (g.one {s = s}) = both segment_here (record { text = []; joined = sym (append-nil s); behind = nothing })
literal_from (g.joined {more = m} l) = both segment_here (record { text = m; joined = refl; behind = onward l })

pub literal_start : {ts : Tokens} → Upto IsLiteral Literal (Starts no_tilde) ts ts
literal_start = upto_at (λ t z r d. literal_to d) (λ t a z r d g. literal_from d)

pub fits_joins : Fits Anything Joins (Starts no_tilde)
fits_joins = fits_anything

pub can_joins : Can Joins
can_joins more = (more, λ s. (s, record { text = []; joined = sym (append-nil s); behind = nothing }))

-- at a `~`
pub joins_at : (s : List ℕ) {i : ℕ} {now next : Tokens} → now ≡ tilde # i ∷ next → Upto (Joins s) (Then IsSegment (λ (u : List ℕ). Joins (s ++ u))) (Starts no_tilde) now next
joins_at s {i = i} e = upto_token e (λ t z r d. to d) (λ t z r d f. from d f)
  where
    to : {t r : Tokens} {z : List ℕ} → Then IsSegment (λ (u : List ℕ). Joins (s ++ u)) t z r → Joins s (tilde # i ∷ t) z r
    to (both {a = u} n j) = record { text = u ++ j.text; joined = j.joined ∙ append_assoc s u j.text; behind = onward (literal_to (both n (record { text = j.text; joined = refl; behind = j.behind }))) }

    split : {t r : Tokens} {z m : List ℕ} → z ≡ s ++ m → Literal t m r → Then IsSegment (λ (u : List ℕ). Joins (s ++ u)) t z r
    split e (both {a = u} n j) = both n (record { text = j.text; joined = e ∙ ap (λ (l : List ℕ). s ++ l) j.joined ∙ sym (append_assoc s u j.text); behind = j.behind })

    behind_tilde : {t r : Tokens} {z m : List ℕ} → z ≡ s ++ m → More (tilde # i ∷ t) m r → Starts no_tilde r → Then IsSegment (λ (u : List ℕ). Joins (s ++ u)) t z r
    behind_tilde e (onward l) f = split e (literal_from l)
    behind_tilde e nothing f = absurd (false≢true f)

    from : {t r : Tokens} {z : List ℕ} → Joins s (tilde # i ∷ t) z r → Starts no_tilde r → Then IsSegment (λ (u : List ℕ). Joins (s ++ u)) t z r
    from j f = behind_tilde j.joined j.behind f

not_tilde : (x : code.Terminal) → (x ≡ c.Tilde → ⊥) → no_tilde (unwrap_or (seen x) t.other) ≡ true
not_tilde c.Tilde h = absurd (h refl)
not_tilde x h = refl

-- another token comes
pub ends_at : (now behind : Tokens) (x : code.Terminal) → IsNext now (seen x) behind → (x ≡ c.Tilde → ⊥) → no_tilde (first_terminal now) ≡ true
ends_at now behind x e h = ap no_tilde (first_next now behind (seen x) e) ∙ not_tilde x h

-- at another token
pub joins_end : (s : List ℕ) (now behind : Tokens) (x : code.Terminal) → IsNext now (seen x) behind → (x ≡ c.Tilde → ⊥) → Upto (Joins s) (Gives s) (Starts no_tilde) now now
joins_end s now behind x e h = upto_at (λ t z r d. to d) (λ t a z r d f. from (ap no_tilde (first_alike a) ∙ ap no_tilde (first_next now behind (seen x) e) ∙ not_tilde x h) d.joined d.behind)
  where
    to : {t r : Tokens} {z : List ℕ} → Gives s t z r → Joins s t z r
    to gives = record { text = []; joined = sym (append-nil s); behind = nothing }

    from : {t r : Tokens} {z m : List ℕ} → no_tilde (first_terminal t) ≡ true → z ≡ s ++ m → More t m r → Gives s t z r
    from {r = r} n e nothing = subst (λ (y : List ℕ). Gives s r y r) (sym (e ∙ append-nil s)) gives
    from n e (onward l) = absurd (false≢true n)

-- ---- readers

pub literal_first : {ts now : Tokens} {s : List ℕ} → Took IsSegment Anything ts s now → Upto IsLiteral (Joins s) (Starts no_tilde) ts now
literal_first k = upto_then literal_start (reads fits_joins k)

pub literal_none : {ts bad : Tokens} → Stuck IsSegment Anything ts bad → Stuck IsLiteral (Starts no_tilde) ts bad
literal_none k = stuck_upto literal_start (stuck_in fits_joins can_joins k)

pub literal_more : {ts now next end : Tokens} {s u : List ℕ} {i : ℕ} → Upto IsLiteral (Joins s) (Starts no_tilde) ts now → now ≡ tilde # i ∷ next → Took IsSegment Anything next u end → Upto IsLiteral (Joins (s ++ u)) (Starts no_tilde) ts end
literal_more {s = s} so_far e k = upto_then so_far (upto_then (joins_at s e) (reads fits_anything k))

pub literal_stuck : {ts now next bad : Tokens} {s : List ℕ} {i : ℕ} → Upto IsLiteral (Joins s) (Starts no_tilde) ts now → now ≡ tilde # i ∷ next → Stuck IsSegment Anything next bad → Stuck IsLiteral (Starts no_tilde) ts bad
literal_stuck {s = s} so_far e k = stuck_upto so_far (stuck_upto (joins_at s e) (stuck_in fits_anything (λ l. (l, λ u. (s ++ u, record { text = []; joined = sym (append-nil (s ++ u)); behind = nothing }))) k))

pub literal_end : {ts now : Tokens} {s z : List ℕ} (behind : Tokens) (x : code.Terminal) → z ≡ s → Upto IsLiteral (Joins s) (Starts no_tilde) ts now → IsNext now (seen x) behind → (x ≡ c.Tilde → ⊥) → Took IsLiteral (Starts no_tilde) ts z now
literal_end {ts = ts} {now = now} {s = s} behind x same so_far e h = subst (λ (y : List ℕ). Took IsLiteral (Starts no_tilde) ts y now) (sym same) (took_upto (upto_then so_far (joins_end s now behind x e h)) (took_gives s now))

pub joins_same : {ts now : Tokens} {s u : List ℕ} → s ≡ u → Upto IsLiteral (Joins s) (Starts no_tilde) ts now → Upto IsLiteral (Joins u) (Starts no_tilde) ts now
joins_same {ts = ts} {now = now} e k = subst (λ (y : List ℕ). Upto IsLiteral (Joins y) (Starts no_tilde) ts now) e k
