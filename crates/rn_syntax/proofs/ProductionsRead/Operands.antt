-- What follows the annotation of an operand or of a primary.
use Rattle.std.proofs.Common.{◌≡◌, ℕ, Bool, true, false, List, [], ◌∷◌, Some, refl, ap, sym, ◌∙◌, subst, unwrap_or}
use Rattle.std.proofs.lemmas.Bool.{false≢true}
use Rattle.rn_syntax.specs.declared.tree.Postfix.{Postfix}
use Rattle.rn_syntax.specs.declared.productions.terminals.Terminal as code
use Rattle.rn_syntax.specs.declared.productions.terminals.Terminal.TheVariants as c
use Rattle.rn_text.specs.declared.source.Token.{Token}
use Rattle.rn_syntax.specs.Terminal.{Terminal, Placed, ◌#◌, segment, postfix, minus, other}
use Rattle.rn_syntax.specs.Tree as tree
use Rattle.rn_syntax.specs.Tree.{Datatype, Params, Pattern}
use Rattle.rn_syntax.specs.Grammar as g
use Rattle.rn_syntax.specs.Grammar.{Tokens, AreFollows, IsLiteral, MayHaveParams, IsPrimary}
use Rattle.rn_syntax.specs.inside.Follow.{Starts, first_terminal, no_follow, no_tilde, no_brace, behind_core, behind_primary, behind_operand}
use Rattle.rn_syntax.specs.inside.Sequence.{Then, both, Gives, gives}
use Rattle.rn_syntax.specs.inside.PatternEnds as part
use Rattle.rn_syntax.specs.inside.PatternEnds.{BehindCore, BehindPostfix, BehindPrimary, IsTypedValue, IsDataEnd, BehindDatatype, BehindParams}
use Rattle.rn_syntax.specs.inside.Readers.{Took, Stuck, Bare, seen, IsNext, rest}
use Rattle.rn_syntax.proofs.OneReading.OneClass.{starts_to, minus_stays}
use Rattle.rn_syntax.proofs.OneReading.OnePattern.{to_primary, primary_to_follow, core_to_tilde, core_to_brace, follows_core}
use Rattle.rn_syntax.proofs.ProductionsRead.Compose.{Upto, Fits, Can, fits_gives, can_gives, upto_at, upto_token, upto_then, took_upto, stuck_upto, reads, stuck_in, took_gives, first_alike, alike_token}
use Rattle.rn_syntax.proofs.ProductionsRead.Next.{first_next, is_segment, not_segment}
use Rattle.rn_syntax.proofs.ProductionsRead.Skipping.{none_here, no_follows}

-- ---- words

abbrev pub Follows : Tokens → Unit {0} → Tokens → Type 0
Follows = Bare AreFollows

-- a step before a token that is read later
pub upto_seen : {A : Type 0} {V W : Tokens → A → Tokens → Type 0} {G : Tokens → Type 0} {x : Placed} {now next : Tokens} → now ≡ x ∷ next
    → ((t : Tokens) (z : A) (r : Tokens) → W t z r → V t z r) → ((t : Tokens) (z : A) (r : Tokens) → V (x ∷ t) z r → G r → W (x ∷ t) z r) → Upto V W G now now
upto_seen {V = V} {W = W} e to from = upto_at to (λ t a z r d w. let u = alike_token e a in subst (λ (l : Tokens). W l z r) (sym u.1) (from u.0 z r (subst (λ (l : Tokens). V l z r) u.1 d) w))

operand_primary : (r : Tokens) → Starts behind_operand r → Starts behind_primary r
operand_primary r w = starts_to behind_operand behind_primary to_primary r w

pub primary_follow : (r : Tokens) → Starts behind_primary r → Starts no_follow r
primary_follow r w = starts_to behind_primary no_follow primary_to_follow r w

operand_follow : (r : Tokens) → Starts behind_operand r → Starts no_follow r
operand_follow r w = primary_follow r (operand_primary r w)

pub core_tilde : (r : Tokens) → Starts behind_core r → Starts no_tilde r
core_tilde r w = starts_to behind_core no_tilde core_to_tilde r w

pub core_brace : (r : Tokens) → Starts behind_core r → Starts no_brace r
core_brace r w = starts_to behind_core no_brace core_to_brace r w

-- ---- behind a primary

abbrev pub is_postfix : Terminal → Bool
is_postfix (postfix s) = true
is_postfix x = false

pub postfix_at : (p : Pattern) (s : Postfix) {i : ℕ} {now next : Tokens} → now ≡ postfix s # i ∷ next → Upto (BehindPrimary p) (BehindPostfix s p) (Starts behind_operand) now next
postfix_at p s {i = i} e = upto_token e (λ t z r d. to d) (λ t z r d w. from d w)
  where
    to : {t r : Tokens} {z : Pattern} → BehindPostfix s p t z r → BehindPrimary p (postfix s # i ∷ t) z r
    to (both f gives) = part.repeated f

    from : {t r : Tokens} {z : Pattern} → BehindPrimary p (postfix s # i ∷ t) z r → Starts behind_operand r → BehindPostfix s p t z r
    from (part.repeated f) w = both f gives
    from part.alone w = absurd (false≢true w)

pub repeated_took : (p : Pattern) (s : Postfix) {now rest : Tokens} → Took Follows (Starts no_follow) now tt rest → Took (BehindPostfix s p) (Starts behind_operand) now (tree.repeated s p) rest
repeated_took p s {rest = rest} h = took_upto (reads (fits_gives (λ u. tree.repeated s p) operand_follow) h) (took_gives (tree.repeated s p) rest)

pub repeated_stuck : (p : Pattern) (s : Postfix) {now bad : Tokens} → Stuck Follows (Starts no_follow) now bad → Stuck (BehindPostfix s p) (Starts behind_operand) now bad
repeated_stuck p s h = stuck_in (fits_gives (λ u. tree.repeated s p) operand_follow) (can_gives (λ u. tree.repeated s p)) h

not_postfix : (x : code.Terminal) → ((s : Postfix) → x ≡ c.Postfix s → ⊥) → is_postfix (unwrap_or (seen x) other) ≡ false
not_postfix (c.Postfix s) h = absurd (h s refl)
not_postfix x h = refl

only_alone : {p z : Pattern} {t r : Tokens} → is_postfix (first_terminal t) ≡ false → BehindPrimary p t z r → (z ≡ p) × (r ≡ t)
only_alone e part.alone = (refl, refl)
only_alone e (part.repeated f) = absurd (false≢true (sym e))

pub alone_took : (p : Pattern) (now behind : Tokens) (x : code.Terminal) → IsNext now (seen x) behind → ((s : Postfix) → x ≡ c.Postfix s → ⊥) → Took (BehindPrimary p) (Starts behind_operand) now p now
alone_took p now behind x e h = record {
  front = [];
  cut = refl;
  derives = λ more. part.alone;
  only = λ t a y r d w. only_alone (ap is_postfix (first_alike a) ∙ ap is_postfix (first_next now behind (seen x) e) ∙ not_postfix x h) d;
}

-- the front of what stands behind a primary
behind_front : {p z : Pattern} {t r : Tokens} → BehindPrimary p t z r → Starts behind_operand r → Starts behind_primary t
behind_front {t = t} part.alone w = operand_primary t w
behind_front (part.repeated f) w = refl

-- ---- behind a core: follows, and the rest of an operand

ends_front : {p z : Pattern} {t r : Tokens} → BehindCore p t z r → Starts behind_operand r → Starts behind_core t
ends_front (both f b) w = follows_core f (behind_front b w)

pub fits_ends : {A : Type 0} {F : Tokens → Type 0} (p : A → Pattern) → ((r : Tokens) → Starts behind_core r → F r) → Fits F (λ (a : A). BehindCore (p a)) (Starts behind_operand)
fits_ends p to = record { fits = λ a mid z r d w. to mid (ends_front d w) }

pub can_ends : {A : Type 0} (p : A → Pattern) → Can (λ (a : A). BehindCore (p a))
can_ends p more = (more, λ a. (p a, both g.none part.alone))

fits_core : Fits (Starts behind_core) BehindCore (Starts behind_operand)
fits_core = fits_ends (λ (p : Pattern). p) (λ r w. w)

can_core : Can BehindCore
can_core = can_ends (λ (p : Pattern). p)

fits_behind : (p : Pattern) → Fits (Starts no_follow) (λ (u : Unit {0}). BehindPrimary p) (Starts behind_operand)
fits_behind p = record { fits = λ u mid z r d w. primary_follow mid (behind_front d w) }

can_behind : (p : Pattern) → Can (λ (u : Unit {0}). BehindPrimary p)
can_behind p more = (more, λ u. (p, part.alone))

pub follows_read : (p : Pattern) {now next : Tokens} → Took Follows (Starts no_follow) now tt next → Upto (BehindCore p) (BehindPrimary p) (Starts behind_operand) now next
follows_read p h = reads (fits_behind p) h

pub follows_stuck : (p : Pattern) {now bad : Tokens} → Stuck Follows (Starts no_follow) now bad → Stuck (BehindCore p) (Starts behind_operand) now bad
follows_stuck p h = stuck_in (fits_behind p) (can_behind p) h

pub core_postfix : (p : Pattern) (s : Postfix) {i : ℕ} {now next : Tokens} → now ≡ postfix s # i ∷ next → Upto (BehindCore p) (BehindPostfix s p) (Starts behind_operand) now next
core_postfix p s {now = now} e = upto_then (follows_read p (none_here now (ap (λ ts. no_follow (first_terminal ts)) e))) (postfix_at p s e)

pub core_alone : (p : Pattern) (now behind : Tokens) (x : code.Terminal) → IsNext now (seen x) behind → (x ≡ c.Follow → ⊥) → ((s : Postfix) → x ≡ c.Postfix s → ⊥)
    → Took (BehindCore p) (Starts behind_operand) now p now
core_alone p now behind x e f h = took_upto (follows_read p (no_follows now behind x e f)) (alone_took p now behind x e h)

-- ---- behind a datatype

literal_begins : {t r : Tokens} {s : List ℕ} → IsLiteral t s r → is_segment (first_terminal t) ≡ true
literal_begins g.one = refl
literal_begins (g.joined l) = refl

pub no_segment : (now behind : Tokens) (x : code.Terminal) → IsNext now (seen x) behind → ((s : _) → x ≡ c.Segment s → ⊥) → is_segment (first_terminal now) ≡ false
no_segment now behind x e h = ap is_segment (first_next now behind (seen x) e) ∙ not_segment x h

-- no datum ends before a segment
datum_not : {s : List ℕ} {i : ℕ} {t r : Tokens} {ps : Params} → MayHaveParams (segment s # i ∷ t) ps r → Starts behind_core r → ⊥
datum_not g.none w = false≢true w

abbrev pub Datum : Datatype → Tokens → Pattern → Tokens → Type 0
Datum d = Then MayHaveParams (λ ps. Gives (tree.datum d ps))

module _ (d : Datatype) {now : Tokens} where
  pub valued_at : {s : List ℕ} {i : ℕ} {next : Tokens} → now ≡ segment s # i ∷ next → Upto (IsDataEnd d) (IsTypedValue d) (Starts behind_core) now now
  valued_at {s = s} {i = i} e = upto_seen e (λ t z r h. to h) (λ t z r h w. from h w)
    where
      to : {t r : Tokens} {z : Pattern} → IsTypedValue d t z r → IsDataEnd d t z r
      to (both l gives) = part.valued l

      from : {t r : Tokens} {z : Pattern} → IsDataEnd d (segment s # i ∷ t) z r → Starts behind_core r → IsTypedValue d (segment s # i ∷ t) z r
      from (part.valued l) w = both l gives
      from (part.datum m) w = absurd (datum_not m w)

  pub value_took : {u : List ℕ} {rest : Tokens} → Took IsLiteral (Starts no_tilde) now u rest → Took (IsTypedValue d) (Starts behind_core) now (tree.value (Some d) u) rest
  value_took {u = u} {rest = rest} h = took_upto (reads (fits_gives (λ s. tree.value (Some d) s) core_tilde) h) (took_gives (tree.value (Some d) u) rest)

  pub value_stuck : {bad : Tokens} → Stuck IsLiteral (Starts no_tilde) now bad → Stuck (IsTypedValue d) (Starts behind_core) now bad
  value_stuck h = stuck_in (fits_gives (λ s. tree.value (Some d) s) core_tilde) (can_gives (λ s. tree.value (Some d) s)) h

  datum_at : is_segment (first_terminal now) ≡ false → Upto (IsDataEnd d) (Datum d) (Starts behind_core) now now
  datum_at e = upto_at (λ t z r h. to h) (λ t a z r h w. from (ap is_segment (first_alike a) ∙ e) h)
    where
      to : {t r : Tokens} {z : Pattern} → Datum d t z r → IsDataEnd d t z r
      to (both m gives) = part.datum m

      from : {t r : Tokens} {z : Pattern} → is_segment (first_terminal t) ≡ false → IsDataEnd d t z r → Datum d t z r
      from e (part.datum m) = both m gives
      from e (part.valued l) = absurd (false≢true (sym e ∙ literal_begins l))

  pub datum_took : {ps : Params} {rest : Tokens} → is_segment (first_terminal now) ≡ false → Took MayHaveParams (Starts no_brace) now ps rest → Took (IsDataEnd d) (Starts behind_core) now (tree.datum d ps) rest
  datum_took {ps = ps} {rest = rest} e h = took_upto (upto_then (datum_at e) (reads (fits_gives (λ ps. tree.datum d ps) core_brace) h)) (took_gives (tree.datum d ps) rest)

  pub datum_stuck : {bad : Tokens} → is_segment (first_terminal now) ≡ false → Stuck MayHaveParams (Starts no_brace) now bad → Stuck (IsDataEnd d) (Starts behind_core) now bad
  datum_stuck e h = stuck_upto (datum_at e) (stuck_in (fits_gives (λ ps. tree.datum d ps) core_brace) (can_gives (λ ps. tree.datum d ps)) h)

-- ---- behind the datatype of an operand

params_front : {d : Datatype} {ps : Params} {z : Pattern} {t r : Tokens} → BehindParams d ps t z r → Starts behind_operand r → Starts no_brace t
params_front {t = t} (part.followed m) w = core_brace t (ends_front m w)
params_front (part.excepted q) w = refl

fits_params : (d : Datatype) → Fits (Starts no_brace) (BehindParams d) (Starts behind_operand)
fits_params d = record { fits = λ ps mid z r h w. params_front h w }

can_params : (d : Datatype) → Can (BehindParams d)
can_params d more = (more, λ ps. (tree.datum d ps, part.followed (both g.none part.alone)))

primary_behind : {p z : Pattern} {i : ℕ} {us mid r : Tokens} → mid ≡ minus # i ∷ us → BehindPrimary p mid z r → Starts behind_operand r → ⊥
primary_behind e b w = false≢true (subst (Starts behind_primary) e (behind_front b w))

abbrev Except : Datatype → Params → ℕ → Tokens → Pattern → Tokens → Type 0
Except d ps i = Then IsPrimary (λ q. Gives (tree.datum_but d ps i q))

except_at : (d : Datatype) (ps : Params) {i : ℕ} {now next : Tokens} → now ≡ minus # i ∷ next → Upto (BehindParams d ps) (Except d ps i) (Starts behind_operand) now next
except_at d ps {i = i} e = upto_token e (λ t z r h. to h) (λ t z r h w. from h w)
  where
    to : {t r : Tokens} {z : Pattern} → Except d ps i t z r → BehindParams d ps (minus # i ∷ t) z r
    to (both q gives) = part.excepted q

    from : {t r : Tokens} {z : Pattern} → BehindParams d ps (minus # i ∷ t) z r → Starts behind_operand r → Except d ps i t z r
    from (part.excepted q) w = both q gives
    from (part.followed (both f b)) w = absurd (primary_behind (minus_stays f) b w)

abbrev is_minus : Terminal → Bool
is_minus minus = true
is_minus x = false

not_minus : (x : code.Terminal) → (x ≡ c.Minus → ⊥) → is_minus (unwrap_or (seen x) other) ≡ false
not_minus c.Minus h = absurd (h refl)
not_minus x h = refl

plain_at : (d : Datatype) (ps : Params) {now : Tokens} → is_minus (first_terminal now) ≡ false → Upto (BehindParams d ps) (BehindCore (tree.datum d ps)) (Starts behind_operand) now now
plain_at d ps e = upto_at (λ t z r h. part.followed h) (λ t a z r h w. from (ap is_minus (first_alike a) ∙ e) h)
  where
    from : {t r : Tokens} {z : Pattern} → is_minus (first_terminal t) ≡ false → BehindParams d ps t z r → BehindCore (tree.datum d ps) t z r
    from e (part.followed h) = h
    from e (part.excepted q) = absurd (false≢true (sym e))

except_not : {s : List ℕ} {i j : ℕ} {t after : Tokens} {ps : Params} → MayHaveParams (segment s # i ∷ t) ps (minus # j ∷ after) → ⊥
except_not m = elim m [ ]

abbrev WithText : Datatype → Tokens → Pattern → Tokens → Type 0
WithText d = Then (IsTypedValue d) BehindCore

abbrev WithParams : Datatype → Tokens → Pattern → Tokens → Type 0
WithParams d = Then MayHaveParams (BehindParams d)

module _ (d : Datatype) {ts : Tokens} where
  text_at : {s : List ℕ} {i : ℕ} {next : Tokens} → ts ≡ segment s # i ∷ next → Upto (BehindDatatype d) (WithText d) (Starts behind_operand) ts ts
  text_at {s = s} {i = i} e = upto_seen e (λ t z r h. to h) (λ t z r h w. from h w)
    where
      to : {t r : Tokens} {z : Pattern} → WithText d t z r → BehindDatatype d t z r
      to (both (both l gives) (both f b)) = part.plain (part.valued l) f b

      from : {t r : Tokens} {z : Pattern} → BehindDatatype d (segment s # i ∷ t) z r → Starts behind_operand r → WithText d (segment s # i ∷ t) z r
      from (part.plain (part.valued l) f b) w = both (both l gives) (both f b)
      from (part.plain (part.datum m) f b) w = absurd (datum_not m (follows_core f (behind_front b w)))
      from (part.except m q) w = absurd (except_not m)

  params_at : is_segment (first_terminal ts) ≡ false → Upto (BehindDatatype d) (WithParams d) (Starts behind_operand) ts ts
  params_at e = upto_at (λ t z r h. to h) (λ t a z r h w. from (ap is_segment (first_alike a) ∙ e) h)
    where
      to : {t r : Tokens} {z : Pattern} → WithParams d t z r → BehindDatatype d t z r
      to (both m (part.followed (both f b))) = part.plain (part.datum m) f b
      to (both m (part.excepted q)) = part.except m q

      from : {t r : Tokens} {z : Pattern} → is_segment (first_terminal t) ≡ false → BehindDatatype d t z r → WithParams d t z r
      from e (part.plain (part.valued l) f b) = absurd (false≢true (sym e ∙ literal_begins l))
      from e (part.plain (part.datum m) f b) = both m (part.followed (both f b))
      from e (part.except m q) = both m (part.excepted q)

  pub text_stuck : {s : List ℕ} {i : ℕ} {next bad : Tokens} → ts ≡ segment s # i ∷ next → Stuck (IsTypedValue d) (Starts behind_core) ts bad → Stuck (BehindDatatype d) (Starts behind_operand) ts bad
  text_stuck e h = stuck_upto (text_at e) (stuck_in fits_core can_core h)

  -- what follows a value comes
  pub text_read : {s : List ℕ} {i : ℕ} {next now : Tokens} {p : Pattern} → ts ≡ segment s # i ∷ next → Took (IsTypedValue d) (Starts behind_core) ts p now
      → Upto (BehindDatatype d) (BehindCore p) (Starts behind_operand) ts now
  text_read e h = upto_then (text_at e) (reads fits_core h)

  pub params_stuck : {bad : Tokens} → is_segment (first_terminal ts) ≡ false → Stuck MayHaveParams (Starts no_brace) ts bad → Stuck (BehindDatatype d) (Starts behind_operand) ts bad
  params_stuck e h = stuck_upto (params_at e) (stuck_in (fits_params d) (can_params d) h)

  pub params_read : {ps : Params} {now : Tokens} → is_segment (first_terminal ts) ≡ false → Took MayHaveParams (Starts no_brace) ts ps now → Upto (BehindDatatype d) (BehindParams d ps) (Starts behind_operand) ts now
  params_read e h = upto_then (params_at e) (reads (fits_params d) h)

module _ (d : Datatype) (ps : Params) {ts : Tokens} where
  -- what follows a datum comes
  pub datum_read : (behind : Tokens) (x : code.Terminal) → IsNext ts (seen x) behind → (x ≡ c.Minus → ⊥) → Upto (BehindParams d ps) (BehindCore (tree.datum d ps)) (Starts behind_operand) ts ts
  datum_read behind x n m = plain_at d ps (ap is_minus (first_next ts behind (seen x) n) ∙ not_minus x m)

  pub except_stuck : {i : ℕ} {next bad : Tokens} → ts ≡ minus # i ∷ next → Stuck IsPrimary (Starts behind_primary) next bad → Stuck (BehindParams d ps) (Starts behind_operand) ts bad
  except_stuck {i = i} m q = stuck_upto (except_at d ps m) (stuck_in (fits_gives (λ p. tree.datum_but d ps i p) operand_primary) (can_gives (λ p. tree.datum_but d ps i p)) q)

  pub except_took : {i : ℕ} {p : Pattern} {next end : Tokens} → ts ≡ minus # i ∷ next → Took IsPrimary (Starts behind_primary) next p end → Took (BehindParams d ps) (Starts behind_operand) ts (tree.datum_but d ps i p) end
  except_took {i = i} {p = p} {end = end} m q = took_upto (upto_then (except_at d ps m) (reads (fits_gives (λ p. tree.datum_but d ps i p) operand_primary) q)) (took_gives (tree.datum_but d ps i p) end)

-- what follows a core that was made, by its other names
pub core_made : {V : Tokens → Pattern → Tokens → Type 0} {G : Tokens → Type 0} {ts : Tokens} (xs : List Token) {p q : Pattern} {i j : ℕ} → (q ≡ p) × (j ≡ i) → Upto V (BehindCore p) G ts (rest xs i) → Upto V (BehindCore q) G ts (rest xs j)
core_made {V = V} {G = G} {ts = ts} xs {q = q} {i = i} m u = subst (λ (k : ℕ). Upto V (BehindCore q) G ts (rest xs k)) (sym m.1) (subst (λ (z : Pattern). Upto V (BehindCore z) G ts (rest xs i)) (sym m.0) u)
