-- Cores that begin with no keyword, and where none begins.
use Rattle.std.proofs.Common.{◌≡◌, ℕ, Bool, true, false, List, ◌∷◌, None, refl, ap, sym, ◌∙◌, unwrap_or}
use Rattle.std.proofs.lemmas.Bool.{false≢true}
use Rattle.rn_text.specs.declared.keywords.Keyword.{Keyword}
use Rattle.rn_text.specs.declared.keywords.Keyword.TheVariants as k
use Rattle.rn_syntax.specs.declared.productions.terminals.Terminal as code
use Rattle.rn_syntax.specs.declared.productions.terminals.Terminal.TheVariants as c
use Rattle.rn_syntax.specs.Terminal.{Terminal, Placed, ◌#◌, ident, keyword, prefixed, segment, left_paren, right_paren, other}
use Rattle.rn_syntax.specs.Tree as tree
use Rattle.rn_syntax.specs.Tree.{Datatype, Pattern}
use Rattle.rn_syntax.specs.Grammar as g
use Rattle.rn_syntax.specs.Grammar.{Tokens, IsLiteral, IsDatatype, IsPattern, IsCore}
use Rattle.rn_syntax.specs.inside.Follow.{Starts, Anything, first_terminal, no_tilde, behind_core, behind_pattern, begins_datatype}
use Rattle.rn_syntax.specs.inside.Sequence.{Then, both, Gives, gives, IsToken, token}
use Rattle.rn_syntax.specs.inside.Readers.{Took, Stuck, seen, IsNext}
use Rattle.rn_syntax.proofs.ProductionsRead.Compose.{Upto, Fits, Can, upto_token, upto_then, took_upto, stuck_upto, reads, stuck_in, stuck_here, took_gives, fits_anything, fits_token, fits_gives, can_gives}
use Rattle.rn_syntax.proofs.ProductionsRead.Next.{first_next}
use Rattle.rn_syntax.proofs.ProductionsRead.Operands.{upto_seen, core_tilde}
use Rattle.rn_syntax.proofs.ProductionsRead.Primaries.{can_core}

-- ---- a literal

abbrev Literal : Tokens → Pattern → Tokens → Type 0
Literal = Then IsLiteral (λ s. Gives (tree.value None s))

literal_at : {s : List ℕ} {i : ℕ} {now next : Tokens} → now ≡ segment s # i ∷ next → Upto IsCore Literal (Starts behind_core) now now
literal_at {s = s} {i = i} e = upto_seen e (λ t z r h. to h) (λ t z r h w. from h)
  where
    to : {t r : Tokens} {z : Pattern} → Literal t z r → IsCore t z r
    to (both l gives) = g.value l

    from : {t r : Tokens} {z : Pattern} → IsCore (segment s # i ∷ t) z r → Literal (segment s # i ∷ t) z r
    from (g.value l) = both l gives
    from (g.typed_value n l) = elim n [ ]
    from (g.datum n m) = elim n [ ]

pub literal_took : {s u : List ℕ} {i : ℕ} {now next end : Tokens} → now ≡ segment s # i ∷ next → Took IsLiteral (Starts no_tilde) now u end → Took IsCore (Starts behind_core) now (tree.value None u) end
literal_took {u = u} {end = end} e h = took_upto (upto_then (literal_at e) (reads (fits_gives (λ s. tree.value None s) core_tilde) h)) (took_gives (tree.value None u) end)

pub literal_stuck : {s : List ℕ} {i : ℕ} {now next bad : Tokens} → now ≡ segment s # i ∷ next → Stuck IsLiteral (Starts no_tilde) now bad → Stuck IsCore (Starts behind_core) now bad
literal_stuck e h = stuck_upto (literal_at e) (stuck_in (fits_gives (λ s. tree.value None s) core_tilde) (can_gives (λ s. tree.value None s)) h)

-- ---- parentheses

abbrev Close : Pattern → Tokens → Pattern → Tokens → Type 0
Close p = Then (IsToken right_paren) (λ j. Gives p)

abbrev Inner : Tokens → Pattern → Tokens → Type 0
Inner = Then IsPattern Close

parens_at : {i : ℕ} {now next : Tokens} → now ≡ left_paren # i ∷ next → Upto IsCore Inner (Starts behind_core) now next
parens_at {i = i} e = upto_token e (λ t z r h. to h) (λ t z r h w. from h)
  where
    to : {t r : Tokens} {z : Pattern} → Inner t z r → IsCore (left_paren # i ∷ t) z r
    to (both p (both token gives)) = g.parens p

    from : {t r : Tokens} {z : Pattern} → IsCore (left_paren # i ∷ t) z r → Inner t z r
    from (g.parens p) = both p (both token gives)
    from (g.value l) = elim l [ ]
    from (g.typed_value n l) = elim n [ ]
    from (g.datum n m) = elim n [ ]

fits_close : Fits (Starts behind_pattern) Close (Starts behind_core)
fits_close = fits_token behind_pattern refl

can_close : Can Close
can_close more = (right_paren # 0 ∷ more, λ p. (p, both token gives))

module _ {now next : Tokens} {i : ℕ} (e : now ≡ left_paren # i ∷ next) where
  pub inner_stuck : {bad : Tokens} → Stuck IsPattern (Starts behind_pattern) next bad → Stuck IsCore (Starts behind_core) now bad
  inner_stuck h = stuck_upto (parens_at e) (stuck_in fits_close can_close h)

  module _ {end : Tokens} {p : Pattern} (h : Took IsPattern (Starts behind_pattern) next p end) where
    inner_read : Upto IsCore (Close p) (Starts behind_core) now end
    inner_read = upto_then (parens_at e) (reads fits_close h)

    pub close_stuck : {bad : Tokens} → Stuck (IsToken right_paren) Anything end bad → Stuck IsCore (Starts behind_core) now bad
    close_stuck k = stuck_upto inner_read (stuck_in fits_anything (can_gives (λ (j : ℕ). p)) k)

    pub parens_took : {rest : Tokens} {j : ℕ} → Took (IsToken right_paren) Anything end j rest → Took IsCore (Starts behind_core) now p rest
    parens_took {rest = rest} k = took_upto (upto_then inner_read (reads fits_anything k)) (took_gives p rest)

-- ---- no core

abbrev begins_core : Terminal → Bool
begins_core (keyword k.Element) = true
begins_core (keyword k.Attribute) = true
begins_core (keyword k.List) = true
begins_core (keyword k.Mixed) = true
begins_core (keyword k.Empty) = true
begins_core (keyword k.NotAllowed) = true
begins_core (keyword k.Text) = true
begins_core (keyword k.String) = true
begins_core (keyword k.Token) = true
begins_core (ident n) = true
begins_core (prefixed n l) = true
begins_core (segment s) = true
begins_core left_paren = true
begins_core x = false

literal_begins : {t r : Tokens} {s : List ℕ} → IsLiteral t s r → begins_core (first_terminal t) ≡ true
literal_begins g.one = refl
literal_begins (g.joined l) = refl

datatype_begins : {x : Placed} {d : Datatype} (us : Tokens) → IsDatatype x d → begins_core (first_terminal (x ∷ us)) ≡ true
datatype_begins us g.string = refl
datatype_begins us g.token = refl
datatype_begins us g.named = refl

core_begins : {t r : Tokens} {z : Pattern} → IsCore t z r → begins_core (first_terminal t) ≡ true
core_begins (g.element c p) = refl
core_begins (g.attribute c p) = refl
core_begins (g.list p) = refl
core_begins (g.mixed p) = refl
core_begins g.empty = refl
core_begins g.not_allowed = refl
core_begins g.text = refl
core_begins g.ref = refl
core_begins (g.value l) = literal_begins l
core_begins (g.typed_value {ts = ts} n l) = datatype_begins ts n
core_begins (g.datum {ts = ts} n m) = datatype_begins ts n
core_begins (g.parens p) = refl

not_begun : (x : code.Terminal) → ((w : Keyword) → x ≡ c.Keyword w → ⊥) → ((n : _) → x ≡ c.Ident n → ⊥) → ((s : _) → x ≡ c.Segment s → ⊥) → (x ≡ c.LeftParen → ⊥)
    → begins_datatype (unwrap_or (seen x) other) ≡ false → begins_core (unwrap_or (seen x) other) ≡ false
not_begun (c.Keyword w) h1 h2 h3 h4 e = absurd (h1 w refl)
not_begun (c.Ident n) h1 h2 h3 h4 e = absurd (h2 n refl)
not_begun (c.Segment s) h1 h2 h3 h4 e = absurd (h3 s refl)
not_begun c.LeftParen h1 h2 h3 h4 e = absurd (h4 refl)
not_begun (c.Prefixed n) h1 h2 h3 h4 e = absurd (false≢true (sym e))
not_begun x h1 h2 h3 h4 e = refl

none_here : {now : Tokens} → begins_core (first_terminal now) ≡ false → Stuck IsCore (Starts behind_core) now now
none_here e = stuck_here begins_core (λ t z r d. core_begins d) e can_core

pub no_core : (now behind : Tokens) (x : code.Terminal) → IsNext now (seen x) behind → ((w : Keyword) → x ≡ c.Keyword w → ⊥) → ((n : _) → x ≡ c.Ident n → ⊥) → ((s : _) → x ≡ c.Segment s → ⊥) → (x ≡ c.LeftParen → ⊥)
    → begins_datatype (first_terminal now) ≡ false → Stuck IsCore (Starts behind_core) now now
no_core now behind x n h1 h2 h3 h4 e =
    let same = first_next now behind (seen x) n in
    none_here (ap begins_core same ∙ not_begun x h1 h2 h3 h4 (sym (ap begins_datatype same) ∙ e))

not_keyword : (w : Keyword) → (w ≡ k.Element → ⊥) → (w ≡ k.Attribute → ⊥) → (w ≡ k.List → ⊥) → (w ≡ k.Mixed → ⊥) → (w ≡ k.Empty → ⊥) → (w ≡ k.NotAllowed → ⊥) → (w ≡ k.Text → ⊥)
    → begins_datatype (keyword w) ≡ false → begins_core (keyword w) ≡ false
not_keyword k.Element h1 h2 h3 h4 h5 h6 h7 e = absurd (h1 refl)
not_keyword k.Attribute h1 h2 h3 h4 h5 h6 h7 e = absurd (h2 refl)
not_keyword k.List h1 h2 h3 h4 h5 h6 h7 e = absurd (h3 refl)
not_keyword k.Mixed h1 h2 h3 h4 h5 h6 h7 e = absurd (h4 refl)
not_keyword k.Empty h1 h2 h3 h4 h5 h6 h7 e = absurd (h5 refl)
not_keyword k.NotAllowed h1 h2 h3 h4 h5 h6 h7 e = absurd (h6 refl)
not_keyword k.Text h1 h2 h3 h4 h5 h6 h7 e = absurd (h7 refl)
not_keyword k.String h1 h2 h3 h4 h5 h6 h7 e = absurd (false≢true (sym e))
not_keyword k.Token h1 h2 h3 h4 h5 h6 h7 e = absurd (false≢true (sym e))
not_keyword w h1 h2 h3 h4 h5 h6 h7 e = refl

pub no_datatype : (w : Keyword) → (w ≡ k.String → ⊥) → (w ≡ k.Token → ⊥) → begins_datatype (keyword w) ≡ false
no_datatype k.String h l = absurd (h refl)
no_datatype k.Token h l = absurd (l refl)
no_datatype w h l = refl

pub no_keyword_core : {now : Tokens} (w : Keyword) → first_terminal now ≡ keyword w → (w ≡ k.Element → ⊥) → (w ≡ k.Attribute → ⊥) → (w ≡ k.List → ⊥) → (w ≡ k.Mixed → ⊥) → (w ≡ k.Empty → ⊥) → (w ≡ k.NotAllowed → ⊥) → (w ≡ k.Text → ⊥)
    → begins_datatype (first_terminal now) ≡ false → Stuck IsCore (Starts behind_core) now now
no_keyword_core w here h1 h2 h3 h4 h5 h6 h7 e = none_here (ap begins_core here ∙ not_keyword w h1 h2 h3 h4 h5 h6 h7 (sym (ap begins_datatype here) ∙ e))
