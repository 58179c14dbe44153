-- Declarations, part by part.
use Rattle.std.proofs.Common.{◌≡◌, ℕ, true, false, List, [], ◌∷◌, ◌++◌, Option, Some, None, refl, ap, sym, ◌∙◌, subst, append-nil, unwrap_or}
use Rattle.std.proofs.lemmas.Bool.{false≢true}
use Rattle.rn_text.specs.declared.source.Token.{Token}
use Rattle.rn_text.specs.declared.keywords.Keyword.{Keyword}
use Rattle.rn_text.specs.declared.keywords.Keyword.TheVariants as k
use Rattle.rn_syntax.specs.declared.tree.Method.TheVariants as m
use Rattle.rn_syntax.specs.declared.productions.terminals.Terminal as code
use Rattle.rn_syntax.specs.declared.productions.terminals.Terminal.TheVariants as c
use Rattle.rn_syntax.specs.Terminal as x
use Rattle.rn_syntax.specs.Terminal.{Terminal, Placed, ◌#◌, ident, keyword, assign, segment}
use Rattle.rn_syntax.specs.Tree as t
use Rattle.rn_syntax.specs.Tree.{Declaration, Uri}
use Rattle.rn_syntax.specs.Grammar as g
use Rattle.rn_syntax.specs.Grammar.{Tokens, IsWord, IsLiteral, IsUri, IsDeclaration, AreDeclarations}
use Rattle.rn_syntax.specs.inside.Follow.{Starts, Anything, first_terminal, no_tilde, no_word, behind_item, begins_declaration}
use Rattle.rn_syntax.specs.inside.Sequence.{Then, both, Gives, gives, IsToken, token, IsOf, of, IsHere, IsWordAt, word_at, IsPrefixAt, prefix_at}
use Rattle.rn_syntax.specs.inside.Declaring.{IsUriEnd, IsNamespaceEnd, IsDatatypesEnd, MayHaveDefaultPrefix, no_prefix, prefix, IsDefaultEnd}
use Rattle.rn_syntax.specs.inside.Readers.{Took, Stuck, seen, IsNext, rest}
use Rattle.rn_syntax.specs.Spelled.{BeginAt}
use Rattle.rn_syntax.proofs.OneReading.OneClass.{word_one, starts_to}
use Rattle.rn_syntax.proofs.OneReading.OneTree.{declarations_tilde, item_to_tilde}
use Rattle.rn_syntax.proofs.ProductionsRead.Compose.{Upto, Fits, Can, CanBe, upto_at, upto_token, upto_then, took_upto, stuck_upto, reads, stuck_in, took_gives, first_alike, stuck_here, fits_anything, fits_token, fits_gives, can_gives, can_token, of_took}
use Rattle.rn_syntax.proofs.ProductionsRead.Repeating.{Whole, behind_start, part_read, part_stuck, parts_took}
use Rattle.rn_syntax.proofs.ProductionsRead.Next.{first_next, place_is}

-- ---- prefixes

-- what was read as one token is one
pub of_here : {A : Type 0} {P : Placed → A → Type 0} {F : Tokens → Type 0} {ts rest : Tokens} {a : A} → Took (IsOf P) F ts a rest → IsHere P ts a rest
of_here {P = P} {ts = ts} {rest = rest} {a = a} k = go (subst (λ (l : Tokens). IsOf P l a rest) (sym k.cut) (k.derives rest))
  where
    go : {ts : Tokens} → IsOf P ts a rest → IsHere P ts a rest
    go (of {x = x} p) = record { token = x; holds = p; here = refl }

prefix_one : {x : Terminal} {n : List ℕ} {i : ℕ} {p : List ℕ × ℕ} → IsWord x n → IsPrefixAt (x # i) p → p ≡ (n, i)
prefix_one {i = i} w (prefix_at v) = ap (λ (l : List ℕ). (l, i)) (word_one v w)

prefix_from : (xs : List Token) {y : Placed} {ts next : Tokens} {n : List ℕ} {j : ℕ} → IsWordAt y n → ts ≡ y ∷ next → BeginAt xs ts j → Took (IsOf IsPrefixAt) Anything ts (n, j) next
prefix_from xs {ts = ts} {next = next} {n = n} (word_at {i = i} w) e p =
    subst (λ (l : ℕ). Took (IsOf IsPrefixAt) Anything ts (n, l) next) (sym (place_is xs e p)) (of_took (λ b q. prefix_one w q) e (prefix_at w))

pub prefix_took : (xs : List Token) {ts next : Tokens} {n : List ℕ} {j : ℕ} → Took (IsOf IsWordAt) Anything ts n next → BeginAt xs ts j → Took (IsOf IsPrefixAt) Anything ts (n, j) next
prefix_took xs k p = let h = of_here k in prefix_from xs h.holds h.here p

to_word : {t r : Tokens} {p : List ℕ × ℕ} → IsOf IsPrefixAt t p r → (n : List ℕ) × IsOf IsWordAt t n r
to_word (of (prefix_at {n = n} w)) = (n, of (word_at w))

to_prefix : {t r : Tokens} {n : List ℕ} → IsOf IsWordAt t n r → (p : List ℕ × ℕ) × IsOf IsPrefixAt t p r
to_prefix (of (word_at {n = n} {i = i} w)) = ((n, i), of (prefix_at w))

pub prefix_stuck : {ts bad : Tokens} → Stuck (IsOf IsWordAt) Anything ts bad → Stuck (IsOf IsPrefixAt) Anything ts bad
prefix_stuck k = record {
  front = k.front;
  cut = k.cut;
  begins = λ more. let b = k.begins more in let p = to_prefix b.2 in (b.0, p.0, p.1);
  refuses = λ t a p r d f. let w = to_word d in k.refuses t a w.0 r w.1 f;
}

-- ---- uris

inherited_from : {i : ℕ} {ts r : Tokens} {u : Uri} → IsUri (keyword k.Inherit # i ∷ ts) u r → (u ≡ t.inherited) × (r ≡ ts)
inherited_from g.inherited = (refl, refl)
inherited_from (g.literal l) = elim l [ ]

pub inherit_took : {i : ℕ} {now next : Tokens} → now ≡ keyword k.Inherit # i ∷ next → Took IsUri (Starts no_tilde) now t.inherited next
inherit_took {i = i} e = record { front = keyword k.Inherit # i ∷ []; cut = e; derives = λ more. g.inherited; only = λ l a u r d f. inherited_from d }

abbrev Literal : Tokens → Uri → Tokens → Type 0
Literal = Then IsLiteral (λ (s : List ℕ). Gives (t.literal s))

literal_at : {now : Tokens} → (first_terminal now ≡ keyword k.Inherit → ⊥) → Upto IsUri Literal (Starts no_tilde) now now
literal_at n = upto_at (λ l z r d. to d) (λ l a z r d f. from (λ e. n (sym (first_alike a) ∙ e)) d)
  where
    to : {l r : Tokens} {u : Uri} → Literal l u r → IsUri l u r
    to (both d gives) = g.literal d

    from : {l r : Tokens} {u : Uri} → (first_terminal l ≡ keyword k.Inherit → ⊥) → IsUri l u r → Literal l u r
    from n (g.literal d) = both d gives
    from n g.inherited = absurd (n refl)

fits_text : Fits (Starts no_tilde) (λ (s : List ℕ). Gives (t.literal s)) (Starts no_tilde)
fits_text = fits_gives (λ (s : List ℕ). t.literal s) (λ r g. g)

pub uri_took : {now next : Tokens} {s : List ℕ} → (first_terminal now ≡ keyword k.Inherit → ⊥) → Took IsLiteral (Starts no_tilde) now s next → Took IsUri (Starts no_tilde) now (t.literal s) next
uri_took {next = next} {s = s} n k = took_upto (upto_then (literal_at n) (reads fits_text k)) (took_gives (t.literal s) next)

pub uri_stuck : {now bad : Tokens} → (first_terminal now ≡ keyword k.Inherit → ⊥) → Stuck IsLiteral (Starts no_tilde) now bad → Stuck IsUri (Starts no_tilde) now bad
uri_stuck n k = stuck_upto (literal_at n) (stuck_in fits_text (can_gives (λ (s : List ℕ). t.literal s)) k)

-- ---- behind the first word

abbrev pub UriGives : (Uri → Declaration) → ℕ → Tokens → Declaration → Tokens → Type 0
UriGives f i = Then IsUri (λ u. Gives (f u))

fits_uri : (f : Uri → Declaration) → Fits (Starts no_tilde) (λ (u : Uri). Gives (f u)) (Starts no_tilde)
fits_uri f = fits_gives f (λ r g. g)

can_uri : (f : Uri → Declaration) → Can (UriGives f)
can_uri f more = (segment [] # 0 ∷ more, λ i. (f (t.literal []), both (g.literal g.one) gives))

pub end_equals : (f : Uri → Declaration) {ts bad : Tokens} → Stuck (IsToken (assign m.Plain)) Anything ts bad → Stuck (IsUriEnd f) (Starts no_tilde) ts bad
end_equals f k = stuck_in fits_anything (can_uri f) k

pub end_uri : (f : Uri → Declaration) {i : ℕ} {ts now bad : Tokens} → Took (IsToken (assign m.Plain)) Anything ts i now → Stuck IsUri (Starts no_tilde) now bad → Stuck (IsUriEnd f) (Starts no_tilde) ts bad
end_uri f e k = stuck_upto (reads fits_anything e) (stuck_in (fits_uri f) (can_gives f) k)

pub end_took : (f : Uri → Declaration) {i : ℕ} {ts now next : Tokens} {u : Uri} → Took (IsToken (assign m.Plain)) Anything ts i now → Took IsUri (Starts no_tilde) now u next → Took (IsUriEnd f) (Starts no_tilde) ts (f u) next
end_took f {next = next} {u = u} e k = took_upto (upto_then (reads fits_anything e) (reads (fits_uri f) k)) (took_gives (f u) next)

abbrev NamespaceUri : List ℕ × ℕ → Tokens → Declaration → Tokens → Type 0
NamespaceUri p = IsUriEnd (t.namespace p.0 p.1)

can_namespace : Can NamespaceUri
can_namespace more = (assign m.Plain # 0 ∷ segment [] # 0 ∷ more, λ p. (t.namespace p.0 p.1 (t.literal []), both token (both (g.literal g.one) gives)))

pub namespace_prefix : {ts bad : Tokens} → Stuck (IsOf IsPrefixAt) Anything ts bad → Stuck IsNamespaceEnd (Starts no_tilde) ts bad
namespace_prefix k = stuck_in fits_anything can_namespace k

pub namespace_upto : {ts now : Tokens} {p : List ℕ × ℕ} → Took (IsOf IsPrefixAt) Anything ts p now → Upto IsNamespaceEnd (NamespaceUri p) (Starts no_tilde) ts now
namespace_upto k = reads fits_anything k

abbrev pub LibraryText : List ℕ × ℕ → Tokens → Declaration → Tokens → Type 0
LibraryText p = Then (IsToken (assign m.Plain)) (λ i. Then IsLiteral (λ s. Gives (t.datatypes p.0 p.1 s)))

can_library : Can LibraryText
can_library more = (assign m.Plain # 0 ∷ segment [] # 0 ∷ more, λ p. (t.datatypes p.0 p.1 [], both token (both g.one gives)))

pub datatypes_prefix : {ts bad : Tokens} → Stuck (IsOf IsPrefixAt) Anything ts bad → Stuck IsDatatypesEnd (Starts no_tilde) ts bad
datatypes_prefix k = stuck_in fits_anything can_library k

pub datatypes_upto : {ts now : Tokens} {p : List ℕ × ℕ} → Took (IsOf IsPrefixAt) Anything ts p now → Upto IsDatatypesEnd (LibraryText p) (Starts no_tilde) ts now
datatypes_upto k = reads fits_anything k

fits_library : (p : List ℕ × ℕ) → Fits (Starts no_tilde) (λ (s : List ℕ). Gives (t.datatypes p.0 p.1 s)) (Starts no_tilde)
fits_library p = fits_gives (λ (s : List ℕ). t.datatypes p.0 p.1 s) (λ r g. g)

pub library_equals : (p : List ℕ × ℕ) {ts bad : Tokens} → Stuck (IsToken (assign m.Plain)) Anything ts bad → Stuck (LibraryText p) (Starts no_tilde) ts bad
library_equals p k = stuck_in fits_anything (λ more. (segment [] # 0 ∷ more, λ i. (t.datatypes p.0 p.1 [], both g.one gives))) k

pub library_stuck : (p : List ℕ × ℕ) {i : ℕ} {ts now bad : Tokens} → Took (IsToken (assign m.Plain)) Anything ts i now → Stuck IsLiteral (Starts no_tilde) now bad → Stuck (LibraryText p) (Starts no_tilde) ts bad
library_stuck p e k = stuck_upto (reads fits_anything e) (stuck_in (fits_library p) (can_gives (λ (s : List ℕ). t.datatypes p.0 p.1 s)) k)

pub library_took : (p : List ℕ × ℕ) {i : ℕ} {ts now next : Tokens} {s : List ℕ} → Took (IsToken (assign m.Plain)) Anything ts i now → Took IsLiteral (Starts no_tilde) now s next → Took (LibraryText p) (Starts no_tilde) ts (t.datatypes p.0 p.1 s) next
library_took p {next = next} {s = s} e k = took_upto (upto_then (reads fits_anything e) (reads (fits_library p) k)) (took_gives (t.datatypes p.0 p.1 s) next)

-- ---- default

may_from : {y : Terminal} {n : List ℕ} {i : ℕ} {l r : Tokens} {p : Option (List ℕ × ℕ)} → IsWord y n → MayHaveDefaultPrefix (y # i ∷ l) p r → Starts no_word r → (p ≡ Some (n, i)) × (r ≡ l)
may_from {i = i} w (prefix v) f = (ap (λ (s : List ℕ). Some (s, i)) (word_one v w), refl)
may_from g.by_name no_prefix f = absurd (false≢true f)
may_from g.by_keyword no_prefix f = absurd (false≢true f)

pub may_prefix : {y : Terminal} {n : List ℕ} {i j : ℕ} {now next : Tokens} → IsWord y n → j ≡ i → now ≡ y # i ∷ next → Took MayHaveDefaultPrefix (Starts no_word) now (Some (n, j)) next
may_prefix {y = y} {n = n} {i = i} {now = now} {next = next} w same e = subst (λ (l : ℕ). Took MayHaveDefaultPrefix (Starts no_word) now (Some (n, l)) next) (sym same) (record {
  front = y # i ∷ [];
  cut = e;
  derives = λ more. prefix w;
  only = λ l a p r d f. may_from w d f;
})

not_word : (y : code.Terminal) → ((n : _) → y ≡ c.Ident n → ⊥) → ((w : _) → y ≡ c.Keyword w → ⊥) → no_word (unwrap_or (seen y) x.other) ≡ true
not_word (c.Ident n) h1 h2 = absurd (h1 n refl)
not_word (c.Keyword w) h1 h2 = absurd (h2 w refl)
not_word y h1 h2 = refl

none_from : {l r : Tokens} {p : Option (List ℕ × ℕ)} → no_word (first_terminal l) ≡ true → MayHaveDefaultPrefix l p r → (p ≡ None) × (r ≡ l)
none_from h no_prefix = (refl, refl)
none_from h (prefix g.by_name) = absurd (false≢true h)
none_from h (prefix g.by_keyword) = absurd (false≢true h)

pub may_none : (now behind : Tokens) (y : code.Terminal) → IsNext now (seen y) behind → ((n : _) → y ≡ c.Ident n → ⊥) → ((w : _) → y ≡ c.Keyword w → ⊥) → Took MayHaveDefaultPrefix (Starts no_word) now None now
may_none now behind y e h1 h2 = record {
  front = [];
  cut = refl;
  derives = λ more. no_prefix;
  only = λ l a p r d f. none_from (ap no_word (first_alike a) ∙ ap no_word (first_next now behind (seen y) e) ∙ not_word y h1 h2) d;
}

abbrev DefaultUri : ℕ → Option (List ℕ × ℕ) → Tokens → Declaration → Tokens → Type 0
DefaultUri start p = IsUriEnd (t.default start p)

abbrev pub DefaultPrefix : ℕ → ℕ → Tokens → Declaration → Tokens → Type 0
DefaultPrefix start i = Then MayHaveDefaultPrefix (DefaultUri start)

fits_default : (start : ℕ) → Fits (Starts no_word) (DefaultUri start) (Starts no_tilde)
fits_default start = fits_token no_word refl

can_default : (start : ℕ) → Can (DefaultUri start)
can_default start more = (assign m.Plain # 0 ∷ segment [] # 0 ∷ more, λ p. (t.default start p (t.literal []), both token (both (g.literal g.one) gives)))

can_prefixed : (start : ℕ) → Can (DefaultPrefix start)
can_prefixed start more = (assign m.Plain # 0 ∷ segment [] # 0 ∷ more, λ i. (t.default start None (t.literal []), both no_prefix (both token (both (g.literal g.one) gives))))

pub default_namespace : (start : ℕ) {now : Tokens} → (first_terminal now ≡ keyword k.Namespace → ⊥) → Stuck (IsDefaultEnd start) (Starts no_tilde) now now
default_namespace start n = stuck_in fits_anything (can_prefixed start) (record {
  front = [];
  cut = refl;
  begins = can_token (keyword k.Namespace);
  refuses = λ l a i r d f. n (sym (first_alike a) ∙ token_is d);
})
  where
    token_is : {l r : Tokens} {i : ℕ} → IsToken (keyword k.Namespace) l i r → first_terminal l ≡ keyword k.Namespace
    token_is token = refl

pub default_upto : (start : ℕ) {i : ℕ} {ts now : Tokens} → Took (IsToken (keyword k.Namespace)) Anything ts i now → Upto (IsDefaultEnd start) (DefaultPrefix start i) (Starts no_tilde) ts now
default_upto start e = reads fits_anything e

pub default_prefix_stuck : (start i : ℕ) {now bad : Tokens} → Stuck MayHaveDefaultPrefix (Starts no_word) now bad → Stuck (DefaultPrefix start i) (Starts no_tilde) now bad
default_prefix_stuck start i k = stuck_in (fits_default start) (can_default start) k

pub default_prefix_upto : (start i : ℕ) {now next : Tokens} {p : Option (List ℕ × ℕ)} → Took MayHaveDefaultPrefix (Starts no_word) now p next → Upto (DefaultPrefix start i) (DefaultUri start p) (Starts no_tilde) now next
default_prefix_upto start i k = reads (fits_default start) k

-- ---- declarations

pub namespace_at : {i : ℕ} {now next : Tokens} → now ≡ keyword k.Namespace # i ∷ next → Upto IsDeclaration IsNamespaceEnd (Starts no_tilde) now next
namespace_at {i = i} e = upto_token e (λ l z r d. to d) (λ l z r d f. from d)
  where
    to : {l r : Tokens} {z : Declaration} → IsNamespaceEnd l z r → IsDeclaration (keyword k.Namespace # i ∷ l) z r
    to (both (of (prefix_at w)) (both token (both u gives))) = g.namespace w u

    from : {l r : Tokens} {z : Declaration} → IsDeclaration (keyword k.Namespace # i ∷ l) z r → IsNamespaceEnd l z r
    from (g.namespace w u) = both (of (prefix_at w)) (both token (both u gives))

pub datatypes_at : {i : ℕ} {now next : Tokens} → now ≡ keyword k.Datatypes # i ∷ next → Upto IsDeclaration IsDatatypesEnd (Starts no_tilde) now next
datatypes_at {i = i} e = upto_token e (λ l z r d. to d) (λ l z r d f. from d)
  where
    to : {l r : Tokens} {z : Declaration} → IsDatatypesEnd l z r → IsDeclaration (keyword k.Datatypes # i ∷ l) z r
    to (both (of (prefix_at w)) (both token (both u gives))) = g.datatypes w u

    from : {l r : Tokens} {z : Declaration} → IsDeclaration (keyword k.Datatypes # i ∷ l) z r → IsDatatypesEnd l z r
    from (g.datatypes w u) = both (of (prefix_at w)) (both token (both u gives))

default_at_place : {i : ℕ} {now next : Tokens} → now ≡ keyword k.Default # i ∷ next → Upto IsDeclaration (IsDefaultEnd i) (Starts no_tilde) now next
default_at_place {i = i} e = upto_token e (λ l z r d. to d) (λ l z r d f. from d)
  where
    to : {l r : Tokens} {z : Declaration} → IsDefaultEnd i l z r → IsDeclaration (keyword k.Default # i ∷ l) z r
    to (both token (both no_prefix (both token (both u gives)))) = g.default u
    to (both token (both (prefix w) (both token (both u gives)))) = g.default_prefix w u

    from : {l r : Tokens} {z : Declaration} → IsDeclaration (keyword k.Default # i ∷ l) z r → IsDefaultEnd i l z r
    from (g.default u) = both token (both no_prefix (both token (both u gives)))
    from (g.default_prefix w u) = both token (both (prefix w) (both token (both u gives)))

pub default_at : {i j : ℕ} {now next : Tokens} → j ≡ i → now ≡ keyword k.Default # i ∷ next → Upto IsDeclaration (IsDefaultEnd j) (Starts no_tilde) now next
default_at {now = now} {next = next} same e = subst (λ (l : ℕ). Upto IsDeclaration (IsDefaultEnd l) (Starts no_tilde) now next) (sym same) (default_at_place e)

declaration_begins : {l r : Tokens} {d : Declaration} → IsDeclaration l d r → begins_declaration (first_terminal l) ≡ true
declaration_begins (g.namespace w u) = refl
declaration_begins (g.default u) = refl
declaration_begins (g.default_prefix w u) = refl
declaration_begins (g.datatypes w l) = refl

can_declaration : CanBe IsDeclaration
can_declaration more = (keyword k.Namespace # 0 ∷ ident [] # 0 ∷ assign m.Plain # 0 ∷ segment [] # 0 ∷ more, t.namespace [] 0 (t.literal []), g.namespace g.by_name (g.literal g.one))

pub no_declaration_here : {now : Tokens} → begins_declaration (first_terminal now) ≡ false → Stuck IsDeclaration (Starts no_tilde) now now
no_declaration_here h = stuck_here begins_declaration (λ l d r k. declaration_begins k) h can_declaration

not_keyword : (y : code.Terminal) → ((w : _) → y ≡ c.Keyword w → ⊥) → begins_declaration (unwrap_or (seen y) x.other) ≡ false
not_keyword (c.Keyword w) h = absurd (h w refl)
not_keyword y h = refl

pub no_keyword : (now behind : Tokens) (y : code.Terminal) → IsNext now (seen y) behind → ((w : _) → y ≡ c.Keyword w → ⊥) → Stuck IsDeclaration (Starts no_tilde) now now
no_keyword now behind y e h = no_declaration_here (ap begins_declaration (first_next now behind (seen y) e) ∙ not_keyword y h)

other_keyword : (w : Keyword) → (w ≡ k.Namespace → ⊥) → (w ≡ k.Default → ⊥) → (w ≡ k.Datatypes → ⊥) → begins_declaration (keyword w) ≡ false
other_keyword k.Namespace h1 h2 h3 = absurd (h1 refl)
other_keyword k.Default h1 h2 h3 = absurd (h2 refl)
other_keyword k.Datatypes h1 h2 h3 = absurd (h3 refl)
other_keyword w h1 h2 h3 = refl

pub no_such_keyword : {w : Keyword} {i : ℕ} {now next : Tokens} → now ≡ keyword w # i ∷ next → (w ≡ k.Namespace → ⊥) → (w ≡ k.Default → ⊥) → (w ≡ k.Datatypes → ⊥) → Stuck IsDeclaration (Starts no_tilde) now now
no_such_keyword {w = w} e h1 h2 h3 = no_declaration_here (ap (λ (l : Tokens). begins_declaration (first_terminal l)) e ∙ other_keyword w h1 h2 h3)

-- ---- lists of them

more_to : {l r : Tokens} {ds : List Declaration} → Then IsDeclaration (λ d. Whole AreDeclarations (d ∷ [])) l ds r → AreDeclarations l ds r
more_to {l = l} {r = r} (both k d) = subst (λ (ds : List Declaration). AreDeclarations l ds r) (sym d.is) (g.more k d.behind)

none_begins : (l : Tokens) → begins_declaration (first_terminal l) ≡ true → Starts behind_item l → ⊥
none_begins [] e f = cc
none_begins (keyword k.Namespace # i ∷ l) e f = false≢true f
none_begins (keyword k.Default # i ∷ l) e f = false≢true f
none_begins (keyword k.Datatypes # i ∷ l) e f = false≢true f
none_begins (y # i ∷ l) e f = cc

more_from : {l r : Tokens} {ds : List Declaration} → begins_declaration (first_terminal l) ≡ true → AreDeclarations l ds r → Starts behind_item r → Then IsDeclaration (λ d. Whole AreDeclarations (d ∷ [])) l ds r
more_from e (g.more {ds = ds} k d) f = both k (record { more = ds; is = refl; behind = d })
more_from {l = l} e g.none f = absurd (none_begins l e f)

pub declaration_follows : {now : Tokens} → begins_declaration (first_terminal now) ≡ true → Upto AreDeclarations (Then IsDeclaration (λ d. Whole AreDeclarations (d ∷ []))) (Starts behind_item) now now
declaration_follows h = upto_at (λ l z r d. more_to d) (λ l a z r d f. more_from (ap begins_declaration (first_alike a) ∙ h) d f)

pub fits_declarations : Fits (Starts no_tilde) (λ d. Whole AreDeclarations (d ∷ [])) (Starts behind_item)
fits_declarations = record { fits = λ d mid z r k f. declarations_tilde k.behind (starts_to behind_item no_tilde item_to_tilde r f) }

end_from : {l r : Tokens} {ds : List Declaration} → begins_declaration (first_terminal l) ≡ false → AreDeclarations l ds r → (ds ≡ []) × (r ≡ l)
end_from e g.none = (refl, refl)
end_from e (g.more k d) = absurd (false≢true (sym e ∙ declaration_begins k))

abbrev pub So_far : List Declaration → Tokens → Tokens → Type 0
So_far ds ts now = Upto AreDeclarations (Whole AreDeclarations ds) (Starts behind_item) ts now

pub so_far_same : {ds es : List Declaration} (ts now : Tokens) → ds ≡ es → So_far ds ts now → So_far es ts now
so_far_same ts now e u = subst (λ (l : List Declaration). So_far l ts now) e u

pub declared_start : (ts : Tokens) → So_far [] ts ts
declared_start ts = behind_start

pub declared_read : (ds : List Declaration) (ts now : Tokens) {next : Tokens} {d : Declaration} → So_far ds ts now → begins_declaration (first_terminal now) ≡ true → Took IsDeclaration (Starts no_tilde) now d next → So_far (ds ++ d ∷ []) ts next
declared_read ds ts now u e k = part_read (λ (l : List Declaration). l) ds u (declaration_follows e) fits_declarations k

pub declared_stuck : (ds : List Declaration) (ts now : Tokens) {bad : Tokens} → So_far ds ts now → begins_declaration (first_terminal now) ≡ true → Stuck IsDeclaration (Starts no_tilde) now bad → Stuck AreDeclarations (Starts behind_item) ts bad
declared_stuck ds ts now u e k = part_stuck (λ (l : List Declaration). l) ds u (declaration_follows e) fits_declarations (λ more. (more, [], g.none)) k

pub declared_took : (ds : List Declaration) (ts now : Tokens) → So_far ds ts now → begins_declaration (first_terminal now) ≡ false → Took AreDeclarations (Starts behind_item) ts ds now
declared_took ds ts now u e = parts_took (λ (l : List Declaration). l) ds [] (sym (append-nil ds)) u (record {
  front = [];
  cut = refl;
  derives = λ more. g.none;
  only = λ l a y r d f. end_from (ap begins_declaration (first_alike a) ∙ e) d;
})
