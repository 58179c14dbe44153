-- Cores, told by the token that they begin with.
use Rattle.std.proofs.Common.{◌≡◌, ◌<◌, ◌+◌, ℕ, List, [], ◌∷◌, length, refl, ap, ◌∙◌}
use Rattle.rn_text.specs.declared.keywords.Keyword.{Keyword}
use Rattle.rn_text.specs.declared.keywords.Keyword.TheVariants as k
use Rattle.rn_text.specs.declared.source.Token.{Token}
use Rattle.rn_syntax.specs.Terminal.{Placed, ◌#◌, ident, keyword, left_brace, right_brace}
use Rattle.rn_syntax.specs.Tree as tree
use Rattle.rn_syntax.specs.Tree.{NameClass, Pattern}
use Rattle.rn_syntax.specs.Grammar as g
use Rattle.rn_syntax.specs.Grammar.{Tokens, IsNameClass, IsPattern, IsCore}
use Rattle.rn_syntax.specs.inside.Follow.{Starts, Anything, first_terminal, behind_core, behind_class, behind_pattern}
use Rattle.rn_syntax.specs.inside.Sequence.{Then, both, Gives, gives, IsToken, token}
use Rattle.rn_syntax.specs.inside.PatternEnds.{IsBraced, IsNamed}
use Rattle.rn_syntax.specs.inside.Readers.{Took, Stuck, rest}
use Rattle.rn_syntax.proofs.ProductionsRead.Compose.{Upto, Fits, Can, CanBe, upto_token, upto_then, took_upto, stuck_upto, reads, stuck_in, took_gives, can_then, can_token, fits_anything, fits_token, can_gives}
use Rattle.rn_syntax.proofs.ProductionsRead.Next.{terminal_at}

-- ---- braces

abbrev Closed : ℕ → Tokens → Pattern → Tokens → Type 0
Closed i = Then IsPattern (λ p. Then (IsToken right_brace) (λ j. Gives p))

abbrev Close : Pattern → Tokens → Pattern → Tokens → Type 0
Close p = Then (IsToken right_brace) (λ j. Gives p)

can_pattern : CanBe IsPattern
can_pattern more = (ident [] # 0 ∷ more, tree.ref [], g.one (g.plain (g.primary g.bare g.ref g.none)))

can_close : Can Close
can_close more = (right_brace # 0 ∷ more, λ p. (p, both token gives))

can_closed : Can Closed
can_closed more = let w = can_then can_pattern can_close more in (w.0, λ i. (w.1, w.2))

fits_close : Fits (Starts behind_pattern) Close Anything
fits_close = fits_token behind_pattern refl

pub open_stuck : {ts bad : Tokens} → Stuck (IsToken left_brace) Anything ts bad → Stuck IsBraced Anything ts bad
open_stuck h = stuck_in fits_anything can_closed h

module _ {ts now : Tokens} {i : ℕ} (b : Took (IsToken left_brace) Anything ts i now) where
  opened : Upto IsBraced (Closed i) Anything ts now
  opened = reads fits_anything b

  pub braces_inner : {bad : Tokens} → Stuck IsPattern (Starts behind_pattern) now bad → Stuck IsBraced Anything ts bad
  braces_inner h = stuck_upto opened (stuck_in fits_close can_close h)

  module _ {next : Tokens} {p : Pattern} (h : Took IsPattern (Starts behind_pattern) now p next) where
    inner_read : Upto IsBraced (Close p) Anything ts next
    inner_read = upto_then opened (reads fits_close h)

    pub braces_close : {bad : Tokens} → Stuck (IsToken right_brace) Anything next bad → Stuck IsBraced Anything ts bad
    braces_close k = stuck_upto inner_read (stuck_in fits_anything (can_gives (λ (j : ℕ). p)) k)

    pub braced_took : {end : Tokens} {j : ℕ} → Took (IsToken right_brace) Anything next j end → Took IsBraced Anything ts p end
    braced_took {end = end} k = took_upto (upto_then inner_read (reads fits_anything k)) (took_gives p end)

-- ---- a name class and braces

abbrev Pair : Type 0
Pair = NameClass × Pattern

abbrev Behind : NameClass → Tokens → Pair → Tokens → Type 0
Behind c = Then IsBraced (λ p. Gives {A = Pair} (c, p))

fits_braced : Fits {C = Pair} (Starts behind_class) Behind Anything
fits_braced = record { fits = λ c mid z r d w. front d }
  where
    front : {c : NameClass} {t r : Tokens} {z : Pair} → Behind c t z r → Starts behind_class t
    front (both (both token m) n) = refl

can_braced : CanBe IsBraced
can_braced = can_then (can_token left_brace) can_closed

can_pair : Can {C = Pair} Behind
can_pair more = let w = can_braced more in (w.0, λ c. ((c, w.1), both w.2 gives))

pub class_stuck : {ts bad : Tokens} → Stuck IsNameClass (Starts behind_class) ts bad → Stuck IsNamed Anything ts bad
class_stuck h = stuck_in fits_braced can_pair h

module _ {ts now : Tokens} {c : NameClass} (h : Took IsNameClass (Starts behind_class) ts c now) where
  class_read : Upto IsNamed (Behind c) Anything ts now
  class_read = reads fits_braced h

  pub content_stuck : {bad : Tokens} → Stuck IsBraced Anything now bad → Stuck IsNamed Anything ts bad
  content_stuck b = stuck_upto class_read (stuck_in fits_anything (can_gives {C = Pair} (λ p. (c, p))) b)

  pub content_took : {end : Tokens} {p : Pattern} → Took IsBraced Anything now p end → Took IsNamed Anything ts (c, p) end
  content_took {end = end} {p = p} b = took_upto (upto_then class_read (reads fits_anything b)) (took_gives {A = Pair} (c, p) end)

-- ---- at a keyword

pub keyword_here : (xs : List Token) (at : ℕ) {w : Keyword} (v : Keyword) → at < length xs → first_terminal (rest xs at) ≡ keyword w → w ≡ v → (i : ℕ) × (rest xs at ≡ keyword v # i ∷ rest xs (at + 1))
keyword_here xs at v h e f = terminal_at xs at (keyword v) h (e ∙ ap (λ (w : Keyword). keyword w) f)

abbrev Element : Tokens → Pattern → Tokens → Type 0
Element = Then IsNamed (λ x. Gives (tree.element x.0 x.1))

abbrev Attribute : Tokens → Pattern → Tokens → Type 0
Attribute = Then IsNamed (λ x. Gives (tree.attribute x.0 x.1))

element_at : {i : ℕ} {now next : Tokens} → now ≡ keyword k.Element # i ∷ next → Upto IsCore Element (Starts behind_core) now next
element_at {i = i} e = upto_token e (λ t z r h. to h) (λ t z r h w. from h)
  where
    to : {t r : Tokens} {z : Pattern} → Element t z r → IsCore (keyword k.Element # i ∷ t) z r
    to (both (both c (both (both token (both p (both token gives))) gives)) gives) = g.element c p

    from : {t r : Tokens} {z : Pattern} → IsCore (keyword k.Element # i ∷ t) z r → Element t z r
    from (g.element {c = n} {p = q} c p) = both {a = (n, q)} (both c (both (both token (both p (both token gives))) gives)) gives
    from (g.value l) = elim l [ ]
    from (g.typed_value n l) = elim n [ ]
    from (g.datum n m) = elim n [ ]

attribute_at : {i : ℕ} {now next : Tokens} → now ≡ keyword k.Attribute # i ∷ next → Upto IsCore Attribute (Starts behind_core) now next
attribute_at {i = i} e = upto_token e (λ t z r h. to h) (λ t z r h w. from h)
  where
    to : {t r : Tokens} {z : Pattern} → Attribute t z r → IsCore (keyword k.Attribute # i ∷ t) z r
    to (both (both c (both (both token (both p (both token gives))) gives)) gives) = g.attribute c p

    from : {t r : Tokens} {z : Pattern} → IsCore (keyword k.Attribute # i ∷ t) z r → Attribute t z r
    from (g.attribute {c = n} {p = q} c p) = both {a = (n, q)} (both c (both (both token (both p (both token gives))) gives)) gives
    from (g.value l) = elim l [ ]
    from (g.typed_value n l) = elim n [ ]
    from (g.datum n m) = elim n [ ]

abbrev Made : (Pattern → Pattern) → Tokens → Pattern → Tokens → Type 0
Made f = Then IsBraced (λ p. Gives (f p))

list_at : {i : ℕ} {now next : Tokens} → now ≡ keyword k.List # i ∷ next → Upto IsCore (Made tree.list) (Starts behind_core) now next
list_at {i = i} e = upto_token e (λ t z r h. to h) (λ t z r h w. from h)
  where
    to : {t r : Tokens} {z : Pattern} → Made tree.list t z r → IsCore (keyword k.List # i ∷ t) z r
    to (both (both token (both p (both token gives))) gives) = g.list p

    from : {t r : Tokens} {z : Pattern} → IsCore (keyword k.List # i ∷ t) z r → Made tree.list t z r
    from (g.list p) = both (both token (both p (both token gives))) gives
    from (g.value l) = elim l [ ]
    from (g.typed_value n l) = elim n [ ]
    from (g.datum n m) = elim n [ ]

mixed_at : {i : ℕ} {now next : Tokens} → now ≡ keyword k.Mixed # i ∷ next → Upto IsCore (Made tree.mixed) (Starts behind_core) now next
mixed_at {i = i} e = upto_token e (λ t z r h. to h) (λ t z r h w. from h)
  where
    to : {t r : Tokens} {z : Pattern} → Made tree.mixed t z r → IsCore (keyword k.Mixed # i ∷ t) z r
    to (both (both token (both p (both token gives))) gives) = g.mixed p

    from : {t r : Tokens} {z : Pattern} → IsCore (keyword k.Mixed # i ∷ t) z r → Made tree.mixed t z r
    from (g.mixed p) = both (both token (both p (both token gives))) gives
    from (g.value l) = elim l [ ]
    from (g.typed_value n l) = elim n [ ]
    from (g.datum n m) = elim n [ ]

module _ {now next : Tokens} {i : ℕ} where
  pub element_took : {c : NameClass} {p : Pattern} {end : Tokens} → now ≡ keyword k.Element # i ∷ next → Took IsNamed Anything next (c, p) end → Took IsCore (Starts behind_core) now (tree.element c p) end
  element_took {c = c} {p = p} {end = end} e h = took_upto (upto_then (element_at e) (reads fits_anything h)) (took_gives (tree.element c p) end)

  pub element_stuck : {bad : Tokens} → now ≡ keyword k.Element # i ∷ next → Stuck IsNamed Anything next bad → Stuck IsCore (Starts behind_core) now bad
  element_stuck e h = stuck_upto (element_at e) (stuck_in fits_anything (can_gives (λ (x : Pair). tree.element x.0 x.1)) h)

  pub attribute_took : {c : NameClass} {p : Pattern} {end : Tokens} → now ≡ keyword k.Attribute # i ∷ next → Took IsNamed Anything next (c, p) end → Took IsCore (Starts behind_core) now (tree.attribute c p) end
  attribute_took {c = c} {p = p} {end = end} e h = took_upto (upto_then (attribute_at e) (reads fits_anything h)) (took_gives (tree.attribute c p) end)

  pub attribute_stuck : {bad : Tokens} → now ≡ keyword k.Attribute # i ∷ next → Stuck IsNamed Anything next bad → Stuck IsCore (Starts behind_core) now bad
  attribute_stuck e h = stuck_upto (attribute_at e) (stuck_in fits_anything (can_gives (λ (x : Pair). tree.attribute x.0 x.1)) h)

  pub list_took : {p : Pattern} {end : Tokens} → now ≡ keyword k.List # i ∷ next → Took IsBraced Anything next p end → Took IsCore (Starts behind_core) now (tree.list p) end
  list_took {p = p} {end = end} e h = took_upto (upto_then (list_at e) (reads fits_anything h)) (took_gives (tree.list p) end)

  pub list_stuck : {bad : Tokens} → now ≡ keyword k.List # i ∷ next → Stuck IsBraced Anything next bad → Stuck IsCore (Starts behind_core) now bad
  list_stuck e h = stuck_upto (list_at e) (stuck_in fits_anything (can_gives tree.list) h)

  pub mixed_took : {p : Pattern} {end : Tokens} → now ≡ keyword k.Mixed # i ∷ next → Took IsBraced Anything next p end → Took IsCore (Starts behind_core) now (tree.mixed p) end
  mixed_took {p = p} {end = end} e h = took_upto (upto_then (mixed_at e) (reads fits_anything h)) (took_gives (tree.mixed p) end)

  pub mixed_stuck : {bad : Tokens} → now ≡ keyword k.Mixed # i ∷ next → Stuck IsBraced Anything next bad → Stuck IsCore (Starts behind_core) now bad
  mixed_stuck e h = stuck_upto (mixed_at e) (stuck_in fits_anything (can_gives tree.mixed) h)

-- ---- one token

-- a core that is this token alone
one_took : {x : Placed} {p : Pattern} {now next : Tokens} → now ≡ x ∷ next → ((t : Tokens) → IsCore (x ∷ t) p t) → ((t : Tokens) (z : Pattern) (r : Tokens) → IsCore (x ∷ t) z r → Gives p t z r) → Took IsCore (Starts behind_core) now p next
one_took {x = x} {p = p} {next = next} e to from = took_upto (upto_token {V = IsCore} {W = Gives p} {G = Starts behind_core} e (λ t z r h. given h) (λ t z r h w. from t z r h)) (took_gives p next)
  where
    given : {t r : Tokens} {z : Pattern} → Gives p t z r → IsCore (x ∷ t) z r
    given {t = t} gives = to t

pub empty_took : {i : ℕ} {now next : Tokens} → now ≡ keyword k.Empty # i ∷ next → Took IsCore (Starts behind_core) now tree.empty next
empty_took {i = i} e = one_took e (λ t. g.empty) (λ t z r h. from h)
  where
    from : {t r : Tokens} {z : Pattern} → IsCore (keyword k.Empty # i ∷ t) z r → Gives tree.empty t z r
    from g.empty = gives
    from (g.value l) = elim l [ ]
    from (g.typed_value n l) = elim n [ ]
    from (g.datum n m) = elim n [ ]

pub not_allowed_took : {i : ℕ} {now next : Tokens} → now ≡ keyword k.NotAllowed # i ∷ next → Took IsCore (Starts behind_core) now tree.not_allowed next
not_allowed_took {i = i} e = one_took e (λ t. g.not_allowed) (λ t z r h. from h)
  where
    from : {t r : Tokens} {z : Pattern} → IsCore (keyword k.NotAllowed # i ∷ t) z r → Gives tree.not_allowed t z r
    from g.not_allowed = gives
    from (g.value l) = elim l [ ]
    from (g.typed_value n l) = elim n [ ]
    from (g.datum n m) = elim n [ ]

pub text_took : {i : ℕ} {now next : Tokens} → now ≡ keyword k.Text # i ∷ next → Took IsCore (Starts behind_core) now tree.text next
text_took {i = i} e = one_took e (λ t. g.text) (λ t z r h. from h)
  where
    from : {t r : Tokens} {z : Pattern} → IsCore (keyword k.Text # i ∷ t) z r → Gives tree.text t z r
    from g.text = gives
    from (g.value l) = elim l [ ]
    from (g.typed_value n l) = elim n [ ]
    from (g.datum n m) = elim n [ ]

pub ref_took : {n : List ℕ} {i : ℕ} {now next : Tokens} → now ≡ ident n # i ∷ next → Took IsCore (Starts behind_core) now (tree.ref n) next
ref_took {n = n} {i = i} e = one_took e (λ t. g.ref) (λ t z r h. from h)
  where
    from : {t r : Tokens} {z : Pattern} → IsCore (ident n # i ∷ t) z r → Gives (tree.ref n) t z r
    from g.ref = gives
    from (g.value l) = elim l [ ]
    from (g.typed_value n l) = elim n [ ]
    from (g.datum n m) = elim n [ ]
