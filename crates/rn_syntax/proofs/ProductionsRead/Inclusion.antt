-- Includes, part by part.
use Rattle.std.proofs.Common.{◌≡◌, ℕ, true, List, [], ◌∷◌, Option, Some, None, refl, ap, sym, ◌∙◌}
use Rattle.std.proofs.lemmas.Bool.{false≢true}
use Rattle.rn_text.specs.declared.keywords.Keyword.TheVariants as k
use Rattle.rn_syntax.specs.declared.tree.Method.TheVariants as m
use Rattle.rn_syntax.specs.declared.productions.terminals.Terminal as code
use Rattle.rn_syntax.specs.declared.productions.terminals.Terminal.TheVariants as c
use Rattle.rn_syntax.specs.Terminal.{◌#◌, ident, keyword, assign, left_brace}
use Rattle.rn_syntax.specs.Tree as t
use Rattle.rn_syntax.specs.Tree.{Item, items_of}
use Rattle.rn_syntax.specs.Grammar as g
use Rattle.rn_syntax.specs.Grammar.{Tokens, IsLiteral, AreInnerItems, MayInherit, MayHaveOverrides}
use Rattle.rn_syntax.specs.inside.Follow.{Starts, Anything, first_terminal, no_tilde, no_brace, no_inherit, behind_item}
use Rattle.rn_syntax.specs.inside.Sequence.{Then, both, Gives, gives, IsToken, token, IsOf, of, IsPrefixAt, prefix_at}
use Rattle.rn_syntax.specs.inside.Including.{UpToBrace, IsIncludeEnd}
use Rattle.rn_syntax.specs.inside.Readers.{Took, Stuck, seen, IsNext}
use Rattle.rn_syntax.proofs.OneReading.OneClass.{starts_to}
use Rattle.rn_syntax.proofs.OneReading.OneTree.{item_to_brace, override_inherit, override_tilde, inherit_tilde}
use Rattle.rn_syntax.proofs.ProductionsRead.Compose.{Upto, Fits, Can, upto_token, upto_then, took_upto, stuck_upto, reads, stuck_in, took_gives, first_alike, fits_anything, fits_gives, can_gives}
use Rattle.rn_syntax.proofs.ProductionsRead.Next.{first_no_brace}

-- ---- inherit

abbrev Place : Type 0
Place = List ℕ × ℕ

abbrev pub InheritPrefix : Tokens → Option Place → Tokens → Type 0
InheritPrefix = Then (IsOf IsPrefixAt) (λ (p : Place). Gives (Some p))

abbrev pub InheritEnd : Tokens → Option Place → Tokens → Type 0
InheritEnd = Then (IsToken (assign m.Plain)) (λ (i : ℕ). InheritPrefix)

inherit_from : {l r : Tokens} {h : Option Place} → (first_terminal l ≡ keyword k.Inherit → ⊥) → MayInherit l h r → (h ≡ None) × (r ≡ l)
inherit_from n g.none = (refl, refl)
inherit_from n (g.inherit w) = absurd (n refl)

pub no_inherit_here : {now : Tokens} → (first_terminal now ≡ keyword k.Inherit → ⊥) → Took MayInherit (Starts no_inherit) now None now
no_inherit_here n = record { front = []; cut = refl; derives = λ more. g.none; only = λ l a h r d f. inherit_from (λ e. n (sym (first_alike a) ∙ e)) d }

pub inherit_at : {j : ℕ} {now next : Tokens} → now ≡ keyword k.Inherit # j ∷ next → Upto MayInherit InheritEnd (Starts no_inherit) now next
inherit_at {j = j} e = upto_token e (λ l z r d. to d) (λ l z r d f. from d f)
  where
    to : {l r : Tokens} {z : Option Place} → InheritEnd l z r → MayInherit (keyword k.Inherit # j ∷ l) z r
    to (both token (both (of (prefix_at w)) gives)) = g.inherit w

    from : {l r : Tokens} {z : Option Place} → MayInherit (keyword k.Inherit # j ∷ l) z r → Starts no_inherit r → InheritEnd l z r
    from (g.inherit w) f = both token (both (of (prefix_at w)) gives)
    from g.none f = absurd (false≢true f)

can_some : Can {A = Place} (λ (p : Place). Gives (Some p))
can_some = can_gives (λ (p : Place). Some p)

pub inherit_equals : {j : ℕ} {now next bad : Tokens} → now ≡ keyword k.Inherit # j ∷ next → Stuck (IsToken (assign m.Plain)) Anything next bad → Stuck MayInherit (Starts no_inherit) now bad
inherit_equals e k = stuck_upto (inherit_at e) (stuck_in fits_anything (λ more. (ident [] # 0 ∷ more, λ i. (Some ([], 0), both (of (prefix_at g.by_name)) gives))) k)

pub inherit_prefix : {i j : ℕ} {now next value bad : Tokens} → now ≡ keyword k.Inherit # j ∷ next → Took (IsToken (assign m.Plain)) Anything next i value → Stuck (IsOf IsPrefixAt) Anything value bad → Stuck MayInherit (Starts no_inherit) now bad
inherit_prefix e a k = stuck_upto (upto_then (inherit_at e) (reads fits_anything a)) (stuck_in fits_anything can_some k)

pub inherit_took : {i j : ℕ} {now next value end : Tokens} {p : Place} → now ≡ keyword k.Inherit # j ∷ next → Took (IsToken (assign m.Plain)) Anything next i value → Took (IsOf IsPrefixAt) Anything value p end → Took MayInherit (Starts no_inherit) now (Some p) end
inherit_took {end = end} {p = p} e a k = took_upto (upto_then (upto_then (inherit_at e) (reads fits_anything a)) (reads fits_anything k)) (took_gives (Some p) end)

-- ---- overrides

abbrev pub ListGives : List Item → Tokens → List Item → Tokens → Type 0
ListGives xs = Gives xs

pub can_list : Can ListGives
can_list = can_gives (λ (xs : List Item). xs)

pub override_at : {j : ℕ} {now next : Tokens} → now ≡ left_brace # j ∷ next → Upto MayHaveOverrides (UpToBrace AreInnerItems ListGives) (Starts no_brace) now next
override_at {j = j} e = upto_token e (λ l z r d. to d) (λ l z r d f. from d f)
  where
    to : {l r : Tokens} {z : List Item} → UpToBrace AreInnerItems ListGives l z r → MayHaveOverrides (left_brace # j ∷ l) z r
    to (both d (both token gives)) = g.braces d

    from : {l r : Tokens} {z : List Item} → MayHaveOverrides (left_brace # j ∷ l) z r → Starts no_brace r → UpToBrace AreInnerItems ListGives l z r
    from (g.braces d) f = both d (both token gives)
    from g.none f = absurd (false≢true f)

override_from : {l r : Tokens} {z : List Item} → no_brace (first_terminal l) ≡ true → MayHaveOverrides l z r → (z ≡ []) × (r ≡ l)
override_from h g.none = (refl, refl)
override_from h (g.braces d) = absurd (false≢true h)

pub no_override : (now behind : Tokens) (y : code.Terminal) → IsNext now (seen y) behind → (y ≡ c.LeftBrace → ⊥) → Took MayHaveOverrides (Starts no_brace) now [] now
no_override now behind y e h = record {
  front = [];
  cut = refl;
  derives = λ more. g.none;
  only = λ l a z r d f. override_from (ap no_brace (first_alike a) ∙ first_no_brace now behind y e h) d;
}

-- ---- include

abbrev pub Overrides : List ℕ → Option Place → Tokens → Item → Tokens → Type 0
Overrides s h = Then MayHaveOverrides (λ (ys : List Item). Gives (t.include s h (items_of ys)))

abbrev pub Inherits : List ℕ → Tokens → Item → Tokens → Type 0
Inherits s = Then MayInherit (Overrides s)

fits_wanted : Fits (Starts no_tilde) Inherits (Starts behind_item)
fits_wanted = record { fits = λ s mid z r d g. fit d g }
  where
    fit : {s : List ℕ} {l r : Tokens} {z : Item} → Inherits s l z r → Starts behind_item r → Starts no_tilde l
    fit (both h (both o gives)) g = inherit_tilde h (override_tilde o g)

fits_inherit : (s : List ℕ) → Fits (Starts no_inherit) (Overrides s) (Starts behind_item)
fits_inherit s = record { fits = λ h mid z r d g. fit d g }
  where
    fit : {h : Option Place} {l r : Tokens} {z : Item} → Overrides s h l z r → Starts behind_item r → Starts no_inherit l
    fit (both o gives) g = override_inherit o g

fits_own : (s : List ℕ) (h : Option Place) → Fits (Starts no_brace) (λ (ys : List Item). Gives (t.include s h (items_of ys))) (Starts behind_item)
fits_own s h = fits_gives (λ (ys : List Item). t.include s h (items_of ys)) (λ r g. starts_to behind_item no_brace item_to_brace r g)

can_own : (s : List ℕ) (h : Option Place) → Can (λ (ys : List Item). Gives (t.include s h (items_of ys)))
can_own s h = can_gives (λ (ys : List Item). t.include s h (items_of ys))

can_overrides : (s : List ℕ) → Can (Overrides s)
can_overrides s more = (more, λ h. (t.include s h (items_of []), both g.none gives))

can_inherits : Can Inherits
can_inherits more = (more, λ s. (t.include s None (items_of []), both g.none (both g.none gives)))

pub wanted_stuck : {now bad : Tokens} → Stuck IsLiteral (Starts no_tilde) now bad → Stuck IsIncludeEnd (Starts behind_item) now bad
wanted_stuck k = stuck_in fits_wanted can_inherits k

module _ {now behind : Tokens} {s : List ℕ} (l : Took IsLiteral (Starts no_tilde) now s behind) where
  pub inherit_stuck : {bad : Tokens} → Stuck MayInherit (Starts no_inherit) behind bad → Stuck IsIncludeEnd (Starts behind_item) now bad
  inherit_stuck k = stuck_upto (reads fits_wanted l) (stuck_in (fits_inherit s) (can_overrides s) k)

  module _ {own : Tokens} {h : Option Place} (i : Took MayInherit (Starts no_inherit) behind h own) where
    pub own_stuck : {bad : Tokens} → Stuck MayHaveOverrides (Starts no_brace) own bad → Stuck IsIncludeEnd (Starts behind_item) now bad
    own_stuck k = stuck_upto (upto_then (reads fits_wanted l) (reads (fits_inherit s) i)) (stuck_in (fits_own s h) (can_own s h) k)

    pub include_took : {end : Tokens} {ys : List Item} → Took MayHaveOverrides (Starts no_brace) own ys end → Took IsIncludeEnd (Starts behind_item) now (t.include s h (items_of ys)) end
    include_took {end = end} {ys = ys} k = took_upto (upto_then (upto_then (reads fits_wanted l) (reads (fits_inherit s) i)) (reads (fits_own s h) k)) (took_gives (t.include s h (items_of ys)) end)
