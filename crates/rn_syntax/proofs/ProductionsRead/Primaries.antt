-- An operand or a primary, from its annotation on.
use Rattle.std.proofs.Common.{◌≡◌, ℕ, true, false, List, [], ◌∷◌, Some, refl, ap, sym, ◌∙◌, subst}
use Rattle.std.proofs.lemmas.Bool.{false≢true}
use Rattle.rn_syntax.specs.Terminal.{Terminal, Placed, ◌#◌, ident, minus}
use Rattle.rn_syntax.specs.Tree as tree
use Rattle.rn_syntax.specs.Tree.{Datatype, Params, Pattern}
use Rattle.rn_syntax.specs.Grammar as g
use Rattle.rn_syntax.specs.Grammar.{Tokens, MayHaveAnnotation, IsLiteral, IsDatatype, MayHaveParams, IsOperand, IsPrimary, IsCore}
use Rattle.rn_syntax.specs.inside.Follow.{Starts, first_terminal, no_bracket, no_follow, behind_core, behind_primary, behind_operand, begins_datatype}
use Rattle.rn_syntax.specs.inside.Sequence.{Then, both, Gives, gives, IsHere}
use Rattle.rn_syntax.specs.inside.PatternEnds as part
use Rattle.rn_syntax.specs.inside.PatternEnds.{BehindCore, IsDataEnd, BehindDatatype}
use Rattle.rn_syntax.specs.inside.Readers.{Took, Stuck, Bare}
use Rattle.rn_syntax.proofs.OneReading.OneClass.{datatype_one}
use Rattle.rn_syntax.proofs.OneReading.OnePattern.{core_front, datatype_front, follows_core}
use Rattle.rn_syntax.proofs.ProductionsRead.Compose.{Upto, Fits, Can, CanBe, upto_at, upto_token, upto_then, took_upto, stuck_upto, reads, stuck_in, took_gives, first_alike, can_then, fits_gives, can_gives}
use Rattle.rn_syntax.proofs.ProductionsRead.Skipping.{bare_here}
use Rattle.rn_syntax.proofs.ProductionsRead.Operands.{Follows, fits_ends, can_ends, primary_follow}

abbrev Annotates : Tokens → Unit {0} → Tokens → Type 0
Annotates = Bare MayHaveAnnotation

pub can_core : CanBe IsCore
can_core more = (ident [] # 0 ∷ more, tree.ref [], g.ref)

-- ---- a datatype comes, or none

datatype_begins : {x : Placed} {d : Datatype} (us : Tokens) → IsDatatype x d → begins_datatype (first_terminal (x ∷ us)) ≡ true
datatype_begins us g.string = refl
datatype_begins us g.token = refl
datatype_begins us g.named = refl

no_literal : {x : Placed} {us r : Tokens} {s : List ℕ} {d : Datatype} → IsLiteral (x ∷ us) s r → IsDatatype x d → ⊥
no_literal g.one n = elim n [ ]
no_literal (g.joined l) n = elim n [ ]

value_typed : {us r : Tokens} {s : List ℕ} {d e : Datatype} → e ≡ d → IsLiteral us s r → IsDataEnd d us (tree.value (Some e) s) r
value_typed {us = us} {r = r} {s = s} {d = d} h l = subst (λ (e : Datatype). IsDataEnd d us (tree.value (Some e) s) r) (sym h) (part.valued l)

datum_typed : {us r : Tokens} {ps : Params} {d e : Datatype} → e ≡ d → MayHaveParams us ps r → IsDataEnd d us (tree.datum e ps) r
datum_typed {us = us} {r = r} {ps = ps} {d = d} h m = subst (λ (e : Datatype). IsDataEnd d us (tree.datum e ps) r) (sym h) (part.datum m)

-- what a core with this datatype is
typed : {x : Placed} {us r : Tokens} {p : Pattern} {d : Datatype} → IsCore (x ∷ us) p r → IsDatatype x d → IsDataEnd d us p r
typed (g.typed_value y l) n = value_typed (datatype_one y n) l
typed (g.datum y m) n = datum_typed (datatype_one y n) m
typed (g.value l) n = absurd (no_literal l n)
typed (g.element c p) n = elim n [ ]
typed (g.attribute c p) n = elim n [ ]
typed (g.list p) n = elim n [ ]
typed (g.mixed p) n = elim n [ ]
typed g.empty n = elim n [ ]
typed g.not_allowed n = elim n [ ]
typed g.text n = elim n [ ]
typed g.ref n = elim n [ ]
typed (g.parens p) n = elim n [ ]

core_of : {x : Placed} {us r : Tokens} {p : Pattern} {d : Datatype} → IsDatatype x d → IsDataEnd d us p r → IsCore (x ∷ us) p r
core_of n (part.valued l) = g.typed_value n l
core_of n (part.datum m) = g.datum n m

-- behind the datatype of a core
pub type_at : {d : Datatype} {now next : Tokens} → IsHere IsDatatype now d next → Upto IsCore (IsDataEnd d) (Starts behind_core) now next
type_at h = upto_token h.here (λ t z r b. core_of h.holds b) (λ t z r b w. typed b h.holds)

-- ---- an operand

-- what is behind its annotation
pub data Bared : Tokens → Pattern → Tokens → Type 0 where
  plain : {ts mid rest : Tokens} {c p : Pattern} → IsCore ts c mid → BehindCore c mid p rest → Bared ts p rest
  except : {x : Placed} {i : ℕ} {mid after rest : Tokens} {d : Datatype} {ps : Params} {p : Pattern}
      → IsDatatype x d → MayHaveParams mid ps (minus # i ∷ after) → IsPrimary after p rest → Bared (x ∷ mid) (tree.datum_but d ps i p) rest

bared_front : {t r : Tokens} {z : Pattern} → Bared t z r → Starts no_bracket t
bared_front (plain c m) = core_front c
bared_front (except {mid = mid} n m q) = datatype_front mid n

abbrev Operand : Tokens → Pattern → Tokens → Type 0
Operand = Then Annotates (λ u. Bared)

operand_to : {t r : Tokens} {z : Pattern} → Operand t z r → IsOperand t z r
operand_to (both a (plain c (both f part.alone))) = g.plain (g.primary a c f)
operand_to (both a (plain c (both f (part.repeated h)))) = g.repeated (g.primary a c f) h
operand_to (both a (except n m q)) = g.except a n m q

operand_from : {t r : Tokens} {z : Pattern} → IsOperand t z r → Operand t z r
operand_from (g.plain (g.primary a c f)) = both a (plain c (both f part.alone))
operand_from (g.repeated (g.primary a c f) h) = both a (plain c (both f (part.repeated h)))
operand_from (g.except a n m q) = both a (except n m q)

operand_at : {ts : Tokens} → Upto IsOperand Operand (Starts behind_operand) ts ts
operand_at = upto_at (λ t z r d. operand_to d) (λ t a z r d w. operand_from d)

fits_bared : Fits (Starts no_bracket) (λ (u : Unit {0}). Bared) (Starts behind_operand)
fits_bared = record { fits = λ u mid z r d w. bared_front d }

can_bared : Can (λ (u : Unit {0}). Bared)
can_bared more = (ident [] # 0 ∷ more, λ u. (tree.ref [], plain g.ref (both g.none part.alone)))

pub operand_stuck : {ts bad : Tokens} → Stuck Annotates (Starts no_bracket) ts bad → Stuck IsOperand (Starts behind_operand) ts bad
operand_stuck h = stuck_upto operand_at (stuck_in fits_bared can_bared h)

operand_body : {ts now : Tokens} → Took Annotates (Starts no_bracket) ts tt now → Upto IsOperand Bared (Starts behind_operand) ts now
operand_body h = upto_then operand_at (reads fits_bared h)

except_typed : {us after r : Tokens} {i : ℕ} {ps : Params} {p : Pattern} {d e : Datatype} → e ≡ d → MayHaveParams us ps (minus # i ∷ after) → IsPrimary after p r → BehindDatatype d us (tree.datum_but e ps i p) r
except_typed {us = us} {r = r} {i = i} {ps = ps} {p = p} {d = d} h m q = subst (λ (e : Datatype). BehindDatatype d us (tree.datum_but e ps i p) r) (sym h) (part.except m q)

bared_of : {x : Placed} {us r : Tokens} {p : Pattern} {d : Datatype} → IsDatatype x d → BehindDatatype d us p r → Bared (x ∷ us) p r
bared_of n (part.plain b f m) = plain (core_of n b) (both f m)
bared_of n (part.except m q) = except n m q

typed_bared : {x : Placed} {us r : Tokens} {p : Pattern} {d : Datatype} → Bared (x ∷ us) p r → IsDatatype x d → BehindDatatype d us p r
typed_bared (plain c (both f b)) n = part.plain (typed c n) f b
typed_bared (except y m q) n = except_typed (datatype_one y n) m q

-- behind the datatype of an operand
pub operand_typed : {ts now next : Tokens} {d : Datatype} → Took Annotates (Starts no_bracket) ts tt now → IsHere IsDatatype now d next → Upto IsOperand (BehindDatatype d) (Starts behind_operand) ts next
operand_typed a h = upto_then (operand_body a) (upto_token h.here (λ t z r b. bared_of h.holds b) (λ t z r b w. typed_bared b h.holds))

abbrev Plain : Tokens → Pattern → Tokens → Type 0
Plain = Then IsCore BehindCore

-- at a core of an operand
operand_core : {ts now : Tokens} → Took Annotates (Starts no_bracket) ts tt now → begins_datatype (first_terminal now) ≡ false → Upto IsOperand Plain (Starts behind_operand) ts now
operand_core a e = upto_then (operand_body a) (upto_at (λ t z r d. to d) (λ t a z r d w. from (ap begins_datatype (first_alike a) ∙ e) d))
  where
    to : {t r : Tokens} {z : Pattern} → Plain t z r → Bared t z r
    to (both c m) = plain c m

    from : {t r : Tokens} {z : Pattern} → begins_datatype (first_terminal t) ≡ false → Bared t z r → Plain t z r
    from e (plain c m) = both c m
    from e (except {mid = mid} n m q) = absurd (false≢true (sym e ∙ datatype_begins mid n))

-- what begins with this terminal begins neither an annotation nor a datatype
pub operand_first : {x : Terminal} {i : ℕ} {now next : Tokens} → now ≡ x # i ∷ next → no_bracket x ≡ true → begins_datatype x ≡ false
    → Took Annotates (Starts no_bracket) now tt now × (begins_datatype (first_terminal now) ≡ false)
operand_first {now = now} e b d = (bare_here now (ap (λ ts. no_bracket (first_terminal ts)) e ∙ b), ap (λ ts. begins_datatype (first_terminal ts)) e ∙ d)

same_core : (r : Tokens) → Starts behind_core r → Starts behind_core r
same_core r w = w

pub operand_core_stuck : {ts now bad : Tokens} → Took Annotates (Starts no_bracket) ts tt now → begins_datatype (first_terminal now) ≡ false → Stuck IsCore (Starts behind_core) now bad → Stuck IsOperand (Starts behind_operand) ts bad
operand_core_stuck a e h = stuck_upto (operand_core a e) (stuck_in (fits_ends (λ c. c) same_core) (can_ends (λ c. c)) h)

pub operand_core_read : {ts now next : Tokens} {c : Pattern} → Took Annotates (Starts no_bracket) ts tt now → begins_datatype (first_terminal now) ≡ false → Took IsCore (Starts behind_core) now c next → Upto IsOperand (BehindCore c) (Starts behind_operand) ts next
operand_core_read a e h = upto_then (operand_core a e) (reads (fits_ends (λ c. c) same_core) h)

-- ---- a primary

abbrev Closes : Pattern → Tokens → Pattern → Tokens → Type 0
Closes c = Then Follows (λ u. Gives c)

abbrev Primary : Tokens → Pattern → Tokens → Type 0
Primary = Then Annotates (λ u. Then IsCore Closes)

primary_to : {t r : Tokens} {z : Pattern} → Primary t z r → IsPrimary t z r
primary_to (both a (both c (both f gives))) = g.primary a c f

primary_from : {t r : Tokens} {z : Pattern} → IsPrimary t z r → Primary t z r
primary_from (g.primary a c f) = both a (both c (both f gives))

primary_at : {ts : Tokens} → Upto IsPrimary Primary (Starts behind_primary) ts ts
primary_at = upto_at (λ t z r d. primary_to d) (λ t a z r d w. primary_from d)

fits_core : Fits (Starts no_bracket) (λ (u : Unit {0}). Then IsCore Closes) (Starts behind_primary)
fits_core = record { fits = λ u mid z r d w. front d }
  where
    front : {t r : Tokens} {z : Pattern} → Then IsCore Closes t z r → Starts no_bracket t
    front (both c m) = core_front c

fits_closes : Fits (Starts behind_core) Closes (Starts behind_primary)
fits_closes = record { fits = λ c mid z r d w. front d w }
  where
    front : {c z : Pattern} {t r : Tokens} → Closes c t z r → Starts behind_primary r → Starts behind_core t
    front (both f gives) w = follows_core f w

can_closes : Can Closes
can_closes more = (more, λ c. (c, both g.none gives))

pub primary_stuck : {ts bad : Tokens} → Stuck Annotates (Starts no_bracket) ts bad → Stuck IsPrimary (Starts behind_primary) ts bad
primary_stuck h = stuck_upto primary_at (stuck_in fits_core (λ more. let w = can_then can_core can_closes more in (w.0, λ u. (w.1, w.2))) h)

primary_body : {ts now : Tokens} → Took Annotates (Starts no_bracket) ts tt now → Upto IsPrimary (Then IsCore Closes) (Starts behind_primary) ts now
primary_body a = upto_then primary_at (reads fits_core a)

pub primary_core_stuck : {ts now bad : Tokens} → Took Annotates (Starts no_bracket) ts tt now → Stuck IsCore (Starts behind_core) now bad → Stuck IsPrimary (Starts behind_primary) ts bad
primary_core_stuck a h = stuck_upto (primary_body a) (stuck_in fits_closes can_closes h)

primary_core : {ts now next : Tokens} {c : Pattern} → Took Annotates (Starts no_bracket) ts tt now → Took IsCore (Starts behind_core) now c next → Upto IsPrimary (Closes c) (Starts behind_primary) ts next
primary_core a h = upto_then (primary_body a) (reads fits_closes h)

pub primary_follows_stuck : {ts now next bad : Tokens} {c : Pattern} → Took Annotates (Starts no_bracket) ts tt now → Took IsCore (Starts behind_core) now c next → Stuck Follows (Starts no_follow) next bad → Stuck IsPrimary (Starts behind_primary) ts bad
primary_follows_stuck {c = c} a h f = stuck_upto (primary_core a h) (stuck_in (fits_gives (λ u. c) primary_follow) (can_gives (λ u. c)) f)

pub primary_took : {ts now next end : Tokens} {c : Pattern} → Took Annotates (Starts no_bracket) ts tt now → Took IsCore (Starts behind_core) now c next → Took Follows (Starts no_follow) next tt end → Took IsPrimary (Starts behind_primary) ts c end
primary_took {end = end} {c = c} a h f = took_upto (upto_then (primary_core a h) (reads (fits_gives (λ u. c) primary_follow) f)) (took_gives c end)
