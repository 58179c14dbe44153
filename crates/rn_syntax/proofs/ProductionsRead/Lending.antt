-- Literals of includes that are lent by tokens: by more of them, and by some behind others.
use Rattle.std.proofs.Common.{◌≡◌, ℕ, zero, suc, ◌+◌, ◌<◌, ◌≤◌, List, [], ◌∷◌, ◌++◌, length, Some, Ok, Err, refl, sym, ap, ◌∙◌, subst, arith, append_assoc, append-nil}
use Rattle.std.specs.Prelude.{◌&&◌, not, Result, IfOk}
use Rattle.std.specs.Cow.{cow_str_bytes}
use Rattle.std.specs.List.{slice_get}
use Rattle.std.specs.declared.alloc.Global.{Global}
use Rattle.std.specs.declared.borrow.CowStr.{CowStr}
use Rattle.rn_text.specs.declared.keywords.Keyword.TheVariants as k
use Rattle.rn_text.specs.declared.source.Token.{Token}
use Rattle.rn_text.specs.Reading.{Advanced}
use Rattle.rn_syntax.specs.declared.fault.Fault.{Fault}
use Rattle.rn_syntax.specs.declared.tree.Item.{Item}
use Rattle.rn_syntax.specs.Terminal.{◌#◌, keyword, tilde}
use Rattle.rn_syntax.specs.Grammar.{Tokens, IsLiteral}
use Rattle.rn_syntax.specs.Spelled.{AreSpelled}
use Rattle.rn_syntax.specs.Lent.{AreLent, IsLent, is_written, is_joined, item_literals, items_literals}
use Rattle.rn_syntax.specs.inside.Borrowed.{BorrowsAsWritten, LendsOne, Lends}
use Rattle.rn_syntax.specs.inside.Follow.{Starts, first_terminal, no_tilde}
use Rattle.rn_syntax.specs.inside.Readers.{rest, Took}

abbrev Literals : Type 0
Literals = List (CowStr Global)

-- ---- lists of literals

pub widened : (xs : List Token) (low from to high : ℕ) (ss : Literals) → low ≤ from → to ≤ high → AreLent xs from to ss → AreLent xs low high ss
widened xs low from to high [] l h a = tt
widened xs low from to high (s ∷ ss) l h (at, after, before, is, more) = (at, omega (arith, l, after), omega (arith, before, h), is, widened xs (at + 1) (at + 1) to high ss (omega arith) h more)

pub both_lent : (xs : List Token) (from mid to : ℕ) (ss us : Literals) → from ≤ mid → mid ≤ to → AreLent xs from mid ss → AreLent xs mid to us → AreLent xs from to (ss ++ us)
both_lent xs from mid to [] us l h a b = widened xs from mid to to us l (omega arith) b
both_lent xs from mid to (s ∷ ss) us l h (at, after, before, is, more) b = (at, after, omega (arith, before, h), is, both_lent xs (at + 1) mid to ss us (omega (arith, before)) h more b)

items_push : (xs : List Item) (x : Item) → items_literals (xs ++ x ∷ []) ≡ items_literals xs ++ item_literals x
items_push [] x = append-nil (item_literals x)
items_push (y ∷ ys) x = ap (λ l. item_literals y ++ l) (items_push ys x) ∙ sym (append_assoc (item_literals y) (items_literals ys) (item_literals x))

-- an item more
pub more_lent : (xs : List Token) (from end body behind : ℕ) (items all : List Item) (x : Item) → from ≤ end → end ≤ body → body ≤ behind → all ≡ items ++ x ∷ []
    → AreLent xs from end (items_literals items) → AreLent xs body behind (item_literals x) → AreLent xs from behind (items_literals all)
more_lent xs from end body behind items all x l m h is a b =
    subst (AreLent xs from behind) (sym (ap items_literals is ∙ items_push items x))
    (both_lent xs from end behind (items_literals items) (item_literals x) l (omega (arith, m, h)) a (widened xs end body behind behind (item_literals x) m (omega arith) b))

-- items without an include, and one more
pub none_more : (items all : List Item) (x : Item) → all ≡ items ++ x ∷ [] → items_literals items ≡ [] → item_literals x ≡ [] → items_literals all ≡ []
none_more items all x is none here = ap items_literals is ∙ items_push items x ∙ ap (λ (l : Literals). l ++ item_literals x) none ∙ here

-- ---- one include

got : (xs : List Token) (n : ℕ) → n < length xs → (x : Token) × (slice_get xs n ≡ Some x)
got [] n l = absurd (omega (arith, l))
got (x ∷ xs) zero l = (x, refl)
got (x ∷ xs) (suc n) l = got xs n (omega (arith, l))

not_joined : (ts : Tokens) → no_tilde (first_terminal ts) ≡ not (is_joined ts)
not_joined [] = refl
not_joined (tilde # i ∷ ts) = refl
not_joined (x # i ∷ ts) = refl

pub lends_one : (xs : List Token) (at behind : ℕ) (s : CowStr Global) (all inner : Literals) → all ≡ s ∷ inner → inner ≡ [] → Took IsLiteral (Starts no_tilde) (rest xs at) (cow_str_bytes s) (rest xs behind)
    → at < length xs → BorrowsAsWritten xs at s → LendsOne xs at all
lends_one xs at behind s all inner is none took inside borrows = record {
  literal = s;
  behind = rest xs behind;
  only = is ∙ ap (λ (l : Literals). s ∷ l) none;
  is = subst (λ (ts : Tokens). IsLiteral ts (cow_str_bytes s) (rest xs behind)) (sym took.cut) (took.derives (rest xs behind));
  inside = inside;
  borrows = borrows;
}

include_lent : (xs : List Token) (at to place : ℕ) (ss : Literals) → rest xs at ≡ keyword k.Include # place ∷ rest xs (at + 1) → at < to → LendsOne xs (at + 1) ss → AreLent xs at to ss
include_lent xs at to place ss is before one =
    let token = got xs (at + 1) one.inside in
    let two : at + 1 + 1 ≡ at + 2 = omega arith in
    let whole : IsLent xs at one.literal = record {
      place = place;
      segment = token.0;
      behind = one.behind;
      include = is;
      is = one.is;
      first = token.1;
      lent = one.borrows token.0 token.1 ∙ ap (λ b. is_written token.0 && b) (not_joined (rest xs (at + 1 + 1)) ∙ ap (λ (n : ℕ). not (is_joined (rest xs n))) two);
    } in
    subst (AreLent xs at to) (sym one.only) (at, omega arith, before, whole, tt)

-- ---- what readers answer

pub lends_on : {B : Type 0} (xs : List Token) (low at : ℕ) (f : B → Literals) (r : Result (B × ℕ) Fault) → low ≤ at → Lends xs at f r → Lends xs low f r
lends_on xs low at f (Ok r) l h = λ s. widened xs low at r.1 r.1 (f r.0) l (omega arith) (h s)
lends_on xs low at f (Err e) l h = tt

pub lends_none : {B : Type 0} (xs : List Token) (at : ℕ) (f : B → Literals) (r : Result (B × ℕ) Fault) → IfOk r (λ r. f r.0 ≡ []) → Lends xs at f r
lends_none xs at f (Ok r) h = λ s. subst (AreLent xs at r.1) (sym h) tt
lends_none xs at f (Err e) h = tt

pub lends_include : {B : Type 0} (xs : List Token) (at count place : ℕ) (f : B → Literals) (r : Result (B × ℕ) Fault) → rest xs at ≡ keyword k.Include # place ∷ rest xs (at + 1)
    → IfOk r (λ r. Advanced (at + 1) r.1 count) → IfOk r (λ r. AreSpelled xs → LendsOne xs (at + 1) (f r.0)) → Lends xs at f r
lends_include xs at count place f (Ok r) is on h = λ s. include_lent xs at r.1 place (f r.0) is (omega (arith, on.further)) (h s)
lends_include xs at count place f (Err e) is on h = tt

-- behind items that were read
pub lends_behind : {B : Type 0} (xs : List Token) (from at : ℕ) (read : List Item) (f : B → Literals) (r : Result (B × ℕ) Fault) → from ≤ at → (AreSpelled xs → AreLent xs from at (items_literals read))
    → IfOk r (λ r. AreSpelled xs → (from : ℕ) → from ≤ at → AreLent xs from at (items_literals read) → AreLent xs from r.1 (f r.0)) → Lends xs from f r
lends_behind xs from at read f (Ok r) l a h = λ s. h s from l (a s)
lends_behind xs from at read f (Err e) l a h = tt
