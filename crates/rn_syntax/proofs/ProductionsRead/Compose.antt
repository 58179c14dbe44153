-- How readings follow one another.
use Rattle.std.proofs.Common.{◌≡◌, ◌≤◌, ◌<◌, ◌+◌, ℕ, arith, Bool, true, false, List, [], ◌∷◌, ◌++◌, refl, ap, sym, ◌∙◌, subst, append_assoc, Result, Ok, Err, IfOk}
use Rattle.std.proofs.lemmas.Bool.{false≢true}
use Rattle.rn_syntax.specs.declared.fault.Fault.{Fault}
use Rattle.rn_syntax.specs.declared.fault.Fault.TheVariants as f
use Rattle.rn_text.specs.declared.source.Token.{Token}
use Rattle.rn_syntax.specs.Terminal.{Terminal, Placed, ◌#◌}
use Rattle.rn_syntax.specs.Grammar.{Tokens}
use Rattle.rn_syntax.specs.inside.Follow.{Starts, Anything, first_terminal}
use Rattle.rn_syntax.specs.inside.Sequence.{Then, both, Gives, gives, IsToken, token, IsOf, of}
use Rattle.rn_text.specs.Reading.{Advanced}
use Rattle.rn_text.specs.inside.Reading.{Passed}
use Rattle.rn_syntax.specs.inside.Readers.{Alike, ends, same, Took, Stuck, Faults, rest, Bare, Skips, Reads, Makes}
use Rattle.rn_syntax.specs.Spelled.{AreSpelled}
use Rattle.rn_syntax.proofs.OneReading.OneClass.{place_of, tail}

-- The front of ts up to now is read: what makes a V of ts is a W of what is left.
pub record Upto {A : Type 0} (V W : Tokens → A → Tokens → Type 0) (G : Tokens → Type 0) (ts now : Tokens) : Type 0 where
  pub front : Tokens
  pub cut : ts ≡ front ++ now
  pub joins : (t : Tokens) (z : A) (r : Tokens) → W t z r → V (front ++ t) z r
  pub splits : (t : Tokens) → Alike t now → (z : A) (r : Tokens) → V (front ++ t) z r → G r → W t z r

-- what may follow an N begins each M
pub record Fits {A C : Type 0} (F : Tokens → Type 0) (M : A → Tokens → C → Tokens → Type 0) (G : Tokens → Type 0) : Type 0 where
  pub fits : (a : A) (mid : Tokens) (c : C) (r : Tokens) → M a mid c r → G r → F mid

-- each M can be written
abbrev pub Can : {A C : Type 0} → (A → Tokens → C → Tokens → Type 0) → Type 0
Can {A = A} {C = C} M = (more : Tokens) → (w : Tokens) × ((a : A) → (c : C) × M a w c more)

-- an N can be written
abbrev pub CanBe : {A : Type 0} → (Tokens → A → Tokens → Type 0) → Type 0
CanBe {A = A} N = (more : Tokens) → (w : Tokens) × (a : A) × N w a more

pub alike_front : (front : Tokens) {t u : Tokens} → Alike t u → Alike (front ++ t) (front ++ u)
alike_front [] a = a
alike_front (x ∷ front) a = same

-- ---- steps

module _ {A : Type 0} {V W : Tokens → A → Tokens → Type 0} {G : Tokens → Type 0} where
  -- before tokens like these a V is a W
  pub upto_at : {ts : Tokens} → ((t : Tokens) (z : A) (r : Tokens) → W t z r → V t z r)
      → ((t : Tokens) → Alike t ts → (z : A) (r : Tokens) → V t z r → G r → W t z r) → Upto V W G ts ts
  upto_at to from = record { front = []; cut = refl; joins = to; splits = from }

  pub took_upto : {ts now rest : Tokens} {x : A} → Upto V W G ts now → Took W G now x rest → Took V G ts x rest
  took_upto {rest = rest} {x = x} u k = record {
    front = u.front ++ k.front;
    cut = u.cut ∙ ap (λ (l : Tokens). u.front ++ l) k.cut ∙ sym (append_assoc u.front k.front rest);
    derives = λ more. subst (λ (l : Tokens). V l x more) (sym (append_assoc u.front k.front more)) (u.joins _ x more (k.derives more));
    only = λ t a y r d g. k.only t a y r (u.splits (k.front ++ t) (subst (Alike (k.front ++ t)) (sym k.cut) (alike_front k.front a)) y r (subst (λ (l : Tokens). V l y r) (append_assoc u.front k.front t) d) g) g;
  }

  pub stuck_upto : {ts now bad : Tokens} → Upto V W G ts now → Stuck W G now bad → Stuck V G ts bad
  stuck_upto {bad = bad} u k = record {
    front = u.front ++ k.front;
    cut = u.cut ∙ ap (λ (l : Tokens). u.front ++ l) k.cut ∙ sym (append_assoc u.front k.front bad);
    begins = λ more. let b = k.begins more in (b.0, b.1, subst (λ (l : Tokens). V l b.1 more) (sym (append_assoc u.front k.front b.0)) (u.joins _ b.1 more b.2));
    refuses = λ t a x r d g. k.refuses t a x r (u.splits (k.front ++ t) (subst (Alike (k.front ++ t)) (sym k.cut) (alike_front k.front a)) x r (subst (λ (l : Tokens). V l x r) (append_assoc u.front k.front t) d) g) g;
  }

-- one after another
pub upto_then : {A : Type 0} {V W X : Tokens → A → Tokens → Type 0} {G : Tokens → Type 0} {ts now next : Tokens} → Upto V W G ts now → Upto W X G now next → Upto V X G ts next
upto_then {V = V} {next = next} u k = record {
  front = u.front ++ k.front;
  cut = u.cut ∙ ap (λ (l : Tokens). u.front ++ l) k.cut ∙ sym (append_assoc u.front k.front next);
  joins = λ t z r d. subst (λ (l : Tokens). V l z r) (sym (append_assoc u.front k.front t)) (u.joins _ z r (k.joins t z r d));
  splits = λ t a z r d g. k.splits t a z r (u.splits (k.front ++ t) (subst (Alike (k.front ++ t)) (sym k.cut) (alike_front k.front a)) z r (subst (λ (l : Tokens). V l z r) (append_assoc u.front k.front t) d) g) g;
}

module _ {A C : Type 0} {N : Tokens → A → Tokens → Type 0} {M : A → Tokens → C → Tokens → Type 0} {F G : Tokens → Type 0} where
  split_then : {now next : Tokens} {a : A} → Fits F M G → (k : Took N F now a next) → (t : Tokens) → Alike t next → (z : C) (r : Tokens) → Then N M (k.front ++ t) z r → G r → M a t z r
  split_then fits k t l z r (both {a = b} {mid = mid} n m) g =
      let o = k.only t l b mid n (fits.fits b mid z r m g) in
      subst (λ x. M x t z r) o.0 (subst (λ (x : Tokens). M b x z r) o.1 m)

  -- an N was read
  pub reads : {now next : Tokens} {a : A} → Fits F M G → Took N F now a next → Upto (Then N M) (M a) G now next
  reads fits k = record { front = k.front; cut = k.cut; joins = λ t z r d. both (k.derives t) d; splits = split_then fits k }

  refuse_then : {now bad : Tokens} → Fits F M G → (k : Stuck N F now bad) → (t : Tokens) → Alike t bad → (z : C) (r : Tokens) → Then N M (k.front ++ t) z r → G r → ⊥
  refuse_then fits k t l z r (both {a = b} {mid = mid} n m) g = k.refuses t l b mid n (fits.fits b mid z r m g)

  -- the reader of an N stopped
  pub stuck_in : {now bad : Tokens} → Fits F M G → Can M → Stuck N F now bad → Stuck (Then N M) G now bad
  stuck_in fits can k = record {
    front = k.front;
    cut = k.cut;
    begins = λ more.
        let m = can more in
        let n = k.begins m.0 in
        let c = m.1 n.1 in
        (n.0, c.0, both n.2 c.1);
    refuses = refuse_then fits k;
  }

-- ---- ends

pub took_gives : {A : Type 0} {G : Tokens → Type 0} (x : A) (ts : Tokens) → Took (Gives x) G ts x ts
took_gives {A = A} {G = G} x ts = record { front = []; cut = refl; derives = λ more. gives; only = λ t a y r d g. given d }
  where
    given : {t r : Tokens} {y : A} → Gives x t y r → (y ≡ x) × (r ≡ t)
    given gives = (refl, refl)

-- ---- single tokens

pub first_alike : {t u : Tokens} → Alike t u → first_terminal t ≡ first_terminal u
first_alike ends = refl
first_alike (same {x = x # i}) = refl

-- no N begins with the first token
pub stuck_here : {A : Type 0} {N : Tokens → A → Tokens → Type 0} {F : Tokens → Type 0} {now : Tokens} (test : Terminal → Bool)
    → ((t : Tokens) (x : A) (r : Tokens) → N t x r → test (first_terminal t) ≡ true) → test (first_terminal now) ≡ false → CanBe N → Stuck N F now now
stuck_here {now = now} test begins h can = record {
  front = [];
  cut = refl;
  begins = can;
  refuses = λ t a x r d f. false≢true (sym h ∙ ap test (sym (first_alike a)) ∙ begins t x r d);
}

token_is : {x : Terminal} {t r : Tokens} {i : ℕ} → IsToken x t i r → t ≡ x # i ∷ r
token_is token = refl

pub token_first : {x : Terminal} {t r : Tokens} {i : ℕ} → IsToken x t i r → first_terminal t ≡ x
token_first token = refl

pub token_took : {F : Tokens → Type 0} {x : Terminal} {i : ℕ} {now next : Tokens} → now ≡ x # i ∷ next → Took (IsToken x) F now i next
token_took {x = x} {i = i} e = record {
  front = x # i ∷ [];
  cut = e;
  derives = λ more. token;
  only = λ t a y r d f. let e = token_is d in (sym (ap place_of e), sym (ap tail e));
}

pub can_token : (x : Terminal) → CanBe (IsToken x)
can_token x more = (x # 0 ∷ more, 0, token)

of_is : {A : Type 0} {P : Placed → A → Type 0} {x : Placed} {ts r : Tokens} {b : A} → IsOf P (x ∷ ts) b r → P x b × (ts ≡ r)
of_is (of p) = (p, refl)

pub of_took : {A : Type 0} {P : Placed → A → Type 0} {F : Tokens → Type 0} {x : Placed} {a : A} {now next : Tokens} → ((b : A) → P x b → b ≡ a) → now ≡ x ∷ next → P x a → Took (IsOf P) F now a next
of_took {x = x} one e p = record {
  front = x ∷ [];
  cut = e;
  derives = λ more. of p;
  only = λ t a y r d f. let o = of_is d in (one y o.0, sym o.1);
}

-- ---- what can be written

pub can_then : {A C : Type 0} {N : Tokens → A → Tokens → Type 0} {M : A → Tokens → C → Tokens → Type 0} → CanBe N → Can M → CanBe (Then N M)
can_then n m more =
    let y = m more in
    let x = n y.0 in
    let c = y.1 x.1 in
    (x.0, c.0, both x.2 c.1)

-- what follows, told by its first token
pub starts_first : (test : Terminal → Bool) (ts : Tokens) → test (first_terminal ts) ≡ true → Starts test ts
starts_first test [] h = tt
starts_first test (x # i ∷ ts) h = h

-- what begins with this terminal
pub fits_token : {A C : Type 0} {x : Terminal} {M : A → ℕ → Tokens → C → Tokens → Type 0} {G : Tokens → Type 0} (test : Terminal → Bool) → test x ≡ true → Fits (Starts test) (λ a. Then (IsToken x) (M a)) G
fits_token {A = A} {C = C} {x = x} {M = M} {G = G} test h = record { fits = fit }
  where
    fit : (a : A) (mid : Tokens) (c : C) (r : Tokens) → Then (IsToken x) (M a) mid c r → G r → Starts test mid
    fit a mid c r (both token m) g = h

pub fits_anything : {A C : Type 0} {M : A → Tokens → C → Tokens → Type 0} {G : Tokens → Type 0} → Fits Anything M G
fits_anything = record { fits = λ a mid c r d g. tt }

-- ---- faults of the code

-- a reader of an N stopped, and so one of a W does
pub on_fault : {A C : Type 0} {N : Tokens → A → Tokens → Type 0} {F : Tokens → Type 0} {W : Tokens → C → Tokens → Type 0} {G : Tokens → Type 0} (xs : List Token) (now at : ℕ) (e : Fault)
    → (AreSpelled xs → (bad : ℕ) → Stuck N F (rest xs now) (rest xs bad) → Stuck W G (rest xs at) (rest xs bad)) → Faults N F xs now e → Faults W G xs at e
on_fault xs now at (f.Stuck bad) rule h = λ s. rule s bad (h s)
on_fault xs now at f.Memory rule h = tt

pub alike_end : {now t : Tokens} → now ≡ [] → Alike t now → t ≡ []
alike_end e ends = refl
alike_end e same = cc

-- what begins as a list with this token does
pub alike_token : {x : Placed} {now next t : Tokens} → now ≡ x ∷ next → Alike t now → (u : Tokens) × (t ≡ x ∷ u)
alike_token e ends = cc
alike_token {x = x} e (same {x = y} {ts = ts}) = let h : y ≡ x = cc in (ts, ap (λ (z : Placed). z ∷ ts) h)

-- a step at a token
pub upto_token : {A : Type 0} {V W : Tokens → A → Tokens → Type 0} {G : Tokens → Type 0} {x : Placed} {now next : Tokens} → now ≡ x ∷ next
    → ((t : Tokens) (z : A) (r : Tokens) → W t z r → V (x ∷ t) z r) → ((t : Tokens) (z : A) (r : Tokens) → V (x ∷ t) z r → G r → W t z r) → Upto V W G now next
upto_token {V = V} {x = x} e to from = record {
  front = x ∷ [];
  cut = e;
  joins = to;
  splits = λ t a z r d g. from t z r d g;
}

-- fewer tokens may follow
pub took_before : {A : Type 0} {N : Tokens → A → Tokens → Type 0} {F G : Tokens → Type 0} {ts rest : Tokens} {x : A} → ((r : Tokens) → G r → F r) → Took N F ts x rest → Took N G ts x rest
took_before to k = record { front = k.front; cut = k.cut; derives = k.derives; only = λ t a y r d g. k.only t a y r d (to r g) }

pub stuck_before : {A : Type 0} {N : Tokens → A → Tokens → Type 0} {F G : Tokens → Type 0} {ts bad : Tokens} → ((r : Tokens) → G r → F r) → Stuck N F ts bad → Stuck N G ts bad
stuck_before to k = record { front = k.front; cut = k.cut; begins = k.begins; refuses = λ t a x r d g. k.refuses t a x r d (to r g) }

-- what a reader of the rest answers, one of the whole does
pub skips_upto : {N W : Tokens → Tokens → Type 0} {F G : Tokens → Type 0} (xs : List Token) (now at : ℕ) (r : Result ℕ Fault) → ((r : Tokens) → G r → F r)
    → (AreSpelled xs → Upto (Bare W) (Bare N) G (rest xs at) (rest xs now)) → Skips N F xs now r → Skips W G xs at r
skips_upto xs now at (Ok behind) to u h = λ s. took_upto (u s) (took_before to (h s))
skips_upto xs now at (Err (f.Stuck bad)) to u h = λ s. stuck_upto (u s) (stuck_before to (h s))
skips_upto xs now at (Err f.Memory) to u h = tt

pub reads_upto : {A B : Type 0} {N W : Tokens → A → Tokens → Type 0} {F G : Tokens → Type 0} (view : B → A) (xs : List Token) (now at : ℕ) (r : Result (B × ℕ) Fault) → ((r : Tokens) → G r → F r)
    → (AreSpelled xs → Upto W N G (rest xs at) (rest xs now)) → Reads N F view xs now r → Reads W G view xs at r
reads_upto view xs now at (Ok r) to u h = λ s. took_upto (u s) (took_before to (h s))
reads_upto view xs now at (Err (f.Stuck bad)) to u h = λ s. stuck_upto (u s) (stuck_before to (h s))
reads_upto view xs now at (Err f.Memory) to u h = tt

-- what was read, by another name
pub took_same : {A : Type 0} {N : Tokens → A → Tokens → Type 0} {F : Tokens → Type 0} {ts rest : Tokens} {x y : A} → x ≡ y → Took N F ts x rest → Took N F ts y rest
took_same {N = N} {F = F} {ts = ts} {rest = rest} e k = subst (λ z. Took N F ts z rest) e k

-- behind the last part
pub fits_gives : {A C : Type 0} {F G : Tokens → Type 0} (f : A → C) → ((r : Tokens) → G r → F r) → Fits F (λ (a : A). Gives (f a)) G
fits_gives {A = A} {C = C} {F = F} {G = G} f to = record { fits = λ a mid c r d g. same d g }
  where
    same : {a : A} {mid r : Tokens} {c : C} → Gives (f a) mid c r → G r → F mid
    same {r = r} gives g = to r g

pub can_gives : {A C : Type 0} (f : A → C) → Can (λ (a : A). Gives (f a))
can_gives f more = (more, λ a. (f a, gives))

-- ---- what is made

pub made_reads : {A B : Type 0} {N : Tokens → A → Tokens → Type 0} {F : Tokens → Type 0} (view : B → A) (xs : List Token) (at behind : ℕ) (r : Result (B × ℕ) Fault) {x : A} → Makes view x behind r
    → (AreSpelled xs → Took N F (rest xs at) x (rest xs behind)) → Reads N F view xs at r
made_reads {N = N} {F = F} view xs at behind (Ok r) {x = x} m h = λ s. took_same (sym m.0) (subst (λ (i : ℕ). Took N F (rest xs at) x (rest xs i)) (sym m.1) (h s))
made_reads {N = N} {F = F} view xs at behind (Err e) m h = subst (λ (e : Fault). Faults N F xs at e) (sym m) tt

pub made_passed : {A B : Type 0} (view : B → A) (x : A) (at behind len : ℕ) (r : Result (B × ℕ) Fault) → Makes view x behind r → Passed at behind len → IfOk r (λ r. Passed at r.1 len)
made_passed view x at behind len (Ok r) m h = subst (λ (i : ℕ). Passed at i len) (sym m.1) h
made_passed view x at behind len (Err e) m h = tt

pub made_advanced : {A B : Type 0} (view : B → A) (x : A) (at behind len : ℕ) (r : Result (B × ℕ) Fault) → Makes view x behind r → Advanced at behind len → IfOk r (λ r. Advanced at r.1 len)
made_advanced view x at behind len (Ok r) m h = subst (λ (i : ℕ). Advanced at i len) (sym m.1) h
made_advanced view x at behind len (Err e) m h = tt

-- ---- further on

pub later : (at : ℕ) {behind len : ℕ} → Advanced (at + 1) behind len → Advanced at behind len
later at h = record { further = omega (arith, h.further); inside = h.inside }

pub one_on : {at len : ℕ} → at < len → Advanced at (at + 1) len
one_on h = record { further = omega arith; inside = omega (arith, h) }

-- what a reader of the rest answers is further on for one of the whole
module _ {B : Type 0} (at now len : ℕ) where
  pub passed_on : (r : Result (B × ℕ) Fault) → at ≤ now → IfOk r (λ r. Passed now r.1 len) → IfOk r (λ r. Passed at r.1 len)
  passed_on (Ok r) h p = record { further = omega (arith, h, p.further); inside = p.inside }
  passed_on (Err e) h p = tt

  pub passed_past : (r : Result (B × ℕ) Fault) → at < now → IfOk r (λ r. Passed now r.1 len) → IfOk r (λ r. Advanced at r.1 len)
  passed_past (Ok r) h p = record { further = omega (arith, h, p.further); inside = p.inside }
  passed_past (Err e) h p = tt

  pub advanced_on : (r : Result (B × ℕ) Fault) → at ≤ now → IfOk r (λ r. Advanced now r.1 len) → IfOk r (λ r. Advanced at r.1 len)
  advanced_on (Ok r) h p = record { further = omega (arith, h, p.further); inside = p.inside }
  advanced_on (Err e) h p = tt
