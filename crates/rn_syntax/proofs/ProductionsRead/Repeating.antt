-- Lists of one production, part by part.
use Rattle.std.proofs.Common.{◌≡◌, List, [], ◌∷◌, ◌++◌, refl, ap, sym, ◌∙◌, subst, append_assoc}
use Rattle.rn_syntax.specs.Grammar.{Tokens}
use Rattle.rn_syntax.specs.inside.Sequence.{Then, both}
use Rattle.rn_syntax.specs.inside.Readers.{Took, Stuck}
use Rattle.rn_syntax.proofs.ProductionsRead.Compose.{Upto, Fits, upto_at, upto_then, took_upto, stuck_upto, reads, stuck_in}

-- the parts xs were read, and an N, which is more parts, follows: f makes of them what all stands for
pub record Behind {A C : Type 0} (N : Tokens → List A → Tokens → Type 0) (f : List A → C) (xs : List A) (ts : Tokens) (z : C) (rest : Tokens) : Type 0 where
  pub more : List A
  pub is : z ≡ f (xs ++ more)
  pub behind : N ts more rest

abbrev pub Whole : {A : Type 0} → (Tokens → List A → Tokens → Type 0) → List A → Tokens → List A → Tokens → Type 0
Whole {A = A} N xs = Behind N (λ (l : List A). l) xs

-- none was read
pub behind_start : {A : Type 0} {N : Tokens → List A → Tokens → Type 0} {G : Tokens → Type 0} {ts : Tokens} → Upto N (Whole N []) G ts ts
behind_start {N = N} = upto_at (λ t z r d. subst (λ (l : List _). N t l r) (sym d.is) d.behind) (λ t a z r d g. record { more = z; is = refl; behind = d })

join_part : {A C : Type 0} {S : Tokens → A → Tokens → Type 0} {N : Tokens → List A → Tokens → Type 0} {G : Tokens → Type 0} (f : List A → C) (xs : List A) {now mid : Tokens} (u : Upto N (Then S (λ x. Whole N (x ∷ []))) G now mid)
    → (t : Tokens) (z : C) (r : Tokens) → Then S (λ x. Behind N f (xs ++ x ∷ [])) t z r → Behind N f xs (u.front ++ t) z r
join_part f xs u t z r (both {a = x} s b) = record {
  more = x ∷ b.more;
  is = b.is ∙ ap f (append_assoc xs (x ∷ []) b.more);
  behind = u.joins t (x ∷ b.more) r (both s (record { more = b.more; is = refl; behind = b.behind }));
}

split_part : {A C : Type 0} {S : Tokens → A → Tokens → Type 0} {N : Tokens → List A → Tokens → Type 0} (f : List A → C) (xs : List A) {t r : Tokens} {z : C} {m : List A} → z ≡ f (xs ++ m) → Then S (λ x. Whole N (x ∷ [])) t m r
    → Then S (λ x. Behind N f (xs ++ x ∷ [])) t z r
split_part {A = A} f xs e (both {a = x} s b) = both s (record { more = b.more; is = e ∙ ap (λ (l : List A). f (xs ++ l)) b.is ∙ ap f (sym (append_assoc xs (x ∷ []) b.more)); behind = b.behind })

-- one more follows
pub part_follows : {A C : Type 0} {S : Tokens → A → Tokens → Type 0} {N : Tokens → List A → Tokens → Type 0} {G : Tokens → Type 0} (f : List A → C) (xs : List A) {now mid : Tokens} → Upto N (Then S (λ x. Whole N (x ∷ []))) G now mid
    → Upto (Behind N f xs) (Then S (λ x. Behind N f (xs ++ x ∷ []))) G now mid
part_follows f xs u = record {
  front = u.front;
  cut = u.cut;
  joins = join_part f xs u;
  splits = λ t a z r d g. split_part f xs d.is (u.splits t a d.more r d.behind g);
}

fits_part : {A C : Type 0} {N : Tokens → List A → Tokens → Type 0} {F G : Tokens → Type 0} (f : List A → C) (xs : List A) → Fits F (λ (x : A). Whole N (x ∷ [])) G → Fits F (λ (x : A). Behind N f (xs ++ x ∷ [])) G
fits_part f xs h = record { fits = λ x mid c r d g. h.fits x mid (x ∷ d.more) r (record { more = d.more; is = refl; behind = d.behind }) g }

module _ {A C : Type 0} {S : Tokens → A → Tokens → Type 0} {N : Tokens → List A → Tokens → Type 0} {F G : Tokens → Type 0} {V : Tokens → C → Tokens → Type 0} (f : List A → C) (xs : List A) {ts now mid : Tokens}
    (so_far : Upto V (Behind N f xs) G ts now) (u : Upto N (Then S (λ x. Whole N (x ∷ []))) G now mid) (fits : Fits F (λ (x : A). Whole N (x ∷ [])) G) where
  -- one more was read
  pub part_read : {next : Tokens} {x : A} → Took S F mid x next → Upto V (Behind N f (xs ++ x ∷ [])) G ts next
  part_read k = upto_then so_far (upto_then (part_follows f xs u) (reads (fits_part f xs fits) k))

  -- the reader of a part stopped, where the parts may end
  pub part_stuck : {bad : Tokens} → ((more : Tokens) → (w : Tokens) × (l : List A) × N w l more) → Stuck S F mid bad → Stuck V G ts bad
  part_stuck can k = stuck_upto so_far (stuck_upto (part_follows f xs u) (stuck_in (fits_part f xs fits) (λ more. let w = can more in (w.0, λ x. (f ((xs ++ x ∷ []) ++ w.1), record { more = w.1; is = refl; behind = w.2 }))) k))

-- what stands for nothing was passed
pub part_passed : {A C : Type 0} {N : Tokens → List A → Tokens → Type 0} {G : Tokens → Type 0} (f : List A → C) (xs : List A) {now next : Tokens} → Upto N N G now next → Upto (Behind N f xs) (Behind N f xs) G now next
part_passed f xs u = record {
  front = u.front;
  cut = u.cut;
  joins = λ t z r d. record { more = d.more; is = d.is; behind = u.joins t d.more r d.behind };
  splits = λ t a z r d g. record { more = d.more; is = d.is; behind = u.splits t a d.more r d.behind g };
}

-- the last parts were read
pub parts_took : {A C : Type 0} {N : Tokens → List A → Tokens → Type 0} {G : Tokens → Type 0} {V : Tokens → C → Tokens → Type 0} (f : List A → C) (xs ys : List A) {ts now rest : Tokens} {z : C}
    → z ≡ f (xs ++ ys) → Upto V (Behind N f xs) G ts now → Took N G now ys rest → Took V G ts z rest
parts_took {N = N} f xs ys e so_far k = took_upto so_far (record {
  front = k.front;
  cut = k.cut;
  derives = λ more. record { more = ys; is = e; behind = k.derives more };
  only = λ t a y r d g. let o = k.only t a d.more r d.behind g in (d.is ∙ ap (λ (l : List _). f (xs ++ l)) o.0 ∙ sym e, o.1);
})

pub parts_stuck : {A C : Type 0} {N : Tokens → List A → Tokens → Type 0} {G : Tokens → Type 0} {V : Tokens → C → Tokens → Type 0} (f : List A → C) (xs : List A) {ts now bad : Tokens}
    → Upto V (Behind N f xs) G ts now → Stuck N G now bad → Stuck V G ts bad
parts_stuck {N = N} f xs so_far k = stuck_upto so_far (record {
  front = k.front;
  cut = k.cut;
  begins = λ more. let b = k.begins more in (b.0, f (xs ++ b.1), record { more = b.1; is = refl; behind = b.2 });
  refuses = λ t a y r d g. k.refuses t a d.more r d.behind g;
})
