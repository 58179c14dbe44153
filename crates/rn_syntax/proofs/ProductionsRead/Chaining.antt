-- One part, or parts with one terminal between each two.
use Rattle.std.proofs.Common.{◌≡◌, ℕ, List, [], ◌∷◌, ◌++◌, refl, ap, sym, ◌∙◌, subst, append-nil, map}
use Rattle.std.proofs.lemmas.List.{map-append}
use Rattle.rn_syntax.specs.Terminal.{Terminal, ◌#◌}
use Rattle.rn_syntax.specs.Grammar.{Tokens}
use Rattle.rn_syntax.specs.inside.Follow.{first_terminal}
use Rattle.rn_syntax.specs.inside.Sequence.{Then, both, Gives, gives}
use Rattle.rn_syntax.specs.inside.Readers.{Took, Stuck}
use Rattle.rn_syntax.proofs.ProductionsRead.Compose.{Upto, Fits, upto_at, upto_token, upto_then, stuck_upto, reads, stuck_in, first_alike}
use Rattle.rn_syntax.proofs.ProductionsRead.Repeating.{Behind, Whole, part_read, part_stuck, parts_took}

-- more parts, each behind the terminal, if they come
pub data Rest {A : Type 0} (More : Tokens → List A → Tokens → Type 0) : Tokens → List A → Tokens → Type 0 where
  none : {ts : Tokens} → Rest More ts [] ts
  some : {ts rest : Tokens} {l : List A} → More ts l rest → Rest More ts l rest

-- what the first part is alone, or with more
pub data Chained {A : Type 0} (More : Tokens → List A → Tokens → Type 0) (f : List A → A) (c : A) : Tokens → A → Tokens → Type 0 where
  alone : {ts : Tokens} → Chained More f c ts c ts
  many : {ts rest : Tokens} {l : List A} → More ts l rest → Chained More f c ts (f (c ∷ l)) rest

-- what a chain is made of
pub record IsChain {A : Type 0} (V S : Tokens → A → Tokens → Type 0) (F G : Tokens → Type 0) (More : Tokens → List A → Tokens → Type 0) (f : List A → A) (between : Terminal) : Type 0 where
  pub to : (t : Tokens) (l : List A) (r : Tokens) (i : ℕ) → Then S (λ (x : A). Whole (Rest More) (x ∷ [])) t l r → More (between # i ∷ t) l r
  pub from : (t : Tokens) (l : List A) (r : Tokens) (i : ℕ) → More (between # i ∷ t) l r → Then S (λ (x : A). Whole (Rest More) (x ∷ [])) t l r
  pub begins : (t : Tokens) (l : List A) (r : Tokens) → More t l r → first_terminal t ≡ between
  pub ends : (t : Tokens) → first_terminal t ≡ between → G t → ⊥
  pub part_ends : (t : Tokens) → first_terminal t ≡ between → F t
  pub less : (t : Tokens) → G t → F t

module _ {A : Type 0} {V S : Tokens → A → Tokens → Type 0} {F G : Tokens → Type 0} {More : Tokens → List A → Tokens → Type 0} {f : List A → A} {between : Terminal} (h : IsChain V S F G More f between) where
  fits_from : {mid r : Tokens} {l : List A} → Rest More mid l r → G r → F mid
  fits_from {mid = mid} none g = h.less mid g
  fits_from {mid = mid} {r = r} {l = l} (some m) g = h.part_ends mid (h.begins mid l r m)

  fits_rest : Fits F (λ (x : A). Whole (Rest More) (x ∷ [])) G
  fits_rest = record { fits = λ x mid c r d g. fits_from d.behind g }

  fits_two : (c : A) → Fits F (λ (x : A). Behind (Rest More) f (c ∷ x ∷ [])) G
  fits_two c = record { fits = λ x mid z r d g. fits_from d.behind g }

  pub fits_chained : Fits F (Chained More f) G
  fits_chained = record { fits = λ c mid z r d g. go d g }
    where
      go : {c z : A} {mid r : Tokens} → Chained More f c mid z r → G r → F mid
      go {mid = mid} alone g = h.less mid g
      go {mid = mid} {r = r} (many {l = l} m) g = h.part_ends mid (h.begins mid l r m)

  -- at the terminal
  rest_from : {i : ℕ} {t r : Tokens} {l : List A} → Rest More (between # i ∷ t) l r → G r → Then S (λ (x : A). Whole (Rest More) (x ∷ [])) t l r
  rest_from {i = i} {t = t} {r = r} {l = l} (some m) g = h.from t l r i m
  rest_from {i = i} {t = t} none g = absurd (h.ends (between # i ∷ t) refl g)

  rest_at : {i : ℕ} {now next : Tokens} → now ≡ between # i ∷ next → Upto (Rest More) (Then S (λ (x : A). Whole (Rest More) (x ∷ []))) G now next
  rest_at {i = i} e = upto_token e (λ t z r d. some (h.to t z r i d)) (λ t z r d g. rest_from d g)

  two_to : {c z : A} {i : ℕ} {t r : Tokens} → Then S (λ (x : A). Behind (Rest More) f (c ∷ x ∷ [])) t z r → Chained More f c (between # i ∷ t) z r
  two_to {c = c} {i = i} {t = t} {r = r} (both {a = x} s d) =
      subst (λ (z : A). Chained More f c (between # i ∷ t) z r) (sym d.is) (many (h.to t (x ∷ d.more) r i (both s (record { more = d.more; is = refl; behind = d.behind }))))

  two_split : {c : A} {t r : Tokens} {l : List A} → Then S (λ (x : A). Whole (Rest More) (x ∷ [])) t l r → Then S (λ (x : A). Behind (Rest More) f (c ∷ x ∷ [])) t (f (c ∷ l)) r
  two_split {c = c} (both s d) = both s (record { more = d.more; is = ap (λ (l : List A). f (c ∷ l)) d.is; behind = d.behind })

  two_from : {c z : A} {i : ℕ} {t r : Tokens} → Chained More f c (between # i ∷ t) z r → G r → Then S (λ (x : A). Behind (Rest More) f (c ∷ x ∷ [])) t z r
  two_from {i = i} {t = t} alone g = absurd (h.ends (between # i ∷ t) refl g)
  two_from {i = i} {t = t} {r = r} (many {l = l} m) g = two_split (h.from t l r i m)

  two_at : (c : A) {i : ℕ} {now next : Tokens} → now ≡ between # i ∷ next → Upto (Chained More f c) (Then S (λ (x : A). Behind (Rest More) f (c ∷ x ∷ []))) G now next
  two_at c e = upto_token e (λ t z r d. two_to d) (λ t z r d g. two_from d g)

  -- at another one
  alone_from : {c z : A} {t r : Tokens} → (first_terminal t ≡ between → ⊥) → Chained More f c t z r → Gives c t z r
  alone_from n alone = gives
  alone_from {t = t} {r = r} n (many {l = l} m) = absurd (n (h.begins t l r m))

  pub alone_at : (c : A) {now : Tokens} → (first_terminal now ≡ between → ⊥) → Upto (Chained More f c) (Gives c) G now now
  alone_at c n = upto_at (λ t z r d. to d) (λ t a z r d g. alone_from (λ e. n (sym (first_alike a) ∙ e)) d)
    where
      to : {z : A} {t r : Tokens} → Gives c t z r → Chained More f c t z r
      to gives = alone

  rest_none : {t r : Tokens} {l : List A} → (first_terminal t ≡ between → ⊥) → Rest More t l r → (l ≡ []) × (r ≡ t)
  rest_none n none = (refl, refl)
  rest_none {t = t} {r = r} {l = l} n (some m) = absurd (n (h.begins t l r m))

  rest_end : {now : Tokens} → (first_terminal now ≡ between → ⊥) → Took (Rest More) G now [] now
  rest_end n = record { front = []; cut = refl; derives = λ more. none; only = λ t a y r d g. rest_none (λ e. n (sym (first_alike a) ∙ e)) d }

  -- the parts that were read, of which the second comes where there is one alone
  abbrev pub So_far : List A → Tokens → Tokens → Type 0
  So_far [] ts now = ⊥
  So_far (c ∷ []) ts now = Upto V (Chained More f c) G ts now × (first_terminal now ≡ between)
  So_far (c ∷ d ∷ cs) ts now = Upto V (Behind (Rest More) f (c ∷ d ∷ cs)) G ts now

  pub chain_read : (xs : List A) (ts now : Tokens) {next end : Tokens} {x : A} {i : ℕ} → So_far xs ts now → now ≡ between # i ∷ next → Took S F next x end → So_far (xs ++ x ∷ []) ts end
  chain_read [] ts now u e k = absurd u
  chain_read (c ∷ []) ts now u e k = upto_then u.0 (upto_then (two_at c e) (reads (fits_two c) k))
  chain_read (c ∷ d ∷ cs) ts now u e k = part_read f (c ∷ d ∷ cs) u (rest_at e) fits_rest k

  pub chain_stuck : (xs : List A) (ts now : Tokens) {next bad : Tokens} {i : ℕ} → So_far xs ts now → now ≡ between # i ∷ next → Stuck S F next bad → Stuck V G ts bad
  chain_stuck [] ts now u e k = absurd u
  chain_stuck (c ∷ []) ts now u e k = stuck_upto u.0 (stuck_upto (two_at c e) (stuck_in (fits_two c) (λ more. (more, λ x. (f (c ∷ x ∷ []), record { more = []; is = refl; behind = none }))) k))
  chain_stuck (c ∷ d ∷ cs) ts now u e k = part_stuck f (c ∷ d ∷ cs) u (rest_at e) fits_rest (λ more. (more, [], none)) k

  pub chain_end : (xs : List A) (ts now : Tokens) → So_far xs ts now → (first_terminal now ≡ between → ⊥) → Took V G ts (f xs) now
  chain_end [] ts now u n = absurd u
  chain_end (c ∷ []) ts now u n = absurd (n u.1)
  chain_end (c ∷ d ∷ cs) ts now u n = parts_took f (c ∷ d ∷ cs) [] (ap f (sym (append-nil (c ∷ d ∷ cs)))) u (rest_end n)

-- a member that was pushed, seen as its tree, stands behind the trees of those before it
pub pushed : {X A : Type 0} {ys : List X} (view : X → A) (xs : List X) (x : X) → ys ≡ xs ++ x ∷ [] → map view ys ≡ map view xs ++ view x ∷ []
pushed view xs x e = ap (map view) e ∙ map-append view xs (x ∷ [])
