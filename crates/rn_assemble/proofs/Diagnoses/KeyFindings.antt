-- Findings that are gathered key by key: what they say is true, and of each key of which something is true one says so.
use Rattle.std.proofs.Common.{◌≡◌, ℕ, suc, ◌+◌, ◌<◌, inl, inr, ⊎_elim, false, true, List, [], ◌∷◌, ◌++◌, length, take, get_or, map, refl, sym, ap, ◌∙◌, subst, arith, append_assoc, append-nil}
use Rattle.std.specs.Prelude.{Contains}
use Rattle.std.specs.List.{AllByRecursion}
use Rattle.std.proofs.lemmas.Bool.{cases_lt, false≢true}
use Rattle.std.proofs.lemmas.List.{map-append, take_more}
use Rattle.std.proofs.lemmas.List.Elements.{Contains-append_left, Contains-append_right, Contains-push}
use Rattle.rn_text.specs.Texts.{Text}
use Rattle.rn_pattern.proofs.Ordered.Ascending.{each_append}
use Rattle.rn_pattern.proofs.Ordered.InOrder.{contained_each, contains_cases, contains_front, each_contained}
use Rattle.rn_assemble.specs.Components.{Key, NamedModule, has_key, set_components, start_key}
use Rattle.rn_assemble.specs.Diagnosed.{AreFindings, ArePlaced, IsLesser, IsPlaced, IsTrueFor, finding_refusal}
use Rattle.rn_assemble.specs.Refusal.{Refusal, override, plain_twice, mixed_methods, no_start, undefined, rank}
use Rattle.rn_assemble.specs.declared.diagnosing.findings.Finding.{Finding}
use Rattle.rn_assemble.specs.declared.diagnosing.findings.Finding.TheVariants as found
use Rattle.rn_assemble.specs.declared.including.segments.Segments.{Segments}
use Rattle.rn_assemble.specs.inside.Diagnosing.{AddsBelow, AddsRank}
use Rattle.rn_assemble.specs.inside.Keyed.{AreNames, key_at}
use Rattle.rn_assemble.specs.inside.Segments.{AreSegmentsOf}
use Rattle.rn_assemble.proofs.KeyFaults.KeysOfPieces.{mixed_number, plain_number}
use Rattle.rn_assemble.proofs.Diagnoses.RefusalOrder.{in_order_both, in_order_none, in_order_one, up_to_more, up_to_none}
use Rattle.rn_assemble.proofs.Naming.KnownKeys.{HasNumber}

module _ (modules : List NamedModule) (names : List Text) (make : Key → Refusal) where
  abbrev IsTrue : Finding → Type 0
  IsTrue f = IsTrueFor modules (finding_refusal modules ([] ∷ names) f)

  -- the finding says so of a key below a bound
  abbrev IsKeyed : ℕ → Finding → Type 0
  IsKeyed bound f = (n : ℕ) × (n < bound) × (finding_refusal modules ([] ∷ names) f ≡ make (key_at names n))

  pub none_below : (old : List Finding) → AddsBelow modules names make 0 old old
  none_below old = record {
    added = [];
    new_is = sym (append-nil old);
    true_of = tt;
    keyed = tt;
    in_order = in_order_none modules ([] ∷ names);
    placed = tt;
    all = λ n l t. absurd (omega (arith, l));
  }

  module _ (n : ℕ) (old new : List Finding) (h : AddsBelow modules names make n old new) where
    still_keyed : AllByRecursion (IsKeyed (n + 1)) h.added
    still_keyed = each_contained (IsKeyed (n + 1)) h.added (λ f c. let (m, l, says) = contained_each (IsKeyed n) h.added h.keyed f c in (m, omega (arith, l), says))

    -- a finding of this key more
    pub found_more : (f : Finding) → finding_refusal modules ([] ∷ names) f ≡ make (key_at names n) → IsTrueFor modules (make (key_at names n)) → ((m : ℕ) → m < n → IsLesser (make (key_at names m)) (make (key_at names n))) → IsPlaced modules ([] ∷ names) f
        → (more : List Finding) → more ≡ new ++ f ∷ [] → AddsBelow modules names make (n + 1) old more
    found_more f says is lesser placed more e = record {
      added = h.added ++ f ∷ [];
      new_is = e ∙ ap (λ l. l ++ f ∷ []) h.new_is ∙ append_assoc old h.added (f ∷ []);
      true_of = each_append IsTrue h.added (f ∷ []) h.true_of (subst (IsTrueFor modules) (sym says) is, tt);
      keyed = each_append (IsKeyed (n + 1)) h.added (f ∷ []) still_keyed ((n, omega arith, says), tt);
      in_order = in_order_both modules ([] ∷ names) h.added (f ∷ []) h.in_order (in_order_one modules ([] ∷ names) f) (λ x y c d.
          let (m, l, before) = contained_each (IsKeyed n) h.added h.keyed x c in
          let same : f ≡ y = ⊎_elim (λ i. i) (λ k. absurd (omega (arith, k.1))) (contains_cases f y [] d) in
          let less = subst (λ q. IsLesser q (make (key_at names n))) (sym before) (lesser m l) in
          inr (subst (IsLesser (finding_refusal modules ([] ∷ names) x)) (sym says ∙ ap (finding_refusal modules ([] ∷ names)) same) less));
      placed = each_append (IsPlaced modules ([] ∷ names)) h.added (f ∷ []) h.placed (placed, tt);
      all = λ m l t. elim (cases_lt m n) [
        | inl less ↦ let (g, among, same) = h.all m less t in (g, Contains-append_left h.added (f ∷ []) g among, same)
        | inr more ↦ let same : n ≡ m = omega (arith, l, more) in (f, Contains-push h.added f, says ∙ ap (λ i. make (key_at names i)) same)
      ];
    }

    -- none of this key
    pub none_more : ¬ IsTrueFor modules (make (key_at names n)) → AddsBelow modules names make (n + 1) old new
    none_more never = record {
      added = h.added;
      new_is = h.new_is;
      true_of = h.true_of;
      keyed = still_keyed;
      in_order = h.in_order;
      placed = h.placed;
      all = λ m l t. elim (cases_lt m n) [
        | inl less ↦ h.all m less t
        | inr more ↦ let same : m ≡ n = omega (arith, l, more) in absurd (never (subst (λ i. IsTrueFor modules (make (key_at names i))) same t))
      ];
    }

  -- those of all keys are all of their kind
  pub all_keys : (r : ℕ) → ((q : Refusal) → rank q ≡ r → IsTrueFor modules q → (k : Key) × (q ≡ make k) × HasNumber names k) → ((k : Key) → rank (make k) ≡ r)
      → (bound : ℕ) → bound ≡ suc (length names) → (old new : List Finding) → AddsBelow modules names make bound old new → AddsRank modules names r old new
  all_keys r of_kind ranked bound e old new h = record {
    added = h.added;
    new_is = h.new_is;
    true_of = h.true_of;
    ranked = each_contained (λ f. rank (finding_refusal modules ([] ∷ names) f) ≡ r) h.added (λ f c. let (n, l, says) = contained_each (IsKeyed bound) h.added h.keyed f c in ap rank says ∙ ranked (key_at names n));
    in_order = h.in_order;
    placed = h.placed;
    all = λ q rank_is t.
        let (k, is, (n, l, key_is)) = of_kind q rank_is t in
        let same : q ≡ make (key_at names n) = is ∙ ap make key_is in
        let (f, among, says) = h.all n (omega (arith, l, e)) (subst (IsTrueFor modules) same t) in
        (f, among, says ∙ sym same);
  }

module _ (modules : List NamedModule) (names : List Text) (x : Segments) (n : AreNames modules names) (a : AreSegmentsOf modules x (set_components modules)) where
  -- which keys refusals of a kind are of
  pub plain_kind : (q : Refusal) → rank q ≡ 6 → IsTrueFor modules q → (k : Key) × (q ≡ plain_twice k) × HasNumber names k
  plain_kind (plain_twice k) e t = (k, refl, plain_number modules names x (set_components modules) n a k t)
  plain_kind q e t = absurd (omega (arith, e))

  pub mixed_kind : (q : Refusal) → rank q ≡ 7 → IsTrueFor modules q → (k : Key) × (q ≡ mixed_methods k) × HasNumber names k
  mixed_kind (mixed_methods k) e t = (k, refl, mixed_number modules names x (set_components modules) n a k t)
  mixed_kind q e t = absurd (omega (arith, e))

-- ---- what is found of all kinds

module _ (modules : List NamedModule) (names : List Text) where
  abbrev SaysIn : List Finding → Refusal → Type 0
  SaysIn fs q = (f : Finding) × Contains fs f × (finding_refusal modules ([] ∷ names) f ≡ q)

  abbrev IsTrueFinding : Finding → Type 0
  IsTrueFinding f = IsTrueFor modules (finding_refusal modules ([] ∷ names) f)

  said_before : (r : ℕ) (old new : List Finding) → AddsRank modules names r old new → (q : Refusal) → SaysIn old q → SaysIn new q
  said_before r old new h q (f, among, says) = (f, subst (λ fs. Contains fs f) (sym h.new_is) (Contains-append_left old h.added f among), says)

  said_here : (r : ℕ) (old new : List Finding) → AddsRank modules names r old new → (q : Refusal) → rank q ≡ r → IsTrueFor modules q → SaysIn new q
  said_here r old new h q e t = let (f, among, says) = h.all q e t in (f, subst (λ fs. Contains fs f) (sym h.new_is) (Contains-append_right old h.added f among), says)

  still_true : (r : ℕ) (old new : List Finding) → AddsRank modules names r old new → AllByRecursion IsTrueFinding old → AllByRecursion IsTrueFinding new
  still_true r old new h t = subst (AllByRecursion IsTrueFinding) (sym h.new_is) (each_append IsTrueFinding old h.added t h.true_of)

  still_placed : (r : ℕ) (old new : List Finding) → AddsRank modules names r old new → ArePlaced modules ([] ∷ names) old → ArePlaced modules ([] ∷ names) new
  still_placed r old new h t = subst (ArePlaced modules ([] ∷ names)) (sym h.new_is) (each_append (IsPlaced modules ([] ∷ names)) old h.added t h.placed)

  -- the five kinds in turn
  pub are_findings : (a b c d e : List Finding) → AddsRank modules names 5 [] a → AddsRank modules names 6 a b → AddsRank modules names 7 b c → AddsRank modules names 8 c d → AddsRank modules names 9 d e → AreFindings modules ([] ∷ names) e
  are_findings a b c d e h5 h6 h7 h8 h9 = record {
    true_of = still_true 9 d e h9 (still_true 8 c d h8 (still_true 7 b c h7 (still_true 6 a b h6 (still_true 5 [] a h5 tt))));
    all = every;
    in_order = (up_to_more modules names 8 9 d e (omega arith) (up_to_more modules names 7 8 c d (omega arith) (up_to_more modules names 6 7 b c (omega arith) (up_to_more modules names 5 6 a b (omega arith) (up_to_more modules names 4 5 [] a (omega arith) (up_to_none modules names 4) h5) h6) h7) h8) h9).in_order;
  }
    where
      every : (q : Refusal) → IsTrueFor modules q → SaysIn e q
      every (override x k) t = said_before 9 d e h9 _ (said_before 8 c d h8 _ (said_before 7 b c h7 _ (said_before 6 a b h6 _ (said_here 5 [] a h5 (override x k) refl t))))
      every (plain_twice k) t = said_before 9 d e h9 _ (said_before 8 c d h8 _ (said_before 7 b c h7 _ (said_here 6 a b h6 (plain_twice k) refl t)))
      every (mixed_methods k) t = said_before 9 d e h9 _ (said_before 8 c d h8 _ (said_here 7 b c h7 (mixed_methods k) refl t))
      every no_start t = said_before 9 d e h9 _ (said_here 8 c d h8 no_start refl t)
      every (undefined x) t = said_here 9 d e h9 (undefined x) refl t
      every q t = absurd t

  pub are_placed : (a b c d e : List Finding) → AddsRank modules names 5 [] a → AddsRank modules names 6 a b → AddsRank modules names 7 b c → AddsRank modules names 8 c d → AddsRank modules names 9 d e → ArePlaced modules ([] ∷ names) e
  are_placed a b c d e h5 h6 h7 h8 h9 = still_placed 9 d e h9 (still_placed 8 c d h8 (still_placed 7 b c h7 (still_placed 6 a b h6 (still_placed 5 [] a h5 tt))))

  -- the start: nothing is added where there is one, and a finding where there is none
  pub start_there : (old : List Finding) → has_key start_key (set_components modules) ≡ true → AddsRank modules names 8 old old
  start_there old holds = record { added = []; new_is = sym (append-nil old); true_of = tt; ranked = tt; in_order = in_order_none modules ([] ∷ names); placed = tt; all = none }
    where
      none : (q : Refusal) → rank q ≡ 8 → IsTrueFor modules q → SaysIn [] q
      none no_start e t = absurd (false≢true (sym t ∙ holds))
      none q e t = absurd (omega (arith, e))

  pub start_missing : (old new : List Finding) → has_key start_key (set_components modules) ≡ false → new ≡ old ++ found.NoStart ∷ [] → AddsRank modules names 8 old new
  start_missing old new never e = record { added = found.NoStart ∷ []; new_is = e; true_of = (never, tt); ranked = (refl, tt); in_order = in_order_one modules ([] ∷ names) found.NoStart; placed = (tt, tt); all = one }
    where
      one : (q : Refusal) → rank q ≡ 8 → IsTrueFor modules q → SaysIn (found.NoStart ∷ []) q
      one no_start e t = (found.NoStart, contains_front found.NoStart [], refl)
      one q e t = absurd (omega (arith, e))

-- ---- what was found, as findings

-- one element more
pub said_more : {X : Type 0} (f : X → Finding) (xs : List X) (i : ℕ) (d : X) → i < length xs → (old found new : List Finding) → found ≡ old ++ map f (take i xs) → new ≡ found ++ f (get_or xs i d) ∷ [] → new ≡ old ++ map f (take (i + 1) xs)
said_more f xs i d l old found new h e =
    e ∙ ap (λ fs. fs ++ f (get_or xs i d) ∷ []) h ∙ append_assoc old (map f (take i xs)) (f (get_or xs i d) ∷ [])
    ∙ ap (λ fs. old ++ fs) (sym (ap (map f) (take_more xs i d l) ∙ map-append f (take i xs) (get_or xs i d ∷ [])))
