-- A grammar and its canonical patterns accept the same documents.
use Rattle.std.proofs.Common.{◌≡◌, ◌↔◌, ◌+◌, ◌≤◌, ℕ, zero, suc, Bool, true, false, cond, List, [], ◌∷◌, map, Option, Some, None, option_map, refl, sym, ap, ◌∙◌, subst, arith}
use Rattle.std.specs.Prelude.{bytes_eq, IfSome, IsSomeAnd}
use Rattle.std.specs.Option.{option_map_or}
use Rattle.std.specs.Map.{lookup}
use Rattle.rn_pattern.specs.Tree.{Tree, not_allowed, empty, ref}
use Rattle.rn_text.specs.Texts.{Text}
use Rattle.rn_pattern.specs.Document.{Attribute, Item}
use Rattle.rn_pattern.specs.Datatype.{Table}
use Rattle.rn_pattern.specs.Matching.{Matches, Grammar, definition_of, MatchesWithin, IsValid, Meaning}
use Rattle.rn_pattern.specs.Canonical.{canonical, ref_unless_settled, settled_within}
use Rattle.rn_pattern.specs.Excepts.{HasExcepts}
use Rattle.rn_pattern.proofs.Matches.CanonicalKeeps.{canonical_to, canonical_from}
use Rattle.rn_pattern.specs.Reached.{formed}

lookup-map_at : (b : Bool) (p : Tree) (f : Tree → Tree) (r q : Option Tree) → r ≡ option_map f q → cond b (Some (f p)) r ≡ option_map f (cond b (Some p) q)
lookup-map_at true p f r q h = refl
lookup-map_at false p f r q h = h

pub lookup-map : (x : Text) (f : Tree → Tree) (ds : List (Text × Tree)) → lookup (bytes_eq x) (map (λ d. (d.0, f d.1)) ds) ≡ option_map f (lookup (bytes_eq x) ds)
lookup-map x f [] = refl
lookup-map x f (d ∷ ds) = lookup-map_at (bytes_eq x d.0) d.1 f _ _ (lookup-map x f ds)

module _ (T : Table) where
  -- what stands for a reference matches, by what the definition's form does or by the reference
  stand_in_to : (μ ν : Meaning) (x : Text) (q : Tree) (a : List Attribute) (m : List Item) → Matches T μ a m q → ν x a m → Matches T ν a m (ref_unless_settled x q)
  stand_in_to μ ν x not_allowed a m h k = h
  stand_in_to μ ν x empty a m h k = h
  stand_in_to μ ν x q a m h k = k

  stand_in_from : (R : Type 0) (μ ν : Meaning) (x : Text) (q : Tree) (a : List Attribute) (m : List Item) → (Matches T μ a m q → R) → (ν x a m → R) → Matches T ν a m (ref_unless_settled x q) → R
  stand_in_from R μ ν x not_allowed a m f g h = absurd h
  stand_in_from R μ ν x empty a m f g h = f h
  stand_in_from R μ ν x q a m f g h = g h

module _ (T : Table) (G : Grammar) (excepts : (x : Text) → IfSome (definition_of G x) HasExcepts) where
  abbrev Within : ℕ → Text → List Attribute → List Item → Type 0
  Within n = MatchesWithin n G T

  settle_to_at : (j n : ℕ) (x : Text) (a : List Attribute) (m : List Item) (o : Option Tree) → IfSome o HasExcepts → ((y : Text) (b : List Attribute) (k : List Item) → Within n y b k → Matches T (Within n) b k (settled_within j G y)) → Within (suc n) x a m → IsSomeAnd o (λ p. Matches T (Within n) a m p)
      → Matches T (Within (suc n)) a m (option_map_or (λ p. ref_unless_settled x (canonical (settled_within j G) p)) o (ref x))
  settle_to_at j n x a m None e ih w h = absurd h
  settle_to_at j n x a m (Some p) e ih w h =
      stand_in_to T (Within n) (Within (suc n)) x (canonical (settled_within j G) p) a m (canonical_to T (Within n) (Within n) (settled_within j G) ih p e a m h) w

  settle_to : (j n : ℕ) (x : Text) (a : List Attribute) (m : List Item) → Within n x a m → Matches T (Within n) a m (settled_within j G x)
  settle_to zero n x a m h = h
  settle_to (suc j) zero x a m h = absurd h
  settle_to (suc j) (suc n) x a m h = settle_to_at j n x a m (definition_of G x) (excepts x) (settle_to j n) h h

  settle_from_at : (j n : ℕ) (x : Text) (a : List Attribute) (m : List Item) (o : Option Tree) → IfSome o HasExcepts → ((y : Text) (b : List Attribute) (k : List Item) → Matches T (Within n) b k (settled_within j G y) → Within n y b k) → (Within (suc n) x a m → IsSomeAnd o (λ p. Matches T (Within n) a m p))
      → Matches T (Within (suc n)) a m (option_map_or (λ p. ref_unless_settled x (canonical (settled_within j G) p)) o (ref x)) → IsSomeAnd o (λ p. Matches T (Within n) a m p)
  settle_from_at j n x a m None e ih w h = w h
  settle_from_at j n x a m (Some p) e ih w h =
      stand_in_from T (Matches T (Within n) a m p) (Within n) (Within (suc n)) x (canonical (settled_within j G) p) a m (λ k. canonical_from T (Within n) (Within n) (settled_within j G) ih p e a m k) w h

  settle_from : (j n : ℕ) → j ≤ n → (x : Text) (a : List Attribute) (m : List Item) → Matches T (Within n) a m (settled_within j G x) → Within n x a m
  settle_from zero n le x a m h = h
  settle_from (suc j) zero le x a m h = absurd (omega arith)
  settle_from (suc j) (suc n) le x a m h = settle_from_at j n x a m (definition_of G x) (excepts x) (settle_from j n (omega arith)) (λ w. w) h

  module _ (k : ℕ) where
    abbrev N : Grammar
    N = formed (settled_within k G) G

    abbrev WithinN : ℕ → Text → List Attribute → List Item → Type 0
    WithinN n = MatchesWithin n N T

    abbrev s : Text → Tree
    s = settled_within k G

    -- a reference in the canonical grammar, by the definition of the grammar
    named_to : (n : ℕ) (x : Text) (a : List Attribute) (m : List Item) (o : Option Tree) → definition_of G x ≡ o → IsSomeAnd o (λ p. Matches T (WithinN n) a m (canonical s p)) → WithinN (suc n) x a m
    named_to n x a m None e h = absurd h
    named_to n x a m (Some p) e h = subst (λ (d : Option Tree). IsSomeAnd d (λ q. Matches T (WithinN n) a m q)) (sym (lookup-map x (canonical s) G.definitions ∙ ap (option_map (canonical s)) e)) h

    named_from : (n : ℕ) (x : Text) (a : List Attribute) (m : List Item) (o : Option Tree) → definition_of G x ≡ o → WithinN (suc n) x a m → IsSomeAnd o (λ p. Matches T (WithinN n) a m (canonical s p))
    named_from n x a m None e h = subst (λ (d : Option Tree). IsSomeAnd d (λ q. Matches T (WithinN n) a m q)) (lookup-map x (canonical s) G.definitions ∙ ap (option_map (canonical s)) e) h
    named_from n x a m (Some p) e h = subst (λ (d : Option Tree). IsSomeAnd d (λ q. Matches T (WithinN n) a m q)) (lookup-map x (canonical s) G.definitions ∙ ap (option_map (canonical s)) e) h

  into_canonical : (o : Option Tree) (k n : ℕ) (a : List Attribute) (m : List Item) → IfSome o HasExcepts → ((y : Text) (b : List Attribute) (i : List Item) → Within n y b i → Matches T (WithinN k n) b i (s k y)) → IsSomeAnd o (λ p. Matches T (Within n) a m p) → IsSomeAnd o (λ p. Matches T (WithinN k n) a m (canonical (s k) p))
  into_canonical None k n a m e ih h = h
  into_canonical (Some p) k n a m e ih h = canonical_to T (Within n) (WithinN k n) (s k) ih p e a m h

  -- the form that settles a reference says the same of it under any meaning
  settled_to : (k n : ℕ) (x : Text) (a : List Attribute) (m : List Item) (o : Option Tree) (ν : Meaning) → IfSome o HasExcepts → IsSomeAnd o (λ p. Matches T (Within n) a m p) → ν x a m → Matches T ν a m (option_map_or (λ p. ref_unless_settled x (canonical (settled_within k G) p)) o (ref x))
  settled_to k n x a m None ν e h w = w
  settled_to k n x a m (Some p) ν e h w = stand_in_to T (Within n) ν x (canonical (settled_within k G) p) a m (canonical_to T (Within n) (Within n) (settled_within k G) (settle_to k n) p e a m h) w

  settled_by : (k n : ℕ) (x : Text) (a : List Attribute) (m : List Item) (ν : Meaning) → Within (suc n) x a m → ν x a m → Matches T ν a m (settled_within k G x)
  settled_by zero n x a m ν h w = w
  settled_by (suc k) n x a m ν h w = settled_to k n x a m (definition_of G x) ν (excepts x) h w

  within_to : (k n : ℕ) (x : Text) (a : List Attribute) (m : List Item) → Within n x a m → Matches T (WithinN k n) a m (s k x)
  within_to k zero x a m h = absurd h
  within_to k (suc n) x a m h = settled_by k n x a m (WithinN k (suc n)) h (named_to k n x a m (definition_of G x) refl (into_canonical (definition_of G x) k n a m (excepts x) (within_to k n) h))

  out_of_canonical : (o : Option Tree) (k n i : ℕ) (a : List Attribute) (m : List Item) → IfSome o HasExcepts → ((y : Text) (b : List Attribute) (j : List Item) → Matches T (WithinN k n) b j (s k y) → Within i y b j) → IsSomeAnd o (λ p. Matches T (WithinN k n) a m (canonical (s k) p)) → IsSomeAnd o (λ p. Matches T (Within i) a m p)
  out_of_canonical None k n i a m e ih h = h
  out_of_canonical (Some p) k n i a m e ih h = canonical_from T (Within i) (WithinN k n) (s k) ih p e a m h

  settled_back_at : (j i : ℕ) (x : Text) (a : List Attribute) (m : List Item) (o : Option Tree) (ν : Meaning) → IfSome o HasExcepts → (ν x a m → IsSomeAnd o (λ p. Matches T (Within i) a m p)) → j ≤ i
      → Matches T ν a m (option_map_or (λ p. ref_unless_settled x (canonical (settled_within j G) p)) o (ref x)) → IsSomeAnd o (λ p. Matches T (Within i) a m p)
  settled_back_at j i x a m None ν e w le h = w h
  settled_back_at j i x a m (Some p) ν e w le h =
      stand_in_from T (Matches T (Within i) a m p) (Within i) ν x (canonical (settled_within j G) p) a m (λ k. canonical_from T (Within i) (Within i) (settled_within j G) (settle_from j i le) p e a m k) w h

  settled_back : (k i : ℕ) (x : Text) (a : List Attribute) (m : List Item) (ν : Meaning) → (ν x a m → Within i x a m) → k ≤ i → Matches T ν a m (settled_within k G x) → Within i x a m
  settled_back zero i x a m ν w le h = w h
  settled_back (suc k) zero x a m ν w le h = absurd (omega arith)
  settled_back (suc k) (suc i) x a m ν w le h = settled_back_at k i x a m (definition_of G x) ν (excepts x) w (omega arith) h

  within_from : (k n : ℕ) (x : Text) (a : List Attribute) (m : List Item) → Matches T (WithinN k n) a m (s k x) → Within (n + k) x a m
  within_from k zero x a m h = settled_back k (zero + k) x a m (WithinN k zero) (λ w. absurd w) (omega arith) h
  within_from k (suc n) x a m h =
      let deeper : suc (n + k) ≡ suc n + k = omega arith in
      settled_back k (suc n + k) x a m (WithinN k (suc n))
      (λ w. subst (λ i. Within i x a m) deeper (out_of_canonical (definition_of G x) k n (n + k) a m (excepts x) (within_from k n) (named_from k n x a m (definition_of G x) refl w)))
      (omega arith) h

  -- the canonical patterns accept the documents of the grammar
  pub canonical_valid : (k : ℕ) → HasExcepts G.start → (doc : Item) → IsValid G T doc ↔ IsValid (formed (settled_within k G) G) T doc
  canonical_valid k e doc = (
    λ v. (v.0, canonical_to T (Within v.0) (WithinN k v.0) (s k) (within_to k v.0) G.start e [] (doc ∷ []) v.1),
    λ v. (v.0 + k, canonical_from T (Within (v.0 + k)) (WithinN k v.0) (s k) (within_from k v.0) G.start e [] (doc ∷ []) v.1),
  )
