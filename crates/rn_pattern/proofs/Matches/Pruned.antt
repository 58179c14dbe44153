-- What no reference reaches is no matter for a grammar's documents.
use Rattle.std.proofs.Common.{◌≡◌, ◌↔◌, ◌<◌, ℕ, zero, suc, Bool, true, false, cond, List, [], ◌∷◌, length, Option, Some, None, is_some, refl, sym, ap, ◌∙◌, subst, arith, slice_index_or}
use Rattle.std.specs.Prelude.{bytes_eq, IsSomeAnd, IfSome}
use Rattle.std.specs.Map.{lookup}
use Rattle.std.specs.Cmp.Lexicographic.{bytes_decides}
use Rattle.std.proofs.lemmas.Bool.{false≢true}
use Rattle.std.proofs.lemmas.Map.Views.{Contains-from_lookup}
use Rattle.rn_pattern.specs.Tree.{Tree}
use Rattle.rn_text.specs.Texts.{Text}
use Rattle.rn_pattern.specs.Document.{Attribute, Item}
use Rattle.rn_pattern.specs.Datatype.{Table}
use Rattle.rn_pattern.specs.Matching.{Matches, Grammar, definition_of, MatchesWithin, IsValid}
use Rattle.rn_pattern.specs.Excepts.{HasExcepts}
use Rattle.rn_pattern.specs.Reached.{IsReached, by_start, by_definition, all_canonical, IsCanonicalOf}
use Rattle.rn_pattern.proofs.Matches.Alike.{Alike, refers_alike}
use Rattle.rn_pattern.proofs.Matches.Validity.{canonical_valid}

found_at : (b : Bool) (p : Tree) (o : Option Tree) → is_some o ≡ true → is_some (cond b (Some p) o) ≡ true
found_at true p o h = refl
found_at false p o h = h

found : (x : Text) (p : Tree) (ds : List (Text × Tree)) (k : ℕ) → k < length ds → slice_index_or ds k (x, p) ≡ (x, p) → is_some (lookup (bytes_eq x) ds) ≡ true
found x p [] k l h = absurd (omega (arith, l))
found x p (d ∷ ds) zero l h = ap (λ b. is_some (cond b (Some d.1) (lookup (bytes_eq x) ds))) ((bytes_decides x d.0).1 (sym (ap (λ e. e.0) h)))
found x p (d ∷ ds) (suc k) l h = found_at (bytes_eq x d.0) d.1 (lookup (bytes_eq x) ds) (found x p ds k (omega (arith, l)) h)

module _ (G N : Grammar) (c : IsCanonicalOf G N) where
  abbrev A : Grammar
  A = all_canonical G

  missing : (x : Text) (o : Option Tree) → IsReached A x → definition_of A x ≡ o → definition_of N x ≡ None → o ≡ None
  missing x None r e n = refl
  missing x (Some p) r e n =
      let (k, l, is) = (c.definitions x p).1 (r, e) in
      absurd (false≢true (sym (ap is_some n) ∙ found x p N.definitions k l is))

  present : (x : Text) (o : Option Tree) → IsReached A x → definition_of N x ≡ o → definition_of A x ≡ o
  present x None r e = missing x (definition_of A x) r refl e
  present x (Some p) r e = ((c.definitions x p).0 (Contains-from_lookup {eq = bytes_eq} (λ y z h. (bytes_decides y z).0 h) x p N.definitions e)).1

  -- a name that is reached has the same definition
  pub reached_definition : (x : Text) → IsReached A x → definition_of A x ≡ definition_of N x
  reached_definition x r = present x (definition_of N x) r refl

  module _ (T : Table) where
    by_one : (n : ℕ) (a : List Attribute) (m : List Item) (o : Option Tree) → ((p : Tree) → o ≡ Some p → Alike T (MatchesWithin n A T) (MatchesWithin n N T) p p)
        → IsSomeAnd o (λ p. Matches T (MatchesWithin n A T) a m p) ↔ IsSomeAnd o (λ p. Matches T (MatchesWithin n N T) a m p)
    by_one n a m None e = (λ h. h, λ h. h)
    by_one n a m (Some p) e = e p refl a m

    pub pruned_within : (n : ℕ) (x : Text) → IsReached A x → (a : List Attribute) (m : List Item) → MatchesWithin n A T x a m ↔ MatchesWithin n N T x a m
    pruned_within zero x r a m = (λ h. h, λ h. h)
    pruned_within (suc n) x r a m =
        subst (λ (o : Option Tree). MatchesWithin (suc n) A T x a m ↔ IsSomeAnd o (λ p. Matches T (MatchesWithin n N T) a m p)) (reached_definition x r)
        (by_one n a m (definition_of A x) (λ p e. refers_alike T (MatchesWithin n A T) (MatchesWithin n N T) p (λ y h. pruned_within n y (by_definition p r e h))))

    start_alike : (n : ℕ) → Alike T (MatchesWithin n A T) (MatchesWithin n N T) A.start A.start
    start_alike n = refers_alike T (MatchesWithin n A T) (MatchesWithin n N T) A.start (λ y h. pruned_within n y (by_start h))

    -- the canonical grammar accepts the documents of all the canonical patterns
    pub pruned_valid : (doc : Item) → IsValid A T doc ↔ IsValid N T doc
    pruned_valid doc = (
      λ v. (v.0, subst (λ p. Matches T (MatchesWithin v.0 N T) [] (doc ∷ []) p) (sym c.start) ((start_alike v.0 [] (doc ∷ [])).0 v.1)),
      λ v. (v.0, (start_alike v.0 [] (doc ∷ [])).1 (subst (λ p. Matches T (MatchesWithin v.0 N T) [] (doc ∷ []) p) c.start v.1)),
    )

    -- and those of the grammar
    pub canonical_grammar_valid : HasExcepts G.start → ((x : Text) → IfSome (definition_of G x) HasExcepts) → (doc : Item) → IsValid G T doc ↔ IsValid N T doc
    canonical_grammar_valid s e doc =
        let all = canonical_valid T G e (length G.definitions) s doc in
        let few = pruned_valid doc in
        (λ v. few.0 (all.0 v), λ v. all.1 (few.1 v))
