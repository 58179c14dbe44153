-- Which declaration binds, with one declaration more, and what its URI is.
use Rattle.std.proofs.Common.{◌≡◌, ℕ, zero, suc, map, ◌<◌, Bool, true, false, List, [], ◌∷◌, ◌++◌, Option, Some, None, refl, ap, sym, ◌∙◌, cond, is_some, option_map, length, arith, get_or, subst, MatchOption}
use Rattle.std.specs.Prelude.{if◌then◌else◌, ⊤}
use Rattle.std.specs.Str.{bytes_eq}
use Rattle.rn_syntax.specs.Tree as t
use Rattle.rn_syntax.specs.Tree.{Declaration, Uri}
use Rattle.rn_syntax.specs.Places.{declared_namespace, declared_library, declared_default, has_default, binds_namespace, binds_library, is_default, number_of, uri_of, uri_at, first}
use Rattle.rn_syntax.specs.inside.Numbered.{library_text}

module _ (f : Declaration → Bool) where
  pub number_more : (ds : List Declaration) (d : Declaration) → number_of f (ds ++ d ∷ []) ≡ (if is_some (number_of f ds) then number_of f ds else if f d then Some (length ds) else None)
  number_more [] d = refl
  number_more (x ∷ ds) d = step (f x) (f d) _ _ (length ds) (number_more ds d)
    where
      step : (b c : Bool) (r s : Option ℕ) (n : ℕ) → r ≡ (if is_some s then s else if c then Some n else None)
          → (if b then Some 0 else option_map suc r) ≡ (if is_some (if b then Some 0 else option_map suc s) then (if b then Some 0 else option_map suc s) else if c then Some (suc n) else None)
      step true c r s n e = refl
      step false true r None n e = ap (option_map suc) e
      step false false r None n e = ap (option_map suc) e
      step false c r (Some m) n e = ap (option_map suc) e

  pub number_within : (ds : List Declaration) → MatchOption (number_of f ds) ⊤ (λ n. n < length ds)
  number_within [] = tt
  number_within (d ∷ ds) = step (f d) _ (length ds) (number_within ds)
    where
      step : (b : Bool) (r : Option ℕ) (l : ℕ) → MatchOption r ⊤ (λ n. n < l) → MatchOption (if b then Some 0 else option_map suc r) ⊤ (λ n. n < suc l)
      step true r l h = omega arith
      step false None l h = tt
      step false (Some n) l h = omega (arith, h)

  -- what is said of the number of a declaration is said of a number that is equal to it: it is within the list, and its URI is that declaration's
  pub number_is_within : (ds : List Declaration) (o : Option ℕ) → o ≡ number_of f ds → MatchOption o ⊤ (λ n. n < length ds)
  number_is_within ds o e = subst (λ r. MatchOption r ⊤ (λ n. n < length ds)) (sym e) (number_within ds)

  pub number_is_of : (ds : List Declaration) (o : Option ℕ) (u : Option Uri) → u ≡ option_map (uri_at ds) (number_of f ds) → o ≡ number_of f ds → u ≡ option_map (uri_at ds) o
  number_is_of ds o u h e = h ∙ ap (option_map (uri_at ds)) (sym e)

next : (d : Declaration) (ds : List Declaration) (r : Option ℕ) (o : Option Uri) → o ≡ option_map (uri_at ds) r → o ≡ option_map (uri_at (d ∷ ds)) (option_map suc r)
next d ds None o h = h
next d ds (Some n) o h = h

here : (b : Bool) (d : Declaration) (ds : List Declaration) (r : Option ℕ) (o : Option Uri) → o ≡ option_map (uri_at ds) r
    → (if b then Some (uri_of d) else o) ≡ option_map (uri_at (d ∷ ds)) (if b then Some 0 else option_map suc r)
here true d ds r o h = refl
here false d ds r o h = next d ds r o h

pub default_uri : (ds : List Declaration) → declared_default ds ≡ option_map (uri_at ds) (number_of is_default ds)
default_uri [] = refl
default_uri (t.default i q u ∷ ds) = refl
default_uri (t.namespace q i u ∷ ds) = next (t.namespace q i u) ds _ _ (default_uri ds)
default_uri (t.datatypes q i s ∷ ds) = next (t.datatypes q i s) ds _ _ (default_uri ds)

pub namespace_uri : (ds : List Declaration) (p : List ℕ) → declared_namespace ds p ≡ option_map (uri_at ds) (number_of (binds_namespace p) ds)
namespace_uri [] p = refl
namespace_uri (t.namespace q i u ∷ ds) p = here (bytes_eq q p) (t.namespace q i u) ds _ _ (namespace_uri ds p)
namespace_uri (t.default i (Some q) u ∷ ds) p = here (bytes_eq q.0 p) (t.default i (Some q) u) ds _ _ (namespace_uri ds p)
namespace_uri (t.default i None u ∷ ds) p = next (t.default i None u) ds _ _ (namespace_uri ds p)
namespace_uri (t.datatypes q i s ∷ ds) p = next (t.datatypes q i s) ds _ _ (namespace_uri ds p)

-- a library's URI is a literal
literal_if : (b : Bool) (s : List ℕ) (o : Option (List ℕ)) → option_map (λ x. t.literal x) (if b then Some s else o) ≡ (if b then Some (t.literal s) else option_map (λ x. t.literal x) o)
literal_if true s o = refl
literal_if false s o = refl

pub library_uri : (ds : List Declaration) (p : List ℕ) → option_map (λ s. t.literal s) (declared_library ds p) ≡ option_map (uri_at ds) (number_of (binds_library p) ds)
library_uri [] p = refl
library_uri (t.datatypes q i s ∷ ds) p = literal_if (bytes_eq q p) s _ ∙ here (bytes_eq q p) (t.datatypes q i s) ds _ _ (library_uri ds p)
library_uri (t.namespace q i u ∷ ds) p = next (t.namespace q i u) ds _ _ (library_uri ds p)
library_uri (t.default i q u ∷ ds) p = next (t.default i q u) ds _ _ (library_uri ds p)

-- the library of the declaration that binds a datatype prefix
on : (ds : List Declaration) (x : Declaration) (n : ℕ) (d : Declaration) (r : Option ℕ) (o : Option (List ℕ)) → ((m : ℕ) → r ≡ Some m → o ≡ library_text (get_or ds m d))
    → option_map suc r ≡ Some n → o ≡ library_text (get_or (x ∷ ds) n d)
on ds x n d None o h e = cc
on ds x n d (Some m) o h e = let z : suc m ≡ n = cc in h m refl ∙ ap (λ k. library_text (get_or (x ∷ ds) k d)) z

at : (b : Bool) (ds : List Declaration) (x : Declaration) (n : ℕ) (d : Declaration) (r : Option ℕ) (o : Option (List ℕ)) → ((m : ℕ) → r ≡ Some m → o ≡ library_text (get_or ds m d))
    → (if b then Some 0 else option_map suc r) ≡ Some n → (if b then library_text x else o) ≡ library_text (get_or (x ∷ ds) n d)
at true ds x n d r o h e = let z : 0 ≡ n = cc in ap (λ k. library_text (get_or (x ∷ ds) k d)) z
at false ds x n d r o h e = on ds x n d r o h e

pub library_found : (ds : List Declaration) (p : List ℕ) (n : ℕ) (d : Declaration) → number_of (binds_library p) ds ≡ Some n → declared_library ds p ≡ library_text (get_or ds n d)
library_found [] p n d e = cc
library_found (t.datatypes q i s ∷ ds) p n d e = at (bytes_eq q p) ds (t.datatypes q i s) n d _ _ (λ m. library_found ds p m d) e
library_found (t.namespace q i u ∷ ds) p n d e = on ds (t.namespace q i u) n d _ _ (λ m. library_found ds p m d) e
library_found (t.default i q u ∷ ds) p n d e = on ds (t.default i q u) n d _ _ (λ m. library_found ds p m d) e

-- whether the default namespace is declared
some_map : {A B : Type 0} (g : A → B) (r : Option A) → is_some (option_map g r) ≡ is_some r
some_map g None = refl
some_map g (Some x) = refl

pub is_default_by : (ds : List Declaration) → is_some (number_of is_default ds) ≡ has_default ds
is_default_by [] = refl
is_default_by (t.default i q u ∷ ds) = refl
is_default_by (t.namespace q i u ∷ ds) = some_map suc (number_of is_default ds) ∙ is_default_by ds
is_default_by (t.datatypes q i s ∷ ds) = some_map suc (number_of is_default ds) ∙ is_default_by ds

-- the declarations as they are seen
pub length_of : {A B : Type 0} (f : A → B) (xs : List A) → length (map f xs) ≡ length xs
length_of f [] = refl
length_of f (x ∷ xs) = ap suc (length_of f xs)

pub at_map : {A B : Type 0} (f : A → B) (xs : List A) (i : ℕ) (x : A) → x ≡ get_or xs i x → get_or (map f xs) i (f x) ≡ f x
at_map f [] i x e = refl
at_map f (y ∷ xs) zero x e = ap f (sym e)
at_map f (y ∷ xs) (suc i) x e = at_map f xs i x e

-- the first wrong place, with those of one declaration more
pub wrong_more : (all w w' : Option ℕ) (a b : List ℕ) → all ≡ (if is_some w then w else first (a ++ b)) → w' ≡ (if is_some w then w else first a) → all ≡ (if is_some w' then w' else first b)
wrong_more all (Some i) w' a b e f = cc
wrong_more all None w' [] b e f = cc
wrong_more all None w' (x ∷ a) b e f = cc

-- what was not bound is bound
pub put_absent : (b : Bool) (x : ℕ) (r : Option ℕ) → (b ≡ true → is_some r ≡ false) → cond b (Some x) r ≡ (if is_some r then r else if b then Some x else None)
put_absent true x None h = refl
put_absent true x (Some y) h = let e : true ≡ false = h refl in cc
put_absent false x None h = refl
put_absent false x (Some y) h = refl
