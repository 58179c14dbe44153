-- Lists of places in which nothing stands.
use Rattle.std.proofs.Common.{◌≡◌, ℕ, zero, suc, List, [], ◌∷◌, ◌++◌, Some, refl, sym, ap, ◌∙◌, subst, arith, Contains}
use Rattle.std.specs.Prelude.{slice_get, Vec}
use Rattle.std.specs.declared.alloc.Global.{Global}
use Rattle.std.specs.List.{AllByRecursion}
use Rattle.std.specs.List.Sorted.{IsStrictlyIncreasing}
use Rattle.rn_assemble.specs.Components.{NamedModule}
use Rattle.rn_assemble.specs.declared.including.segments.FollowedInclude.{FollowedInclude}
use Rattle.rn_assemble.specs.declared.including.segments.Segment.{Segment}
use Rattle.rn_assemble.specs.declared.including.segments.Segments.{Segments}
use Rattle.rn_assemble.specs.inside.Bringing.{CanBring, CanList}
use Rattle.rn_assemble.specs.inside.Segments.{HavePlaces, IsBrought, IsSegment, places_at, places_in}

pub rows_pushed : (rows : List (Vec (Vec ℕ Global) Global)) (v : Vec (Vec ℕ Global) Global) → ((m j : ℕ) → places_at rows m j ≡ []) → ((j : ℕ) → places_in v.items j ≡ []) → (m j : ℕ) → places_at (rows ++ v ∷ []) m j ≡ []
rows_pushed [] v h e zero j = e j
rows_pushed [] v h e (suc m) j = refl
rows_pushed (r ∷ rows) v h e zero j = h zero j
rows_pushed (r ∷ rows) v h e (suc m) j = rows_pushed rows v (λ k i. h (suc k) i) e m j

-- no segments, of modules with these contents
module _ (modules : List NamedModule) (x : Segments) (can : CanList modules x.contents.now) (list_is : x.list.items ≡ []) (brought_is : x.brought.items ≡ []) (empty : (m j : ℕ) → places_at x.places.items m j ≡ []) (sizes : HavePlaces x.contents.now x.places.items) where
  nothing_at : (n : ℕ) (s : Segment) → ¬ (slice_get x.list.items n ≡ Some s)
  nothing_at n s e = let none : slice_get {X = Segment} [] n ≡ Some s = sym (ap (λ (l : List Segment). slice_get l n) list_is) ∙ e in cc

  nothing_in : (m j n : ℕ) → ¬ Contains (places_at x.places.items m j) n
  nothing_in m j n c = let none = subst (λ (l : List ℕ). Contains l n) (empty m j) c in omega (arith, none.1)

  pub can_begin : CanBring modules x
  can_begin = record {
    can = can;
    are = record {
      contents = can.are;
      sizes = sizes;
      each = subst (λ (l : List Segment). AllByRecursion (IsSegment modules x.contents.now) l) (sym list_is) tt;
      first = λ n s e. absurd (nothing_at n s e);
      placed = λ n s e. absurd (nothing_at n s e);
      numbered = λ m j n c. absurd (nothing_in m j n c);
      rise = λ m j. subst (λ (l : List ℕ). IsStrictlyIncreasing l) (sym (empty m j)) (λ k l. absurd (omega (arith, l)));
    };
    brought = subst (λ (l : List FollowedInclude). AllByRecursion (IsBrought modules x.contents.now x.list.items) l) (sym brought_is) tt;
  }
