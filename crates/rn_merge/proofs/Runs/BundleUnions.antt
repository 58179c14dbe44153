-- The union of the sets of bundles, a bundle at a time.
use Rattle.std.proofs.Common.{◌≡◌, ℕ, ◌+◌, ◌<◌, ◌≤◌, List, [], ◌∷◌, ◌++◌, length, map, take, get_or, refl, sym, ap, subst, ◌∙◌}
use Rattle.std.proofs.lemmas.List.{take_more, get_or-map}
use Rattle.std.proofs.Math.ListN.{length-map}
use Rattle.rn_modset.specs.Contributions.{Member}
use Rattle.std.proofs.lemmas.Option.{slice_get-map, slice_get_read}
use Rattle.std.specs.Prelude.{Result, Ok, Err, IsErrAnd, IfErr, Some, slice_get}
use Rattle.std.specs.Option.{option_map}
use Rattle.rn_modset.specs.Sets.{union, IsNotJoined}
use Rattle.rn_modset.specs.BundleGrammar.{IsBundle}
use Rattle.rn_modset.specs.declared.faults.AddFault.{AddFault}
use Rattle.rn_modset.specs.declared.faults.AddFault.TheVariants as adding
use Rattle.rn_merge.specs.declared.run.RunFault.{RunFault}
use Rattle.rn_merge.specs.Runs.{unions, AreBundles, IsUnionBefore, HasNoUnion}
use Rattle.rn_merge.specs.inside.Outcomes.{join_fault}

-- the last set is joined last
pub unions_of_more : (s : List Member) (ts : List (List Member)) (t : List Member) → unions s (ts ++ t ∷ []) ≡ union (unions s ts) t
unions_of_more s [] t = refl
unions_of_more s (r ∷ ts) t = unions_of_more (union s r) ts t

-- one bundle more, of one set more
bundles_push : (bundles : List (List ℕ)) (sets : List (List Member)) (b : List ℕ) (t : List Member) → AreBundles bundles sets → IsBundle b t → AreBundles (bundles ++ b ∷ []) (sets ++ t ∷ [])
bundles_push [] [] b t are h = (h, tt)
bundles_push [] (s ∷ sets) b t are h = absurd are
bundles_push (a ∷ bundles) [] b t are h = absurd are
bundles_push (a ∷ bundles) (s ∷ sets) b t are h = (are.0, bundles_push bundles sets b t are.1 h)

pub one_more : {A : Type 0} (f : A → List ℕ) (xs : List A) (i : ℕ) (x : A) (s t : List Member) → i < length xs → x ≡ get_or xs i x → IsBundle (f x) t
    → length (union s t) ≤ 1024 → IsUnionBefore (map f xs) i s → IsUnionBefore (map f xs) (i + 1) (union s t)
one_more f xs i x s t within at reads few before =
    let within' : i < length (map f xs) = rw length-map within in
    let item : get_or (map f xs) i (f x) ≡ f x = get_or-map f xs i x (f x) within ∙ ap f (sym at) in
    let more : take (i + 1) (map f xs) ≡ take i (map f xs) ++ f x ∷ [] = take_more (map f xs) i (f x) within' ∙ ap (λ b. take i (map f xs) ++ b ∷ []) item in
    record {
      sets = before.sets ++ t ∷ [];
      are = subst (λ bundles. AreBundles bundles (before.sets ++ t ∷ [])) (sym more) (bundles_push (take i (map f xs)) before.sets (f x) t before.are reads);
      is = ap (λ u. union u t) before.is ∙ sym (unions_of_more [] before.sets t);
      few = few;
    }

-- a set that is not joined has no union, for want of memory or for its members
pub no_union : {A : Type 0} (f : A → List ℕ) (xs : List A) (i : ℕ) (x : A) (s t : List Member) (fault : AddFault) → i < length xs → x ≡ get_or xs i x → IsBundle (f x) t
    → IsUnionBefore (map f xs) i s → IsNotJoined s t fault → HasNoUnion (map f xs) (join_fault fault)
no_union f xs i x s t adding.Memory within at reads before h = tt
no_union f xs i x s t adding.Full within at reads before h =
    let item : slice_get (map f xs) i ≡ Some (f x) = slice_get-map f xs i ∙ ap (option_map f) (slice_get_read xs (length xs) i x refl within at) in
    record { index = i; before = s; bytes = f x; next = t; union_before = before; at = item; is_bundle = reads; many = h }
no_union f xs i x s t adding.BadName within at reads before h = absurd h
no_union f xs i x s t adding.TooLong within at reads before h = absurd h

-- an error that is this fault
pub refused_by : {T : Type 0} (P : RunFault → Type 0) (r : Result T RunFault) (fault : RunFault) → IsErrAnd r (λ f. f ≡ fault) → P fault → IfErr r P
refused_by P (Ok x) fault h p = tt
refused_by P (Err e) fault h p = subst P (sym h) p
