-- The map that leaves least of a URI is found by going through the maps once.
use Rattle.std.proofs.Common.{◌≡◌, ℕ, ◌-◌, ◌<◌, ◌≤◌, arith, cond, true, false, List, [], ◌∷◌, ◌++◌, length, drop, take, ap, refl, sym, subst, ◌∙◌, append_assoc, get_or}
use Rattle.std.specs.Borrow.{Bor}
use Rattle.std.specs.List.{ends_with, fold, starts_with}
use Rattle.std.specs.Option.{option_copied, option_map}
use Rattle.std.specs.Prelude.{All, IfSome, MatchOption, Option, Some, None, Vec, nat_eq, nat_lt}
use Rattle.std.specs.Str.Pattern.{FindsTextPrefix, FindsTextSuffix, StripsPrefix, StripsSuffix}
use Rattle.std.specs.declared.alloc.Global.{Global}
use Rattle.std.proofs.lemmas.Bool.{cond_both, ltb-true, ltb-false}
use Rattle.std.proofs.lemmas.Bool.Decides.{Decides-eqb}
use Rattle.std.proofs.lemmas.List.{append-nil, take_all, take_rest}
use Rattle.std.proofs.lemmas.Option.{IfSome_then}
use Rattle.std.proofs.lemmas.List.Elements.{All-append, All-cons, All-nil, All-weaker}
use Rattle.std.proofs.lemmas.Slice.Eq.{ends_is, starts_is}
use Rattle.std.proofs.lemmas.Str.Pattern.{ends_text, starts_text}
use Rattle.rn_files.specs.Maps.{Groups, HasNoMap, HasNoMapIn, IsFound, IsLongest, ahead, behind, left_by}
use Rattle.rn_files.specs.inside.Maps.{chosen}
use Rattle.rn_files.specs.declared.mapping.maps.Map.{Map}

-- what `strip_prefix` gives
pub stripped : (p s : List ℕ) (r : Option (Bor (List ℕ))) → MatchOption r (FindsTextPrefix p s None) (λ x. StripsPrefix (FindsTextPrefix p) s x.now)
    → option_copied r ≡ behind s p
stripped p s (Some x) h =
    let begun : starts_with nat_eq s p ≡ true = (starts_is Decides-eqb s p _ refl).1 _ h.1.1 in
    ap (λ z. Some z) (h.2 ∙ ap (λ k. drop k s) h.1.0) ∙ sym (ap (λ t. cond t (Some (drop (length p) s)) None) begun)
stripped p s None h = sym (ap (λ t. cond t (Some (drop (length p) s)) None) (sym (starts_text false p s h)))

-- the best one of the maps
abbrev pub IsBest : List Map → List ℕ → Option (Map × List ℕ) → Type 0
IsBest maps uri best = MatchOption best (HasNoMap maps uri) (λ b. IsLongest maps uri b.0 b.1)

abbrev pub better : List ℕ → Option (Map × List ℕ) → Map → Option (Map × List ℕ)
better uri best m = chosen best m (left_by uri m)

abbrev LeavesMore : List ℕ → ℕ → Map → Type 0
LeavesMore uri n m = IfSome (left_by uri m) (λ more. n < length more)

abbrev LeavesNoLess : List ℕ → ℕ → Map → Type 0
LeavesNoLess uri n m = IfSome (left_by uri m) (λ more. n ≤ length more)

-- the longest one stays, if the next one leaves no less
still_longest : (maps : List Map) (uri rest : List ℕ) (it m : Map) → IsLongest maps uri it rest → LeavesNoLess uri (length rest) m
    → IsLongest (maps ++ (m ∷ [])) uri it rest
still_longest maps uri rest it m (before, after, cut, left, ahead, behind) last = (
  before,
  after ++ (m ∷ []),
  ap (λ z. z ++ (m ∷ [])) cut ∙ append_assoc before (it ∷ after) (m ∷ []),
  left,
  ahead,
  All-append (LeavesNoLess uri (length rest)) after (m ∷ []) behind
      (All-cons (LeavesNoLess uri (length rest)) m [] last (All-nil (LeavesNoLess uri (length rest)))),
)

-- the next one is longer
new_longest : (maps : List Map) (uri rest : List ℕ) (m : Map) → left_by uri m ≡ Some rest → All (LeavesMore uri (length rest)) maps
    → IsLongest (maps ++ (m ∷ [])) uri m rest
new_longest maps uri rest m left ahead = (maps, [], refl, left, ahead, All-nil (LeavesNoLess uri (length rest)))

all_longer : (maps : List Map) (uri rest : List ℕ) (it : Map) (n : ℕ) → IsLongest maps uri it rest → n < length rest → All (LeavesMore uri n) maps
all_longer maps uri rest it n (before, after, cut, left, ahead, behind) less =
    let P : Option (List ℕ) → Type 0 = λ o. IfSome o (λ more. n < length more) in
    let Q : List Map → Type 0 = λ ms. All (LeavesMore uri n) ms in
    let here : LeavesMore uri n it = subst P (sym left) less in
    subst Q (sym cut)
    (All-append (LeavesMore uri n) before (it ∷ after)
    (All-weaker (LeavesMore uri (length rest)) (LeavesMore uri n)
    (λ m h. IfSome_then (left_by uri m) h (λ more l. omega (arith, l, less))) before ahead)
    (All-cons (LeavesMore uri n) it after here
    (All-weaker (LeavesNoLess uri (length rest)) (LeavesMore uri n)
    (λ m h. IfSome_then (left_by uri m) h (λ more l. omega (arith, l, less))) after behind)))

chosen_more : (maps : List Map) (uri : List ℕ) (m : Map) (best : Option (Map × List ℕ)) (o : Option (List ℕ)) → left_by uri m ≡ o → IsBest maps uri best
    → IsBest (maps ++ (m ∷ [])) uri (chosen best m o)
chosen_more maps uri m None None e h =
    let P : Map → Type 0 = λ n. left_by uri n ≡ None in All-append P maps (m ∷ []) h (All-cons P m [] e (All-nil P))
chosen_more maps uri m (Some b) None e h =
    let P : Option (List ℕ) → Type 0 = λ o. IfSome o (λ more. length b.1 ≤ length more) in
    still_longest maps uri b.1 b.0 m h (subst P (sym e) tt)
chosen_more maps uri m None (Some rest) e h =
    let P : Option (List ℕ) → Type 0 = λ o. IfSome o (λ more. length rest < length more) in
    new_longest maps uri rest m e (All-weaker (λ n. left_by uri n ≡ None) (LeavesMore uri (length rest)) (λ n none. subst P (sym none) tt) maps h)
chosen_more maps uri m (Some b) (Some rest) e h =
    let P : Option (List ℕ) → Type 0 = λ o. IfSome o (λ more. length b.1 ≤ length more) in
    cond_both (nat_lt (length rest) (length b.1)) (Some (m, rest)) (Some b) (λ x. IsBest (maps ++ (m ∷ [])) uri x)
    (λ less. new_longest maps uri rest m e (all_longer maps uri b.1 b.0 (length rest) h (ltb-true (length rest) (length b.1) less)))
    (λ more. still_longest maps uri b.1 b.0 m h (subst P (sym e) (ltb-false (length rest) (length b.1) more)))

best_behind : (ahead maps : List Map) (uri : List ℕ) (best : Option (Map × List ℕ)) → IsBest ahead uri best
    → IsBest (ahead ++ maps) uri (fold (better uri) best maps)
best_behind ahead [] uri best h = let P : List Map → Type 0 = λ ms. IsBest ms uri best in subst P (sym (append-nil ahead)) h
best_behind ahead (m ∷ maps) uri best h =
    let P : List Map → Type 0 = λ ms. IsBest ms uri (fold (better uri) (better uri best m) maps) in
    subst P (append_assoc ahead (m ∷ []) maps) (best_behind (ahead ++ (m ∷ [])) maps uri (better uri best m) (chosen_more ahead uri m best (left_by uri m) refl h))

pub best_of_all : (maps : List Map) (uri : List ℕ) → IsBest maps uri (fold (better uri) None maps)
best_of_all maps uri = best_behind [] maps uri None (All-nil (λ m. left_by uri m ≡ None))

abbrev pub Reach : Type 0
Reach = Bor Map × Bor (List ℕ)

abbrev pub seen : Option Reach → Option (Map × List ℕ)
seen best = option_map (λ (b : Reach). (b.0.now, b.1.now)) best

read_best : (maps : List Map) (uri : List ℕ) (best : Option Reach) → IsBest maps uri (seen best)
    → MatchOption best (HasNoMap maps uri) (λ b. IsLongest maps uri b.0.now b.1.now)
read_best maps uri None h = h
read_best maps uri (Some b) h = h

-- the longest one of the maps, as the code has it
pub longest_found : (maps : List Map) (uri : List ℕ) (n : ℕ) (best : Option Reach) → length maps ≤ n
    → seen best ≡ fold (better uri) None (take n maps) → MatchOption best (HasNoMap maps uri) (λ b. IsLongest maps uri b.0.now b.1.now)
longest_found maps uri n best all e =
    let P : Option (Map × List ℕ) → Type 0 = λ x. IsBest maps uri x in
    read_best maps uri best (subst P (sym (e ∙ ap (λ ms. fold (better uri) None ms) (take_all n maps all))) (best_of_all maps uri))

-- what `strip_suffix` gives
pub stripped_end : (p s : List ℕ) (r : Option (Bor (List ℕ))) → MatchOption r (FindsTextSuffix p s None) (λ x. StripsSuffix (FindsTextSuffix p) s x.now)
    → option_copied r ≡ ahead s p
stripped_end p s (Some x) (n, (same, cut, at), is, len) =
    let ends : ends_with nat_eq s p ≡ true = (ends_is Decides-eqb s p _ refl).1 _ cut in
    ap (λ z. Some z) (is ∙ ap (λ k. take (length s - k) s) same) ∙ sym (ap (λ t. cond t (Some (take (length s - length p) s)) None) ends)
stripped_end p s None h = sym (ap (λ t. cond t (Some (take (length s - length p) s)) None) (sym (ends_text false p s h)))

-- the groups before are those that have no map, and the rest follows
abbrev pub IsPassed : Groups → Groups → List ℕ → Type 0
IsPassed groups rest uri = (before : Groups) × (groups ≡ before ++ rest) × HasNoMapIn before uri

-- at first all groups are left
pub none_passed : (groups : Groups) (uri : List ℕ) → IsPassed groups groups uri
none_passed groups uri = ([], refl, All-nil (λ (g : Vec Map Global). HasNoMap g.items uri))

-- a group without a map is passed
pub one_passed : (groups rest others : Groups) (g : Vec Map Global) (uri : List ℕ) → IsPassed groups rest uri → rest ≡ g ∷ others
    → HasNoMap g.items uri → IsPassed groups others uri
one_passed groups rest others g uri (before, cut, none) first empty =
    let P : Vec Map Global → Type 0 = λ v. HasNoMap v.items uri in (
      before ++ (g ∷ []),
      cut ∙ ap (λ r. before ++ r) first ∙ sym (append_assoc before (g ∷ []) others),
      All-append P before (g ∷ []) none (All-cons P g [] empty (All-nil P)),
    )

-- the first group with a map has the one that counts
pub first_found : (groups rest others : Groups) (g : Vec Map Global) (uri r : List ℕ) (m : Map) → IsPassed groups rest uri → rest ≡ g ∷ others
    → IsLongest g.items uri m r → IsFound groups uri m r
first_found groups rest others g uri r m (before, cut, none) first longest =
    (before, g, others, cut ∙ ap (λ x. before ++ x) first, none, longest)

-- a group without a map is passed, where it is the first of the rest
pub group_passed : (groups rest : Groups) (d : Vec Map Global) (uri : List ℕ) → IsPassed groups rest uri → 1 ≤ length rest
    → HasNoMap (get_or rest 0 d).items uri → IsPassed groups (take (length rest - 1) (drop 1 rest)) uri
group_passed groups [] d uri passed some empty = let never : ⊥ = omega (arith, some) in absurd never
group_passed groups (g ∷ others) d uri passed some empty =
    let P : Groups → Type 0 = λ gs. IsPassed groups gs uri in
    subst P (sym (take_rest (g ∷ others) 1)) (one_passed groups (g ∷ others) others g uri passed refl empty)

-- the first of the rest has the map that counts
pub group_found : (groups rest : Groups) (d : Vec Map Global) (uri r : List ℕ) (m : Map) → IsPassed groups rest uri → 1 ≤ length rest
    → IsLongest (get_or rest 0 d).items uri m r → IsFound groups uri m r
group_found groups [] d uri r m passed some longest = let never : ⊥ = omega (arith, some) in absurd never
group_found groups (g ∷ others) d uri r m passed some longest = first_found groups (g ∷ others) others g uri r m passed refl longest
