-- URIs to which prefixes are bound, one behind the other.
use Rattle.std.proofs.Common.{◌≡◌, ℕ, ◌+◌, ◌<◌, Bool, true, false, cond, List, [], ◌∷◌, ◌++◌, length, take, get_or, refl, sym, ap, ◌∙◌, arith, ⊎_elim, append-nil, Bor, Some, None}
use Rattle.std.specs.Prelude.{Option, ◌==◌, ◌||◌, not, is_some, option_map, filter, map, if◌then◌else◌}
use Rattle.std.specs.List.{cons_option, filter_map}
use Rattle.std.proofs.lemmas.Bool.{cases_Bool, cond-true, cond-false}
use Rattle.std.proofs.lemmas.Bool.Decides.{nat_tests}
use Rattle.std.specs.BTreeMap.{get}
use Rattle.std.specs.Cmp.{nat_cmp_is}
use Rattle.std.specs.Ordering.{is_eq, nat_cmp}
use Rattle.std.specs.Option.{option_copied}
use Rattle.std.proofs.lemmas.List.{length-map, map-append, take_more}
use Rattle.std.proofs.lemmas.List.Elements.{filter-append, filter_map-append}
use Rattle.rn_translate.specs.declared.terms.Placed.{Placed}
use Rattle.rn_translate.specs.declared.uris.Uri.{Uri}
use Rattle.rn_translate.specs.declared.prefixes.BoundUri.{BoundUri}
use Rattle.rn_translate.specs.declared.prefixes.Prefixes.{Prefixes}
use Rattle.rn_translate.specs.inside.NeededPrefixes.{AreBound, AreNumbered, HasBound, bound_uris, each_once, is_uri, place_in, with_uri}
use Rattle.rn_translate.proofs.AddedUris.{no_some}

-- ---- places

-- the place behind the others of a URI, or that which it has
abbrev or_last : Option ℕ → Bool → ℕ → Option ℕ
or_last (Some n) b last = Some n
or_last None b last = if b then Some (last + 1) else None

or_last_next : (o : Option ℕ) (b : Bool) (n : ℕ) → option_map (λ m. m + 1) (or_last o b n) ≡ or_last (option_map (λ m. m + 1) o) b (n + 1)
or_last_next (Some m) b n = refl
or_last_next None true n = refl
or_last_next None false n = refl

pub place_push : (us : List Uri) (u v : Uri) → place_in (us ++ u ∷ []) v ≡ or_last (place_in us v) (is_uri v u) (length us)
place_push [] u v = refl
place_push (x ∷ us) u v = ⊎_elim
    (λ hit. cond-true (is_uri v x) (Some 1) (option_map (λ m. m + 1) (place_in (us ++ u ∷ []) v)) hit
    ∙ sym (ap (λ o. or_last o (is_uri v u) (length (x ∷ us))) (cond-true (is_uri v x) (Some 1) (option_map (λ m. m + 1) (place_in us v)) hit)))
    (λ miss. cond-false (is_uri v x) (Some 1) (option_map (λ m. m + 1) (place_in (us ++ u ∷ []) v)) miss ∙ ap (option_map (λ m. m + 1)) (place_push us u v)
    ∙ or_last_next (place_in us v) (is_uri v u) (length us) ∙ ap (or_last (option_map (λ m. m + 1) (place_in us v)) (is_uri v u)) (let n : length us + 1 ≡ length (x ∷ us) = omega arith in n)
    ∙ sym (ap (λ o. or_last o (is_uri v u) (length (x ∷ us))) (cond-false (is_uri v x) (Some 1) (option_map (λ m. m + 1) (place_in us v)) miss)))
    (cases_Bool (is_uri v x))

-- URIs of one index have one place
pub place_same : (us : List Uri) (u v : Uri) → u.index ≡ v.index → place_in us u ≡ place_in us v
place_same [] u v e = refl
place_same (x ∷ us) u v e = ap (λ (i : ℕ). if x.index == i then Some 1 else option_map (λ n. n + 1) (place_in us u)) e ∙ ap (λ o. if is_uri v x then Some 1 else option_map (λ n. n + 1) o) (place_same us u v e)

-- ---- each once

some_next : (o : Option ℕ) → is_some (option_map (λ m. m + 1) o) ≡ is_some o
some_next None = refl
some_next (Some m) = refl

among : (x : Uri) (us : List Uri) (u : Uri) → is_some (place_in (x ∷ us) u) ≡ (is_uri u x || is_some (place_in us u))
among x us u = elim (is_uri u x) as (λ b. is_some (cond b (Some 1) (option_map (λ m. m + 1) (place_in us u))) ≡ (b || is_some (place_in us u))) [ true ↦ refl | false ↦ some_next (place_in us u) ]

-- a URI stays among those of which others are left out
among_left : (x u : Uri) (us : List Uri) → is_uri u x ≡ false → is_some (place_in (filter (λ v. not (is_uri x v)) us) u) ≡ is_some (place_in us u)
among_left x u [] apart = refl
among_left x u (y ∷ us) apart = ⊎_elim
    (λ out.
    let other : is_uri u y ≡ false = ap (λ (i : ℕ). i == u.index) (same_index out) ∙ apart in
    ap (λ l. is_some (place_in l u)) (cond-false (not (is_uri x y)) (y ∷ filter (λ v. not (is_uri x v)) us) (filter (λ v. not (is_uri x v)) us) (ap not out)) ∙ among_left x u us apart
    ∙ sym (among y us u ∙ ap (λ b. b || is_some (place_in us u)) other))
    (λ stays.
    ap (λ l. is_some (place_in l u)) (cond-true (not (is_uri x y)) (y ∷ filter (λ v. not (is_uri x v)) us) (filter (λ v. not (is_uri x v)) us) (ap not stays))
    ∙ among y (filter (λ v. not (is_uri x v)) us) u ∙ ap (λ b. is_uri u y || b) (among_left x u us apart) ∙ sym (among y us u))
    (cases_Bool (is_uri x y))
  where
    same_index : is_uri x y ≡ true → y.index ≡ x.index
    same_index e = grind (arith, nat_tests)

once_push : (us : List Uri) (u : Uri) → each_once (us ++ u ∷ []) ≡ with_uri (each_once us) (Some u)
once_push [] u = refl
once_push (x ∷ us) u =
    let E = each_once us in
    let left : List Uri → List Uri = filter (λ v. not (is_uri x v)) in
    ap (λ l. x ∷ left l) (once_push us u) ∙ ⊎_elim
    (λ same.
    let out : left (u ∷ []) ≡ [] = cond-false (not (is_uri x u)) (u ∷ []) [] (ap not (turned same)) in
    let gone : left (with_uri E (Some u)) ≡ left E = elim (is_some (place_in E u)) as (λ b. left (cond b E (E ++ u ∷ [])) ≡ left E) [
      | true ↦ refl
      | false ↦ filter-append (λ v. not (is_uri x v)) E (u ∷ []) ∙ ap (λ l. left E ++ l) out ∙ append-nil (left E)
    ] in
    ap (λ l. x ∷ l) gone ∙ sym (cond-true (is_some (place_in (x ∷ left E) u)) (x ∷ left E) ((x ∷ left E) ++ u ∷ []) (among x (left E) u ∙ ap (λ b. b || is_some (place_in (left E) u)) same)))
    (λ other.
    let stays : left (u ∷ []) ≡ u ∷ [] = cond-true (not (is_uri x u)) (u ∷ []) [] (ap not (turned_not other)) in
    let there : is_some (place_in (x ∷ left E) u) ≡ is_some (place_in E u) = among x (left E) u ∙ ap (λ b. b || is_some (place_in (left E) u)) other ∙ among_left x u E other in
    let more : (x ∷ left (with_uri E (Some u))) ≡ cond (is_some (place_in E u)) (x ∷ left E) ((x ∷ left E) ++ u ∷ []) =
    elim (is_some (place_in E u)) as (λ b. (x ∷ left (cond b E (E ++ u ∷ []))) ≡ cond b (x ∷ left E) ((x ∷ left E) ++ u ∷ [])) [
      | true ↦ refl
      | false ↦ ap (λ l. x ∷ l) (filter-append (λ v. not (is_uri x v)) E (u ∷ []) ∙ ap (λ l. left E ++ l) stays)
    ] in
    more ∙ ap (λ b. cond b (x ∷ left E) ((x ∷ left E) ++ u ∷ [])) (sym there))
    (cases_Bool (is_uri u x))
  where
    turned : is_uri u x ≡ true → is_uri x u ≡ true
    turned e = grind (arith, nat_tests)

    turned_not : is_uri u x ≡ false → is_uri x u ≡ false
    turned_not e = grind (arith, nat_tests)

-- the URIs of one term more
pub once_more : (needed : Placed → Option Uri) (ps : List Placed) (i : ℕ) (p : Placed) → i < length ps → p ≡ get_or ps i p
    → each_once (filter_map needed (take (i + 1) ps)) ≡ with_uri (each_once (filter_map needed (take i ps))) (needed p)
once_more needed ps i p within is =
    ap (λ l. each_once (filter_map needed l)) (take_more ps i p within) ∙ ap each_once (filter_map-append needed (take i ps) (get_or ps i p ∷ []))
    ∙ ap (λ (x : Placed). each_once (filter_map needed (take i ps) ++ filter_map needed (x ∷ []))) (sym is) ∙ one (needed p)
  where
    one : (o : Option Uri) → each_once (filter_map needed (take i ps) ++ cons_option o []) ≡ with_uri (each_once (filter_map needed (take i ps))) o
    one None = ap each_once (append-nil (filter_map needed (take i ps)))
    one (Some u) = once_push (filter_map needed (take i ps)) u

-- ---- what is bound

same_cmp : (a b : ℕ) → is_eq (nat_cmp a b) ≡ (a == b)
same_cmp a b = grind (arith, nat_tests, nat_cmp_is)

or_last_not : (o : Option ℕ) (n : ℕ) → or_last o false n ≡ o
or_last_not None n = refl
or_last_not (Some m) n = refl

pub bound_already : (old : Prefixes) (u : Uri) → AreNumbered old → is_some (get nat_cmp old.numbers u.index) ≡ true → HasBound old old (Some u)
bound_already old u are there = record {
  numbered = are;
  bound = sym (cond-true (is_some (place_in (bound_uris old) u)) (bound_uris old) (bound_uris old ++ u ∷ []) (ap is_some (sym (are u)) ∙ there));
}

pub bound_newly : (old new : Prefixes) (u : Uri) (b : BoundUri) (n : ℕ) → AreNumbered old → is_some (get nat_cmp old.numbers u.index) ≡ false → new.bound.items ≡ old.bound.items ++ b ∷ [] → b.uri ≡ u
    → n ≡ length old.bound.items + 1 → ((q : ℕ) → get nat_cmp new.numbers q ≡ cond (is_eq (nat_cmp u.index q)) (Some n) (get nat_cmp old.numbers q)) → HasBound old new (Some u)
bound_newly old new u b n are absent items is last updates =
    let us = bound_uris old in
    let uris : bound_uris new ≡ us ++ u ∷ [] = ap (map (λ (x : BoundUri). x.uri)) items ∙ map-append (λ (x : BoundUri). x.uri) old.bound.items (b ∷ []) ∙ ap (λ (v : Uri). us ++ v ∷ []) is in
    let none : place_in us u ≡ None = no_some (place_in us u) (ap is_some (sym (are u)) ∙ absent) in
    let count : length us + 1 ≡ n = omega (arith, last, length-map old.bound.items (λ (x : BoundUri). x.uri)) in
    record {
      numbered = λ v. updates v.index ∙ ap (λ t. cond t (Some n) (get nat_cmp old.numbers v.index)) (same_cmp u.index v.index) ∙ ⊎_elim
          (λ hit.
          let same : u.index ≡ v.index = grind (arith, nat_tests) in
          cond-true (u.index == v.index) (Some n) (get nat_cmp old.numbers v.index) hit ∙ ap (λ m. Some m) (sym count)
          ∙ sym (ap (λ l. place_in l v) uris ∙ place_push us u v ∙ ap (λ o. or_last o (is_uri v u) (length us)) (sym (place_same us u v same) ∙ none) ∙ ap (λ t. or_last None t (length us)) hit))
          (λ miss. cond-false (u.index == v.index) (Some n) (get nat_cmp old.numbers v.index) miss ∙ are v
          ∙ sym (ap (λ l. place_in l v) uris ∙ place_push us u v ∙ ap (λ t. or_last (place_in us v) t (length us)) miss ∙ or_last_not (place_in us v) (length us)))
          (cases_Bool (u.index == v.index));
      bound = uris ∙ sym (cond-false (is_some (place_in us u)) us (us ++ u ∷ []) (ap is_some none));
    }

-- one more term
pub bound_more : (needed : Placed → Option Uri) (ps : List Placed) (i : ℕ) (p : Placed) (old new : Prefixes) → i < length ps → p ≡ get_or ps i p → HasBound old new (needed p)
    → AreBound old (each_once (filter_map needed (take i ps))) → AreBound new (each_once (filter_map needed (take (i + 1) ps)))
bound_more needed ps i p old new within is has are = record {
  numbered = has.numbered;
  bound = has.bound ∙ ap (λ us. with_uri us (needed p)) are.bound ∙ sym (once_more needed ps i p within is);
}

pub copied_some : (o : Option (Bor ℕ)) → is_some (option_copied o) ≡ is_some o
copied_some None = refl
copied_some (Some x) = refl
