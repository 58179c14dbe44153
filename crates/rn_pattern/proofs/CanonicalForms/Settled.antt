-- Looking through as many references as there are definitions settles every name that any number would settle.
use Rattle.std.proofs.Common.{◌≡◌, ◌≢◌, ◌⊎◌, ◌<◌, ◌≤◌, ◌+◌, inl, inr, ⊎_elim, ℕ, zero, suc, Bool, true, false, ◌||◌, cond, List, [], ◌∷◌, ◌++◌, length, Option, Some, None, refl, sym, ap, ◌∙◌, subst, arith, Ordering, Less, Equal, Greater}
use Rattle.std.specs.Prelude.{flat_map, bytes_eq, ⊤}
use Rattle.std.specs.Option.{option_map_or}
use Rattle.std.specs.Ordering.{match_ordering}
use Rattle.std.specs.Map.{lookup}
use Rattle.std.specs.Cmp.Lexicographic.{bytes_decides}
use Rattle.std.proofs.Math.Path.{fun_ext}
use Rattle.std.proofs.lemmas.Bool.{false≢true, or_right}
use Rattle.rn_pattern.specs.Tree.{Parameters, NameTree, Tree, Trees, not_allowed, empty, text, ref, value, datum, datum_but, list, attribute, element, one_or_more, group, interleave, choice, no_trees, more_trees, list_of}
use Rattle.rn_text.specs.Texts.{Text}
use Rattle.rn_pattern.specs.Order.{tree_cmp}
use Rattle.rn_pattern.specs.Matching.{Grammar, definition_of}
use Rattle.rn_pattern.specs.Canonical.{put, sorted, sorted_once, canonical_name, node_of, is_not_allowed, has_not_allowed, alternatives, grouped, interleaved, choice_step, group_step, interleave_step, one_or_more_step, list_step, attribute_step, datum_but_step, canonical, canonical_all, ref_unless_settled, settled_within}
use Rattle.rn_pattern.specs.References.{RefersOutside, SomeRefersOutside}
use Rattle.rn_pattern.proofs.Ordered.Ascending.{each_front, each_behind, each_unsorted_once}
use Rattle.rn_pattern.proofs.Ordered.Orders.{tree_same}
use Rattle.rn_pattern.proofs.CanonicalForms.CanonicalForm.{Member, each_allowed, flat_choice, flat_group, flat_interleave, canonical_all_are}
use Rattle.rn_pattern.proofs.Ordered.Ascending.{each_sorted, each_sorted_once}
use Rattle.std.specs.List.{AllByRecursion}
use Rattle.rn_pattern.specs.CanonicalShape.{is_several, may_choose, may_group, may_interleave, IsCanonical, AnyName, IsCanonicalPattern}
use Rattle.std.specs.List.Sorted.{IsStrictlySortedBy}

-- notAllowed and empty, the patterns that stand for a reference
abbrev pub is_settled : Tree → Bool
is_settled not_allowed = true
is_settled empty = true
is_settled p = false

-- q is p, if p is settled
abbrev pub Firm : Tree → Tree → Type 0
Firm p q = is_settled p ≡ true → q ≡ p

abbrev Firms : List Tree → List Tree → Type 0
Firms [] [] = ⊤
Firms [] (q ∷ qs) = ⊥
Firms (p ∷ ps) [] = ⊥
Firms (p ∷ ps) (q ∷ qs) = Firm p q × Firms ps qs

list_firm : (p q : Tree) → Firm p q → Firm (list_step p) (list_step q)
list_firm not_allowed q f e = ap list_step (f refl)
list_firm p q f e = absurd (false≢true e)

attribute_firm : (c : NameTree) (p q : Tree) → Firm p q → Firm (attribute_step c p) (attribute_step c q)
attribute_firm c not_allowed q f e = ap (attribute_step c) (f refl)
attribute_firm c p q f e = absurd (false≢true e)

one_or_more_firm : (p q : Tree) → Firm p q → Firm (one_or_more_step p) (one_or_more_step q)
one_or_more_firm not_allowed q f e = ap one_or_more_step (f refl)
one_or_more_firm empty q f e = ap one_or_more_step (f refl)
one_or_more_firm p q f e = absurd (false≢true e)

datum_but_firm : (l x : Text) (ps : Parameters) (p q : Tree) → Firm (datum_but_step l x ps p) q
datum_but_firm l x ps not_allowed q e = absurd (false≢true e)
datum_but_firm l x ps p q e = absurd (false≢true e)

-- all of them are settled, so the others are the same
abbrev AllSettled : List Tree → Type 0
AllSettled = AllByRecursion (λ p. is_settled p ≡ true)

firms_same : (ps qs : List Tree) → Firms ps qs → AllSettled ps → qs ≡ ps
firms_same [] [] f h = refl
firms_same [] (q ∷ qs) f h = absurd f
firms_same (p ∷ ps) [] f h = absurd f
firms_same (p ∷ ps) (q ∷ qs) f h = let e = f.0 h.0 in let r = firms_same ps qs f.1 h.1 in λ i. e i ∷ r i

is_none : (p : Tree) → is_not_allowed p ≡ true → p ≡ not_allowed
is_none not_allowed e = refl
is_none p e = absurd (false≢true e)

none_at : (b : Bool) (p q : Tree) (ps qs : List Tree) → is_not_allowed p ≡ b → Firm p q → (has_not_allowed ps ≡ true → has_not_allowed qs ≡ true) → (b || has_not_allowed ps) ≡ true → (is_not_allowed q || has_not_allowed qs) ≡ true
none_at true p q ps qs e f ih h =
    let n : p ≡ not_allowed = is_none p e in
    let m : q ≡ not_allowed = f (ap is_settled n) ∙ n in
    ap (λ t. is_not_allowed t || has_not_allowed qs) m
none_at false p q ps qs e f ih h = or_right (is_not_allowed q) (has_not_allowed qs) (ih h)

firms_none : (ps qs : List Tree) → Firms ps qs → has_not_allowed ps ≡ true → has_not_allowed qs ≡ true
firms_none [] [] f h = h
firms_none [] (q ∷ qs) f h = absurd f
firms_none (p ∷ ps) [] f h = absurd f
firms_none (p ∷ ps) (q ∷ qs) f h = none_at (is_not_allowed p) p q ps qs refl f.0 (firms_none ps qs f.1) h

-- a node over members that may stand in it is settled where there is none
group_is_solid : (p : Tree) → may_group p ≡ true → is_settled p ≡ false
group_is_solid not_allowed e = absurd (false≢true e)
group_is_solid empty e = absurd (false≢true e)
group_is_solid p e = refl

interleave_is_solid : (p : Tree) → may_interleave p ≡ true → is_settled p ≡ false
interleave_is_solid not_allowed e = absurd (false≢true e)
interleave_is_solid empty e = absurd (false≢true e)
interleave_is_solid p e = refl

no_group : (ps : List Tree) → AllByRecursion (Member AnyName may_group) ps → is_settled (node_of empty group ps) ≡ true → ps ≡ []
no_group [] h e = refl
no_group (p ∷ []) h e = absurd (false≢true (sym (group_is_solid p h.0.1) ∙ e))
no_group (p ∷ q ∷ ps) h e = absurd (false≢true e)

no_interleave : (ps : List Tree) → AllByRecursion (Member AnyName may_interleave) ps → is_settled (node_of empty interleave ps) ≡ true → ps ≡ []
no_interleave [] h e = refl
no_interleave (p ∷ []) h e = absurd (false≢true (sym (interleave_is_solid p h.0.1) ∙ e))
no_interleave (p ∷ q ∷ ps) h e = absurd (false≢true e)

no_front : {X : Type 0} (xs ys : List X) → xs ++ ys ≡ [] → (xs ≡ []) × (ys ≡ [])
no_front [] ys e = (refl, e)
no_front (x ∷ xs) ys e = cc

none_several : (ps : Trees) → is_several (list_of ps) ≡ true → list_of ps ≢ []
none_several no_trees e h = false≢true e
none_several (more_trees p ps) e h = cc

empty_group : (p : Tree) → IsCanonicalPattern p → grouped p ≡ [] → is_settled p ≡ true
empty_group empty h e = refl
empty_group (group ps) h e = absurd (none_several ps h.1 e)
empty_group p h e = cc

empty_interleave : (p : Tree) → IsCanonicalPattern p → interleaved p ≡ [] → is_settled p ≡ true
empty_interleave empty h e = refl
empty_interleave (interleave ps) h e = absurd (none_several ps h.1 e)
empty_interleave p h e = cc

all_empty : (f : Tree → List Tree) → ((p : Tree) → IsCanonicalPattern p → f p ≡ [] → is_settled p ≡ true) → (ps : List Tree) → AllByRecursion IsCanonicalPattern ps → flat_map f ps ≡ [] → AllSettled ps
all_empty f to [] h e = tt
all_empty f to (p ∷ ps) h e = let (a, b) = no_front (f p) (flat_map f ps) e in (to p h.0 a, all_empty f to ps h.1 b)

put_some_at : (o : Ordering) (x y : Tree) (ys zs : List Tree) → match_ordering o (x ∷ y ∷ ys) (x ∷ y ∷ ys) (y ∷ zs) ≢ []
put_some_at Less x y ys zs e = cc
put_some_at Equal x y ys zs e = cc
put_some_at Greater x y ys zs e = cc

put_some : (x : Tree) (ys : List Tree) → put tree_cmp x ys ≢ []
put_some x [] e = cc
put_some x (y ∷ ys) e = put_some_at (tree_cmp x y) x y ys (put tree_cmp x ys) e

sorted_none : (ps : List Tree) → sorted tree_cmp ps ≡ [] → ps ≡ []
sorted_none [] e = refl
sorted_none (p ∷ ps) e = absurd (put_some p (sorted tree_cmp ps) e)

group_firm_at : (b : Bool) (ps qs : List Tree) → has_not_allowed ps ≡ b → AllByRecursion IsCanonicalPattern ps → Firms ps qs → is_settled (cond b not_allowed (node_of empty group (flat_map grouped ps))) ≡ true → group_step qs ≡ group_step ps
group_firm_at true ps qs n h f e =
    ap (λ b. cond b not_allowed (node_of empty group (flat_map grouped qs))) (firms_none ps qs f n) ∙ sym (ap (λ b. cond b not_allowed (node_of empty group (flat_map grouped ps))) n)
group_firm_at false ps qs n h f e =
    ap group_step (firms_same ps qs f (all_empty grouped empty_group ps h (no_group (flat_map grouped ps) (flat_group AnyName ps (each_allowed AnyName ps h n)) e)))

group_firm : (ps qs : List Tree) → AllByRecursion IsCanonicalPattern ps → Firms ps qs → Firm (group_step ps) (group_step qs)
group_firm ps qs h f e = group_firm_at (has_not_allowed ps) ps qs refl h f e

interleave_firm_at : (b : Bool) (ps qs : List Tree) → has_not_allowed ps ≡ b → AllByRecursion IsCanonicalPattern ps → Firms ps qs → is_settled (cond b not_allowed (node_of empty interleave (sorted tree_cmp (flat_map interleaved ps)))) ≡ true → interleave_step qs ≡ interleave_step ps
interleave_firm_at true ps qs n h f e =
    ap (λ b. cond b not_allowed (node_of empty interleave (sorted tree_cmp (flat_map interleaved qs)))) (firms_none ps qs f n) ∙ sym (ap (λ b. cond b not_allowed (node_of empty interleave (sorted tree_cmp (flat_map interleaved ps)))) n)
interleave_firm_at false ps qs n h f e =
    let flat = flat_map interleaved ps in
    let members = each_sorted (Member AnyName may_interleave) tree_cmp flat (flat_interleave AnyName ps (each_allowed AnyName ps h n)) in
    ap interleave_step (firms_same ps qs f (all_empty interleaved empty_interleave ps h (sorted_none flat (no_interleave (sorted tree_cmp flat) members e))))

interleave_firm : (ps qs : List Tree) → AllByRecursion IsCanonicalPattern ps → Firms ps qs → Firm (interleave_step ps) (interleave_step qs)
interleave_firm ps qs h f e = interleave_firm_at (has_not_allowed ps) ps qs refl h f e

-- a choice is settled where its members are empty
abbrev AllEmpty : List Tree → Type 0
AllEmpty = AllByRecursion (λ p. p ≡ empty)

choice_empty : (p : Tree) → may_choose p ≡ true → is_settled p ≡ true → p ≡ empty
choice_empty not_allowed m e = absurd (false≢true m)
choice_empty empty m e = refl
choice_empty p m e = absurd (false≢true e)

empty_choice : (ps : List Tree) → AllByRecursion (Member AnyName may_choose) ps → is_settled (node_of not_allowed choice ps) ≡ true → AllEmpty ps
empty_choice [] h e = tt
empty_choice (p ∷ []) h e = (choice_empty p h.0.1 e, tt)
empty_choice (p ∷ q ∷ ps) h e = absurd (false≢true e)

climbs_apart : (ps : Trees) → is_several (list_of ps) ≡ true → IsStrictlySortedBy tree_cmp (list_of ps) → ¬ AllEmpty (list_of ps)
unfolding IsStrictlySortedBy
climbs_apart no_trees e k h = false≢true e
climbs_apart (more_trees p no_trees) e k h = false≢true e
climbs_apart (more_trees p (more_trees q ps)) e k h =
    let same : Equal ≡ Less = sym (λ i. tree_cmp (h.0 i) (h.1.0 i)) ∙ k.0.0 in
    cc

settled_choice : (p : Tree) → IsCanonicalPattern p → AllEmpty (alternatives p) → is_settled p ≡ true
settled_choice not_allowed h e = refl
settled_choice (choice ps) h e = absurd (climbs_apart ps h.1 h.2 e)
settled_choice p h e = ap is_settled e.0

all_settled : (ps : List Tree) → AllByRecursion IsCanonicalPattern ps → AllEmpty (flat_map alternatives ps) → AllSettled ps
all_settled [] h e = tt
all_settled (p ∷ ps) h e = (
  settled_choice p h.0 (each_front (λ q. q ≡ empty) (alternatives p) (flat_map alternatives ps) e),
  all_settled ps h.1 (each_behind (λ q. q ≡ empty) (alternatives p) (flat_map alternatives ps) e),
)

choice_firm : (ps qs : List Tree) → AllByRecursion IsCanonicalPattern ps → Firms ps qs → Firm (choice_step ps) (choice_step qs)
choice_firm ps qs h f e =
    let flat = flat_map alternatives ps in
    let members = each_sorted_once (Member AnyName may_choose) tree_cmp flat (flat_choice AnyName ps h) in
    ap choice_step (firms_same ps qs f (all_settled ps h (each_unsorted_once (λ q. q ≡ empty) tree_cmp tree_same flat (empty_choice (sorted_once tree_cmp flat) members e))))

module _ (s t : Text → Tree) (forms : (x : Text) → IsCanonicalPattern (s x)) where
  mutual
    -- what is settled stays settled where more references are, and what stands inside elements is no matter
    pub canonical_firm : (p : Tree) → ((x : Text) → RefersOutside x p → Firm (s x) (t x)) → Firm (canonical s p) (canonical t p)
    canonical_firm not_allowed f = λ e. refl
    canonical_firm empty f = λ e. refl
    canonical_firm text f = λ e. absurd (false≢true e)
    canonical_firm (ref x) f = f x refl
    canonical_firm (value l x v) f = λ e. absurd (false≢true e)
    canonical_firm (datum l x ps) f = λ e. absurd (false≢true e)
    canonical_firm (datum_but l x ps p) f = datum_but_firm l x ps (canonical s p) (canonical t (datum_but l x ps p))
    canonical_firm (list p) f = list_firm (canonical s p) (canonical t p) (canonical_firm p f)
    canonical_firm (attribute c p) f = attribute_firm (canonical_name c) (canonical s p) (canonical t p) (canonical_firm p f)
    canonical_firm (element c p) f = λ e. absurd (false≢true e)
    canonical_firm (one_or_more p) f = one_or_more_firm (canonical s p) (canonical t p) (canonical_firm p f)
    canonical_firm (group ps) f = group_firm (canonical_all s ps) (canonical_all t ps) (canonical_all_are AnyName s forms ps) (canonical_all_firm ps f)
    canonical_firm (interleave ps) f = interleave_firm (canonical_all s ps) (canonical_all t ps) (canonical_all_are AnyName s forms ps) (canonical_all_firm ps f)
    canonical_firm (choice ps) f = choice_firm (canonical_all s ps) (canonical_all t ps) (canonical_all_are AnyName s forms ps) (canonical_all_firm ps f)

    canonical_all_firm : (ps : Trees) → ((x : Text) → SomeRefersOutside x ps → Firm (s x) (t x)) → Firms (canonical_all s ps) (canonical_all t ps)
    canonical_all_firm no_trees f = tt
    canonical_all_firm (more_trees p ps) f = (canonical_firm p (λ x h. f x (inl h)), canonical_all_firm ps (λ x h. f x (inr h)))

stand_in_firm : (x : Text) (p q : Tree) → Firm p q → Firm (ref_unless_settled x p) (ref_unless_settled x q)
stand_in_firm x not_allowed q f e = ap (ref_unless_settled x) (f refl)
stand_in_firm x empty q f e = ap (ref_unless_settled x) (f refl)
stand_in_firm x p q f e = absurd (false≢true e)

-- a stand-in is the reference, or settled
stand_in_canonical : (Named : Text → Type 0) (x : Text) (p : Tree) → (ref_unless_settled x p ≡ ref x → Named x) → IsCanonical Named (ref_unless_settled x p)
stand_in_canonical Named x not_allowed h = tt
stand_in_canonical Named x empty h = tt
stand_in_canonical Named x p h = h refl

stand_in_ref : (x : Text) (p : Tree) → is_settled (ref_unless_settled x p) ≡ false → ref_unless_settled x p ≡ ref x
stand_in_ref x not_allowed e = absurd (false≢true (sym e))
stand_in_ref x empty e = absurd (false≢true (sym e))
stand_in_ref x p e = refl

pub stand_in_solid : (x : Text) (p : Tree) → ref_unless_settled x p ≡ ref x → is_settled p ≡ false
stand_in_solid x not_allowed e = cc
stand_in_solid x empty e = cc
stand_in_solid x p e = refl

pub solid_stand_in : (x : Text) (p : Tree) → is_settled p ≡ false → ref_unless_settled x p ≡ ref x
solid_stand_in x not_allowed e = absurd (false≢true (sym e))
solid_stand_in x empty e = absurd (false≢true (sym e))
solid_stand_in x p e = refl

module _ (G : Grammar) where
  abbrev pub next : (Text → Tree) → Text → Option Tree → Tree
  next s x o = option_map_or (λ p. ref_unless_settled x (canonical s p)) o (ref x)

  next_canonical : (Named : Text → Type 0) (s : Text → Tree) (x : Text) (o : Option Tree) → (next s x o ≡ ref x → Named x) → IsCanonical Named (next s x o)
  next_canonical Named s x None h = h refl
  next_canonical Named s x (Some p) h = stand_in_canonical Named x (canonical s p) h

  -- what a reference becomes is canonical, and refers to names that stay
  pub settled_canonical : (Named : Text → Type 0) (k : ℕ) (x : Text) → (settled_within k G x ≡ ref x → Named x) → IsCanonical Named (settled_within k G x)
  settled_canonical Named zero x h = h refl
  settled_canonical Named (suc k) x h = next_canonical Named (settled_within k G) x (definition_of G x) h

  next_firm : (s t : Text → Tree) (x : Text) (o : Option Tree) → ((p : Tree) → Firm (canonical s p) (canonical t p)) → Firm (next s x o) (next t x o)
  next_firm s t x None f e = absurd (false≢true e)
  next_firm s t x (Some p) f e = stand_in_firm x (canonical s p) (canonical t p) (f p) e

  settled_firm : (k : ℕ) (x : Text) → Firm (settled_within k G x) (settled_within (suc k) G x)
  settled_firm zero x e = absurd (false≢true e)
  settled_firm (suc k) x e =
      next_firm (settled_within k G) (settled_within (suc k) G) x (definition_of G x)
      (λ p. canonical_firm (settled_within k G) (settled_within (suc k) G) (λ y. settled_canonical AnyName k y (λ _. tt)) p (λ y _. settled_firm k y)) e

  next_ref : (s : Text → Tree) (x : Text) (o : Option Tree) → is_settled (next s x o) ≡ false → next s x o ≡ ref x
  next_ref s x None e = refl
  next_ref s x (Some p) e = stand_in_ref x (canonical s p) e

  unsettled_ref : (k : ℕ) (x : Text) → is_settled (settled_within k G x) ≡ false → settled_within k G x ≡ ref x
  unsettled_ref zero x e = refl
  unsettled_ref (suc k) x e = next_ref (settled_within k G) x (definition_of G x) e

  abbrev Stays : ℕ → Text → Type 0
  Stays k x = settled_within (suc k) G x ≡ settled_within k G x

  -- nothing more is settled by one more
  abbrev Stable : ℕ → Type 0
  Stable k = (x : Text) → Stays k x

  stable_on : (k : ℕ) → Stable k → Stable (suc k)
  stable_on k h x = ap (λ s. next s x (definition_of G x)) (fun_ext h)

  abbrev weight : ℕ → Text → ℕ
  weight k x = cond (is_settled (settled_within k G x)) 1 0

  abbrev count : ℕ → List (Text × Tree) → ℕ
  count k [] = 0
  count k (d ∷ ds) = weight k d.0 + count k ds

  count_most : (k : ℕ) (ds : List (Text × Tree)) → count k ds ≤ length ds
  count_most k [] = omega arith
  count_most k (d ∷ ds) = at (is_settled (settled_within k G d.0)) (count_most k ds)
    where
      at : (b : Bool) → count k ds ≤ length ds → cond b 1 0 + count k ds ≤ length (d ∷ ds)
      at true h = omega (arith, h)
      at false h = omega (arith, h)

  grows_at : (k : ℕ) (x : Text) (a b : Bool) → is_settled (settled_within k G x) ≡ a → is_settled (settled_within (suc k) G x) ≡ b → (cond a 1 0 < cond {A = ℕ} b 1 0) ⊎ ((cond {A = ℕ} a 1 0 ≡ cond b 1 0) × Stays k x)
  grows_at k x true true e f = inr (refl, settled_firm k x e)
  grows_at k x true false e f = absurd (false≢true (sym f ∙ ap is_settled (settled_firm k x e) ∙ e))
  grows_at k x false true e f = inl (omega arith)
  grows_at k x false false e f = inr (refl, unsettled_ref (suc k) x f ∙ sym (unsettled_ref k x e))

  grows_more : (k : ℕ) (d : Text × Tree) (ds : List (Text × Tree)) → (weight k d.0 < weight (suc k) d.0) ⊎ ((weight k d.0 ≡ weight (suc k) d.0) × Stays k d.0) → (count k ds < count (suc k) ds) ⊎ ((count k ds ≡ count (suc k) ds) × AllByRecursion (λ e. Stays k e.0) ds)
      → (count k (d ∷ ds) < count (suc k) (d ∷ ds)) ⊎ ((count k (d ∷ ds) ≡ count (suc k) (d ∷ ds)) × AllByRecursion (λ e. Stays k e.0) (d ∷ ds))
  grows_more k d ds (inl h) (inl g) = inl (omega (arith, h, g))
  grows_more k d ds (inl h) (inr g) = inl (omega (arith, h, g.0))
  grows_more k d ds (inr h) (inl g) = inl (omega (arith, h.0, g))
  grows_more k d ds (inr h) (inr g) = inr (omega (arith, h.0, g.0), (h.1, g.1))

  -- one more reference settles another name, or nothing
  grows : (k : ℕ) (ds : List (Text × Tree)) → (count k ds < count (suc k) ds) ⊎ ((count k ds ≡ count (suc k) ds) × AllByRecursion (λ e. Stays k e.0) ds)
  grows k [] = inr (refl, tt)
  grows k (d ∷ ds) = grows_more k d ds (grows_at k d.0 (is_settled (settled_within k G d.0)) (is_settled (settled_within (suc k) G d.0)) refl refl) (grows k ds)

  holds_or_none_at : (P : Text → Type 0) (x y : Text) (p : Tree) (b : Bool) (o : Option Tree) → bytes_eq x y ≡ b → P y → P x ⊎ (o ≡ None) → P x ⊎ (cond b (Some p) o ≡ None)
  holds_or_none_at P x y p true o e h k = inl (subst P (sym ((bytes_decides x y).0 e)) h)
  holds_or_none_at P x y p false o e h k = k

  holds_or_none : (P : Text → Type 0) (x : Text) (ds : List (Text × Tree)) → AllByRecursion (λ e. P e.0) ds → P x ⊎ (lookup (bytes_eq x) ds ≡ None)
  holds_or_none P x [] h = inr refl
  holds_or_none P x (d ∷ ds) h = holds_or_none_at P x d.0 d.1 (bytes_eq x d.0) (lookup (bytes_eq x) ds) refl h.0 (holds_or_none P x ds h.1)

  undefined : (k : ℕ) (x : Text) → definition_of G x ≡ None → settled_within k G x ≡ ref x
  undefined zero x e = refl
  undefined (suc k) x e = ap (next (settled_within k G) x) e

  stable_from : (k : ℕ) → AllByRecursion (λ e. Stays k e.0) G.definitions → Stable k
  stable_from k h x = ⊎_elim (λ e. e) (λ n. undefined (suc k) x n ∙ sym (undefined k x n)) (holds_or_none (Stays k) x G.definitions h)

  stable_or : (k : ℕ) → Stable k ⊎ (k ≤ count k G.definitions)
  stable_or zero = inr (omega arith)
  stable_or (suc k) = ⊎_elim (λ h. inl (stable_on k h)) (λ h. ⊎_elim (λ g. inr (omega (arith, h, g))) (λ g. inl (stable_on k (stable_from k g.1))) (grows k G.definitions)) (stable_or k)

  -- as many references as there are definitions settle all
  pub stable : Stable (length G.definitions)
  stable = ⊎_elim (λ h. h) (λ h. ⊎_elim (λ g. absurd (omega (arith, h, g, count_most (suc (length G.definitions)) G.definitions))) (λ g. stable_from (length G.definitions) g.1) (grows (length G.definitions) G.definitions)) (stable_or (length G.definitions))

  stable_behind : (j : ℕ) → Stable (length G.definitions + j)
  stable_behind zero = let e : length G.definitions ≡ length G.definitions + zero = omega arith in subst Stable e stable
  stable_behind (suc j) = let e : suc (length G.definitions + j) ≡ length G.definitions + suc j = omega arith in subst Stable e (stable_on (length G.definitions + j) (stable_behind j))

  -- any more settle no more
  pub settling_ends : (j : ℕ) (x : Text) → settled_within (length G.definitions + j) G x ≡ settled_within (length G.definitions) G x
  settling_ends zero x = let e : length G.definitions + zero ≡ length G.definitions = omega arith in ap (λ k. settled_within k G x) e
  settling_ends (suc j) x =
      let e : length G.definitions + suc j ≡ suc (length G.definitions + j) = omega arith in
      ap (λ k. settled_within k G x) e ∙ stable_behind j x ∙ settling_ends j x

  -- the definition of a name that stays is not settled
  pub definition_solid : (x : Text) (p : Tree) → definition_of G x ≡ Some p → settled_within (length G.definitions) G x ≡ ref x → is_settled (canonical (settled_within (length G.definitions) G) p) ≡ false
  definition_solid x p e r =
      stand_in_solid x (canonical (settled_within (length G.definitions) G) p) (sym (ap (next (settled_within (length G.definitions) G) x) e) ∙ stable x ∙ r)
