-- What a pattern is evaluated as is the kind of its canonical form.
use Rattle.std.proofs.Common.{◌≡◌, Bool, true, false, cond, List, [], ◌∷◌, ◌++◌, ◌+◌, ◌<◌, ℕ, length, map, take, get_or, flat_map, refl, sym, ap, ◌∙◌, Ordering, Less, Equal, Greater}
use Rattle.std.specs.Ordering.{match_ordering}
use Rattle.std.specs.List.{AllByRecursion}
use Rattle.std.specs.List.Sorted.{IsStrictlySortedBy}
use Rattle.std.specs.declared.alloc.Global.{Global}
use Rattle.std.specs.declared.rc.Rc.{Rc}
use Rattle.std.proofs.lemmas.Bool.{false≢true}
use Rattle.std.proofs.lemmas.List.{take_more, map-append}
use Rattle.rn_pattern.specs.Tree as t
use Rattle.rn_pattern.specs.Tree.{Parameters, NameTree, Tree, Trees, no_trees, more_trees, list_of, trees_of}
use Rattle.rn_text.specs.Texts.{Text}
use Rattle.rn_pattern.specs.Order.{tree_cmp}
use Rattle.rn_pattern.specs.Canonical.{put, put_once, sorted, sorted_once, node_of, is_not_allowed, has_not_allowed, alternatives, grouped, interleaved, choice_step, one_or_more_step, list_step, attribute_step, datum_but_step, canonical, canonical_all, canonical_name, ref_unless_settled}
use Rattle.rn_pattern.specs.CanonicalShape.{is_several, may_choose, may_group, may_interleave, IsCanonicalPattern, AnyName}
use Rattle.rn_pattern.specs.View.{shared_view, shared_trees}
use Rattle.rn_pattern.specs.declared.tree.Pattern.{Pattern}
use Rattle.rn_pattern.proofs.Ordered.Ascending.{each_sorted, each_sorted_once, climbs_sorted_once}
use Rattle.rn_pattern.proofs.CanonicalForms.CanonicalForm.{Member, members_list, each_allowed, flat_choice, flat_group, flat_interleave, canonical_all_are}
use Rattle.rn_pattern.proofs.Ordered.Orders.{tree_same}
use Rattle.rn_pattern.proofs.Ordered.TotalOrder.{tree_cmp_total}
use Rattle.rn_simplify.specs.inside.FormKinds.{kind_of, stand_in, around, both, either, tree_kind, group_kind, choice_kind, kind_at, becomes_by}
use Rattle.rn_simplify.specs.declared.form_kind.FormKind.{FormKind}

-- ---- what stands for a reference

pub stand_in_canonical : (w : FormKind) (x : Text) → IsCanonicalPattern (stand_in w x)
stand_in_canonical FormKind.NotAllowed x = tt
stand_in_canonical FormKind.Empty x = tt
stand_in_canonical FormKind.Other x = tt

pub settled_canonical : (ds : List (Text × Tree)) (kinds : List FormKind) (x : Text) → IsCanonicalPattern (becomes_by ds kinds x)
settled_canonical ds kinds x = stand_in_canonical (kind_at ds kinds x) x

stand_in_kind : (w : FormKind) (x : Text) → kind_of (stand_in w x) ≡ w
stand_in_kind FormKind.NotAllowed x = refl
stand_in_kind FormKind.Empty x = refl
stand_in_kind FormKind.Other x = refl

pub stand_in_is : (x : Text) (p : Tree) → stand_in (kind_of p) x ≡ ref_unless_settled x p
stand_in_is x t.not_allowed = refl
stand_in_is x t.empty = refl
stand_in_is x p = refl

-- ---- rules of the table

pub around_twice : (a : FormKind) → around (around a) ≡ around a
around_twice FormKind.NotAllowed = refl
around_twice FormKind.Empty = refl
around_twice FormKind.Other = refl

both_around : (a b : FormKind) → both (around a) b ≡ around (both a b)
both_around FormKind.NotAllowed b = refl
both_around FormKind.Empty b = refl
both_around FormKind.Other b = sym (around_twice b)

pub both_assoc : (a b c : FormKind) → both a (both b c) ≡ both (both a b) c
both_assoc FormKind.NotAllowed b c = refl
both_assoc FormKind.Empty b c = refl
both_assoc FormKind.Other b c = sym (both_around b c)

both_empty : (a : FormKind) → both a FormKind.Empty ≡ a
both_empty FormKind.NotAllowed = refl
both_empty FormKind.Empty = refl
both_empty FormKind.Other = refl

both_none : (a : FormKind) → both a FormKind.NotAllowed ≡ FormKind.NotAllowed
both_none FormKind.NotAllowed = refl
both_none FormKind.Empty = refl
both_none FormKind.Other = refl

either_none : (a : FormKind) → either a FormKind.NotAllowed ≡ a
either_none FormKind.NotAllowed = refl
either_none FormKind.Empty = refl
either_none FormKind.Other = refl

pub either_assoc : (a b c : FormKind) → either a (either b c) ≡ either (either a b) c
either_assoc FormKind.NotAllowed b c = refl
either_assoc FormKind.Other b c = refl
either_assoc FormKind.Empty FormKind.NotAllowed c = refl
either_assoc FormKind.Empty FormKind.Other c = refl
either_assoc FormKind.Empty FormKind.Empty FormKind.NotAllowed = refl
either_assoc FormKind.Empty FormKind.Empty FormKind.Empty = refl
either_assoc FormKind.Empty FormKind.Empty FormKind.Other = refl

either_swap : (a b c : FormKind) → either a (either b c) ≡ either b (either a c)
either_swap FormKind.NotAllowed b c = refl
either_swap FormKind.Empty FormKind.NotAllowed c = refl
either_swap FormKind.Empty FormKind.Empty c = refl
either_swap FormKind.Empty FormKind.Other c = refl
either_swap FormKind.Other FormKind.NotAllowed c = refl
either_swap FormKind.Other FormKind.Empty c = refl
either_swap FormKind.Other FormKind.Other c = refl

pub either_twice : (a b : FormKind) → either a (either a b) ≡ either a b
either_twice FormKind.NotAllowed b = refl
either_twice FormKind.Empty FormKind.NotAllowed = refl
either_twice FormKind.Empty FormKind.Empty = refl
either_twice FormKind.Empty FormKind.Other = refl
either_twice FormKind.Other b = refl

-- ---- lists of canonical patterns

abbrev all_of : List Tree → FormKind
all_of [] = FormKind.Empty
all_of (p ∷ ps) = both (kind_of p) (all_of ps)

abbrev any_of : List Tree → FormKind
any_of [] = FormKind.NotAllowed
any_of (p ∷ ps) = either (kind_of p) (any_of ps)

-- a list of members none of which is notAllowed or empty
abbrev of_solid : List Tree → FormKind
of_solid [] = FormKind.Empty
of_solid (p ∷ ps) = FormKind.Other

other_solid : (ps : List Tree) → around (of_solid ps) ≡ FormKind.Other
other_solid [] = refl
other_solid (p ∷ ps) = refl

all_none : (ps : List Tree) → has_not_allowed ps ≡ true → all_of ps ≡ FormKind.NotAllowed
all_none [] h = absurd (false≢true h)
all_none (t.not_allowed ∷ ps) h = refl
all_none (p ∷ ps) h = ap (both (kind_of p)) (all_none ps h) ∙ both_none (kind_of p)

several_solid : (ps : Trees) (qs : List Tree) → is_several (list_of ps) ≡ true → of_solid (list_of ps ++ qs) ≡ FormKind.Other
several_solid no_trees qs h = absurd (false≢true h)
several_solid (more_trees p ps) qs h = refl

group_front : (p : Tree) (qs : List Tree) → IsCanonicalPattern p → is_not_allowed p ≡ false → both (kind_of p) (of_solid qs) ≡ of_solid (grouped p ++ qs)
group_front t.not_allowed qs h k = absurd (false≢true (sym k))
group_front t.empty qs h k = refl
group_front (t.group ps) qs h k = other_solid qs ∙ sym (several_solid ps qs h.1)
group_front p qs h k = other_solid qs

interleave_front : (p : Tree) (qs : List Tree) → IsCanonicalPattern p → is_not_allowed p ≡ false → both (kind_of p) (of_solid qs) ≡ of_solid (interleaved p ++ qs)
interleave_front t.not_allowed qs h k = absurd (false≢true (sym k))
interleave_front t.empty qs h k = refl
interleave_front (t.interleave ps) qs h k = other_solid qs ∙ sym (several_solid ps qs h.1)
interleave_front p qs h k = other_solid qs

abbrev Allowed : Tree → Type 0
Allowed p = IsCanonicalPattern p × (is_not_allowed p ≡ false)

all_solid : (f : Tree → List Tree) → ((p : Tree) (qs : List Tree) → IsCanonicalPattern p → is_not_allowed p ≡ false → both (kind_of p) (of_solid qs) ≡ of_solid (f p ++ qs))
    → (ps : List Tree) → AllByRecursion Allowed ps → all_of ps ≡ of_solid (flat_map f ps)
all_solid f front [] h = refl
all_solid f front (p ∷ ps) h = ap (both (kind_of p)) (all_solid f front ps h.1) ∙ front p (flat_map f ps) h.0.0 h.0.1

-- a node over members that may stand in it
one_group : (p : Tree) → may_group p ≡ true → kind_of p ≡ FormKind.Other
one_group t.not_allowed h = absurd (false≢true h)
one_group t.empty h = absurd (false≢true h)
one_group p h = refl

one_interleave : (p : Tree) → may_interleave p ≡ true → kind_of p ≡ FormKind.Other
one_interleave t.not_allowed h = absurd (false≢true h)
one_interleave t.empty h = absurd (false≢true h)
one_interleave p h = refl

group_solid : (ps : List Tree) → AllByRecursion (Member AnyName may_group) ps → kind_of (node_of t.empty t.group ps) ≡ of_solid ps
group_solid [] h = refl
group_solid (p ∷ []) h = one_group p h.0.1
group_solid (p ∷ q ∷ ps) h = refl

interleave_solid : (ps : List Tree) → AllByRecursion (Member AnyName may_interleave) ps → kind_of (node_of t.empty t.interleave ps) ≡ of_solid ps
interleave_solid [] h = refl
interleave_solid (p ∷ []) h = one_interleave p h.0.1
interleave_solid (p ∷ q ∷ ps) h = refl

put_solid_at : (o : Ordering) (x y : Tree) (ys zs : List Tree) → of_solid (match_ordering o (x ∷ y ∷ ys) (x ∷ y ∷ ys) (y ∷ zs)) ≡ FormKind.Other
put_solid_at Less x y ys zs = refl
put_solid_at Equal x y ys zs = refl
put_solid_at Greater x y ys zs = refl

put_solid : (x : Tree) (ys : List Tree) → of_solid (put tree_cmp x ys) ≡ FormKind.Other
put_solid x [] = refl
put_solid x (y ∷ ys) = put_solid_at (tree_cmp x y) x y ys (put tree_cmp x ys)

sorted_solid : (ps : List Tree) → of_solid (sorted tree_cmp ps) ≡ of_solid ps
sorted_solid [] = refl
sorted_solid (p ∷ ps) = put_solid p (sorted tree_cmp ps)

group_at : (b : Bool) (ps : List Tree) → has_not_allowed ps ≡ b → AllByRecursion IsCanonicalPattern ps → kind_of (cond b t.not_allowed (node_of t.empty t.group (flat_map grouped ps))) ≡ all_of ps
group_at true ps e h = sym (all_none ps e)
group_at false ps e h =
    let allowed = each_allowed AnyName ps h e in
    group_solid (flat_map grouped ps) (flat_group AnyName ps allowed) ∙ sym (all_solid grouped group_front ps allowed)

interleave_at : (b : Bool) (ps : List Tree) → has_not_allowed ps ≡ b → AllByRecursion IsCanonicalPattern ps
    → kind_of (cond b t.not_allowed (node_of t.empty t.interleave (sorted tree_cmp (flat_map interleaved ps)))) ≡ all_of ps
interleave_at true ps e h = sym (all_none ps e)
interleave_at false ps e h =
    let allowed = each_allowed AnyName ps h e in
    let flat = flat_map interleaved ps in
    interleave_solid (sorted tree_cmp flat) (each_sorted (Member AnyName may_interleave) tree_cmp flat (flat_interleave AnyName ps allowed))
    ∙ sorted_solid flat ∙ sym (all_solid interleaved interleave_front ps allowed)

-- of two alternatives in order one is neither notAllowed nor empty
two_other : (p q : Tree) (w : FormKind) → may_choose p ≡ true → may_choose q ≡ true → tree_cmp p q ≡ Less → either (kind_of p) (either (kind_of q) w) ≡ FormKind.Other
two_other t.not_allowed q w h k l = absurd (false≢true h)
two_other t.empty t.not_allowed w h k l = absurd (false≢true k)
two_other t.empty t.empty w h k l = cc
two_other t.empty q w h k l = refl
two_other p q w h k l = refl

several_other : (ps : List Tree) → AllByRecursion (Member AnyName may_choose) ps → is_several ps ≡ true → IsStrictlySortedBy tree_cmp ps → (qs : List Tree) → any_of (ps ++ qs) ≡ FormKind.Other
unfolding IsStrictlySortedBy
several_other [] h e k qs = absurd (false≢true e)
several_other (p ∷ []) h e k qs = absurd (false≢true e)
several_other (p ∷ q ∷ ps) h e k qs = two_other p q (any_of (ps ++ qs)) h.0.1 h.1.0.1 k.0.0

choice_front : (p : Tree) (qs : List Tree) → IsCanonicalPattern p → either (kind_of p) (any_of qs) ≡ any_of (alternatives p ++ qs)
choice_front t.not_allowed qs h = refl
choice_front (t.choice ps) qs h = sym (several_other (list_of ps) (members_list AnyName may_choose ps h.0) h.1 h.2 qs)
choice_front p qs h = refl

any_flat : (ps : List Tree) → AllByRecursion IsCanonicalPattern ps → any_of (flat_map alternatives ps) ≡ any_of ps
any_flat [] h = refl
any_flat (p ∷ ps) h = sym (choice_front p (flat_map alternatives ps) h.0) ∙ ap (either (kind_of p)) (any_flat ps h.1)

put_any_at : (o : Ordering) (x y : Tree) (ys zs : List Tree) → tree_cmp x y ≡ o → any_of zs ≡ either (kind_of x) (any_of ys)
    → any_of (match_ordering o (x ∷ y ∷ ys) (y ∷ ys) (y ∷ zs)) ≡ either (kind_of x) (either (kind_of y) (any_of ys))
put_any_at Less x y ys zs e h = refl
put_any_at Equal x y ys zs e h = sym (either_twice (kind_of y) (any_of ys)) ∙ ap (λ z. either (kind_of z) (either (kind_of y) (any_of ys))) (sym (tree_same x y e))
put_any_at Greater x y ys zs e h = ap (either (kind_of y)) h ∙ either_swap (kind_of y) (kind_of x) (any_of ys)

put_any : (x : Tree) (ys : List Tree) → any_of (put_once tree_cmp x ys) ≡ either (kind_of x) (any_of ys)
put_any x [] = refl
put_any x (y ∷ ys) = put_any_at (tree_cmp x y) x y ys (put_once tree_cmp x ys) refl (put_any x ys)

sorted_any : (ps : List Tree) → any_of (sorted_once tree_cmp ps) ≡ any_of ps
sorted_any [] = refl
sorted_any (p ∷ ps) = put_any p (sorted_once tree_cmp ps) ∙ ap (either (kind_of p)) (sorted_any ps)

choice_node : (ps : List Tree) → AllByRecursion (Member AnyName may_choose) ps → IsStrictlySortedBy tree_cmp ps → kind_of (node_of t.not_allowed t.choice ps) ≡ any_of ps
unfolding IsStrictlySortedBy
choice_node [] h k = refl
choice_node (p ∷ []) h k = sym (either_none (kind_of p))
choice_node (p ∷ q ∷ ps) h k = sym (two_other p q (any_of ps) h.0.1 h.1.0.1 k.0.0)

choice_is : (ps : List Tree) → AllByRecursion IsCanonicalPattern ps → kind_of (choice_step ps) ≡ any_of ps
choice_is ps h =
    let flat = flat_map alternatives ps in
    choice_node (sorted_once tree_cmp flat) (each_sorted_once (Member AnyName may_choose) tree_cmp flat (flat_choice AnyName ps h)) (climbs_sorted_once tree_cmp tree_cmp_total tree_same flat)
    ∙ sorted_any flat ∙ any_flat ps h

-- ---- the other steps

one_or_more_is : (p : Tree) → kind_of (one_or_more_step p) ≡ kind_of p
one_or_more_is t.not_allowed = refl
one_or_more_is t.empty = refl
one_or_more_is (t.one_or_more p) = refl
one_or_more_is p = refl

list_is : (p : Tree) → kind_of (list_step p) ≡ around (kind_of p)
list_is t.not_allowed = refl
list_is t.empty = refl
list_is p = refl

attribute_is : (c : NameTree) (p : Tree) → kind_of (attribute_step c p) ≡ around (kind_of p)
attribute_is c t.not_allowed = refl
attribute_is c t.empty = refl
attribute_is c p = refl

datum_is : (l x : Text) (ps : Parameters) (p : Tree) → kind_of (datum_but_step l x ps p) ≡ FormKind.Other
datum_is l x ps t.not_allowed = refl
datum_is l x ps p = refl

module _ (named : Text → FormKind) where
  abbrev s : Text → Tree
  s x = stand_in (named x) x

  forms : (x : Text) → IsCanonicalPattern (s x)
  forms x = stand_in_canonical (named x) x

  mutual
    pub evaluated_is : (p : Tree) → kind_of (canonical s p) ≡ tree_kind named p
    evaluated_is t.not_allowed = refl
    evaluated_is t.empty = refl
    evaluated_is t.text = refl
    evaluated_is (t.ref x) = stand_in_kind (named x) x
    evaluated_is (t.value l x v) = refl
    evaluated_is (t.datum l x ps) = refl
    evaluated_is (t.datum_but l x ps p) = datum_is l x ps (canonical s p)
    evaluated_is (t.list p) = list_is (canonical s p) ∙ ap around (evaluated_is p)
    evaluated_is (t.attribute c p) = attribute_is (canonical_name c) (canonical s p) ∙ ap around (evaluated_is p)
    evaluated_is (t.element c p) = refl
    evaluated_is (t.one_or_more p) = one_or_more_is (canonical s p) ∙ evaluated_is p
    evaluated_is (t.group ps) = group_at (has_not_allowed (canonical_all s ps)) (canonical_all s ps) refl (canonical_all_are AnyName s forms ps) ∙ all_is ps
    evaluated_is (t.interleave ps) = interleave_at (has_not_allowed (canonical_all s ps)) (canonical_all s ps) refl (canonical_all_are AnyName s forms ps) ∙ all_is ps
    evaluated_is (t.choice ps) = choice_is (canonical_all s ps) (canonical_all_are AnyName s forms ps) ∙ any_is ps

    all_is : (ps : Trees) → all_of (canonical_all s ps) ≡ group_kind named ps
    all_is no_trees = refl
    all_is (more_trees p ps) = (λ i. both (evaluated_is p i) (all_is ps i))

    any_is : (ps : Trees) → any_of (canonical_all s ps) ≡ choice_kind named ps
    any_is no_trees = refl
    any_is (more_trees p ps) = (λ i. either (evaluated_is p i) (any_is ps i))

  -- ---- one more member

  all_more : (ps : List Tree) (p : Tree) → group_kind named (trees_of (ps ++ p ∷ [])) ≡ both (group_kind named (trees_of ps)) (tree_kind named p)
  all_more [] p = both_empty (tree_kind named p)
  all_more (q ∷ ps) p = ap (both (tree_kind named q)) (all_more ps p) ∙ both_assoc (tree_kind named q) (group_kind named (trees_of ps)) (tree_kind named p)

  any_more : (ps : List Tree) (p : Tree) → choice_kind named (trees_of (ps ++ p ∷ [])) ≡ either (choice_kind named (trees_of ps)) (tree_kind named p)
  any_more [] p = either_none (tree_kind named p)
  any_more (q ∷ ps) p = ap (either (tree_kind named q)) (any_more ps p) ∙ either_assoc (tree_kind named q) (choice_kind named (trees_of ps)) (tree_kind named p)

  module _ (members : List (Rc Pattern Global)) (n : ℕ) (r : Rc Pattern Global) (h : n < length members) (is : r ≡ get_or members n r) where
    abbrev before : List Tree
    before = map shared_view (take n members)

    taken : map shared_view (take (n + 1) members) ≡ before ++ shared_view r ∷ []
    taken = ap (map shared_view) (take_more members n r h ∙ ap (λ x. take n members ++ x ∷ []) (sym is)) ∙ map-append shared_view (take n members) (r ∷ [])

    pub all_of_more : (w v : FormKind) → w ≡ group_kind named (trees_of before) → v ≡ tree_kind named (shared_view r) → both w v ≡ group_kind named (shared_trees (take (n + 1) members))
    all_of_more w v e f = (λ i. both (e i) (f i)) ∙ sym (ap (λ ps. group_kind named (trees_of ps)) taken ∙ all_more before (shared_view r))

    pub any_of_more : (w v : FormKind) → w ≡ choice_kind named (trees_of before) → v ≡ tree_kind named (shared_view r) → either w v ≡ choice_kind named (shared_trees (take (n + 1) members))
    any_of_more w v e f = (λ i. either (e i) (f i)) ∙ sym (ap (λ ps. choice_kind named (trees_of ps)) taken ∙ any_more before (shared_view r))
