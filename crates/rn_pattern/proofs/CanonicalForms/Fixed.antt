-- A canonical pattern is its own canonical form, and that of the pattern opened.
use Rattle.std.proofs.Common.{◌≡◌, Bool, true, false, ◌||◌, cond, List, [], ◌∷◌, ◌++◌, map, refl, sym, ap, ◌∙◌, subst}
use Rattle.std.specs.Prelude.{flat_map}
use Rattle.std.proofs.lemmas.Bool.{false≢true}
use Rattle.rn_pattern.specs.Tree.{Parameters, NameTree, NameTrees, any_name, any_name_but, ns_name, ns_name_but, name, name_choice, no_names, more_names, name_list_of, name_trees_of, Tree, Trees, not_allowed, empty, text, ref, value, datum, datum_but, list, attribute, element, one_or_more, group, interleave, choice, no_trees, more_trees, list_of}
use Rattle.rn_text.specs.Texts.{Text}
use Rattle.rn_pattern.specs.Order.{name_cmp, tree_cmp}
use Rattle.rn_pattern.specs.Canonical.{sorted, sorted_once, name_class_of, names_within, name_choice_step, canonical_name, canonical_names, node_of, is_not_allowed, has_not_allowed, alternatives, grouped, interleaved, choice_step, group_step, interleave_step, one_or_more_step, list_step, attribute_step, datum_but_step, canonical, canonical_all}
use Rattle.rn_pattern.specs.Opened.{one_or_node, opened_choice, opened_interleave, opened, opened_all}
use Rattle.rn_pattern.proofs.Ordered.Ascending.{climbing_sorted_once, ascending_sorted, sorted_last, sorted_once_last}
use Rattle.rn_pattern.proofs.Ordered.Orders.{tree_same}
use Rattle.rn_pattern.proofs.Ordered.TotalOrder.{tree_cmp_total}
use Rattle.rn_pattern.proofs.Matches.StepsKeep.{list_of-trees_of, trees_of-list_of}
use Rattle.rn_pattern.proofs.CanonicalForms.CanonicalForm.{NameMember, name_members, Member, members_list, canonical_name_is}
use Rattle.rn_pattern.proofs.CanonicalForms.ListsWithin.{one_choice, one_group, one_interleave}
use Rattle.rn_pattern.proofs.CanonicalForms.NamesTogether.{one_within}
use Rattle.std.specs.List.{AllByRecursion}
use Rattle.rn_pattern.specs.CanonicalShape.{is_several, IsAscending, is_single, IsCanonicalName, AreCanonicalNames, may_choose, may_group, may_interleave, may_repeat, IsCanonical, AreCanonical, AnyName, IsCanonicalPattern}
use Rattle.std.specs.List.Sorted.{IsStrictlySortedBy}

name_trees_of-name_list_of : (cs : NameTrees) → name_trees_of (name_list_of cs) ≡ cs
name_trees_of-name_list_of no_names = refl
name_trees_of-name_list_of (more_names c cs) = ap (more_names c) (name_trees_of-name_list_of cs)

flat_within : (cs : List NameTree) → AllByRecursion NameMember cs → flat_map names_within cs ≡ cs
flat_within [] h = refl
flat_within (c ∷ cs) h = ap (λ l. l ++ flat_map names_within cs) (one_within c h.0.1) ∙ ap (λ l. c ∷ l) (flat_within cs h.1)

class_itself : (cs : NameTrees) → is_single (name_list_of cs) ≡ false → name_class_of (name_list_of cs) ≡ name_choice cs
class_itself no_names e = refl
class_itself (more_names c no_names) e = absurd (false≢true (sym e))
class_itself (more_names c (more_names d cs)) e = ap (λ l. name_choice (more_names c (more_names d l))) (name_trees_of-name_list_of cs)

mutual
  -- a canonical name class is its own canonical form
  pub canonical_name_fixed : (c : NameTree) → IsCanonicalName c → canonical_name c ≡ c
  canonical_name_fixed any_name h = refl
  canonical_name_fixed (any_name_but c) h = ap any_name_but (canonical_name_fixed c h)
  canonical_name_fixed (ns_name u) h = refl
  canonical_name_fixed (ns_name_but u c) h = ap (ns_name_but u) (canonical_name_fixed c h)
  canonical_name_fixed (name u l) h = refl
  canonical_name_fixed (name_choice cs) h =
      ap name_choice_step (canonical_names_fixed cs h.0) ∙ ap (λ l. name_class_of (sorted_once name_cmp l)) (flat_within (name_list_of cs) (name_members cs h.0))
      ∙ ap name_class_of (climbing_sorted_once name_cmp (name_list_of cs) h.2) ∙ class_itself cs h.1

  canonical_names_fixed : (cs : NameTrees) → AreCanonicalNames cs → canonical_names cs ≡ name_list_of cs
  canonical_names_fixed no_names h = refl
  canonical_names_fixed (more_names c cs) h = let e = canonical_name_fixed c h.0.0 in let f = canonical_names_fixed cs h.1 in λ i. e i ∷ f i

group_allowed : (p : Tree) → may_group p ≡ true → is_not_allowed p ≡ false
group_allowed not_allowed e = absurd (false≢true e)
group_allowed p e = refl

interleave_allowed : (p : Tree) → may_interleave p ≡ true → is_not_allowed p ≡ false
interleave_allowed not_allowed e = absurd (false≢true e)
interleave_allowed p e = refl

node_itself : (none : Tree) (over : Trees → Tree) (ps : Trees) → is_several (list_of ps) ≡ true → node_of none over (list_of ps) ≡ over ps
node_itself none over no_trees e = absurd (false≢true e)
node_itself none over (more_trees p no_trees) e = absurd (false≢true e)
node_itself none over (more_trees p (more_trees q ps)) e = ap (λ l. over (more_trees p (more_trees q l))) (trees_of-list_of ps)

module _ (Named : Text → Type 0) where
  flat_alternatives : (ps : List Tree) → AllByRecursion (Member Named may_choose) ps → flat_map alternatives ps ≡ ps
  flat_alternatives [] h = refl
  flat_alternatives (p ∷ ps) h = ap (λ l. l ++ flat_map alternatives ps) (one_choice p h.0.1) ∙ ap (λ l. p ∷ l) (flat_alternatives ps h.1)

  flat_grouped : (ps : List Tree) → AllByRecursion (Member Named may_group) ps → flat_map grouped ps ≡ ps
  flat_grouped [] h = refl
  flat_grouped (p ∷ ps) h = ap (λ l. l ++ flat_map grouped ps) ((one_group p h.0.1).1) ∙ ap (λ l. p ∷ l) (flat_grouped ps h.1)

  flat_interleaved : (ps : List Tree) → AllByRecursion (Member Named may_interleave) ps → flat_map interleaved ps ≡ ps
  flat_interleaved [] h = refl
  flat_interleaved (p ∷ ps) h = ap (λ l. l ++ flat_map interleaved ps) ((one_interleave p h.0.1).1) ∙ ap (λ l. p ∷ l) (flat_interleaved ps h.1)

  all_allowed_group : (ps : List Tree) → AllByRecursion (Member Named may_group) ps → has_not_allowed ps ≡ false
  all_allowed_group [] h = refl
  all_allowed_group (p ∷ ps) h = ap (λ b. b || has_not_allowed ps) (group_allowed p h.0.1) ∙ all_allowed_group ps h.1

  all_allowed_interleave : (ps : List Tree) → AllByRecursion (Member Named may_interleave) ps → has_not_allowed ps ≡ false
  all_allowed_interleave [] h = refl
  all_allowed_interleave (p ∷ ps) h = ap (λ b. b || has_not_allowed ps) (interleave_allowed p h.0.1) ∙ all_allowed_interleave ps h.1

  -- the step of a list of canonical members is a node over them
  choice_list : (ps : List Tree) → AllByRecursion (Member Named may_choose) ps → IsStrictlySortedBy tree_cmp ps → choice_step ps ≡ node_of not_allowed choice ps
  choice_list ps h k = ap (λ l. node_of not_allowed choice (sorted_once tree_cmp l)) (flat_alternatives ps h) ∙ ap (node_of not_allowed choice) (climbing_sorted_once tree_cmp ps k)

  group_list : (ps : List Tree) → AllByRecursion (Member Named may_group) ps → group_step ps ≡ node_of empty group ps
  group_list ps h = ap (λ b. cond b not_allowed (node_of empty group (flat_map grouped ps))) (all_allowed_group ps h) ∙ ap (node_of empty group) (flat_grouped ps h)

  interleave_list : (ps : List Tree) → AllByRecursion (Member Named may_interleave) ps → IsAscending tree_cmp ps → interleave_step ps ≡ node_of empty interleave ps
  interleave_list ps h k =
      ap (λ b. cond b not_allowed (node_of empty interleave (sorted tree_cmp (flat_map interleaved ps)))) (all_allowed_interleave ps h)
      ∙ ap (λ l. node_of empty interleave (sorted tree_cmp l)) (flat_interleaved ps h) ∙ ap (node_of empty interleave) (ascending_sorted tree_cmp tree_cmp_total tree_same ps k)

  choice_fixed : (ps : Trees) → IsCanonical Named (choice ps) → choice_step (list_of ps) ≡ choice ps
  choice_fixed ps h = choice_list (list_of ps) (members_list Named may_choose ps h.0) h.2 ∙ node_itself not_allowed choice ps h.1

  group_fixed : (ps : Trees) → IsCanonical Named (group ps) → group_step (list_of ps) ≡ group ps
  group_fixed ps h = group_list (list_of ps) (members_list Named may_group ps h.0) ∙ node_itself empty group ps h.1

  interleave_fixed : (ps : Trees) → IsCanonical Named (interleave ps) → interleave_step (list_of ps) ≡ interleave ps
  interleave_fixed ps h = interleave_list (list_of ps) (members_list Named may_interleave ps h.0) h.2 ∙ node_itself empty interleave ps h.1

  one_or_more_fixed : (p : Tree) → may_repeat p ≡ true → one_or_more_step p ≡ one_or_more p
  one_or_more_fixed not_allowed e = absurd (false≢true e)
  one_or_more_fixed empty e = absurd (false≢true e)
  one_or_more_fixed (one_or_more p) e = absurd (false≢true e)
  one_or_more_fixed p e = refl

  list_fixed : (p : Tree) → is_not_allowed p ≡ false → list_step p ≡ list p
  list_fixed not_allowed e = absurd (false≢true (sym e))
  list_fixed p e = refl

  attribute_fixed : (c : NameTree) (p : Tree) → is_not_allowed p ≡ false → attribute_step c p ≡ attribute c p
  attribute_fixed c not_allowed e = absurd (false≢true (sym e))
  attribute_fixed c p e = refl

  datum_but_fixed : (l x : Text) (ps : Parameters) (p : Tree) → is_not_allowed p ≡ false → datum_but_step l x ps p ≡ datum_but l x ps p
  datum_but_fixed l x ps not_allowed e = absurd (false≢true (sym e))
  datum_but_fixed l x ps p e = refl

  -- references to the names stay
  module _ (s : Text → Tree) (stays : (x : Text) → Named x → s x ≡ ref x) where
    mutual
      -- a canonical pattern is its own canonical form
      pub canonical_fixed : (p : Tree) → IsCanonical Named p → canonical s p ≡ p
      canonical_fixed not_allowed h = refl
      canonical_fixed empty h = refl
      canonical_fixed text h = refl
      canonical_fixed (ref x) h = stays x h
      canonical_fixed (value l x t) h = refl
      canonical_fixed (datum l x ps) h = refl
      canonical_fixed (datum_but l x ps p) h = ap (datum_but_step l x ps) (canonical_fixed p h.0) ∙ datum_but_fixed l x ps p h.1
      canonical_fixed (list p) h = ap list_step (canonical_fixed p h.0) ∙ list_fixed p h.1
      canonical_fixed (attribute c p) h = (let e = canonical_name_fixed c h.0 in let f = canonical_fixed p h.1 in λ i. attribute_step (e i) (f i)) ∙ attribute_fixed c p h.2
      canonical_fixed (element c p) h = let e = canonical_name_fixed c h.0 in let f = canonical_fixed p h.1 in λ i. element (e i) (f i)
      canonical_fixed (one_or_more p) h = ap one_or_more_step (canonical_fixed p h.0) ∙ one_or_more_fixed p h.1
      canonical_fixed (group ps) h = ap group_step (canonical_all_fixed may_group ps h.0) ∙ group_fixed ps h
      canonical_fixed (interleave ps) h = ap interleave_step (canonical_all_fixed may_interleave ps h.0) ∙ interleave_fixed ps h
      canonical_fixed (choice ps) h = ap choice_step (canonical_all_fixed may_choose ps h.0) ∙ choice_fixed ps h

      canonical_all_fixed : (test : Tree → Bool) (ps : Trees) → AreCanonical Named test ps → canonical_all s ps ≡ list_of ps
      canonical_all_fixed test no_trees h = refl
      canonical_all_fixed test (more_trees p ps) h = let e = canonical_fixed p h.0.0 in let f = canonical_all_fixed test ps h.1 in λ i. e i ∷ f i

  module _ (s : Text → Tree) where
    abbrev form : Tree → Tree
    form = canonical s

    all_form : (ps : Trees) → canonical_all s ps ≡ map form (list_of ps)
    all_form no_trees = refl
    all_form (more_trees p ps) = ap (λ l. form p ∷ l) (all_form ps)

    others_alternatives : (os : Trees) → AllByRecursion (Member Named may_choose) (map form (list_of os)) → IsStrictlySortedBy tree_cmp (map form (list_of os)) → alternatives (form (one_or_node choice os)) ≡ map form (list_of os)
    others_alternatives no_trees h k = refl
    others_alternatives (more_trees o no_trees) h k = one_choice (form o) h.0.1
    others_alternatives (more_trees o (more_trees q os)) h k =
        let forms = map form (list_of (more_trees o (more_trees q os))) in
        ap (λ l. alternatives (choice_step l)) (all_form (more_trees o (more_trees q os))) ∙ ap alternatives (choice_list forms h k) ∙ list_of-trees_of forms

    others_interleaved : (os : Trees) → AllByRecursion (Member Named may_interleave) (map form (list_of os)) → IsAscending tree_cmp (map form (list_of os)) → interleaved (form (one_or_node interleave os)) ≡ map form (list_of os)
    others_interleaved no_trees h k = refl
    others_interleaved (more_trees o no_trees) h k = (one_interleave (form o) h.0.1).1
    others_interleaved (more_trees o (more_trees q os)) h k =
        let forms = map form (list_of (more_trees o (more_trees q os))) in
        ap (λ l. interleaved (interleave_step l)) (all_form (more_trees o (more_trees q os))) ∙ ap interleaved (interleave_list forms h k) ∙ list_of-trees_of forms

    others_allowed : (os : Trees) → AllByRecursion (Member Named may_interleave) (map form (list_of os)) → IsAscending tree_cmp (map form (list_of os)) → is_not_allowed (form (one_or_node interleave os)) ≡ false
    others_allowed no_trees h k = refl
    others_allowed (more_trees o no_trees) h k = interleave_allowed (form o) h.0.1
    others_allowed (more_trees o (more_trees q os)) h k =
        ap (λ l. is_not_allowed (interleave_step l)) (all_form (more_trees o (more_trees q os))) ∙ ap is_not_allowed (interleave_list (map form (list_of (more_trees o (more_trees q os)))) h k)

    choice_opened : (os ps : Trees) → IsCanonical Named (choice ps) → map form (list_of os) ≡ list_of ps → form (opened_choice os) ≡ choice ps
    unfolding IsStrictlySortedBy
    choice_opened (more_trees empty (more_trees p os)) ps h e =
        let others = map form (list_of (more_trees p os)) in
        let members : AllByRecursion (Member Named may_choose) (empty ∷ others) = subst (AllByRecursion (Member Named may_choose)) (sym e) (members_list Named may_choose ps h.0) in
        let climbs : IsStrictlySortedBy tree_cmp (empty ∷ others) = subst (IsStrictlySortedBy tree_cmp) (sym e) h.2 in
        ap (λ l. node_of not_allowed choice (sorted_once tree_cmp (l ++ empty ∷ []))) (others_alternatives (more_trees p os) members.1 climbs.1)
        ∙ ap (node_of not_allowed choice) (sorted_once_last tree_cmp tree_cmp_total tree_same empty others climbs.0 climbs.1) ∙ ap (node_of not_allowed choice) e ∙ node_itself not_allowed choice ps h.1
    choice_opened os ps h e = ap choice_step (all_form os ∙ e) ∙ choice_fixed ps h

    interleave_opened : (os ps : Trees) → IsCanonical Named (interleave ps) → map form (list_of os) ≡ list_of ps → form (opened_interleave os) ≡ interleave ps
    interleave_opened (more_trees text (more_trees p os)) ps h e =
        let others = map form (list_of (more_trees p os)) in
        let node = form (one_or_node interleave (more_trees p os)) in
        let members : AllByRecursion (Member Named may_interleave) (text ∷ others) = subst (AllByRecursion (Member Named may_interleave)) (sym e) (members_list Named may_interleave ps h.0) in
        let climbs : IsAscending tree_cmp (text ∷ others) = subst (IsAscending tree_cmp) (sym e) h.2 in
        ap (λ b. cond (b || false) not_allowed (node_of empty interleave (sorted tree_cmp (interleaved node ++ text ∷ [])))) (others_allowed (more_trees p os) members.1 climbs.1)
        ∙ ap (λ l. node_of empty interleave (sorted tree_cmp (l ++ text ∷ []))) (others_interleaved (more_trees p os) members.1 climbs.1)
        ∙ ap (node_of empty interleave) (sorted_last tree_cmp tree_cmp_total tree_same text others climbs.0 climbs.1) ∙ ap (node_of empty interleave) e ∙ node_itself empty interleave ps h.1
    interleave_opened os ps h e = ap interleave_step (all_form os ∙ e) ∙ interleave_fixed ps h

    module _ (stays : (x : Text) → Named x → s x ≡ ref x) where
      mutual
        -- a canonical pattern is the canonical form of what it is opened to
        pub opened_fixed : (p : Tree) → IsCanonical Named p → canonical s (opened p) ≡ p
        opened_fixed not_allowed h = refl
        opened_fixed empty h = refl
        opened_fixed text h = refl
        opened_fixed (ref x) h = stays x h
        opened_fixed (value l x t) h = refl
        opened_fixed (datum l x ps) h = refl
        opened_fixed (datum_but l x ps p) h = ap (datum_but_step l x ps) (opened_fixed p h.0) ∙ datum_but_fixed l x ps p h.1
        opened_fixed (list p) h = ap list_step (opened_fixed p h.0) ∙ list_fixed p h.1
        opened_fixed (attribute c p) h = (let e = canonical_name_fixed c h.0 in let f = opened_fixed p h.1 in λ i. attribute_step (e i) (f i)) ∙ attribute_fixed c p h.2
        opened_fixed (element c p) h = let e = canonical_name_fixed c h.0 in let f = opened_fixed p h.1 in λ i. element (e i) (f i)
        opened_fixed (one_or_more p) h = ap one_or_more_step (opened_fixed p h.0) ∙ one_or_more_fixed p h.1
        opened_fixed (group ps) h = ap group_step (all_form (opened_all ps) ∙ opened_all_fixed may_group ps h.0) ∙ group_fixed ps h
        opened_fixed (interleave ps) h = interleave_opened (opened_all ps) ps h (opened_all_fixed may_interleave ps h.0)
        opened_fixed (choice ps) h = choice_opened (opened_all ps) ps h (opened_all_fixed may_choose ps h.0)

        opened_all_fixed : (test : Tree → Bool) (ps : Trees) → AreCanonical Named test ps → map form (list_of (opened_all ps)) ≡ list_of ps
        opened_all_fixed test no_trees h = refl
        opened_all_fixed test (more_trees p ps) h = let e = opened_fixed p h.0.0 in let f = opened_all_fixed test ps h.1 in λ i. e i ∷ f i

-- a canonical pattern is its own canonical form, references kept, and that of the pattern opened
pub canonical_itself : (p : Tree) → IsCanonicalPattern p → canonical ref p ≡ p
canonical_itself = canonical_fixed AnyName ref (λ x _. refl)

pub opened_itself : (p : Tree) → IsCanonicalPattern p → canonical ref (opened p) ≡ p
opened_itself = opened_fixed AnyName ref (λ x _. refl)

pub canonical_name_again : (c : NameTree) → canonical_name (canonical_name c) ≡ canonical_name c
canonical_name_again c = canonical_name_fixed (canonical_name c) (canonical_name_is c)
