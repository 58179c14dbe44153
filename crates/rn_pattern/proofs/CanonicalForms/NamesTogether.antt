-- A choice of name classes comes to the same as its parts do, however deep choices are within one another.
use Rattle.std.proofs.Common.{◌≡◌, ℕ, ◌+◌, ◌<◌, true, List, [], ◌∷◌, ◌++◌, length, map, take, get_or, flat_map, Some, None, refl, sym, ap, subst, ◌∙◌, arith}
use Rattle.std.specs.Prelude.{Vec}
use Rattle.std.specs.List.{AllByRecursion}
use Rattle.std.specs.declared.alloc.Global.{Global}
use Rattle.std.proofs.lemmas.Bool.{false≢true}
use Rattle.std.proofs.lemmas.List.{take_more, append-nil, append_assoc, map-append}
use Rattle.rn_pattern.specs.Tree.{NameTree, NameTrees, name_choice, no_names, more_names, name_trees_of}
use Rattle.rn_pattern.specs.Order.{name_cmp}
use Rattle.rn_pattern.specs.Canonical.{canonical_name, canonical_names, name_class_of, names_within, sorted_once}
use Rattle.rn_pattern.specs.CanonicalShape.{is_no_choice, IsCanonicalName}
use Rattle.rn_pattern.specs.inside.NameParts.{name_parts, name_parts_of}
use Rattle.rn_pattern.specs.View.{name_class_step, name_class_view}
use Rattle.rn_pattern.specs.declared.tree.NameClass.{NameClass, fold-roll-NameClass, map-NameClass}
use Rattle.rn_pattern.specs.declared.tree.NameClass.TheVariants.{rolls-Choice}
use Rattle.rn_pattern.specs.declared.tree.NameClass.TheOpen.{NameClass-F}
use Rattle.rn_pattern.specs.declared.tree.NameClass.TheViews as class
use Rattle.rn_pattern.proofs.Ordered.Ascending.{each_flat, each_sorted_once}
use Rattle.rn_pattern.proofs.CanonicalForms.CanonicalForm.{NameMember, members_within, canonical_names_are}
use Rattle.rn_pattern.proofs.Matches.NamesKept.{name_list_of-name_trees_of}
use Rattle.rn_pattern.proofs.Ordered.Orders.{name_same}
use Rattle.rn_pattern.proofs.Ordered.TotalOrder.{name_cmp_total}
use Rattle.rn_pattern.proofs.Ordered.Within.{sorted_once_behind, sorted_once_within}

abbrev once : List NameTree → List NameTree
once = sorted_once name_cmp

abbrev flat : NameTrees → List NameTree
flat cs = flat_map names_within (canonical_names cs)

pub one_within : (c : NameTree) → is_no_choice c ≡ true → names_within c ≡ c ∷ []
one_within (name_choice cs) h = absurd (false≢true h)
one_within c h = refl

-- the members of a name class that is made of members that may stand in a choice
class_members : (cs : List NameTree) → AllByRecursion NameMember cs → names_within (name_class_of cs) ≡ cs
class_members [] h = refl
class_members (c ∷ []) h = one_within c h.0.1
class_members (c ∷ d ∷ cs) h = name_list_of-name_trees_of (c ∷ d ∷ cs)

members_of_choice : (cs : NameTrees) → names_within (canonical_name (name_choice cs)) ≡ once (flat cs)
members_of_choice cs = class_members (once (flat cs)) (each_sorted_once NameMember name_cmp (flat cs) (each_flat NameMember IsCanonicalName names_within members_within (canonical_names cs) (canonical_names_are cs)))

mutual
  one_together : (c : NameTree) (rest : List NameTree) → once (name_parts_of c ++ rest) ≡ once (names_within (canonical_name c) ++ rest)
  one_together (name_choice cs) rest =
      all_together cs rest ∙ sym (ap (λ xs. once (xs ++ rest)) (members_of_choice cs) ∙ sorted_once_within name_cmp name_cmp_total name_same (flat cs) rest)
  one_together c rest = refl

  all_together : (cs : NameTrees) (rest : List NameTree) → once (name_parts cs ++ rest) ≡ once (flat cs ++ rest)
  all_together no_names rest = refl
  all_together (more_names c cs) rest =
      ap once (append_assoc (name_parts_of c) (name_parts cs) rest)
      ∙ one_together c (name_parts cs ++ rest)
      ∙ sorted_once_behind name_cmp (names_within (canonical_name c)) (name_parts cs ++ rest) (flat cs ++ rest) (all_together cs rest)
      ∙ ap once (sym (append_assoc (names_within (canonical_name c)) (flat cs) rest))

-- the parts of a choice, in order, are its members
pub parts_together : (cs : NameTrees) → sorted_once name_cmp (name_parts cs) ≡ sorted_once name_cmp (flat_map names_within (canonical_names cs))
parts_together cs = ap once (sym (append-nil (name_parts cs))) ∙ all_together cs [] ∙ ap once (append-nil (flat cs))

-- ---- a list of one name class, and any other

pub several_names : (cs : List NameTree) → ¬ (length cs ≡ 1) → name_choice (name_trees_of cs) ≡ name_class_of cs
several_names [] h = refl
several_names (c ∷ []) h = absurd (h refl)
several_names (c ∷ d ∷ cs) h = refl

pub one_name : (cs : List NameClass) (c : NameClass) → length cs ≡ 1 → c ≡ get_or cs 0 c → name_class_of (map name_class_view cs) ≡ name_class_view c
one_name [] c h e = absurd (omega (arith, h))
one_name (d ∷ []) c h e = ap name_class_view (sym e)
one_name (d ∷ d' ∷ cs) c h e = absurd (omega (arith, h))

-- ---- a name class that is no choice

layer : (x : NameClass-F NameClass) → ((v : Vec NameClass Global) → x ≡ NameClass-F.Choice v → ⊥) → is_no_choice (name_class_step (map-NameClass NameClass NameTree name_class_view x)) ≡ true
layer (NameClass-F.AnyName None) h = refl
layer (NameClass-F.AnyName (Some c)) h = refl
layer (NameClass-F.NsName u None) h = refl
layer (NameClass-F.NsName u (Some c)) h = refl
layer (NameClass-F.Name u l) h = refl
layer (NameClass-F.Choice v) h = absurd (h v refl)

no_choice_seen : (c : NameClass) → ((v : Vec NameClass Global) → c ≡ class.Choice v → ⊥) → is_no_choice (name_class_view c) ≡ true
no_choice_seen c h =
    let x = class.out-NameClass c in
    let whole : class.roll-NameClass x ≡ c = class.roll-out-NameClass c in
    subst (λ n. is_no_choice (name_class_view n) ≡ true) whole
    (subst (λ t. is_no_choice t ≡ true) (sym (fold-roll-NameClass NameTree name_class_step x)) (layer x (λ v e. h v (sym whole ∙ ap class.roll-NameClass e ∙ rolls-Choice v))))

lone : (c : NameTree) → is_no_choice c ≡ true → name_parts_of c ≡ canonical_name c ∷ []
lone (name_choice cs) h = absurd (false≢true h)
lone c h = refl

pub lone_part : (c : NameClass) → ((v : Vec NameClass Global) → c ≡ class.Choice v → ⊥) → name_parts_of (name_class_view c) ≡ canonical_name (name_class_view c) ∷ []
lone_part c h = lone (name_class_view c) (no_choice_seen c h)

-- ---- the parts of one more member

parts_push : (cs : List NameTree) (c : NameTree) → name_parts (name_trees_of (cs ++ c ∷ [])) ≡ name_parts (name_trees_of cs) ++ name_parts_of c
parts_push [] c = append-nil (name_parts_of c)
parts_push (d ∷ cs) c = ap (λ xs. name_parts_of d ++ xs) (parts_push cs c) ∙ sym (append_assoc (name_parts_of d) (name_parts (name_trees_of cs)) (name_parts_of c))

pub parts_more : (members : List NameClass) (n : ℕ) (r : NameClass) (old now new : List NameTree) → n < length members → r ≡ get_or members n r
    → now ≡ old ++ name_parts (name_trees_of (map name_class_view (take n members)))
    → new ≡ now ++ name_parts_of (name_class_view r)
    → new ≡ old ++ name_parts (name_trees_of (map name_class_view (take (n + 1) members)))
parts_more members n r old now new h is e g =
    let before = map name_class_view (take n members) in
    let taken : map name_class_view (take (n + 1) members) ≡ before ++ name_class_view r ∷ [] =
    ap (map name_class_view) (take_more members n r h ∙ ap (λ x. take n members ++ x ∷ []) (sym is)) ∙ map-append name_class_view (take n members) (r ∷ []) in
    g ∙ ap (λ xs. xs ++ name_parts_of (name_class_view r)) e
    ∙ append_assoc old (name_parts (name_trees_of before)) (name_parts_of (name_class_view r))
    ∙ ap (λ xs. old ++ xs) (sym (parts_push before (name_class_view r)) ∙ ap (λ ps. name_parts (name_trees_of ps)) (sym taken))
