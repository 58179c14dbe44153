-- A list comes to the same as its parts do, however deep lists of its kind are within one another.
use Rattle.std.proofs.Common.{◌≡◌, ℕ, ◌+◌, ◌<◌, List, [], ◌∷◌, ◌++◌, length, map, take, get_or, refl, sym, ap, ◌∙◌}
use Rattle.std.specs.Prelude.{Vec}
use Rattle.std.specs.List.{AllByRecursion}
use Rattle.std.specs.declared.alloc.Global.{Global}
use Rattle.std.specs.declared.rc.Rc.{Rc}
use Rattle.std.proofs.lemmas.List.{take_more, append-nil, append_assoc, map-append}
use Rattle.rn_pattern.specs.Tree.{Tree, Trees, group, interleave, choice, no_trees, more_trees, trees_of}
use Rattle.rn_text.specs.Texts.{Text}
use Rattle.rn_pattern.specs.Canonical.{canonical, canonical_all}
use Rattle.rn_pattern.specs.CanonicalShape.{AnyName, IsCanonicalPattern}
use Rattle.rn_pattern.specs.View.{pattern_view, shared_view, shared_trees}
use Rattle.rn_pattern.specs.declared.tree.Pattern.{Pattern}
use Rattle.rn_pattern.specs.declared.tree.Pattern.TheVariants as variant
use Rattle.rn_pattern.proofs.CanonicalForms.CanonicalForm.{canonical_all_are}
use Rattle.rn_pattern.proofs.CanonicalForms.ListsWithin.{choice_within, group_within, interleave_within}
use Rattle.rn_pattern.proofs.Ordered.PatternKinds.{choice_seen, group_seen, interleave_seen}
use Rattle.rn_simplify.specs.inside.ListParts.{members_step, parts, parts_of}
use Rattle.rn_simplify.specs.declared.stored_forms.ListKind.{ListKind}

-- the parts of a list of the kind are those of its members
module _ (kind : ListKind) (p : Pattern) (v : Vec (Rc Pattern Global) Global) (xs : List (Rc Pattern Global)) (h : xs ≡ v.items) where
  pub group_parts : kind ≡ ListKind.Group → p ≡ variant.Group v → parts kind (shared_trees xs) ≡ parts_of kind (pattern_view p)
  group_parts e f = (λ i. parts (e i) (trees_of (map shared_view (h i)))) ∙ sym ((λ i. parts_of (e i) (pattern_view (f i))) ∙ ap (parts_of ListKind.Group) (group_seen v))

  pub interleave_parts : kind ≡ ListKind.Interleave → p ≡ variant.Interleave v → parts kind (shared_trees xs) ≡ parts_of kind (pattern_view p)
  interleave_parts e f = (λ i. parts (e i) (trees_of (map shared_view (h i)))) ∙ sym ((λ i. parts_of (e i) (pattern_view (f i))) ∙ ap (parts_of ListKind.Interleave) (interleave_seen v))

  pub choice_parts : kind ≡ ListKind.Choice → p ≡ variant.Choice v → parts kind (shared_trees xs) ≡ parts_of kind (pattern_view p)
  choice_parts e f = (λ i. parts (e i) (trees_of (map shared_view (h i)))) ∙ sym ((λ i. parts_of (e i) (pattern_view (f i))) ∙ ap (parts_of ListKind.Choice) (choice_seen v))

-- a canonical list within a list of its kind comes to the same as its members do
within : (kind : ListKind) (front ps rest : List Tree) → AllByRecursion IsCanonicalPattern ps → members_step kind (front ++ (members_step kind ps ∷ rest)) ≡ members_step kind (front ++ (ps ++ rest))
within ListKind.Group = group_within
within ListKind.Interleave = interleave_within
within ListKind.Choice = choice_within

module _ (s : Text → Tree) (forms : (x : Text) → IsCanonicalPattern (s x)) where
  abbrev formed : List Tree → List Tree
  formed = map (canonical s)

  mutual
    one_part : (kind : ListKind) (p : Tree) (front rest : List Tree) → members_step kind (front ++ (formed (parts_of kind p) ++ rest)) ≡ members_step kind (front ++ (canonical s p ∷ rest))
    one_part ListKind.Group (group ps) front rest =
        parts_between ListKind.Group ps front rest ∙ sym (within ListKind.Group front (canonical_all s ps) rest (canonical_all_are AnyName s forms ps))
    one_part ListKind.Interleave (interleave ps) front rest =
        parts_between ListKind.Interleave ps front rest ∙ sym (within ListKind.Interleave front (canonical_all s ps) rest (canonical_all_are AnyName s forms ps))
    one_part ListKind.Choice (choice ps) front rest =
        parts_between ListKind.Choice ps front rest ∙ sym (within ListKind.Choice front (canonical_all s ps) rest (canonical_all_are AnyName s forms ps))
    one_part ListKind.Group p front rest = refl
    one_part ListKind.Interleave p front rest = refl
    one_part ListKind.Choice p front rest = refl

    parts_between : (kind : ListKind) (ps : Trees) (front rest : List Tree) → members_step kind (front ++ (formed (parts kind ps) ++ rest)) ≡ members_step kind (front ++ (canonical_all s ps ++ rest))
    parts_between kind no_trees front rest = refl
    parts_between kind (more_trees p ps) front rest =
        let c = canonical s p in
        let behind = formed (parts kind ps) ++ rest in
        ap (λ xs. members_step kind (front ++ xs)) (ap (λ xs. xs ++ rest) (map-append (canonical s) (parts_of kind p) (parts kind ps)) ∙ append_assoc (formed (parts_of kind p)) (formed (parts kind ps)) rest)
        ∙ one_part kind p front behind
        ∙ ap (members_step kind) (sym (append_assoc front (c ∷ []) behind))
        ∙ parts_between kind ps (front ++ c ∷ []) rest
        ∙ ap (members_step kind) (append_assoc front (c ∷ []) (canonical_all s ps ++ rest))

  pub parts_same : (kind : ListKind) (ps : Trees) → members_step kind (formed (parts kind ps)) ≡ members_step kind (canonical_all s ps)
  parts_same kind ps =
      ap (members_step kind) (sym (append-nil (formed (parts kind ps)))) ∙ parts_between kind ps [] [] ∙ ap (members_step kind) (append-nil (canonical_all s ps))

-- the parts of one more member
parts_push : (kind : ListKind) (ps : List Tree) (p : Tree) → parts kind (trees_of (ps ++ p ∷ [])) ≡ parts kind (trees_of ps) ++ parts_of kind p
parts_push kind [] p = append-nil (parts_of kind p)
parts_push kind (q ∷ ps) p = ap (λ xs. parts_of kind q ++ xs) (parts_push kind ps p) ∙ sym (append_assoc (parts_of kind q) (parts kind (trees_of ps)) (parts_of kind p))

pub parts_more : (f : Tree → Tree) (kind : ListKind) (members : List (Rc Pattern Global)) (n : ℕ) (r : Rc Pattern Global) (old now new : List Tree) → n < length members → r ≡ get_or members n r
    → now ≡ old ++ map f (parts kind (shared_trees (take n members)))
    → new ≡ now ++ map f (parts_of kind (shared_view r))
    → new ≡ old ++ map f (parts kind (shared_trees (take (n + 1) members)))
parts_more f kind members n r old now new h is e g =
    let before = map shared_view (take n members) in
    let taken : map shared_view (take (n + 1) members) ≡ before ++ shared_view r ∷ [] =
    ap (map shared_view) (take_more members n r h ∙ ap (λ x. take n members ++ x ∷ []) (sym is)) ∙ map-append shared_view (take n members) (r ∷ []) in
    g ∙ ap (λ xs. xs ++ map f (parts_of kind (shared_view r))) e
    ∙ append_assoc old (map f (parts kind (trees_of before))) (map f (parts_of kind (shared_view r)))
    ∙ ap (λ xs. old ++ xs) (sym (map-append f (parts kind (trees_of before)) (parts_of kind (shared_view r)))
    ∙ ap (map f) (sym (parts_push kind before (shared_view r)) ∙ ap (λ ps. parts kind (trees_of ps)) (sym taken)))
