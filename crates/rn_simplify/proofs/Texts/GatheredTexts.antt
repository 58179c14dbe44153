-- Texts that are gathered one after the other are in order, each once.
use Rattle.std.proofs.Common.{◌≡◌, Bool, true, false, List, [], ◌∷◌, ◌++◌, refl, sym, ap, ◌∙◌, subst, append_assoc, append-nil, ◌⊎◌, inl, inr, length, nat_eq}
use Rattle.std.specs.Prelude.{String, string_bytes, bytes_eq, not, ◌||◌, Vec, Box, Option, Some, Result, Ok, Err, OnOk}
use Rattle.std.specs.List.{list_any}
use Rattle.std.specs.Rc.{rc_str_bytes}
use Rattle.std.specs.BTreeSet.{BTreeSet, insert_key}
use Rattle.std.specs.declared.rc.Rc.{Rc}
use Rattle.std.specs.declared.alloc.Global.{Global}
use Rattle.std.specs.declared.cmp.Ordering.{Ordering}
use Rattle.std.specs.Ordering.{match_ordering, is_eq}
use Rattle.std.proofs.Math.Dec.{eqb-suc-zero}
use Rattle.std.proofs.lemmas.Cmp.{nat_list_cmp_total}
use Rattle.rn_modset.proofs.OrderedMembers.RisingLists.{insert_held}
use Rattle.rn_pattern.specs.Tree.{NameTree, name_trees_of, Tree, trees_of}
use Rattle.rn_text.specs.Texts.{Text, text_cmp}
use Rattle.rn_pattern.specs.Canonical.{put_once, sorted_once}
use Rattle.rn_pattern.specs.View.{name_class_view, named_step, pattern_step, pattern_view, shared_trees}
use Rattle.rn_pattern.specs.declared.tree.Data.{Data}
use Rattle.rn_pattern.specs.declared.tree.Named.{Named}
use Rattle.rn_pattern.specs.declared.tree.Pattern.{Pattern}
use Rattle.rn_pattern.specs.declared.tree.Pattern.TheOpen.{Pattern-F}
use Rattle.rn_pattern.specs.declared.tree.Pattern.TheFolds.{fold-roll-Pattern}
use Rattle.rn_pattern.specs.declared.tree.Pattern.TheVariants as variant
use Rattle.rn_pattern.proofs.Ordered.PatternKinds.{group_seen, interleave_seen, choice_seen}
use Rattle.rn_pattern.proofs.Ordered.Orders.{text_same}
use Rattle.rn_pattern.proofs.Ordered.Ascending.{climbs_sorted_once}
use Rattle.rn_assemble.proofs.Renaming.TextSets.{gathered_more, sorted_more}
use Rattle.rn_simplify.specs.declared.mentions.Mentions.{Mentions}
use Rattle.rn_simplify.proofs.ReadBack.OrderedTexts.{any_mapped}
use Rattle.rn_simplify.proofs.Simplified.NamedParts.{attribute_seen, element_seen}
use Rattle.rn_simplify.specs.Spelling.{name_uris, names_uris, mentions, mentions_all, is_other}
use Rattle.rn_simplify.specs.inside.Gathers.{IsGathered, GathersTexts, Mentioned, nothing, mentioned_by_both, by_library, by_name, by_names, by_tree, by_trees, Gathers}

-- ---- one more text

module _ (cmp : String Global → String Global → Ordering) (is : (k l : String Global) → cmp k l ≡ text_cmp (string_bytes k) (string_bytes l)) where
  pub gathers_new : (t : Text) (k : String Global) (a b : BTreeSet (String Global)) → string_bytes k ≡ t → b.keys ≡ insert_key cmp a.keys k → GathersTexts (t ∷ []) a b
  gathers_new t k a b e h zs g =
      gathered_more (λ (u : String Global). string_bytes u) cmp is k a.keys b.keys zs h g ∙ ap (λ (u : Text). sorted_once text_cmp (zs ++ u ∷ [])) e

put_insert : (x : Text) (ys : List Text) → put_once text_cmp x ys ≡ insert_key text_cmp ys x
put_insert x [] = refl
put_insert x (y ∷ ys) = ap (λ us. match_ordering (text_cmp x y) (x ∷ y ∷ ys) (y ∷ ys) (y ∷ us)) (put_insert x ys)

pub gathers_held : (t : Text) (a : BTreeSet (String Global)) → list_any (λ k. is_eq (text_cmp t (string_bytes k))) a.keys ≡ true → GathersTexts (t ∷ []) a a
gathers_held t a h zs g =
    let held : list_any (λ u. is_eq (text_cmp t u)) (sorted_once text_cmp zs) ≡ true = ap (list_any (λ u. is_eq (text_cmp t u))) (sym g) ∙ any_mapped (λ u. is_eq (text_cmp t u)) a.keys ∙ h in
    g ∙ sym (insert_held nat_list_cmp_total (sorted_once text_cmp zs) t (climbs_sorted_once text_cmp nat_list_cmp_total text_same zs) held) ∙ sym (put_insert t (sorted_once text_cmp zs)) ∙ sym (sorted_more zs t)

-- ---- one after the other

texts_nothing : (a : BTreeSet (String Global)) → GathersTexts [] a a
texts_nothing a zs g = subst (λ us. IsGathered us a) (sym (append-nil zs)) g

texts_then : (us vs : List Text) (a b c : BTreeSet (String Global)) → GathersTexts us a b → GathersTexts vs b c → GathersTexts (us ++ vs) a c
texts_then us vs a b c h k zs g = subst (λ ws. IsGathered ws c) (append_assoc zs us vs) (k (zs ++ us) (h zs g))

or_nothing : (b : Bool) → b ≡ (b || false)
or_nothing true = refl
or_nothing false = refl

any_then : (b : Bool) (p : Text → Bool) (us vs : List Text) → ((b || list_any p us) || list_any p vs) ≡ (b || list_any p (us ++ vs))
any_then true p us vs = refl
any_then false p [] vs = refl
any_then false p (u ∷ us) vs = more (p u) (any_then false p us vs)
  where
    more : (d : Bool) → (list_any p us || list_any p vs) ≡ list_any p (us ++ vs) → ((d || list_any p us) || list_any p vs) ≡ (d || list_any p (us ++ vs))
    more true e = refl
    more false e = e

pub gathers_nothing : (a : Mentions) → Gathers nothing a a
gathers_nothing a = record { namespaces = texts_nothing a.namespaces; ns_names = or_nothing a.has_empty_ns_name; libraries = texts_nothing a.libraries }

pub gathers_then : (m n : Mentioned) {a b c : Mentions} → Gathers m a b → Gathers n b c → Gathers (mentioned_by_both m n) a c
gathers_then m n {a} {b} {c} h k = record {
  namespaces = texts_then m.namespaces n.namespaces a.namespaces b.namespaces c.namespaces h.namespaces k.namespaces;
  ns_names = k.ns_names ∙ ap (λ b. b || list_any (bytes_eq []) n.ns_names) h.ns_names ∙ any_then a.has_empty_ns_name (bytes_eq []) m.ns_names n.ns_names;
  libraries = texts_then m.libraries n.libraries a.libraries b.libraries c.libraries h.libraries k.libraries;
}

-- where the second may be refused
pub gathers_unless : {E : Type 0} (r : Result (Unit {0}) E) (m n : Mentioned) {a b : Mentions} (c : Mentions) → Gathers m a b → OnOk r (Gathers n b c) → OnOk r (Gathers (mentioned_by_both m n) a c)
gathers_unless (Ok u) m n c h k = gathers_then m n h k
gathers_unless (Err e) m n c h k = tt

-- ---- members one after the other

names_more : (ns_only : Bool) (cs : List NameTree) (c : NameTree) → names_uris ns_only (name_trees_of (cs ++ c ∷ [])) ≡ names_uris ns_only (name_trees_of cs) ++ name_uris ns_only c
names_more ns_only [] c = append-nil (name_uris ns_only c)
names_more ns_only (d ∷ cs) c = ap (λ us. name_uris ns_only d ++ us) (names_more ns_only cs c) ∙ sym (append_assoc (name_uris ns_only d) (names_uris ns_only (name_trees_of cs)) (name_uris ns_only c))

pub gathers_one_name : (cs : List NameTree) (n : NameTree) {a b c : Mentions} → Gathers (by_names (name_trees_of cs)) a b → Gathers (by_name n) b c → Gathers (by_names (name_trees_of (cs ++ n ∷ []))) a c
gathers_one_name cs n {a} {b} {c} h k =
    subst (λ (m : Mentioned). Gathers m a c) (λ i. record { namespaces = sym (names_more false cs n) i; ns_names = sym (names_more true cs n) i; libraries = [] })
    (gathers_then (by_names (name_trees_of cs)) (by_name n) h k)

module _ (of_name : NameTree → List Text) (of_library : Text → List Text) where
  trees_more : (ps : List Tree) (p : Tree) → mentions_all of_name of_library (trees_of (ps ++ p ∷ [])) ≡ mentions_all of_name of_library (trees_of ps) ++ mentions of_name of_library p
  trees_more [] p = append-nil (mentions of_name of_library p)
  trees_more (q ∷ ps) p =
      let of = mentions of_name of_library in
      let of_all = mentions_all of_name of_library in
      ap (λ us. of q ++ us) (trees_more ps p) ∙ sym (append_assoc (of q) (of_all (trees_of ps)) (of p))

pub gathers_one_tree : (ps : List Tree) (p : Tree) {a b c : Mentions} → Gathers (by_trees (trees_of ps)) a b → Gathers (by_tree p) b c → Gathers (by_trees (trees_of (ps ++ p ∷ []))) a c
gathers_one_tree ps p {a} {b} {c} h k =
    subst (λ (m : Mentioned). Gathers m a c) (λ i. record {
      namespaces = sym (trees_more (name_uris false) (λ l. []) ps p) i;
      ns_names = sym (trees_more (name_uris true) (λ l. []) ps p) i;
      libraries = sym (trees_more (λ n. []) (λ l. l ∷ []) ps p) i;
    })
    (gathers_then (by_trees (trees_of ps)) (by_tree p) h k)

-- ---- patterns by their variants

pub in_list : (p : Pattern) (v : Vec (Rc Pattern Global) Global) → (p ≡ variant.Group v) ⊎ ((p ≡ variant.Interleave v) ⊎ (p ≡ variant.Choice v)) → by_tree (pattern_view p) ≡ by_trees (shared_trees v.items)
in_list p v (inl e) = ap (λ q. by_tree (pattern_view q)) e ∙ ap by_tree (group_seen v)
in_list p v (inr (inl e)) = ap (λ q. by_tree (pattern_view q)) e ∙ ap by_tree (interleave_seen v)
in_list p v (inr (inr e)) = ap (λ q. by_tree (pattern_view q)) e ∙ ap by_tree (choice_seen v)

pub with_library : (p : Pattern) (d : Box Data Global) (o : Option (Box Pattern Global)) (q : Box Pattern Global) → p ≡ variant.Datum d o → o ≡ Some q → by_tree (pattern_view p) ≡ mentioned_by_both (by_library (rc_str_bytes d.value.library)) (by_tree (pattern_view q.value))
with_library p d o q e h = ap (λ r. by_tree (pattern_view r)) (e ∙ ap (variant.Datum d) h ∙ sym (variant.rolls-Datum d (Some q))) ∙ ap by_tree (fold-roll-Pattern Tree (NameTree × Tree) pattern_step named_step (Pattern-F.Datum d (Some q)))

pub named : (p : Pattern) (n : Box Named Global) → (p ≡ variant.Attribute n) ⊎ (p ≡ variant.Element n) → by_tree (pattern_view p) ≡ mentioned_by_both (by_name (name_class_view n.value.class)) (by_tree (pattern_view n.value.content))
named p n (inl e) = ap (λ r. by_tree (pattern_view r)) e ∙ ap by_tree (attribute_seen n)
named p n (inr e) = ap (λ r. by_tree (pattern_view r)) e ∙ ap by_tree (element_seen n)

-- ---- which of them are declared

pub is_declared : (known u v : Text) → v ≡ u → nat_eq (length u) 0 ≡ false → not (bytes_eq v known) ≡ true → is_other known u ≡ true
is_declared known [] v e h k = absurd (let x : true ≡ false = h in cc)
is_declared known (c ∷ u) v e h k = ap (λ w. not (bytes_eq w known)) (sym e) ∙ k

pub not_empty : (known u : Text) → nat_eq (length u) 0 ≡ true → is_other known u ≡ false
not_empty known [] h = refl
not_empty known (c ∷ u) h = absurd (let x = eqb-suc-zero (length u) in cc)

pub not_known : (known u v : Text) → v ≡ u → not (bytes_eq v known) ≡ false → is_other known u ≡ false
not_known known [] v e k = refl
not_known known (c ∷ u) v e k = ap (λ w. not (bytes_eq w known)) (sym e) ∙ k
