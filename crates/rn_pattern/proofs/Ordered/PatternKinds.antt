-- The trees of patterns, and the kinds of those that are known not to be of one.
use Rattle.std.proofs.Common.{◌≡◌, List, [], ◌∷◌, map, Option, Some, None, refl, sym, ap, ◌∙◌, arith, Equal}
use Rattle.std.specs.Prelude.{Box, string_bytes, Vec}
use Rattle.std.specs.declared.alloc.Global.{Global}
use Rattle.std.specs.declared.rc.Rc.{Rc}
use Rattle.std.specs.Rc.{rc_str_bytes}
use Rattle.rn_pattern.specs.Tree as tree
use Rattle.rn_pattern.specs.Tree.{Parameters, NameTree, Tree, Trees, no_trees, more_trees, trees_of}
use Rattle.rn_text.specs.Texts.{Text}
use Rattle.rn_pattern.specs.Order.{rank, trees_cmp}
use Rattle.rn_pattern.specs.View.{named_step, pattern_step, pattern_view, shared_view, parameters_view, excepted_view, shared_trees}
use Rattle.rn_pattern.specs.declared.tree.Data.{Data}
use Rattle.rn_pattern.specs.declared.tree.Named.{Named, fold-Named}
use Rattle.rn_pattern.specs.declared.tree.Pattern.{Pattern, fold-roll-Pattern, map-Pattern}
use Rattle.rn_pattern.specs.declared.tree.Pattern.TheOpen.{Pattern-F}
use Rattle.rn_pattern.specs.declared.tree.Pattern.TheVariants as variant
use Rattle.rn_pattern.specs.declared.tree.Pattern.TheViews as pattern
use Rattle.rn_pattern.specs.inside.Shown.{members_in}

shared_by : (ps : List (Rc Pattern Global)) → map (λ (r : Rc Tree Global). r.value) (map (λ (p : Rc Pattern Global). record { ptr = p.ptr; value = pattern_view p.value }) ps) ≡ map shared_view ps
shared_by [] = refl
shared_by (p ∷ ps) = ap (λ t. shared_view p ∷ t) (shared_by ps)

pub group_seen : (v : Vec (Rc Pattern Global) Global) → pattern_view (pattern.Group v) ≡ tree.group (shared_trees v.items)
group_seen v = ap pattern_view (sym (variant.rolls-Group v)) ∙ fold-roll-Pattern Tree (NameTree × Tree) pattern_step named_step (Pattern-F.Group v) ∙ ap (λ ts. tree.group (trees_of ts)) (shared_by v.items)

pub interleave_seen : (v : Vec (Rc Pattern Global) Global) → pattern_view (pattern.Interleave v) ≡ tree.interleave (shared_trees v.items)
interleave_seen v = ap pattern_view (sym (variant.rolls-Interleave v)) ∙ fold-roll-Pattern Tree (NameTree × Tree) pattern_step named_step (Pattern-F.Interleave v) ∙ ap (λ ts. tree.interleave (trees_of ts)) (shared_by v.items)

pub choice_seen : (v : Vec (Rc Pattern Global) Global) → pattern_view (pattern.Choice v) ≡ tree.choice (shared_trees v.items)
choice_seen v = ap pattern_view (sym (variant.rolls-Choice v)) ∙ fold-roll-Pattern Tree (NameTree × Tree) pattern_step named_step (Pattern-F.Choice v) ∙ ap (λ ts. tree.choice (trees_of ts)) (shared_by v.items)

abbrev pub datum_of : Text → Text → Parameters → Trees → Tree
datum_of k x s no_trees = tree.datum k x s
datum_of k x s (more_trees p ps) = tree.datum_but k x s p

pub datum_seen : (d : Box Data Global) (p : Option (Box Pattern Global)) → pattern_view (pattern.Datum d p) ≡ datum_of (rc_str_bytes d.value.library) (string_bytes d.value.type_name) (parameters_view d.value.params.items) (excepted_view p)
datum_seen d None = ap pattern_view (sym (variant.rolls-Datum d None)) ∙ fold-roll-Pattern Tree (NameTree × Tree) pattern_step named_step (Pattern-F.Datum d None)
datum_seen d (Some p) = ap pattern_view (sym (variant.rolls-Datum d (Some p))) ∙ fold-roll-Pattern Tree (NameTree × Tree) pattern_step named_step (Pattern-F.Datum d (Some p))

datum_members : (k x : Text) (s : Parameters) (p : Option (Box Pattern Global)) → members_in (datum_of k x s (excepted_view p)) ≡ excepted_view p
datum_members k x s None = refl
datum_members k x s (Some p) = refl

pub datum_excepted : (d : Box Data Global) (p : Option (Box Pattern Global)) → members_in (pattern_view (pattern.Datum d p)) ≡ excepted_view p
datum_excepted d p = ap members_in (datum_seen d p) ∙ datum_members (rc_str_bytes d.value.library) (string_bytes d.value.type_name) (parameters_view d.value.params.items) p

-- the tree of one layer
abbrev pub layer_view : Pattern-F Pattern Named → Tree
layer_view x = pattern_step (map-Pattern Pattern Named Tree (NameTree × Tree) pattern_view (fold-Named Tree (NameTree × Tree) pattern_step named_step) x)

by_view : (x : Pattern-F Pattern Named) → rank (pattern_view (pattern.roll-Pattern x)) ≡ rank (layer_view x)
by_view x = ap rank (fold-roll-Pattern Tree (NameTree × Tree) pattern_step named_step x)

layer_of : (q : Pattern) → rank (layer_view (pattern.out-Pattern q)) ≡ rank (pattern_view q)
layer_of q = sym (by_view (pattern.out-Pattern q)) ∙ ap (λ n. rank (pattern_view n)) (pattern.roll-out-Pattern q)

-- of two patterns one alone is of a kind
pub apart : (x : Pattern-F Pattern Named) (p q : Pattern) → pattern.roll-Pattern x ≡ p → ¬ (rank (pattern_view q) ≡ rank (layer_view x)) → ¬ (rank (pattern_view p) ≡ rank (pattern_view q))
apart x p q e n f = n (sym f ∙ ap (λ r. rank (pattern_view r)) (sym e) ∙ by_view x)

pub datum_kind : (a : Box Data Global) (e : Option (Box Pattern Global)) → rank (layer_view (Pattern-F.Datum a e)) ≡ 5
datum_kind a None = refl
datum_kind a (Some e) = refl

layer_datum : (x : Pattern-F Pattern Named) → ((a : Box Data Global) (e : Option (Box Pattern Global)) → x ≡ Pattern-F.Datum a e → ⊥) → ¬ (rank (layer_view x) ≡ 5)
layer_datum (Pattern-F.Datum a None) h f = h a None refl
layer_datum (Pattern-F.Datum a (Some e)) h f = h a (Some e) refl
layer_datum x h f = absurd (omega (arith, f))

pub not_datum : (q : Pattern) → ((a : Box Data Global) (e : Option (Box Pattern Global)) → q ≡ variant.Datum a e → ⊥) → ¬ (rank (pattern_view q) ≡ 5)
not_datum q h f = layer_datum (pattern.out-Pattern q) (λ a e k. h a e (sym (pattern.roll-out-Pattern q) ∙ ap pattern.roll-Pattern k ∙ variant.rolls-Datum a e)) (layer_of q ∙ f)

layer_list : (x : Pattern-F Pattern Named) → ((a : Box Pattern Global) → x ≡ Pattern-F.List a → ⊥) → ¬ (rank (layer_view x) ≡ 6)
layer_list (Pattern-F.List a) h f = h a refl
layer_list (Pattern-F.Datum d e) h f = absurd (omega (arith, f, datum_kind d e))
layer_list x h f = absurd (omega (arith, f))

pub not_list : (q : Pattern) → ((a : Box Pattern Global) → q ≡ variant.List a → ⊥) → ¬ (rank (pattern_view q) ≡ 6)
not_list q h f = layer_list (pattern.out-Pattern q) (λ a k. h a (sym (pattern.roll-out-Pattern q) ∙ ap pattern.roll-Pattern k ∙ variant.rolls-List a)) (layer_of q ∙ f)

layer_attribute : (x : Pattern-F Pattern Named) → ((a : Box Named Global) → x ≡ Pattern-F.Attribute a → ⊥) → ¬ (rank (layer_view x) ≡ 7)
layer_attribute (Pattern-F.Attribute a) h f = h a refl
layer_attribute (Pattern-F.Datum d e) h f = absurd (omega (arith, f, datum_kind d e))
layer_attribute x h f = absurd (omega (arith, f))

pub not_attribute : (q : Pattern) → ((a : Box Named Global) → q ≡ variant.Attribute a → ⊥) → ¬ (rank (pattern_view q) ≡ 7)
not_attribute q h f = layer_attribute (pattern.out-Pattern q) (λ a k. h a (sym (pattern.roll-out-Pattern q) ∙ ap pattern.roll-Pattern k ∙ variant.rolls-Attribute a)) (layer_of q ∙ f)

layer_element : (x : Pattern-F Pattern Named) → ((a : Box Named Global) → x ≡ Pattern-F.Element a → ⊥) → ¬ (rank (layer_view x) ≡ 8)
layer_element (Pattern-F.Element a) h f = h a refl
layer_element (Pattern-F.Datum d e) h f = absurd (omega (arith, f, datum_kind d e))
layer_element x h f = absurd (omega (arith, f))

pub not_element : (q : Pattern) → ((a : Box Named Global) → q ≡ variant.Element a → ⊥) → ¬ (rank (pattern_view q) ≡ 8)
not_element q h f = layer_element (pattern.out-Pattern q) (λ a k. h a (sym (pattern.roll-out-Pattern q) ∙ ap pattern.roll-Pattern k ∙ variant.rolls-Element a)) (layer_of q ∙ f)

layer_oneormore : (x : Pattern-F Pattern Named) → ((a : Box Pattern Global) → x ≡ Pattern-F.OneOrMore a → ⊥) → ¬ (rank (layer_view x) ≡ 9)
layer_oneormore (Pattern-F.OneOrMore a) h f = h a refl
layer_oneormore (Pattern-F.Datum d e) h f = absurd (omega (arith, f, datum_kind d e))
layer_oneormore x h f = absurd (omega (arith, f))

pub not_oneormore : (q : Pattern) → ((a : Box Pattern Global) → q ≡ variant.OneOrMore a → ⊥) → ¬ (rank (pattern_view q) ≡ 9)
not_oneormore q h f = layer_oneormore (pattern.out-Pattern q) (λ a k. h a (sym (pattern.roll-out-Pattern q) ∙ ap pattern.roll-Pattern k ∙ variant.rolls-OneOrMore a)) (layer_of q ∙ f)

layer_group : (x : Pattern-F Pattern Named) → ((a : Vec (Rc Pattern Global) Global) → x ≡ Pattern-F.Group a → ⊥) → ¬ (rank (layer_view x) ≡ 10)
layer_group (Pattern-F.Group a) h f = h a refl
layer_group (Pattern-F.Datum d e) h f = absurd (omega (arith, f, datum_kind d e))
layer_group x h f = absurd (omega (arith, f))

pub not_group : (q : Pattern) → ((a : Vec (Rc Pattern Global) Global) → q ≡ variant.Group a → ⊥) → ¬ (rank (pattern_view q) ≡ 10)
not_group q h f = layer_group (pattern.out-Pattern q) (λ a k. h a (sym (pattern.roll-out-Pattern q) ∙ ap pattern.roll-Pattern k ∙ variant.rolls-Group a)) (layer_of q ∙ f)

layer_interleave : (x : Pattern-F Pattern Named) → ((a : Vec (Rc Pattern Global) Global) → x ≡ Pattern-F.Interleave a → ⊥) → ¬ (rank (layer_view x) ≡ 11)
layer_interleave (Pattern-F.Interleave a) h f = h a refl
layer_interleave (Pattern-F.Datum d e) h f = absurd (omega (arith, f, datum_kind d e))
layer_interleave x h f = absurd (omega (arith, f))

pub not_interleave : (q : Pattern) → ((a : Vec (Rc Pattern Global) Global) → q ≡ variant.Interleave a → ⊥) → ¬ (rank (pattern_view q) ≡ 11)
not_interleave q h f = layer_interleave (pattern.out-Pattern q) (λ a k. h a (sym (pattern.roll-out-Pattern q) ∙ ap pattern.roll-Pattern k ∙ variant.rolls-Interleave a)) (layer_of q ∙ f)

layer_choice : (x : Pattern-F Pattern Named) → ((a : Vec (Rc Pattern Global) Global) → x ≡ Pattern-F.Choice a → ⊥) → ¬ (rank (layer_view x) ≡ 12)
layer_choice (Pattern-F.Choice a) h f = h a refl
layer_choice (Pattern-F.Datum d e) h f = absurd (omega (arith, f, datum_kind d e))
layer_choice x h f = absurd (omega (arith, f))

pub not_choice : (q : Pattern) → ((a : Vec (Rc Pattern Global) Global) → q ≡ variant.Choice a → ⊥) → ¬ (rank (pattern_view q) ≡ 12)
not_choice q h f = layer_choice (pattern.out-Pattern q) (λ a k. h a (sym (pattern.roll-out-Pattern q) ∙ ap pattern.roll-Pattern k ∙ variant.rolls-Choice a)) (layer_of q ∙ f)

no_members : (p : Tree) → ¬ (rank p ≡ 5) → ¬ (rank p ≡ 6) → ¬ (rank p ≡ 7) → ¬ (rank p ≡ 8) → ¬ (rank p ≡ 9) → ¬ (rank p ≡ 10) → ¬ (rank p ≡ 11) → ¬ (rank p ≡ 12) → members_in p ≡ no_trees
no_members (tree.datum_but k x s p) n5 n6 n7 n8 n9 n10 n11 n12 = absurd (n5 refl)
no_members (tree.list p) n5 n6 n7 n8 n9 n10 n11 n12 = absurd (n6 refl)
no_members (tree.attribute c p) n5 n6 n7 n8 n9 n10 n11 n12 = absurd (n7 refl)
no_members (tree.element c p) n5 n6 n7 n8 n9 n10 n11 n12 = absurd (n8 refl)
no_members (tree.one_or_more p) n5 n6 n7 n8 n9 n10 n11 n12 = absurd (n9 refl)
no_members (tree.group ps) n5 n6 n7 n8 n9 n10 n11 n12 = absurd (n10 refl)
no_members (tree.interleave ps) n5 n6 n7 n8 n9 n10 n11 n12 = absurd (n11 refl)
no_members (tree.choice ps) n5 n6 n7 n8 n9 n10 n11 n12 = absurd (n12 refl)
no_members p n5 n6 n7 n8 n9 n10 n11 n12 = refl

-- of two patterns of one kind without members
pub no_members_tied : (p q : Tree) → rank p ≡ rank q → ¬ (rank p ≡ 5) → ¬ (rank p ≡ 6) → ¬ (rank p ≡ 7) → ¬ (rank p ≡ 8) → ¬ (rank p ≡ 9) → ¬ (rank p ≡ 10) → ¬ (rank p ≡ 11) → ¬ (rank p ≡ 12) → Equal ≡ trees_cmp (members_in p) (members_in q)
no_members_tied p q e n5 n6 n7 n8 n9 n10 n11 n12 =
    let none = no_members p n5 n6 n7 n8 n9 n10 n11 n12 in
    let none' = no_members q (λ f. n5 (e ∙ f)) (λ f. n6 (e ∙ f)) (λ f. n7 (e ∙ f)) (λ f. n8 (e ∙ f)) (λ f. n9 (e ∙ f)) (λ f. n10 (e ∙ f)) (λ f. n11 (e ∙ f)) (λ f. n12 (e ∙ f)) in
    λ i. trees_cmp ((sym none) i) ((sym none') i)
