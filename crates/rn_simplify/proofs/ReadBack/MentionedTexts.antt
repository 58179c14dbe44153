-- What is asked of a pattern's namespaces and libraries, asked of those that it mentions.
use Rattle.std.proofs.Common.{◌≡◌, true, false, List, [], ◌∷◌, ◌++◌, refl, ⊎_elim}
use Rattle.std.specs.Prelude.{bytes_eq}
use Rattle.std.specs.List.{AllByRecursion}
use Rattle.std.proofs.lemmas.Bool.{cases_Bool}
use Rattle.rn_pattern.specs.Tree.{NameTree, NameTrees, Tree, Trees, more_trees, no_trees}
use Rattle.rn_text.specs.Texts.{Text}
use Rattle.rn_simplify.specs.Spelling.{name_uris, names_uris}
use Rattle.rn_simplify.specs.Printable as w
use Rattle.rn_simplify.specs.Printable.{IsClass, AreClasses, IsPrintable, ArePrintable, every, every_but, all_of, all_of_but, local, full, either}
use Rattle.rn_assemble.specs.WritableTexts.{IsType, IsData, string_type, token_type, library_type, bare, with_params, Free}
use Rattle.rn_simplify.specs.inside.Gathers.{tree_namespaces, tree_libraries, trees_namespaces, trees_libraries}

pub all_first : (Q : Text → Type 0) (xs ys : List Text) → AllByRecursion Q (xs ++ ys) → AllByRecursion Q xs
all_first Q [] ys a = tt
all_first Q (x ∷ xs) ys a = (a.0, all_first Q xs ys a.1)

pub all_second : (Q : Text → Type 0) (xs ys : List Text) → AllByRecursion Q (xs ++ ys) → AllByRecursion Q ys
all_second Q [] ys a = a
all_second Q (x ∷ xs) ys a = all_second Q xs ys a.1

module _ (N L : Text → Type 0) where
  -- of a namespace that is not empty, of the empty one, and of a library
  abbrev pub Named : Text → Type 0
  Named u = bytes_eq u [] ≡ false → N u

  abbrev pub Wide : Text → Type 0
  Wide u = bytes_eq u [] ≡ true → N u

  ns_named : (u : Text) → Named u → Wide u → N u
  ns_named u a b = ⊎_elim b a (cases_Bool (bytes_eq u []))

  mutual
    class_bound : {n : NameTree} → IsClass Free Free n → AllByRecursion Named (name_uris false n) → AllByRecursion Wide (name_uris true n) → IsClass N N n
    class_bound every a b = every
    class_bound (every_but h) a b = every_but (class_bound h a b)
    class_bound (all_of {u = u} x) a b = all_of (ns_named u a.0 b.0)
    class_bound (all_of_but {u = u} x h) a b = all_of_but (ns_named u a.0 b.0) (class_bound h a.1 b.1)
    class_bound (local n) a b = local n
    class_bound (full x n) a b = full (a.0 refl) n
    class_bound (either {n = n} {m = m} {ns = ns} h r) a b =
        either (class_bound h (all_first Named (name_uris false n) _ a) (all_first Wide (name_uris true n) _ b)) (classes_bound r (all_second Named (name_uris false n) _ a) (all_second Wide (name_uris true n) _ b))

    classes_bound : {ns : NameTrees} → AreClasses Free Free ns → AllByRecursion Named (names_uris false ns) → AllByRecursion Wide (names_uris true ns) → AreClasses N N ns
    classes_bound (w.last {n = n} h) a b = w.last (class_bound h (all_first Named (name_uris false n) _ a) (all_first Wide (name_uris true n) _ b))
    classes_bound (w.more {n = n} h r) a b =
        w.more (class_bound h (all_first Named (name_uris false n) _ a) (all_first Wide (name_uris true n) _ b)) (classes_bound r (all_second Named (name_uris false n) _ a) (all_second Wide (name_uris true n) _ b))

  abbrev pub Libraries : Text → Type 0
  Libraries l = bytes_eq l [] ≡ false → L l

  type_bound : {l x : Text} → IsType Free l x → Libraries l → IsType L l x
  type_bound string_type c = string_type
  type_bound token_type c = token_type
  type_bound (library_type b n) c = library_type (c refl) n

  data_bound : {l x : Text} {ps : _} → IsData Free l x ps → Libraries l → IsData L l x ps
  data_bound (bare h) c = bare (type_bound h c)
  data_bound (with_params b n e) c = with_params (c refl) n e

  abbrev pub Names : Tree → Type 0
  Names p = AllByRecursion Named (tree_namespaces false p) × AllByRecursion Wide (tree_namespaces true p) × AllByRecursion Libraries (tree_libraries p)

  abbrev AllNames : Trees → Type 0
  AllNames ps = AllByRecursion Named (trees_namespaces false ps) × AllByRecursion Wide (trees_namespaces true ps) × AllByRecursion Libraries (trees_libraries ps)

  first : (p : Tree) (ps : Trees) → AllNames (more_trees p ps) → Names p
  first p ps a = (all_first Named (tree_namespaces false p) _ a.0, all_first Wide (tree_namespaces true p) _ a.1, all_first Libraries (tree_libraries p) _ a.2)

  others : (p : Tree) (ps : Trees) → AllNames (more_trees p ps) → AllNames ps
  others p ps a = (all_second Named (tree_namespaces false p) _ a.0, all_second Wide (tree_namespaces true p) _ a.1, all_second Libraries (tree_libraries p) _ a.2)

  in_class : (n : NameTree) (p : Tree) → AllByRecursion Named (name_uris false n ++ tree_namespaces false p) × AllByRecursion Wide (name_uris true n ++ tree_namespaces true p) × AllByRecursion Libraries (tree_libraries p) → Names p
  in_class n p a = (all_second Named (name_uris false n) _ a.0, all_second Wide (name_uris true n) _ a.1, a.2)

  mutual
    pub tree_bound : {p : Tree} → IsPrintable Free Free Free p → Names p → IsPrintable N N L p
    tree_bound w.not_allowed a = w.not_allowed
    tree_bound w.empty a = w.empty
    tree_bound w.text a = w.text
    tree_bound (w.ref n) a = w.ref n
    tree_bound (w.value h c e) a = w.value (type_bound h a.2.0) c e
    tree_bound (w.datum d) a = w.datum (data_bound d a.2.0)
    tree_bound (w.datum_but d e h) a = w.datum_but (data_bound d a.2.0) e (tree_bound h (a.0, a.1, a.2.1))
    tree_bound (w.list h) a = w.list (tree_bound h a)
    tree_bound (w.attribute {n = n} {p = p} c h) a = w.attribute (class_bound c (all_first Named (name_uris false n) _ a.0) (all_first Wide (name_uris true n) _ a.1)) (tree_bound h (in_class n p a))
    tree_bound (w.element {n = n} {p = p} c h) a = w.element (class_bound c (all_first Named (name_uris false n) _ a.0) (all_first Wide (name_uris true n) _ a.1)) (tree_bound h (in_class n p a))
    tree_bound (w.one_or_more h) a = w.one_or_more (tree_bound h a)
    tree_bound (w.group {p = p} {q = q} {ps = ps} h rs) a = w.group (tree_bound h (first p (more_trees q ps) a)) (trees_bound rs (others p (more_trees q ps) a))
    tree_bound (w.interleave {p = p} {q = q} {ps = ps} e h rs) a = w.interleave e (tree_bound h (first p (more_trees q ps) a)) (trees_bound rs (others p (more_trees q ps) a))
    tree_bound (w.mixed {p = p} h) a = w.mixed (tree_bound h (first p no_trees a))
    tree_bound (w.mixed_several {p = p} {q = q} {ps = ps} h rs) a = w.mixed_several (tree_bound h (first p (more_trees q ps) a)) (trees_bound rs (others p (more_trees q ps) a))
    tree_bound (w.choice {p = p} {q = q} {ps = ps} e h rs) a = w.choice e (tree_bound h (first p (more_trees q ps) a)) (trees_bound rs (others p (more_trees q ps) a))
    tree_bound (w.maybe {p = p} e h) a = w.maybe e (tree_bound h (first p no_trees a))
    tree_bound (w.any_number {p = p} h) a = w.any_number (tree_bound h (first p no_trees a))
    tree_bound (w.maybe_several {p = p} {q = q} {ps = ps} h rs) a = w.maybe_several (tree_bound h (first p (more_trees q ps) a)) (trees_bound rs (others p (more_trees q ps) a))

    trees_bound : {ps : Trees} → ArePrintable Free Free Free ps → AllNames ps → ArePrintable N N L ps
    trees_bound (w.last {p = p} h) a = w.last (tree_bound h (first p no_trees a))
    trees_bound (w.more {p = p} {q = q} {ps = ps} h rs) a = w.more (tree_bound h (first p (more_trees q ps) a)) (trees_bound rs (others p (more_trees q ps) a))
