-- Whether a pattern matches, by trying each split.
use Rattle.std.proofs.Common.{◌+◌, ℕ, zero, suc, Bool, true, false, not, ◌&&◌, ◌||◌, List, [], ◌∷◌, map, length}
use Rattle.std.specs.Prelude.{bytes_eq, codes}
use Rattle.std.specs.Option.{option_map_or}
use Rattle.rn_pattern.specs.Tree.{Parameters, NameTree, NameTrees, any_name, any_name_but, ns_name, ns_name_but, name, name_choice, no_names, more_names, Tree, Trees, not_allowed, empty, text, ref, value, datum, datum_but, list, attribute, element, one_or_more, group, interleave, choice, no_trees, more_trees}
use Rattle.rn_text.specs.Texts.{Text, is_white}
use Rattle.rn_pattern.specs.Document.{Attribute, Item, Items, node, string, items_of}
use Rattle.rn_pattern.specs.Datatype.{Table, words, collapsed}
use Rattle.rn_pattern.specs.Matching.{Grammar, definition_of}

-- the second test alone where the first passes, or fails
abbrev pub both : Bool → (Unit {0} → Bool) → Bool
both true f = f tt
both false f = false

abbrev pub either : Bool → (Unit {0} → Bool) → Bool
either true f = true
either false f = f tt

abbrev pub is_empty : {X : Type 0} → List X → Bool
is_empty [] = true
is_empty (x ∷ xs) = false

-- two lists that the list is woven of
abbrev pub some_weave : {X : Type 0} → (List X → List X → Bool) → List X → Bool
some_weave f [] = f [] []
some_weave f (x ∷ xs) = either (some_weave (λ y z. f (x ∷ y) z) xs) (λ _. some_weave (λ y z. f y (x ∷ z)) xs)

-- a front of the list, and the rest
abbrev pub some_cut : {X : Type 0} → (List X → List X → Bool) → List X → Bool
some_cut f [] = f [] []
some_cut f (x ∷ xs) = either (f [] (x ∷ xs)) (λ _. some_cut (λ y z. f (x ∷ y) z) xs)

-- one part or more, at most n + 1
abbrev pub times : (List Attribute → List Item → Bool) → ℕ → List Attribute → List Item → Bool
times f zero a m = f a m
times f (suc n) a m = either (f a m) (λ _. some_weave (λ b c. some_cut (λ k l. both (f b k) (λ _. times f n c l)) m) a)

abbrev pub are_strings : List Item → Bool
are_strings [] = true
are_strings (node u l a k ∷ m) = false
are_strings (string s ∷ m) = are_strings m

abbrev pub is_blank : Text → Bool
is_blank [] = true
is_blank (c ∷ s) = is_white c && is_blank s

abbrev pub is_padding : List Item → Bool
is_padding [] = true
is_padding (node u l a k ∷ m) = false
is_padding (string s ∷ []) = is_blank s
is_padding (string s ∷ i ∷ m) = false

abbrev pub is_string_with : (Text → Bool) → List Item → Bool
is_string_with f [] = false
is_string_with f (node u l a k ∷ m) = false
is_string_with f (string s ∷ []) = f s
is_string_with f (string s ∷ i ∷ m) = false

abbrev pub is_attribute_with : (Attribute → Bool) → List Attribute → Bool
is_attribute_with f [] = false
is_attribute_with f (x ∷ []) = f x
is_attribute_with f (x ∷ y ∷ a) = false

abbrev pub is_element_with : (Text → Text → List Attribute → Items → Bool) → List Item → Bool
is_element_with f [] = false
is_element_with f (node u l b k ∷ m) = both (is_padding m) (λ _. f u l b k)
is_element_with f (string s ∷ []) = false
is_element_with f (string s ∷ string t ∷ m) = false
is_element_with f (string s ∷ node u l b k ∷ m) = both (is_blank s) (λ _. both (is_padding m) (λ _. f u l b k))

abbrev pub weakly : (List Attribute → List Item → Bool) → List Attribute → List Item → Bool
weakly f a m = either (f a m) (λ _. either (is_string_with (λ s. both (is_blank s) (λ _. f a [])) m) (λ _. both (is_empty m) (λ _. f a (string [] ∷ []))))

abbrev mutual
  pub holds_name : Text → Text → NameTree → Bool
  holds_name u l any_name = true
  holds_name u l (any_name_but c) = not (holds_name u l c)
  holds_name u l (ns_name v) = bytes_eq u v
  holds_name u l (ns_name_but v c) = bytes_eq u v && not (holds_name u l c)
  holds_name u l (name v m) = bytes_eq u v && bytes_eq l m
  holds_name u l (name_choice cs) = some_holds_name u l cs

  pub some_holds_name : Text → Text → NameTrees → Bool
  some_holds_name u l no_names = false
  some_holds_name u l (more_names c cs) = holds_name u l c || some_holds_name u l cs

abbrev pub same_parameters : Parameters → Parameters → Bool
same_parameters [] [] = true
same_parameters [] (q ∷ qs) = false
same_parameters (p ∷ ps) [] = false
same_parameters (p ∷ ps) (q ∷ qs) = bytes_eq p.0 q.0 && (bytes_eq p.1 q.1 && same_parameters ps qs)

abbrev pub is_allowed : List (Text × Text × Parameters × Text) → Text → Text → Parameters → Text → Bool
is_allowed [] library type params s = false
is_allowed (x ∷ xs) library type params s = (bytes_eq x.0 library && (bytes_eq x.1 type && (same_parameters x.2 params && bytes_eq x.3 s))) || is_allowed xs library type params s

abbrev pub is_equal : List (Text × Text × Text × Text) → Text → Text → Text → Text → Bool
is_equal [] library type s t = false
is_equal (x ∷ xs) library type s t = (bytes_eq x.0 library && (bytes_eq x.1 type && (bytes_eq x.2 s && bytes_eq x.3 t))) || is_equal xs library type s t

abbrev pub allows : Table → Text → Text → Parameters → Text → Bool
allows T [] type params s = bytes_eq type (codes "string") || bytes_eq type (codes "token")
allows T (c ∷ library) type params s = is_allowed T.allowed (c ∷ library) type params s

abbrev pub takes_as_equal : Table → Text → Text → Text → Text → Bool
takes_as_equal T [] type s t = (bytes_eq type (codes "string") && bytes_eq s t) || (bytes_eq type (codes "token") && bytes_eq (collapsed s) (collapsed t))
takes_as_equal T (c ∷ library) type s t = is_equal T.equal (c ∷ library) type s t

-- means: whether a reference matches
module _ (T : Table) (means : Text → List Attribute → List Item → Bool) where
  abbrev mutual
    pub accepts : Tree → List Attribute → List Item → Bool
    accepts not_allowed a m = false
    accepts empty a m = is_empty a && is_empty m
    accepts text a m = is_empty a && are_strings m
    accepts (ref x) a m = means x a m
    accepts (value library type t) a m = both (is_empty a) (λ _. is_string_with (λ s. takes_as_equal T library type t s) m)
    accepts (datum library type params) a m = both (is_empty a) (λ _. is_string_with (λ s. allows T library type params s) m)
    accepts (datum_but library type params p) a m = both (is_empty a) (λ _. is_string_with (λ s. both (allows T library type params s) (λ _. not (accepts p a m))) m)
    accepts (list p) a m = both (is_empty a) (λ _. is_string_with (λ s. accepts p [] (map string (words s))) m)
    accepts (attribute c p) a m = both (is_empty m) (λ _. is_attribute_with (λ x. both (holds_name x.uri x.local c) (λ _. weakly (λ b k. accepts p b k) [] (string x.content ∷ []))) a)
    accepts (element c p) a m = both (is_empty a) (λ _. is_element_with (λ u l b k. both (holds_name u l c) (λ _. weakly (λ d n. accepts p d n) b (items_of k))) m)
    accepts (one_or_more p) a m = times (λ b k. accepts p b k) (length a + length m) a m
    accepts (group ps) a m = in_turn ps a m
    accepts (interleave ps) a m = in_any_order ps a m
    accepts (choice ps) a m = some_accepts ps a m

    pub in_turn : Trees → List Attribute → List Item → Bool
    in_turn no_trees a m = is_empty a && is_empty m
    in_turn (more_trees p ps) a m = some_weave (λ b c. some_cut (λ k l. both (accepts p b k) (λ _. in_turn ps c l)) m) a

    pub in_any_order : Trees → List Attribute → List Item → Bool
    in_any_order no_trees a m = is_empty a && is_empty m
    in_any_order (more_trees p ps) a m = some_weave (λ b c. some_weave (λ k l. both (accepts p b k) (λ _. in_any_order ps c l)) m) a

    pub some_accepts : Trees → List Attribute → List Item → Bool
    some_accepts no_trees a m = false
    some_accepts (more_trees p ps) a m = either (accepts p a m) (λ _. some_accepts ps a m)

-- through at most n nested references
abbrev pub accepts_within : ℕ → Grammar → Table → Text → List Attribute → List Item → Bool
accepts_within zero G T x a m = false
accepts_within (suc n) G T x a m = option_map_or (λ p. accepts T (accepts_within n G T) p a m) (definition_of G x) false

-- whether the document matches the start, through at most n nested references
abbrev pub is_valid_within : ℕ → Grammar → Table → Item → Bool
is_valid_within n G T doc = accepts T (accepts_within n G T) G.start [] (doc ∷ [])
