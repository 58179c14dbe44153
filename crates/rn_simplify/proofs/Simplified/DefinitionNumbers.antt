-- Numbers of definitions, and those that a pattern refers to.
use Rattle.std.proofs.Common.{◌≡◌, ◌⊎◌, inl, inr, ◌+◌, ◌<◌, ℕ, suc, cond, not, nat_lt, List, [], ◌∷◌, ◌++◌, length, map, take, get_or, position, Option, Some, None, refl, sym, ap, ◌∙◌, append_assoc, append-nil, Vec}
use Rattle.std.specs.Prelude.{bytes_eq, String, string_bytes}
use Rattle.std.specs.List.{cons_option, prefix_len}
use Rattle.std.specs.declared.alloc.Global.{Global}
use Rattle.std.specs.declared.rc.Rc.{Rc}
use Rattle.std.proofs.lemmas.List.{take_more, map-append}
use Rattle.std.proofs.lemmas.List.Elements.{filter_map-append}
use Rattle.rn_pattern.specs.Tree.{Tree, trees_of}
use Rattle.rn_text.specs.Texts.{Text}
use Rattle.rn_pattern.specs.View.{pattern_view, shared_view, shared_trees}
use Rattle.rn_pattern.specs.declared.tree.Pattern.{Pattern}
use Rattle.rn_pattern.specs.declared.tree.Pattern.TheVariants as variant
use Rattle.rn_pattern.proofs.Ordered.PatternKinds.{group_seen, interleave_seen, choice_seen}
use Rattle.rn_assemble.specs.GrammarView.{definitions_view}
use Rattle.rn_simplify.specs.inside.DefinitionNumbers.{all_reference_numbers, number_of, numbers_of, reference_numbers}
use Rattle.rn_simplify.specs.inside.ReferredNames.{references, all_references}

front_is : (es : List (String Global × Pattern)) (x : Text) → prefix_len (λ (k : String Global). not (bytes_eq x (string_bytes k))) (map (λ (e : String Global × Pattern). e.0) es) ≡ prefix_len (λ y. not (bytes_eq x y)) (map (λ (d : Text × Tree). d.0) (definitions_view es))
front_is [] x = refl
front_is (e ∷ es) x = ap (λ n. cond (not (bytes_eq x (string_bytes e.0))) (1 + n) 0) (front_is es x)

pub size_is : (es : List (String Global × Pattern)) → length (map (λ (e : String Global × Pattern). e.0) es) ≡ length (map (λ (d : Text × Tree). d.0) (definitions_view es))
size_is [] = refl
size_is (e ∷ es) = ap suc (size_is es)

pub size_of_view : (es : List (String Global × Pattern)) → length (definitions_view es) ≡ length es
size_of_view [] = refl
size_of_view (e ∷ es) = ap suc (size_of_view es)

-- the place of a name among the keys is its number
pub number_is : (es : List (String Global × Pattern)) (x : Text) → position (λ (k : String Global). bytes_eq x (string_bytes k)) (map (λ (e : String Global × Pattern). e.0) es) ≡ number_of (definitions_view es) x
number_is es x = let f = front_is es x in let l = size_is es in λ i. cond (nat_lt (f i) (l i)) (Some (f i)) None

-- a name with a number, and one without
module _ (es : List (String Global × Pattern)) (x : Text) where
  abbrev places : Option ℕ
  places = position (λ (k : String Global). bytes_eq x (string_bytes k)) (map (λ (e : String Global × Pattern). e.0) es)

  pub one_number : (k : ℕ) → places ≡ Some k → k ∷ [] ≡ numbers_of (definitions_view es) (x ∷ [])
  one_number k e = ap (λ o. cons_option o []) (sym e ∙ number_is es x)

  pub not_numbered : places ≡ None → numbers_of (definitions_view es) (x ∷ []) ≡ []
  not_numbered e = ap (λ o. cons_option o []) (sym (number_is es x) ∙ e)

-- the references of a pattern that has members are theirs
by_kind : (p : Pattern) (v : Vec (Rc Pattern Global) Global) → (p ≡ variant.Group v) ⊎ ((p ≡ variant.Interleave v) ⊎ (p ≡ variant.Choice v)) → references (pattern_view p) ≡ all_references (shared_trees v.items)
by_kind p v (inl e) = ap (λ q. references (pattern_view q)) e ∙ ap (references) (group_seen v)
by_kind p v (inr (inl e)) = ap (λ q. references (pattern_view q)) e ∙ ap (references) (interleave_seen v)
by_kind p v (inr (inr e)) = ap (λ q. references (pattern_view q)) e ∙ ap (references) (choice_seen v)

pub of_members : (p : Pattern) (v : Vec (Rc Pattern Global) Global) (members : List (Rc Pattern Global)) → members ≡ v.items
    → (p ≡ variant.Group v) ⊎ ((p ≡ variant.Interleave v) ⊎ (p ≡ variant.Choice v)) → all_references (shared_trees members) ≡ references (pattern_view p)
of_members p v members is kind = ap (λ ps. all_references (shared_trees ps)) is ∙ sym (by_kind p v kind)

all_more : (ps : List Tree) (p : Tree) → all_references (trees_of (ps ++ p ∷ [])) ≡ all_references (trees_of ps) ++ references p
all_more [] p = append-nil (references p)
all_more (q ∷ ps) p = ap (λ xs. references q ++ xs) (all_more ps p) ∙ sym (append_assoc (references q) (all_references (trees_of ps)) (references p))

-- one more member
pub numbers_more : (ds : List (Text × Tree)) (members : List (Rc Pattern Global)) (i : ℕ) (r : Rc Pattern Global) → i < length members → r ≡ get_or members i r
    → all_reference_numbers ds (shared_trees (take (i + 1) members)) ≡ all_reference_numbers ds (shared_trees (take i members)) ++ reference_numbers ds (shared_view r)
numbers_more ds members i r h is =
    let before = map shared_view (take i members) in
    let taken : map shared_view (take (i + 1) members) ≡ before ++ shared_view r ∷ [] = ap (map shared_view) (take_more members i r h ∙ ap (λ x. take i members ++ x ∷ []) (sym is)) ∙ map-append shared_view (take i members) (r ∷ []) in
    ap (numbers_of ds) (ap (λ ps. all_references (trees_of ps)) taken ∙ all_more before (shared_view r))
    ∙ filter_map-append (number_of ds) (all_references (trees_of before)) (references (shared_view r))
