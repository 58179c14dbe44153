-- What is written of lists, member by member.
use Rattle.std.proofs.Common.{◌≡◌, ℕ, zero, suc, ◌<◌, List, [], ◌∷◌, ◌++◌, length, get_or, refl, sym, ap, ◌∙◌, append-nil, arith}
use Rattle.std.specs.Prelude.{flat_map, map}
use Rattle.rn_syntax.specs.declared.tree.Nc.{Nc}
use Rattle.rn_syntax.specs.declared.tree.Pat.{Pat}
use Rattle.rn_syntax.specs.declared.tree.Param.{Param}
use Rattle.rn_syntax.specs.declared.tree.Item.{Item}
use Rattle.rn_syntax.specs.declared.tree.Declaration.{Declaration as CodeDeclaration}
use Rattle.rn_syntax.specs.Places.{uri_at, uri_of}
use Rattle.rn_syntax.specs.Tree.{includes, item_includes}
use Rattle.rn_syntax.specs.View.{class_view, classes_view, declaration_view, item_view, items_view, param_view, params_view, pattern_view, patterns_view}
use Rattle.rn_text.specs.Texts.{Text}
use Rattle.rn_syntax.specs.Tree.{Declaration}
use Rattle.rn_rng.specs.Layout.{item_text, items_text}
use Rattle.rn_rng.specs.Translation.{class_xml, classes_xml, item_xml, items_xml, one_item, param_element, params_xml, pattern_xml, patterns_xml}
use Rattle.rn_rng.proofs.Writing.{items_text-then}

pub class_rows : (ds : List Declaration) (n : ℕ) (ns own : Text) (cs : List Nc) → flat_map (λ c. items_text n (one_item (class_xml ds ns own (class_view c)))) cs ≡ items_text n (classes_xml ds ns own (classes_view cs))
class_rows ds n ns own [] = refl
class_rows ds n ns own (c ∷ cs) = (λ i. append-nil (item_text n (class_xml ds ns own (class_view c))) i ++ class_rows ds n ns own cs i)

pub pattern_rows : (ds : List Declaration) (n : ℕ) (ns library : Text) (ps : List Pat) → flat_map (λ p. items_text n (one_item (pattern_xml ds ns library (pattern_view p)))) ps ≡ items_text n (patterns_xml ds ns library (patterns_view ps))
pattern_rows ds n ns library [] = refl
pattern_rows ds n ns library (p ∷ ps) = (λ i. append-nil (item_text n (pattern_xml ds ns library (pattern_view p))) i ++ pattern_rows ds n ns library ps i)

pub param_rows : (n : ℕ) (ps : List Param) → flat_map (λ p. item_text n (param_element (param_view p))) ps ≡ items_text n (params_xml (params_view ps))
param_rows n [] = refl
param_rows n (p ∷ ps) = ap (λ t. item_text n (param_element (param_view p)) ++ t) (param_rows n ps)

pub item_rows : (ds : List Declaration) (n : ℕ) (xs : List Item) → flat_map (λ x. items_text n (item_xml ds (item_view x))) xs ≡ items_text n (items_xml ds (items_view xs))
item_rows ds n [] = refl
item_rows ds n (x ∷ xs) = ap (λ t. items_text n (item_xml ds (item_view x)) ++ t) (item_rows ds n xs) ∙ sym (items_text-then n (item_xml ds (item_view x)) (items_xml ds (items_view xs)))

-- ---- items without includes

pub nothing_in : (xs ys : List Text) → xs ++ ys ≡ [] → (xs ≡ []) × (ys ≡ [])
nothing_in [] ys e = (refl, e)
nothing_in (x ∷ xs) ys e = absurd cc

pub item_flat : (xs : List Item) (i : ℕ) (x : Item) → includes (items_view xs) ≡ [] → i < length xs → x ≡ get_or xs i x → item_includes (item_view x) ≡ []
item_flat [] i x n h e = absurd (omega (arith, h))
item_flat (y ∷ ys) zero x n h e = ap (λ z. item_includes (item_view z)) e ∙ (nothing_in (item_includes (item_view y)) (includes (items_view ys)) n).0
item_flat (y ∷ ys) (suc i) x n h e = item_flat ys i x (nothing_in (item_includes (item_view y)) (includes (items_view ys)) n).1 (omega (arith, h)) e

-- ---- declarations

pub uri_at_number : (ds : List CodeDeclaration) (n : ℕ) (d : CodeDeclaration) → n < length ds → d ≡ get_or ds n d → uri_at (map declaration_view ds) n ≡ uri_of (declaration_view d)
uri_at_number [] n d h e = absurd (omega (arith, h))
uri_at_number (x ∷ xs) zero d h e = ap (λ y. uri_of (declaration_view y)) (sym e)
uri_at_number (x ∷ xs) (suc n) d h e = uri_at_number xs n d (omega (arith, h)) e
