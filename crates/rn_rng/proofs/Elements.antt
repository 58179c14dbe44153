-- What is written of single elements.
use Rattle.std.proofs.Common.{◌≡◌, ◌≢◌, ℕ, List, [], ◌∷◌, ◌++◌, length, true, false, nat_eq, Option, Some, refl, sym, ap, ◌∙◌, subst}
use Rattle.std.specs.Prelude.{codes, bytes_eq}
use Rattle.std.proofs.Math.Dec.{eqb-suc-zero}
use Rattle.rn_pattern.specs.Document.{Items, no_items, more_items}
use Rattle.rn_syntax.specs.declared.tree.Operator.{Operator}
use Rattle.rn_syntax.specs.declared.tree.Postfix.{Postfix}
use Rattle.rn_syntax.specs.declared.tree.Postfix.TheVariants as r
use Rattle.rn_syntax.specs.declared.tree.Nc.{Nc}
use Rattle.rn_syntax.specs.declared.tree.Pat.{Pat}
use Rattle.rn_syntax.specs.declared.tree.Param.{Param}
use Rattle.rn_syntax.specs.Tree as t
use Rattle.rn_syntax.specs.Tree.{AnyName, Declaration, NameClass}
use Rattle.rn_syntax.specs.declared.tree.Item.{Item as CodeItem}
use Rattle.rn_syntax.specs.Tree.{includes, item_includes}
use Rattle.rn_syntax.specs.View.{classes_view, item_view, items_view, params_view, patterns_view}
use Rattle.rn_text.specs.Texts.{Text}
use Rattle.rn_rng.specs.declared.lines.Writer.{Writer}
use Rattle.rn_rng.specs.Layout.{deeper, end_tag, holds_text, indent, items_text, tag_front}
use Rattle.rn_rng.specs.Translation.{any_local, class_attributes, class_items, class_inside, class_xml, classes_xml, element, has_items, item_xml, items_then, items_xml, one_item, operator_local, params_xml, patterns_xml, repetition_local}
use Rattle.rn_rng.specs.inside.Views.{placed}
use Rattle.rn_rng.specs.inside.Writes.{Writes}
use Rattle.rn_rng.proofs.Rows.{nothing_in}
use Rattle.rn_rng.proofs.Writing.{holds-operator, kept, kept_empty, spliced, writes_element, writes_leaf, writes_one}

-- the element of all names, or of all of a namespace, holds no text and is no group, interleave or choice
pub record IsPlain (l : Text) : Type 0 where
  pub no_text : holds_text l ≡ false
  pub no_group : bytes_eq l (codes "group") ≡ false
  pub no_interleave : bytes_eq l (codes "interleave") ≡ false
  pub no_choice : bytes_eq l (codes "choice") ≡ false

pub any_plain : (a : AnyName) → IsPlain (any_local a)
any_plain t.any = record { no_text = refl; no_group = refl; no_interleave = refl; no_choice = refl }
any_plain (t.any_of p i) = record { no_text = refl; no_group = refl; no_interleave = refl; no_choice = refl }

pub repetition_plain : (r : Postfix) → IsPlain (repetition_local r)
repetition_plain r.Question = record { no_text = refl; no_group = refl; no_interleave = refl; no_choice = refl }
repetition_plain r.Star = record { no_text = refl; no_group = refl; no_interleave = refl; no_choice = refl }
repetition_plain r.Plus = record { no_text = refl; no_group = refl; no_interleave = refl; no_choice = refl }

-- ---- members

pub nonempty_classes : (ds : List Declaration) (ns own : Text) (cs : List Nc) → nat_eq (length cs) 0 ≡ false → has_items (classes_xml ds ns own (classes_view cs)) ≡ true
nonempty_classes ds ns own [] e = absurd (let x : true ≡ false = e in cc)
nonempty_classes ds ns own (c ∷ cs) e = refl

pub nonempty_patterns : (ds : List Declaration) (ns library : Text) (ps : List Pat) → nat_eq (length ps) 0 ≡ false → has_items (patterns_xml ds ns library (patterns_view ps)) ≡ true
nonempty_patterns ds ns library [] e = absurd (let x : true ≡ false = e in cc)
nonempty_patterns ds ns library (p ∷ ps) e = refl

pub nonempty_params : (ps : List Param) → nat_eq (length ps) 0 ≡ false → has_items (params_xml (params_view ps)) ≡ true
nonempty_params [] e = absurd (let x : true ≡ false = e in cc)
nonempty_params (p ∷ ps) e = refl

pub no_classes : (ds : List Declaration) (ns own : Text) (cs : List Nc) → nat_eq (length cs) 0 ≡ true → classes_xml ds ns own (classes_view cs) ≡ no_items
no_classes ds ns own [] e = refl
no_classes ds ns own (c ∷ cs) e = absurd (let x = eqb-suc-zero (length cs) in cc)

pub no_patterns : (ds : List Declaration) (ns library : Text) (ps : List Pat) → nat_eq (length ps) 0 ≡ true → patterns_xml ds ns library (patterns_view ps) ≡ no_items
no_patterns ds ns library [] e = refl
no_patterns ds ns library (p ∷ ps) e = absurd (let x = eqb-suc-zero (length ps) in cc)

pub no_params : (ps : List Param) → nat_eq (length ps) 0 ≡ true → params_xml (params_view ps) ≡ no_items
no_params [] e = refl
no_params (p ∷ ps) e = absurd (let x = eqb-suc-zero (length ps) in cc)

-- ---- a group, an interleave or a choice, of these members

module _ (w : Option Operator) (op : Operator) (n : ℕ) (k : Items) {a b : Writer} where
  pub written_empty : k ≡ no_items → Writes (tag_front n (operator_local op) [] ++ codes "/>\n") a b → Writes (items_text n (placed w (element (operator_local op) [] k))) a b
  written_empty e h =
      let one = writes_one n (element (operator_local op) [] no_items) (writes_leaf n (operator_local op) [] (holds-operator op) h) in
      subst (λ is. Writes (items_text n is) a b) (sym (kept_empty w (operator_local op) []) ∙ ap (λ x. placed w (element (operator_local op) [] x)) (sym e)) one

  pub written_spliced : w ≡ Some op → has_items k ≡ true → Writes (items_text n k) a b → Writes (items_text n (placed w (element (operator_local op) [] k))) a b
  written_spliced e i h = subst (λ is. Writes (items_text n is) a b) (sym (spliced op k i) ∙ ap (λ v. placed v (element (operator_local op) [] k)) (sym e)) h

  pub written_kept : {c d : Writer} → w ≢ Some op → has_items k ≡ true → Writes (tag_front n (operator_local op) [] ++ codes ">\n") a c → Writes (items_text (deeper n) k) c d → Writes (indent n ++ end_tag (operator_local op)) d b → Writes (items_text n (placed w (element (operator_local op) [] k))) a b
  written_kept e i u v x = subst (λ is. Writes (items_text n is) a b) (sym (kept w op k e)) (writes_one n (element (operator_local op) [] k) (writes_element n (operator_local op) [] k (holds-operator op) i u v x))

-- ---- heads

-- a class that is no name
pub no_name_attributes : (ds : List Declaration) (taken own : Text) (c : NameClass) → ((n : t.Name) → c ≢ t.name n) → class_attributes ds taken own c ≡ []
no_name_attributes ds taken own (t.name n) f = absurd (f n refl)
no_name_attributes ds taken own (t.all a) f = refl
no_name_attributes ds taken own (t.all_but a c) f = refl
no_name_attributes ds taken own (t.choice cs) f = refl

pub no_name_items : (ds : List Declaration) (ns own : Text) (c : NameClass) → ((n : t.Name) → c ≢ t.name n) → class_items ds ns own c ≡ one_item (class_xml ds ns own c)
no_name_items ds ns own (t.name n) f = absurd (f n refl)
no_name_items ds ns own (t.all a) f = refl
no_name_items ds ns own (t.all_but a c) f = refl
no_name_items ds ns own (t.choice cs) f = refl

pub no_name_inside : (ds : List Declaration) (ns taken own : Text) (c : NameClass) → ((n : t.Name) → c ≢ t.name n) → class_inside ds ns taken own c ≡ ns
no_name_inside ds ns taken own (t.name n) f = absurd (f n refl)
no_name_inside ds ns taken own (t.all a) f = refl
no_name_inside ds ns taken own (t.all_but a c) f = refl
no_name_inside ds ns taken own (t.choice cs) f = refl

-- ---- items

item_written : (ds : List Declaration) (x : t.Item) → item_includes x ≡ [] → has_items (item_xml ds x) ≡ true
item_written ds (t.define n m p) e = refl
item_written ds (t.start m p) e = refl
item_written ds (t.div xs) e = refl
item_written ds (t.include s h xs) e = absurd cc

first_items : (is js : Items) → has_items is ≡ true → has_items (items_then is js) ≡ true
first_items no_items js h = absurd cc
first_items (more_items i is) js h = refl

pub div_items : (ds : List Declaration) (xs : List CodeItem) → includes (items_view xs) ≡ [] → nat_eq (length xs) 0 ≡ false → has_items (items_xml ds (items_view xs)) ≡ true
div_items ds [] n e = absurd (let x : true ≡ false = e in cc)
div_items ds (x ∷ xs) n e = first_items (item_xml ds (item_view x)) (items_xml ds (items_view xs)) (item_written ds (item_view x) (nothing_in (item_includes (item_view x)) (includes (items_view xs)) n).0)

pub no_div_items : (ds : List Declaration) (xs : List CodeItem) → nat_eq (length xs) 0 ≡ true → items_xml ds (items_view xs) ≡ no_items
no_div_items ds [] e = refl
no_div_items ds (x ∷ xs) e = absurd (let y = eqb-suc-zero (length xs) in cc)
