-- The name class that the XML of a name class is (RELAX NG 2001, 4.8 to 4.10 and 4.12).
use Rattle.std.proofs.Common.{◌≡◌, false, List, [], refl, ap, ◌∙◌, Some}
use Rattle.std.specs.Prelude.{codes, option_map, option_and_then}
use Rattle.std.proofs.lemmas.Bool.{cond-false}
use Rattle.rn_text.specs.Texts.{Text}
use Rattle.rn_pattern.specs.Tree.{NameTree, name, name_choice, no_names}
use Rattle.rn_syntax.specs.Tree as t
use Rattle.rn_syntax.specs.Tree.{NameClass, NameClasses, Declaration}
use Rattle.rn_assemble.specs.Resolve.{resolved_class, resolved_classes, namespace_of}
use Rattle.rn_assemble.specs.WritableTexts.{IsName}
use Rattle.rn_assemble.proofs.WellFormed.GoodTrees.{IsGoodClass, AreGoodClasses}
use Rattle.rn_rng.specs.Translation.{ns_attributes, qualified, text_items, class_xml, classes_xml, unwrapped}
use Rattle.rn_rng.specs.SchemaElements.{is_space, trimmed, held_string, qualified_name, ns_in}
use Rattle.rn_rng.specs.NameClassElements.{choice_of_names, with_name, any_name_without, ns_name_without, class_of, classes_of}
use Rattle.rn_rng.proofs.Meaning.WrittenNames.{held_text, written_name}
use Rattle.rn_rng.proofs.Meaning.SeveralMembers.{AreSeveralClasses, IsPluralClass, ArePluralClasses}

good_members : (cs : NameClasses) → IsGoodClass (t.choice cs) → AreGoodClasses cs
good_members t.no_classes h = tt
good_members (t.class c cs) h = h

-- ds: the declarations; own: the namespace of a name without prefix
module _ (ds : List Declaration) (own : Text) where
  pub class_no_space : (ns : Text) (c : NameClass) → is_space (class_xml ds ns own c) ≡ false
  class_no_space ns (t.name n) = refl
  class_no_space ns (t.all a) = refl
  class_no_space ns (t.all_but a c) = refl
  class_no_space ns (t.choice cs) = refl

  several_names : (cs : NameClasses) → AreSeveralClasses cs → choice_of_names (resolved_classes [] ds own cs) ≡ Some (name_choice (resolved_classes [] ds own cs))
  several_names t.no_classes s = absurd s
  several_names (t.class c t.no_classes) s = absurd s
  several_names (t.class c (t.class d cs)) s = refl

  name_meaning : (ns uri local : Text) → IsName local → option_and_then (λ x. qualified_name (ns_in ns (ns_attributes ns uri)) (trimmed x)) (held_string (text_items (qualified uri local))) ≡ Some (name uri local)
  name_meaning ns uri local n = ap (option_and_then (λ x. qualified_name (ns_in ns (ns_attributes ns uri)) (trimmed x))) (held_text (qualified uri local)) ∙ written_name ns uri local n

  -- a name class as the one child of an except
  except_meaning : (ns : Text) (c : NameClass) (n : NameTree) → class_of ns (class_xml ds ns own c) ≡ Some n → option_and_then choice_of_names (classes_of ns (unwrapped (codes "choice") (class_xml ds ns own c))) ≡ Some n
  except_meaning ns (t.choice t.no_classes) n h = ap (λ o. option_and_then choice_of_names (with_name o (Some no_names))) h
  except_meaning ns (t.choice (t.class c cs)) n h = h
  except_meaning ns (t.name m) n h = ap (λ o. option_and_then choice_of_names (with_name o (Some no_names))) h
  except_meaning ns (t.all t.any) n h = ap (λ o. option_and_then choice_of_names (with_name o (Some no_names))) h
  except_meaning ns (t.all (t.any_of p i)) n h = ap (λ o. option_and_then choice_of_names (with_name o (Some no_names))) h
  except_meaning ns (t.all_but t.any c) n h = ap (λ o. option_and_then choice_of_names (with_name o (Some no_names))) h
  except_meaning ns (t.all_but (t.any_of p i) c) n h = ap (λ o. option_and_then choice_of_names (with_name o (Some no_names))) h

  mutual
    pub class_meaning : (ns : Text) (c : NameClass) → IsGoodClass c → IsPluralClass c → class_of ns (class_xml ds ns own c) ≡ Some (resolved_class [] ds own c)
    class_meaning ns (t.name (t.local l)) g s = name_meaning ns own l g
    class_meaning ns (t.name (t.prefixed p l i)) g s = name_meaning ns (namespace_of [] ds p) l g
    class_meaning ns (t.all t.any) g s = refl
    class_meaning ns (t.all (t.any_of p i)) g s = refl
    class_meaning ns (t.all_but t.any c) g s = ap (λ o. option_map any_name_without (option_map Some o)) (except_meaning ns c _ (class_meaning ns c g s))
    class_meaning ns (t.all_but (t.any_of p i) c) g s =
        ap (λ o. option_map (ns_name_without (namespace_of [] ds p)) (option_map Some o)) (except_meaning (namespace_of [] ds p) c _ (class_meaning (namespace_of [] ds p) c g s))
    class_meaning ns (t.choice cs) g s = ap (option_and_then choice_of_names) (classes_meaning ns cs (good_members cs g) s.1) ∙ several_names cs s.0

    pub classes_meaning : (ns : Text) (cs : NameClasses) → AreGoodClasses cs → ArePluralClasses cs → classes_of ns (classes_xml ds ns own cs) ≡ Some (resolved_classes [] ds own cs)
    classes_meaning ns t.no_classes g s = refl
    classes_meaning ns (t.class c cs) g s =
        let first = class_meaning ns c g.0 s.0 in
        let rest = classes_meaning ns cs g.1 s.1 in
        cond-false (is_space (class_xml ds ns own c)) _ _ (class_no_space ns c) ∙ (λ i. with_name (first i) (rest i))
