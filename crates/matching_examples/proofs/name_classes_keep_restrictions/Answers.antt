use Rattle.std.proofs.Common.{refl, []}
use Rattle.std.specs.Prelude.{bytes_eq, codes}
use Rattle.std.proofs.lemmas.Bool.Decides.{not_from_Decides}
use Rattle.std.proofs.lemmas.Slice.Eq.{bytes_eq-Decides}
use Rattle.rn_pattern.specs.NameRules.{declarations}
use Rattle.matching_examples.proofs.name_classes_keep_restrictions.Goals as goal

pub returns-clause-any_but_namespace : goal.returns-clause-any_but_namespace
returns-clause-any_but_namespace c = ((tt, tt), tt)

pub returns-clause-any_but_any : goal.returns-clause-any_but_any
returns-clause-any_but_any c = λ h. h.0.0

pub returns-clause-any_but_any_inside : goal.returns-clause-any_but_any_inside
returns-clause-any_but_any_inside c = λ h. h.0.0

pub returns-clause-namespace_but_name : goal.returns-clause-namespace_but_name
returns-clause-namespace_but_name c = ((tt, tt), tt)

pub returns-clause-namespace_but_namespace : goal.returns-clause-namespace_but_namespace
returns-clause-namespace_but_namespace c = λ h. h.0.0

pub returns-clause-attribute : goal.returns-clause-attribute
returns-clause-attribute c =
    let apart = not_from_Decides (bytes_eq (codes "x") (codes "xmlns")) (bytes_eq-Decides (codes "x") (codes "xmlns")) refl in
    (tt, (λ h. apart h.1, not_from_Decides (bytes_eq [] declarations) (bytes_eq-Decides [] declarations) refl), tt)

pub returns-clause-attribute_xmlns : goal.returns-clause-attribute_xmlns
returns-clause-attribute_xmlns c = λ h. h.1.0 (refl, refl)

pub returns-clause-element_xmlns : goal.returns-clause-element_xmlns
returns-clause-element_xmlns c = (tt, tt)

pub returns-clause-attribute_declaration : goal.returns-clause-attribute_declaration
returns-clause-attribute_declaration c = λ h. h.1.1 refl

pub returns-clause-attributes_of_declarations : goal.returns-clause-attributes_of_declarations
returns-clause-attributes_of_declarations c = λ h. h.1 refl
