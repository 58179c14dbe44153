-- What each element begins with, and how its children are written.
use Rattle.std.proofs.Common.{◌∷◌, [], ◌++◌, refl, sym, ap, ◌∙◌}
use Rattle.std.specs.Prelude.{codes, Option, option_map}
use Rattle.rn_text.specs.declared.keywords.Keyword.TheVariants as w
use Rattle.rn_translate.specs.Terms.{Namespace, any_of, keyword, identifier, symbol, open_parenthesis, close_brace, close_parenthesis}
use Rattle.rn_translate.specs.SchemaElements.{holds_text, name_in}
use Rattle.rn_translate.specs.Layouts.{around, begins_operands, has_name, if_so, operands, then_behind}
use Rattle.rn_translate.specs.declared.kinds.Kind.TheVariants as k
use Rattle.rn_translate.specs.declared.signs.Sign.TheVariants as g
use Rattle.rn_translate.specs.declared.standing.Operator.TheVariants as o
use Rattle.rn_translate.specs.declared.standing.Standing.TheVariants as s
use Rattle.rn_translate.proofs.MeantElements.{begins_kind, layout_kind, begins_operands_meant, begins_repetition, closed_meant, operands_meant, repetition_meant}
use Rattle.rn_translate.proofs.translator.Translator.write_front.Goals as goal

pub returns-in-Element-clause-added : goal.returns-in-Element-clause-added
returns-in-Element-clause-added c = λ e m. begins_kind _ _ k.Element _ m c.in-Element.is refl (c.write_named.ensures.added e m (ap has_name (sym m.kind ∙ c.in-Element.is)))

pub returns-in-Element-clause-layout : goal.returns-in-Element-clause-layout
returns-in-Element-clause-layout c = λ e m. layout_kind _ k.Element _ m c.in-Element.is refl (c.write_named.ensures.layout e m (ap has_name (sym m.kind ∙ c.in-Element.is)))

pub returns-in-Attribute-clause-added : goal.returns-in-Attribute-clause-added
returns-in-Attribute-clause-added c = λ e m. begins_kind _ _ k.Attribute _ m c.in-Attribute.is refl (c.write_named-in-Attribute.ensures.added e m (ap has_name (sym m.kind ∙ c.in-Attribute.is)))

pub returns-in-Attribute-clause-layout : goal.returns-in-Attribute-clause-layout
returns-in-Attribute-clause-layout c = λ e m. layout_kind _ k.Attribute _ m c.in-Attribute.is refl (c.write_named-in-Attribute.ensures.layout e m (ap has_name (sym m.kind ∙ c.in-Attribute.is)))

pub returns-in-Group-clause-added : goal.returns-in-Group-clause-added
returns-in-Group-clause-added c = λ e m. begins_kind _ _ k.Group _ m c.in-Group.is (begins_operands_meant m o.Comma) c.write_operands.ensures.added

pub returns-in-Group-clause-layout : goal.returns-in-Group-clause-layout
returns-in-Group-clause-layout c = λ e m. layout_kind _ k.Group _ m c.in-Group.is (operands_meant m o.Comma) c.write_operands.ensures.layout

pub returns-in-Interleave-clause-added : goal.returns-in-Interleave-clause-added
returns-in-Interleave-clause-added c = λ e m. begins_kind _ _ k.Interleave _ m c.in-Interleave.is (begins_operands_meant m o.Ampersand) c.write_operands-in-Interleave.ensures.added

pub returns-in-Interleave-clause-layout : goal.returns-in-Interleave-clause-layout
returns-in-Interleave-clause-layout c = λ e m. layout_kind _ k.Interleave _ m c.in-Interleave.is (operands_meant m o.Ampersand) c.write_operands-in-Interleave.ensures.layout

pub returns-in-Choice-clause-added : goal.returns-in-Choice-clause-added
returns-in-Choice-clause-added c = λ e m. begins_kind _ _ k.Choice _ m c.in-Choice.is (begins_operands_meant m o.Bar) c.write_operands-in-Choice.ensures.added

pub returns-in-Choice-clause-layout : goal.returns-in-Choice-clause-layout
returns-in-Choice-clause-layout c = λ e m. layout_kind _ k.Choice _ m c.in-Choice.is (operands_meant m o.Bar) c.write_operands-in-Choice.ensures.layout

pub returns-in-Optional-clause-added : goal.returns-in-Optional-clause-added
returns-in-Optional-clause-added c = λ e m. begins_kind _ _ k.Optional _ m c.in-Optional.is (begins_repetition m) c.write_repetition.ensures.added

pub returns-in-Optional-clause-layout : goal.returns-in-Optional-clause-layout
returns-in-Optional-clause-layout c = λ e m. layout_kind _ k.Optional _ m c.in-Optional.is (repetition_meant m g.Question) c.write_repetition.ensures.layout

pub returns-in-ZeroOrMore-clause-added : goal.returns-in-ZeroOrMore-clause-added
returns-in-ZeroOrMore-clause-added c = λ e m. begins_kind _ _ k.ZeroOrMore _ m c.in-ZeroOrMore.is (begins_repetition m) c.write_repetition-in-ZeroOrMore.ensures.added

pub returns-in-ZeroOrMore-clause-layout : goal.returns-in-ZeroOrMore-clause-layout
returns-in-ZeroOrMore-clause-layout c = λ e m. layout_kind _ k.ZeroOrMore _ m c.in-ZeroOrMore.is (repetition_meant m g.Star) c.write_repetition-in-ZeroOrMore.ensures.layout

pub returns-in-OneOrMore-clause-added : goal.returns-in-OneOrMore-clause-added
returns-in-OneOrMore-clause-added c = λ e m. begins_kind _ _ k.OneOrMore _ m c.in-OneOrMore.is (begins_repetition m) c.write_repetition-in-OneOrMore.ensures.added

pub returns-in-OneOrMore-clause-layout : goal.returns-in-OneOrMore-clause-layout
returns-in-OneOrMore-clause-layout c = λ e m. layout_kind _ k.OneOrMore _ m c.in-OneOrMore.is (repetition_meant m g.Plus) c.write_repetition-in-OneOrMore.ensures.layout

pub returns-in-List-clause-added : goal.returns-in-List-clause-added
returns-in-List-clause-added c = λ e m. begins_kind _ _ k.List _ m c.in-List.is refl c.write_braces.ensures.added

pub returns-in-List-clause-layout : goal.returns-in-List-clause-layout
returns-in-List-clause-layout c = λ e m. layout_kind _ k.List _ m c.in-List.is (ap (λ n. then_behind (operands s.Alone o.Comma n) close_brace) m.count) c.write_braces.ensures.layout

pub returns-in-Mixed-clause-added : goal.returns-in-Mixed-clause-added
returns-in-Mixed-clause-added c = λ e m. begins_kind _ _ k.Mixed _ m c.in-Mixed.is refl c.write_braces-in-Mixed.ensures.added

pub returns-in-Mixed-clause-layout : goal.returns-in-Mixed-clause-layout
returns-in-Mixed-clause-layout c = λ e m. layout_kind _ k.Mixed _ m c.in-Mixed.is (ap (λ n. then_behind (operands s.Alone o.Comma n) close_brace) m.count) c.write_braces-in-Mixed.ensures.layout

pub returns-in-Ref-clause-added : goal.returns-in-Ref-clause-added
returns-in-Ref-clause-added c = λ e m. begins_kind _ _ k.Ref _ m c.in-Ref.is (ap (λ attributes. identifier (name_in (codes "name") attributes) ∷ []) (sym m.attributes)) c.write_reference.ensures.added

pub returns-in-Ref-clause-layout : goal.returns-in-Ref-clause-layout
returns-in-Ref-clause-layout c = λ e m. layout_kind _ k.Ref _ m c.in-Ref.is refl c.write_reference.ensures.layout

pub returns-in-ParentRef-clause-added : goal.returns-in-ParentRef-clause-added
returns-in-ParentRef-clause-added c = λ e m. begins_kind _ _ k.ParentRef _ m c.in-ParentRef.is (ap (λ attributes. keyword w.Parent ∷ identifier (name_in (codes "name") attributes) ∷ []) (sym m.attributes)) c.write_parent_reference.ensures.added

pub returns-in-ParentRef-clause-layout : goal.returns-in-ParentRef-clause-layout
returns-in-ParentRef-clause-layout c = λ e m. layout_kind _ k.ParentRef _ m c.in-ParentRef.is refl c.write_parent_reference.ensures.layout

pub returns-in-Empty-clause-added : goal.returns-in-Empty-clause-added
returns-in-Empty-clause-added c = λ e m. begins_kind _ _ k.Empty _ m c.in-Empty.is refl c.write_keyword.ensures.added

pub returns-in-Empty-clause-layout : goal.returns-in-Empty-clause-layout
returns-in-Empty-clause-layout c = λ e m. layout_kind _ k.Empty _ m c.in-Empty.is refl c.write_keyword.ensures.layout

pub returns-in-Text-clause-added : goal.returns-in-Text-clause-added
returns-in-Text-clause-added c = λ e m. begins_kind _ _ k.Text _ m c.in-Text.is refl c.write_keyword-in-Text.ensures.added

pub returns-in-Text-clause-layout : goal.returns-in-Text-clause-layout
returns-in-Text-clause-layout c = λ e m. layout_kind _ k.Text _ m c.in-Text.is refl c.write_keyword-in-Text.ensures.layout

pub returns-in-NotAllowed-clause-added : goal.returns-in-NotAllowed-clause-added
returns-in-NotAllowed-clause-added c = λ e m. begins_kind _ _ k.NotAllowed _ m c.in-NotAllowed.is refl c.write_keyword-in-NotAllowed.ensures.added

pub returns-in-NotAllowed-clause-layout : goal.returns-in-NotAllowed-clause-layout
returns-in-NotAllowed-clause-layout c = λ e m. layout_kind _ k.NotAllowed _ m c.in-NotAllowed.is refl c.write_keyword-in-NotAllowed.ensures.layout

pub returns-in-Value-clause-added : goal.returns-in-Value-clause-added
returns-in-Value-clause-added c = λ e m. begins_kind _ _ k.Value _ m c.in-Value.is refl (c.write_value.ensures.added e m (ap holds_text (sym m.kind ∙ c.in-Value.is)))

pub returns-in-Value-clause-layout : goal.returns-in-Value-clause-layout
returns-in-Value-clause-layout c = λ e m. layout_kind _ k.Value _ m c.in-Value.is refl c.write_value.ensures.layout

pub returns-in-Data-clause-added : goal.returns-in-Data-clause-added
returns-in-Data-clause-added c = λ e m. begins_kind _ _ k.Data _ m c.in-Data.is refl (c.write_data.ensures.added e m)

pub returns-in-Data-clause-layout : goal.returns-in-Data-clause-layout
returns-in-Data-clause-layout c = λ e m. layout_kind _ k.Data _ m c.in-Data.is (ap (λ b. around (if_so b close_parenthesis)) (closed_meant m)) c.write_data.ensures.layout

pub returns-in-Param-clause-added : goal.returns-in-Param-clause-added
returns-in-Param-clause-added c = λ e m. begins_kind _ _ k.Param _ m c.in-Param.is refl (c.write_param.ensures.added e m (ap holds_text (sym m.kind ∙ c.in-Param.is)))

pub returns-in-Param-clause-layout : goal.returns-in-Param-clause-layout
returns-in-Param-clause-layout c = λ e m. layout_kind _ k.Param _ m c.in-Param.is refl c.write_param.ensures.layout

pub returns-in-Except-clause-added : goal.returns-in-Except-clause-added
returns-in-Except-clause-added c = λ e m. begins_kind _ _ k.Except _ m c.in-Except.is (ap (λ n. symbol (codes "-") ∷ begins_operands s.Tight o.Bar n) m.count) c.write_except.ensures.added

pub returns-in-Except-clause-layout : goal.returns-in-Except-clause-layout
returns-in-Except-clause-layout c = λ e m. layout_kind _ k.Except _ m c.in-Except.is (ap (operands s.Tight o.Bar) m.count) c.write_except.ensures.layout

pub returns-in-Name-clause-added : goal.returns-in-Name-clause-added
returns-in-Name-clause-added c = λ e m. begins_kind _ _ k.Name _ m c.in-Name.is refl (c.write_name.ensures.added e m (ap holds_text (sym m.kind ∙ c.in-Name.is)))

pub returns-in-Name-clause-layout : goal.returns-in-Name-clause-layout
returns-in-Name-clause-layout c = λ e m. layout_kind _ k.Name _ m c.in-Name.is refl c.write_name.ensures.layout

pub returns-in-AnyName-clause-added : goal.returns-in-AnyName-clause-added
returns-in-AnyName-clause-added c = λ e m. begins_kind _ _ k.AnyName _ m c.in-AnyName.is (ap (λ b. if_so b open_parenthesis ++ symbol (codes "*") ∷ []) (closed_meant m)) (c.write_wildcard.ensures.added (symbol (codes "*") ∷ []) refl)

pub returns-in-AnyName-clause-layout : goal.returns-in-AnyName-clause-layout
returns-in-AnyName-clause-layout c = λ e m. layout_kind _ k.AnyName _ m c.in-AnyName.is (ap (λ b. around (if_so b close_parenthesis)) (closed_meant m)) c.write_wildcard.ensures.layout

pub returns-in-NsName-clause-added : goal.returns-in-NsName-clause-added
returns-in-NsName-clause-added c = λ e m. begins_kind _ _ k.NsName _ m c.in-NsName.is (ap (λ b. if_so b open_parenthesis ++ any_of e.context.namespace ∷ []) (closed_meant m)) (c.write_wildcard-in-NsName.ensures.added (any_of e.context.namespace ∷ []) (ap (λ (u : Option Namespace). option_map (λ n. any_of n) u ∷ []) m.namespace))

pub returns-in-NsName-clause-layout : goal.returns-in-NsName-clause-layout
returns-in-NsName-clause-layout c = λ e m. layout_kind _ k.NsName _ m c.in-NsName.is (ap (λ b. around (if_so b close_parenthesis)) (closed_meant m)) c.write_wildcard-in-NsName.ensures.layout
