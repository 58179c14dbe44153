-- What each element of a grammar begins with, and how its children are written.
use Rattle.std.proofs.Common.{◌≡◌, ◌∷◌, [], true, refl, sym, ap, ◌∙◌}
use Rattle.std.specs.Prelude.{not, nat_le}
use Rattle.std.proofs.lemmas.Bool.{false≢true}
use Rattle.rn_text.specs.declared.keywords.Keyword.TheVariants as w
use Rattle.rn_translate.specs.Terms.{keyword, open_brace, close_brace}
use Rattle.rn_translate.specs.Layouts.{around, begins, if_so, is_of_grammar, layout, operands}
use Rattle.rn_translate.specs.declared.kinds.Kind.{Kind}
use Rattle.rn_translate.specs.declared.kinds.Kind.TheVariants as k
use Rattle.rn_translate.specs.declared.standing.Operator.TheVariants as o
use Rattle.rn_translate.specs.declared.standing.Standing.TheVariants as s
use Rattle.rn_translate.proofs.AddedTerms.{adds_equal, adds_none}
use Rattle.rn_translate.proofs.MeantElements.{begins_kind, layout_kind}
use Rattle.rn_translate.proofs.translator.Translator.write_item.Goals as goal

-- what is none of the others is an annotation
left : (kind : Kind) → is_of_grammar kind ≡ true → ¬ (kind ≡ k.Grammar) → ¬ (kind ≡ k.Start) → ¬ (kind ≡ k.Define) → ¬ (kind ≡ k.Div) → ¬ (kind ≡ k.Include)
    → ¬ (kind ≡ k.ExternalRef) → kind ≡ k.Foreign
left k.Grammar is a b c d e f = absurd (a refl)
left k.Start is a b c d e f = absurd (b refl)
left k.Define is a b c d e f = absurd (c refl)
left k.Div is a b c d e f = absurd (d refl)
left k.Include is a b c d e f = absurd (e refl)
left k.ExternalRef is a b c d e f = absurd (f refl)
left k.Foreign is a b c d e f = refl
left _ is a b c d e f = absurd (false≢true is)

pub returns-in-Grammar-clause-added : goal.returns-in-Grammar-clause-added
returns-in-Grammar-clause-added c = λ e m of.
    begins_kind _ _ k.Grammar _ m c.in-Grammar.is (ap (λ b. if_so (not b) (keyword w.Grammar ∷ open_brace)) m.is_root) c.write_grammar.ensures.added

pub returns-in-Grammar-clause-layout : goal.returns-in-Grammar-clause-layout
returns-in-Grammar-clause-layout c = λ e m of.
    layout_kind _ k.Grammar _ m c.in-Grammar.is (ap (λ b. around (if_so (not b) close_brace)) m.is_root) c.write_grammar.ensures.layout

pub returns-in-Start-clause-added : goal.returns-in-Start-clause-added
returns-in-Start-clause-added c = λ e m of. begins_kind _ _ k.Start _ m c.in-Start.is refl (c.write_definition.ensures.added e m)

pub returns-in-Start-clause-layout : goal.returns-in-Start-clause-layout
returns-in-Start-clause-layout c = λ e m of. layout_kind _ k.Start _ m c.in-Start.is (ap (operands s.Alone o.Comma) m.count) c.write_definition.ensures.layout

pub returns-in-Define-clause-added : goal.returns-in-Define-clause-added
returns-in-Define-clause-added c = λ e m of. begins_kind _ _ k.Define _ m c.in-Define.is refl (c.write_definition-in-Define.ensures.added e m)

pub returns-in-Define-clause-layout : goal.returns-in-Define-clause-layout
returns-in-Define-clause-layout c = λ e m of. layout_kind _ k.Define _ m c.in-Define.is (ap (operands s.Alone o.Comma) m.count) c.write_definition-in-Define.ensures.layout

pub returns-in-Div-clause-added : goal.returns-in-Div-clause-added
returns-in-Div-clause-added c = λ e m of. begins_kind _ _ k.Div _ m c.in-Div.is refl c.write_items.ensures.added

pub returns-in-Div-clause-layout : goal.returns-in-Div-clause-layout
returns-in-Div-clause-layout c = λ e m of. layout_kind _ k.Div _ m c.in-Div.is refl c.write_items.ensures.layout

pub returns-in-Include-clause-added : goal.returns-in-Include-clause-added
returns-in-Include-clause-added c = λ e m of. begins_kind _ _ k.Include _ m c.in-Include.is refl (c.write_include.ensures.added e m)

pub returns-in-Include-clause-layout : goal.returns-in-Include-clause-layout
returns-in-Include-clause-layout c = λ e m of.
    layout_kind _ k.Include _ m c.in-Include.is (ap (λ n. around (if_so (nat_le 1 n) close_brace)) m.count) c.write_include.ensures.layout

pub returns-in-ExternalRef-clause-added : goal.returns-in-ExternalRef-clause-added
returns-in-ExternalRef-clause-added c = λ e m of. begins_kind _ _ k.ExternalRef _ m c.in-ExternalRef.is refl (c.write_external.ensures.added e m)

pub returns-in-ExternalRef-clause-layout : goal.returns-in-ExternalRef-clause-layout
returns-in-ExternalRef-clause-layout c = λ e m of. layout_kind _ k.ExternalRef _ m c.in-ExternalRef.is refl c.write_external.ensures.layout

foreign : (c : goal.After-none) (o : Kind) → c.args.«open».holder.kind ≡ o → is_of_grammar o ≡ true → o ≡ k.Foreign
foreign c o same of = left o of (λ is. c.in_default.not-Grammar (same ∙ is)) (λ is. c.in_default.not-Start (same ∙ is)) (λ is. c.in_default.not-Define (same ∙ is))
    (λ is. c.in_default.not-Div (same ∙ is)) (λ is. c.in_default.not-Include (same ∙ is)) (λ is. c.in_default.not-ExternalRef (same ∙ is))

pub returns-in_default-clause-added : goal.returns-in_default-clause-added
returns-in_default-clause-added c = λ e m of. adds_equal _ _ [] _ (sym (ap (begins e) (foreign c e.kind m.kind of))) (adds_none _)

pub returns-in_default-clause-layout : goal.returns-in_default-clause-layout
returns-in_default-clause-layout c = λ e m of. c.none.ensures ∙ sym (ap (layout e) (foreign c e.kind m.kind of))
