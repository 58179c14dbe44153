-- The keyword and the name; a name class comes as the first child.
use Rattle.std.proofs.Common.{◌≡◌, ℕ, ◌-◌, ◌∷◌, [], Bool, true, false, refl, sym, ap, ◌∙◌, Some, None}
use Rattle.std.specs.Prelude.{◌&&◌, not, if◌then◌else◌, Option, is_some, nat_le, codes}
use Rattle.rn_text.specs.Texts.{Text}
use Rattle.rn_translate.specs.Terms.{keyword}
use Rattle.rn_translate.specs.SchemaElements.{value_of}
use Rattle.rn_translate.specs.Layouts.{Written, Layout, closing, has_name, named, opening, operands, operator_term, then_behind}
use Rattle.rn_translate.specs.declared.standing.Operator.TheVariants as o
use Rattle.rn_translate.specs.declared.standing.Standing.TheVariants as s
use Rattle.rn_translate.proofs.AddedTerms.{adds_more}
use Rattle.rn_translate.proofs.MeantElements.{meant_after}
use Rattle.rn_translate.proofs.translator.Translator.write_named.Goals as goal

-- the layout of so many members
abbrev layout_of : Bool → ℕ → Layout
layout_of is_named members = record (then_behind (operands s.Alone o.Comma members) (closing members)) { class = (if is_named then None else Some (opening members)) }

abbrev members_of : (has is_named : Bool) → ℕ → ℕ
members_of has is_named count = if has && not is_named then count - 1 else count

operands_class : (b : Bool) (x y : Layout) → x.class ≡ None → y.class ≡ None → (if b then x else y).class ≡ None
operands_class true x y h k = h
operands_class false x y h k = k

named_layout_of : (e : Written) (name : Option Text) → layout_of (is_some name) (members_of true (is_some name) e.count) ≡ named e name
named_layout_of e (Some name) =
    let alone : Layout = record { class = None; standing = s.Alone; separator = []; behind = [] } in
    let several : Layout = record { class = None; standing = s.Beside o.Comma; separator = operator_term o.Comma; behind = [] } in
    ap (λ first. record (named e (Some name)) { class = first }) (sym (operands_class (nat_le e.count 1) alone several refl refl))
named_layout_of e None = refl

pub returns-clause-added : goal.returns-clause-added
returns-clause-added c = λ e m has.
    let first = c.in_ok-put.ensures (keyword c.args.keyword ∷ []) refl in
    adds_more _ _ _ _ _ first (c.in_ok-put_front_name.ensures e (meant_after _ _ _ _ e _ first m))

pub returns-clause-layout : goal.returns-clause-layout
returns-clause-layout c = λ e m has.
    let o = c.args.«open» in
    let name = value_of (codes "name") e.attributes in
    c.named_layout.ensures
    ∙ ap (layout_of o.holder.is_named) (c.members-members.ensures ∙ ap (λ h. members_of h o.holder.is_named o.children.count) (ap has_name m.kind ∙ has) ∙ ap (members_of true o.holder.is_named) m.count)
    ∙ ap (λ b. layout_of b (members_of true b e.count)) m.named
    ∙ named_layout_of e name
