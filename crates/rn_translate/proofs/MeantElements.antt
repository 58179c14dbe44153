-- Open elements, and what they mean once more terms are added.
use Rattle.std.proofs.Common.{◌≡◌, List, ◌++◌, sym, ap, ◌∙◌, subst}
use Rattle.std.specs.Prelude.{Result, OnOk, IfOk, ◌&&◌, not}
use Rattle.std.proofs.lemmas.Result.{IfOk-weaker}
use Rattle.rn_xml.specs.declared.document.XmlElement.{XmlElement}
use Rattle.rn_translate.specs.Terms.{Term, open_parenthesis, close_parenthesis}
use Rattle.rn_translate.specs.Layouts.{Written, Layout, begins, begins_operands, if_so, is_alone, is_closed, is_tight, layout, operands, then_behind}
use Rattle.rn_translate.specs.inside.Meanings.{Adds, is_parted, layout_meant, sign_terms}
use Rattle.rn_translate.specs.inside.ElementsMeant.{IsMeant}
use Rattle.rn_translate.proofs.AddedTerms.{ok_equal, scope_in}
use Rattle.rn_translate.specs.declared.kinds.Kind.{Kind}
use Rattle.rn_translate.specs.declared.standing.Layout.{Layout as CodeLayout}
use Rattle.rn_translate.specs.declared.signs.Sign.{Sign}
use Rattle.rn_translate.specs.declared.standing.Operator.{Operator}
use Rattle.rn_translate.specs.declared.standing.Operator.TheVariants as op
use Rattle.rn_translate.specs.declared.standing.Standing.TheVariants as s
use Rattle.rn_translate.specs.declared.translator.Open.{Open}
use Rattle.rn_translate.specs.declared.translator.Translator.{Translator}

-- an element means what it did, since only terms are added
pub meant_after : (a b : Translator) (row : XmlElement) (o : Open) (e : Written) (ts : List Term) → Adds a b ts → IsMeant a row o e → IsMeant b row o e
meant_after a b row o e ts h m =
    let kept : IsMeant (record a { terms = b.terms }) row o e = record {
      kind = m.kind;
      named = m.named;
      attributes = m.attributes;
      text = m.text;
      count = m.count;
      except = m.except;
      standing = m.standing;
      is_first = m.is_first;
      is_last = m.is_last;
      is_root = m.is_root;
      default = m.default;
      namespace = m.namespace;
      library = m.library;
      bare = m.bare;
      scope = scope_in a b e.context.scope m.scope;
    } in
    subst (λ t. IsMeant t row o e) (sym h.same) kept

-- ---- parts of an element

module _ {a : Translator} {row : XmlElement} {o : Open} {e : Written} where
  pub closed_meant : IsMeant a row o e → is_parted o ≡ is_closed e
  closed_meant m = ap (λ b. b && not (is_alone o.place.standing)) m.except ∙ ap (λ s. e.has_except && not (is_alone s)) m.standing

  pub begins_operands_meant : IsMeant a row o e → (op : Operator) → begins_operands o.place.standing op o.children.count ≡ begins_operands e.place.standing op e.count
  begins_operands_meant m op = ap (λ s. begins_operands s op o.children.count) m.standing ∙ ap (begins_operands e.place.standing op) m.count

  pub operands_meant : IsMeant a row o e → (op : Operator) → operands o.place.standing op o.children.count ≡ operands e.place.standing op e.count
  operands_meant m op = ap (λ s. operands s op o.children.count) m.standing ∙ ap (operands e.place.standing op) m.count

  pub begins_repetition : IsMeant a row o e → if_so (is_tight o.place.standing) open_parenthesis ++ begins_operands s.Tight op.Comma o.children.count
      ≡ if_so (is_tight e.place.standing) open_parenthesis ++ begins_operands s.Tight op.Comma e.count
  begins_repetition m = ap (λ p. if_so (is_tight p) open_parenthesis ++ begins_operands s.Tight op.Comma o.children.count) m.standing
      ∙ ap (λ n. if_so (is_tight e.place.standing) open_parenthesis ++ begins_operands s.Tight op.Comma n) m.count

  pub repetition_meant : IsMeant a row o e → (sign : Sign) → then_behind (operands s.Tight op.Comma o.children.count) (sign_terms sign ++ if_so (is_tight o.place.standing) close_parenthesis)
      ≡ then_behind (operands s.Tight op.Comma e.count) (sign_terms sign ++ if_so (is_tight e.place.standing) close_parenthesis)
  repetition_meant m sign = ap (λ p. then_behind (operands s.Tight op.Comma o.children.count) (sign_terms sign ++ if_so (is_tight p) close_parenthesis)) m.standing
      ∙ ap (λ n. then_behind (operands s.Tight op.Comma n) (sign_terms sign ++ if_so (is_tight e.place.standing) close_parenthesis)) m.count

  -- ---- an element of a known kind

  pub begins_kind : {R E : Type 0} (r : Result R E) (b : Translator) (k : Kind) (ts : List Term) → IsMeant a row o e → o.holder.kind ≡ k → ts ≡ begins e k
      → OnOk r (Adds a b ts) → OnOk r (Adds a b (begins e e.kind))
  begins_kind r b k ts m is same h = ok_equal r a b ts (begins e e.kind) (same ∙ ap (begins e) (sym is ∙ m.kind)) h

  pub layout_kind : {E : Type 0} (r : Result CodeLayout E) (k : Kind) (l : Layout) → IsMeant a row o e → o.holder.kind ≡ k → l ≡ layout e k
      → IfOk r (λ x. layout_meant x ≡ l) → IfOk r (λ x. layout_meant x ≡ layout e e.kind)
  layout_kind r k l m is same h = IfOk-weaker r (λ x. layout_meant x ≡ l) (λ x. layout_meant x ≡ layout e e.kind)
      (λ x h. h ∙ same ∙ ap (layout e) (sym is ∙ m.kind)) h
