use Rattle.std.proofs.Common.{◌≡◌, [], sym, ◌∙◌}
use Rattle.std.specs.Prelude.{◌≢◌, codes}
use Rattle.std.proofs.lemmas.Str.{IsUtf8-nil}
use Rattle.rn_xml.proofs.ScopeMeans.{unequal_bytes}
use Rattle.rn_xml.proofs.ScopeSteps.{same_bytes}
use Rattle.rn_xml.proofs.TagNames.{empty_text, some_text, declares_prefix, declares_default, declares_none}
use Rattle.rn_xml.proofs.tags.declared_prefix.Goals as goal
use Rattle.rn_xml.proofs.tags.declared_prefix.Goals.{else-is_empty-via-then-is_empty+else-eq-2, else-is_empty-via-else-is_empty}

pub returns-then-eq : goal.returns-then-eq
returns-then-eq c = λ value.
    (declares_prefix c.args.name value (same_bytes c.args.name.prefix.now (codes "xmlns") (sym c.eq.ensures ∙ c.if-eq.true)), c.requires.1)

pub returns-then-eq-2 : goal.returns-then-eq-2
returns-then-eq-2 c = λ value.
    let empty : c.args.name.prefix.now ≡ [] = empty_text c.args.name.prefix.now (sym c.is_empty.ensures ∙ c.if-is_empty.true) in
    let is : c.args.name.local.now ≡ codes "xmlns" = same_bytes c.args.name.local.now (codes "xmlns") (sym c.eq-then-is_empty.ensures ∙ c.if-eq-2.true) in
    (declares_default c.args.name value empty is, IsUtf8-nil)

pub returns-else-is_empty : goal.returns-else-is_empty
returns-else-is_empty c = λ value.
    let other : c.args.name.prefix.now ≢ codes "xmlns" = unequal_bytes c.args.name.prefix.now (codes "xmlns") (sym c.eq.ensures ∙ c.if-eq.false) in
    let local : c.args.name.prefix.now ≡ [] → c.args.name.local.now ≢ codes "xmlns" = λ empty. elim c.else-is_empty.branch [
      | else-is_empty-via-then-is_empty+else-eq-2 w ↦ unequal_bytes c.args.name.local.now (codes "xmlns") (sym w.eq-then-is_empty.ensures ∙ w.if-eq-2.false)
      | else-is_empty-via-else-is_empty w ↦ λ e. some_text c.args.name.prefix.now (sym c.is_empty.ensures ∙ w.if-is_empty.false) empty
    ] in
    declares_none c.args.name value c.requires.0 c.requires.1 other local
