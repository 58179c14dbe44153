use Rattle.std.proofs.Common.{◌≡◌, ◌-◌, ◌<◌, [], length, get_or, take, ap, sym, ◌∙◌, subst, arith, rules}
use Rattle.std.specs.Prelude.{if◌then◌else◌, bytes_eq}
use Rattle.std.specs.BTreeMap.{get_by_text}
use Rattle.std.specs.Option.{option_map_or}
use Rattle.std.proofs.lemmas.Map.Text.{btree_map_updates_text}
use Rattle.rn_text.specs.Texts.{Text}
use Rattle.rn_xml.specs.PrefixScopes.{around}
use Rattle.rn_xml.specs.declared.document.XmlDeclaration.{XmlDeclaration}
use Rattle.rn_xml.proofs.ScopeSteps.{left_more, popped, none_left}
use Rattle.rn_xml.proofs.scopes.Scopes.leave.Goals as goal
use Rattle.rn_xml.proofs.scopes.Scopes.leave.Goals.{in-Some, in_default}

pub loop-declaration-preserved : goal.loop-declaration-preserved
loop-declaration-preserved c =
    let none : XmlDeclaration = record { prefix = record { ref_ptr = (0, 0); now = [] }; uri = 0; at = 0 } in
    let prefix : Text = (get_or c.args.declarations.now c.loop-declaration.declaration-index none).prefix.now in
    let bound = c.loop-declaration.self.bound in
    let within : c.loop-declaration.declaration-index < length c.args.declarations.now = omega arith in
    λ q.
    let here = around c.loop-declaration.self q in
    let step : around c.match-get_mut.self q ≡ (if bytes_eq prefix q then take (length here - 1) here else here) = elim c.match-get_mut.branch [
      | in-Some w ↦ ap (λ s. around s q) w.self-is
          ∙ popped (λ v. v.items) (get_by_text bound) (get_by_text (c.get_mut.follows.lender w.pop.new.self)) prefix w.pop.new.self
          (btree_map_updates_text prefix bound (c.get_mut.follows.lender w.pop.new.self) _ ((c.get_mut.follows.holds w.pop.new.self).3 (search rules)))
          (subst (λ k. w.pop.new.self.items ≡ take (k - 1) w.in-Some.around.now.items) w.in-Some.around.now.ok.0 w.pop.ensures.rest
          ∙ ap (λ o. take (length (option_map_or (λ v. v.items) o []) - 1) (option_map_or (λ v. v.items) o [])) w.in-Some.ensures.value) q
      | in_default w ↦ ap (λ s. around s q) w.self-is ∙ ap (λ m. option_map_or (λ v. v.items) (get_by_text m q) []) c.get_mut.follows.holds-at-none
          ∙ none_left (λ v. v.items) (get_by_text bound) prefix (sym w.in_default.ensures.value) q
    ] in
    left_more (λ (d : XmlDeclaration). d.prefix.now) c.args.declarations.now c.loop-declaration.declaration-index none q (around c.args.self.now q) here (around c.match-get_mut.self q) within (c.loop-declaration.invariant q) step
