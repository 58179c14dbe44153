use Rattle.std.proofs.Common.{◌≡◌, [], ◌∷◌, ◌++◌, ap, ◌∙◌, subst, rules, Some}
use Rattle.std.specs.Map.{update}
use Rattle.std.specs.Prelude.{bytes_eq, string_bytes}
use Rattle.rn_text.specs.Texts.{Text}
use Rattle.std.specs.BTreeMap.{get_by_text}
use Rattle.std.specs.Option.{option_map_or}
use Rattle.std.proofs.lemmas.Map.Text.{btree_map_updates_text}
use Rattle.rn_xml.proofs.ScopeSteps.{on_err, entered, kept}
use Rattle.rn_xml.proofs.scopes.Scopes.enter.Goals as goal

pub returns-in_err-push-clause-err : goal.returns-in_err-push-clause-err
returns-in_err-push-clause-err c =
    on_err c.from_residual.result (kept (λ v. v.items) (get_by_text c.args.self.now.bound) (get_by_text (c.get_mut.follows.lender c.push.new.self)) c.args.prefix.now c.push.new.self
    (btree_map_updates_text c.args.prefix.now c.args.self.now.bound (c.get_mut.follows.lender c.push.new.self) _ ((c.get_mut.follows.holds c.push.new.self).3 (search rules)))
    (c.in_err-push.ensures.items ∙ ap (λ o. option_map_or (λ v. v.items) o []) c.in-Some.ensures.value))

pub returns-in-Some-clause-ok : goal.returns-in-Some-clause-ok
returns-in-Some-clause-ok c =
    entered (λ v. v.items) (get_by_text c.args.self.now.bound) (get_by_text (c.get_mut.follows.lender c.push.new.self)) c.args.prefix.now c.push.new.self c.args.declaration
    (btree_map_updates_text c.args.prefix.now c.args.self.now.bound (c.get_mut.follows.lender c.push.new.self) _ ((c.get_mut.follows.holds c.push.new.self).3 (search rules)))
    (c.in_ok-push.ensures.items ∙ ap (λ o. option_map_or (λ v. v.items) o [] ++ c.args.declaration ∷ []) c.in-Some.ensures.value)

pub returns-clause-ok : goal.returns-clause-ok
returns-clause-ok c =
    let held = c.push-2.new.self in
    let map = c.get_mut.follows.lender-at-none in
    let by_key : (q : Text) → get_by_text c.insert.new.self q ≡ update bytes_eq (get_by_text map) (string_bytes c.in_ok-from_str.field-0) (Some held) q =
    λ q. btree_map_updates_text (string_bytes c.in_ok-from_str.field-0) map c.insert.new.self (Some held) c.in_ok-insert.ensures.updates q in
    let by_prefix : (q : Text) → get_by_text c.insert.new.self q ≡ update bytes_eq (get_by_text map) c.args.prefix.now (Some held) q =
    subst (λ k. (q : Text) → get_by_text c.insert.new.self q ≡ update bytes_eq (get_by_text map) k (Some held) q) c.in_ok-from_str.ensures.ok by_key in
    entered (λ v. v.items) (get_by_text c.args.self.now.bound) (get_by_text c.insert.new.self) c.args.prefix.now held c.args.declaration
    (subst (λ m. (q : Text) → get_by_text c.insert.new.self q ≡ update bytes_eq (get_by_text m) c.args.prefix.now (Some held) q) c.get_mut.follows.holds-at-none by_prefix)
    (c.in_ok-push-2.ensures.items ∙ ap (λ l. l ++ c.args.declaration ∷ []) (c.new-around.ensures.items ∙ ap (λ o. option_map_or (λ v. v.items) o []) c.in_default.ensures.value))
