-- The prefix, which was not bound, is bound, and the others as before.
use Rattle.std.proofs.Common.{◌≡◌, ◌∙◌, sym, is_some, subst, false}
use Rattle.std.specs.BTreeMap as tree
use Rattle.rn_text.specs.Texts.{text_cmp}
use Rattle.std.specs.Str.{bytes_eq}
use Rattle.std.proofs.lemmas.Map.Text.{btree_map_updates_str}
use Rattle.std.proofs.lemmas.Slice.Eq.{bytes_eq-Decides}
use Rattle.rn_syntax.proofs.BindingDeclarations.{put_absent}
use Rattle.rn_syntax.proofs.bindings.with_prefix.Goals as goal

pub returns : goal.returns
returns c = λ p.
    let q = c.in-Some.prefix.now in
    let m = c.args.numbers in
    let absent : is_some (tree.get_by (λ k. text_cmp q k.now) m) ≡ false = sym c.contains_key.ensures ∙ c.if-contains_key.false in
    rw c.in-Some.is (
    btree_map_updates_str q m c.insert.new.self _ c.in_ok-insert.ensures.updates p
    ∙ put_absent (bytes_eq q p) c.args.number (tree.get_by (λ k. text_cmp p k.now) m) (λ e. subst (λ z. is_some (tree.get_by (λ k. text_cmp z k.now) m) ≡ false) ((bytes_eq-Decides q p).0 e) absent))
