use Rattle.std.proofs.Common.{◌≡◌, ◌+◌, ◌++◌, ℕ, List, drop, sym, ap, ◌∙◌, append_assoc}
use Rattle.std.specs.Prelude.{Box}
use Rattle.std.specs.declared.alloc.Global.{Global}
use Rattle.std.specs.Borrow.{Bor}
use Rattle.std.proofs.lemmas.List.{at_drop_more, map-append}
use Rattle.rn_syntax.specs.Tree as t
use Rattle.rn_syntax.specs.View.{include_step, item_step, item_view, items_view, pattern_view}
use Rattle.rn_syntax.specs.declared.tree.Item.{fold-roll-Item}
use Rattle.rn_syntax.specs.declared.tree.Item.TheOpen.{Item-F}
use Rattle.rn_syntax.specs.declared.tree.Item.TheVariants.{rolls-Define}
use Rattle.rn_syntax.specs.declared.tree.Item.TheVariants as written
use Rattle.rn_syntax.specs.declared.tree.Method.{Method}
use Rattle.rn_syntax.specs.declared.tree.Pat.{Pat}
use Rattle.rn_assemble.specs.inside.Keyed.{texts_of, defines, item_defines}
use Rattle.rn_assemble.proofs.reading.keys.+names.Goals as goal

-- a define as its tree
define_seen : (x : Bor (List ℕ)) (m : Method) (p : Box Pat Global) → item_view (written.Define x m p) ≡ t.define x.now m (pattern_view p.value)
define_seen x m p = ap item_view (sym (rolls-Define x m p)) ∙ fold-roll-Item t.Item t.Item item_step include_step (Item-F.Define x m p)

pub push_item_names-returns-in_ok-push-in-Define : goal.push_item_names-returns-in_ok-push-in-Define
push_item_names-returns-in_ok-push-in-Define t c =
    let names = texts_of c.args.names.now.items in
    let seen = ap (λ x. item_defines (item_view x)) c.in-Define.is ∙ ap item_defines (define_seen c.in-Define.name c.in-Define.method c.in-Define.body) in
    ap texts_of c.in_ok-push-in-Define.ensures.items ∙ map-append (λ (s : Bor (List ℕ)). s.now) c.args.names.now.items _ ∙ ap (λ xs. names ++ xs) (sym seen)

pub push_names-items-preserved : goal.push_names-items-preserved
push_names-items-preserved t c =
    let i = c.items.item-index in
    let names = texts_of c.items.names.items in
    let rest = defines (items_view (drop (i + 1) c.args.items.now)) in
    record {
      so_far = ap (λ xs. xs ++ rest) (c.in_ok-push_item_names.ensures ∙ ap (λ x. names ++ item_defines (item_view x)) c.item-item.is)
          ∙ append_assoc _ _ rest ∙ ap (λ xs. names ++ xs) (sym (at_drop_more (λ xs. defines (items_view xs)) c.args.items.now i c.item-item.result c.items-test.true)) ∙ c.items.invariant.so_far;
    }
