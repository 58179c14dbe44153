use Rattle.std.proofs.Common.{◌≡◌, ◌∙◌, ◌∷◌, ◌++◌, ◌+◌, List, [], map, append-nil, arith, rules, refl, sym, ap, subst, length}
use Rattle.std.specs.Prelude.{Box}
use Rattle.std.specs.declared.alloc.Global.{Global}
use Rattle.std.specs.Cow.{cow_str_bytes}
use Rattle.std.specs.Vec.Iter.{into_iter_items}
use Rattle.std.proofs.lemmas.List.{length-append}
use Rattle.std.proofs.lemmas.Result.{IfOk-equal}
use Rattle.rn_syntax.specs.Tree as tree
use Rattle.rn_syntax.specs.View.{include_step, item_step, item_view, items_view, prefix_view}
use Rattle.rn_syntax.specs.declared.tree.Include.{Include, fold_out-Include}
use Rattle.rn_syntax.specs.declared.tree.Item.{Item}
use Rattle.rn_syntax.specs.declared.tree.Item.TheFolds.{fold-roll-Item}
use Rattle.rn_syntax.specs.declared.tree.Item.TheOpen.{Item-F}
use Rattle.rn_syntax.specs.declared.tree.Item.TheVariants as written
use Rattle.rn_syntax.specs.declared.tree.Item.TheVariants.{rolls-Include}
use Rattle.rn_syntax.specs.declared.tree.Item.TheViews.{the_lemmas}
use Rattle.rn_assemble.specs.inside.Contained.{inclusions, item_inclusions, item_written_components, place_in, written_components}
use Rattle.rn_assemble.specs.inside.Keyed.{AreAmong, defines}
use Rattle.rn_assemble.specs.inside.Rows.{AddsRows, placed_from}
use Rattle.rn_assemble.specs.inside.Views.{inclusion_view, names_of}
use Rattle.rn_assemble.proofs.Gathering.GatheredItems.{defined_first, defined_rest, includes_more, inclusions_more, named_places, nothing_left, placed_more, written_parted}
use Rattle.rn_assemble.proofs.Gathering.AddedRows.{rows_more, rows_none}
use Rattle.rn_assemble.proofs.reading.contents.+gather.Goals as goal

-- an include as its tree
include_seen : (b : Box Include Global) → item_view (written.Include b) ≡ tree.include (cow_str_bytes b.value.wanted) (prefix_view b.value.inherit) (items_view b.value.items.items)
include_seen b = ap item_view (sym (rolls-Include b)) ∙ fold-roll-Item tree.Item tree.Item item_step include_step (Item-F.Include b)
    ∙ search (rules, the_lemmas, fold_out-Include tree.Item tree.Item item_step include_step)

pub gather-items-init : goal.gather-items-init
gather-items-init t c =
    let names = names_of c.args.keys.now in
    let n = c.args.contents.now.count in
    let all : into_iter_items c.into_iter-item-iterator.result ≡ c.args.items.items = c.into_iter-item-iterator.ensures.into_iter_gives.0 in
    record {
      bindings = refl;
      kept = refl;
      more = ap (λ (xs : List Item). n + length (written_components (items_view xs))) all;
      rows = λ d. (
        [],
        subst (λ (xs : List Item). AreAmong names (defines (items_view xs))) (sym all) d,
        rows_none names c.args.rows.now.rows.items,
        ap (λ (xs : List Item). placed_from c.args.«module».0 n (written_components (items_view xs))) all,
      );
      includes = λ ms named. ap (λ (xs : List Item). map inclusion_view c.args.contents.now.includes.items ++ inclusions ms n (items_view xs)) all;
      count = omega (arith, c.into_iter-item-iterator.ensures.into_iter_gives.1, c.args.items.ok, ap length all);
    }

pub gather-items-preserved : goal.gather-items-preserved
gather-items-preserved t c =
    let names = names_of c.args.keys.now in
    let left = into_iter_items c.items.item-iterator in
    let rest = into_iter_items c.next.new.self in
    let x = c.in-Some.item in
    let step : left ≡ x ∷ rest = c.in-Some.ensures.steps.0 in
    let parted = written_parted left rest x step in
    record {
      bindings = c.in_ok-gather_item.ensures.bindings ∙ c.items.invariant.bindings;
      kept = c.in_ok-gather_item.ensures.kept ∙ c.items.invariant.kept;
      more = omega (arith, c.in_ok-gather_item.ensures.count, ap length parted, length-append (item_written_components (item_view x)) (written_components (items_view rest)), c.items.invariant.more);
      rows = λ d. let h = c.items.invariant.rows d in (
        h.0 ++ placed_from c.args.«module».0 c.items.contents.count (item_written_components (item_view x)),
        defined_rest names left rest x step h.1,
        rows_more names _ _ _ h.0 _ h.2 (c.in_ok-gather_item.ensures.rows (defined_first names left rest x step h.1)),
        placed_more left rest x step c.args.«module».0 _ _ c.in_ok-gather_item.ensures.count h.0 _ h.3,
      );
      includes = λ ms named. inclusions_more ms left rest x step _ _ c.in_ok-gather_item.ensures.count _ _ _ (c.items.invariant.includes ms named) (c.in_ok-gather_item.ensures.includes ms named);
      count = omega (arith, c.in-Some.ensures.steps.1, c.items.invariant.count, ap length step);
    }

pub gather-returns-clause-rows : goal.gather-returns-clause-rows
gather-returns-clause-rows t c = λ d.
    let names = names_of c.args.keys.now in
    let h = c.items.invariant.rows d in
    let none = nothing_left (into_iter_items c.items.item-iterator) (sym c.items.invariant.count ∙ c.in-None.ensures.steps.0) in
    let all = sym (append-nil h.0) ∙ ap (λ (xs : List Item). h.0 ++ placed_from c.args.«module».0 c.items.contents.count (written_components (items_view xs))) (sym none) ∙ h.3 in
    subst (AddsRows names c.args.rows.now.rows.items c.items.rows.rows.items) all h.2

pub gather-returns-clause-includes : goal.gather-returns-clause-includes
gather-returns-clause-includes t c = λ ms named.
    let none = nothing_left (into_iter_items c.items.item-iterator) (sym c.items.invariant.count ∙ c.in-None.ensures.steps.0) in
    let more = inclusions ms c.items.contents.count in
    let had = map inclusion_view c.items.contents.includes.items in
    sym (append-nil had) ∙ ap (λ (xs : List Item). had ++ more (items_view xs)) (sym none) ∙ c.items.invariant.includes ms named

pub gather_item-returns-in_ok-gather-in-Include-clause-includes : goal.gather_item-returns-in_ok-gather-in-Include-clause-includes
gather_item-returns-in_ok-gather-in-Include-clause-includes t c = λ ms named.
    let seen : item_view c.args.item ≡ tree.include (cow_str_bytes c.in-Include.include.value.wanted) (prefix_view c.in-Include.include.value.inherit) (items_view c.in-Include.include.value.items.items)
    = ap item_view c.in-Include.is ∙ include_seen c.in-Include.include in
    let n = c.args.contents.now.count in
    let olds = map inclusion_view c.args.contents.now.includes.items in
    let include = c.in-Include.include.value in
    let got : c.into_inner-wanted.result ≡ include = c.into_inner-wanted.ensures in
    let own = c.in_ok-gather-in-Include.ensures in
    let place = c.module_named-included.ensures.place c.requires.modules_in_order
    ∙ named_places ms c.args.modules.now c.deref.result.now named
    ∙ ap (place_in ms) (c.deref.ensures.value ∙ ap (λ (g : Include). cow_str_bytes g.wanted) got) in
    let inherit = ap (λ (g : Include). prefix_view g.inherit) got in
    let end = own.count ∙ ap (λ (g : Include). n + length (written_components (items_view g.items.items))) got in
    let all = own.includes ms named ∙ ap (λ (g : Include). olds ++ inclusions ms n (items_view g.items.items)) got in
    IfOk-equal c.push_include.result _ _ _ c.push_include.ensures.includes
    (includes_more olds _ (inclusions ms n (items_view include.items.items)) _ (record { module_at = place_in ms (cow_str_bytes include.wanted); inherit = prefix_view include.inherit; first = n; end = n + length (written_components (items_view include.items.items)) })
    all (λ i. record { module_at = place i; inherit = inherit i; first = n; end = end i })
    ∙ ap (λ (x : tree.Item). olds ++ item_inclusions ms n x) (sym seen))
