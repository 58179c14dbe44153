-- Each module's items are its part of the items given apart.
use Rattle.std.proofs.Common.{◌≡◌, ◌<◌, ◌∷◌, ◌++◌, List, [], length, slice_get, append_assoc, append-nil, length-append, subst, sym, ap, ◌∙◌, arith}
use Rattle.std.specs.Prelude.{Vec}
use Rattle.std.specs.declared.alloc.Global.{Global}
use Rattle.std.specs.List.{AllZip}
use Rattle.std.specs.Vec.Iter.{into_iter_items}
use Rattle.rn_syntax.specs.declared.tree.Item.{Item}
use Rattle.rn_assemble.specs.Components.{NamedModule}
use Rattle.rn_assemble.specs.declared.reading.contents.Contents.{Contents}
use Rattle.rn_assemble.specs.inside.Keyed.{AreNames}
use Rattle.rn_assemble.specs.inside.ContentsOf.{IsContents}
use Rattle.rn_assemble.specs.inside.Views.{module_with, names_of, with_items}
use Rattle.rn_assemble.proofs.Gathering.AddedRows.{AreRowsOf, all_rows, items_size, no_rows, rows_of_more}
use Rattle.rn_assemble.proofs.Gathering.GatheredItems.{defined_each, module_there, names_with, nothing_left, with_more, with_none, zip_push}
use Rattle.rn_assemble.proofs.reading.contents.contents_of.Goals as goal

pub loop-items-init : goal.loop-items-init
loop-items-init c =
    let given : into_iter_items c.into_iter-items-iterator.result ≡ c.args.items.items = c.into_iter-items-iterator.ensures.into_iter_gives.0 in
    let none : c.in_ok-all.all.items ≡ [] = c.in_ok-all.ensures.items in
    let rows = c.in_ok-rows.rows.rows.items in
    let names = names_of c.args.keys.now in
    let R = IsContents (with_items c.args.modules.now c.args.items.items) in
    record {
      are = subst (λ (ms : List NamedModule). AllZip R ms c.in_ok-all.all.items) (sym (with_none c.args.modules.now)) (subst (λ (cs : List Contents). AllZip R [] cs) (sym none) tt);
      rows = subst (λ (ms : List NamedModule). AreRowsOf names ms rows) (sym (with_none c.args.modules.now)) (no_rows names rows (c.in_ok-rows.ensures.size ∙ c.len.ensures) c.in_ok-rows.ensures.empty);
      size = ap length none;
      rest = given;
      count = omega (arith, c.into_iter-items-iterator.ensures.into_iter_gives.1, c.args.items.ok, ap length given);
    }

pub contents_of_module-requires-clause-within : goal.contents_of_module-requires-clause-within
contents_of_module-requires-clause-within c =
    let ms = c.args.modules.now in
    let at = c.loop-items in
    let left = into_iter_items c.next.new.self in
    let step : into_iter_items at.items-iterator ≡ c.in-Some.items ∷ left = c.in-Some.ensures.steps.0 in
    let all : at.yielded ++ c.in-Some.items ∷ left ≡ c.args.items.items = ap (λ xss. at.yielded ++ xss) (sym step) ∙ at.invariant.rest in
    omega (arith, c.len-in-loop-items.ensures, at.all.ok, at.invariant.size, c.requires.size, ap length all, length-append at.yielded (c.in-Some.items ∷ left))

pub contents_of_module-requires-clause-defined : goal.contents_of_module-requires-clause-defined
contents_of_module-requires-clause-defined c =
    let ms = c.args.modules.now in
    let names = names_of c.args.keys.now in
    let at = c.loop-items in
    let left = into_iter_items c.next.new.self in
    let step : into_iter_items at.items-iterator ≡ c.in-Some.items ∷ left = c.in-Some.ensures.steps.0 in
    let all : at.yielded ++ c.in-Some.items ∷ left ≡ c.args.items.items = ap (λ xss. at.yielded ++ xss) (sym step) ∙ at.invariant.rest in
    let within : length at.yielded < length ms = omega (arith, c.requires.size, ap length all, length-append at.yielded (c.in-Some.items ∷ left)) in
    defined_each ms names at.yielded left c.in-Some.items (subst (λ (xss : List (Vec Item Global)). AreNames (with_items ms xss) names) (sym all) c.requires.names) within

pub loop-items-preserved : goal.loop-items-preserved
loop-items-preserved c =
    let ms = c.args.modules.now in
    let names = names_of c.args.keys.now in
    let all_modules = with_items ms c.args.items.items in
    let at = c.loop-items in
    let xs = c.in-Some.items in
    let left = into_iter_items c.next.new.self in
    let step : into_iter_items at.items-iterator ≡ xs ∷ left = c.in-Some.ensures.steps.0 in
    let all : at.yielded ++ xs ∷ left ≡ c.args.items.items = ap (λ xss. at.yielded ++ xss) (sym step) ∙ at.invariant.rest in
    let within : length at.yielded < length ms = omega (arith, c.requires.size, ap length all, length-append at.yielded (xs ∷ left)) in
    let here : c.len-in-loop-items.result ≡ length at.yielded = omega (arith, c.len-in-loop-items.ensures, at.all.ok, at.invariant.size) in
    let (m, seen, is) = module_there ms (length at.yielded) within in
    let had = with_items ms at.yielded in
    let more : with_items ms (at.yielded ++ xs ∷ []) ≡ had ++ module_with m xs ∷ [] = with_more ms at.yielded m xs within (sym is) in
    let R = IsContents all_modules in
    let pushed : c.push.new.self.items ≡ at.all.items ++ c.in_ok-contents.contents ∷ [] = c.in_ok-push.ensures.items in
    let this = c.in_ok-contents.ensures.exact all_modules m (names_with ms c.args.items.items c.requires.size) (ap (slice_get ms) here ∙ seen) in
    record {
      are = subst (λ (ns : List NamedModule). AllZip R ns c.push.new.self.items) (sym more)
          (subst (AllZip R (had ++ module_with m xs ∷ [])) (sym pushed) (zip_push R had at.all.items (module_with m xs) c.in_ok-contents.contents at.invariant.are this));
      rows = subst (λ (ns : List NamedModule). AreRowsOf names ns c.contents_of_module.new.rows.rows.items) (sym more)
          (rows_of_more names had (module_with m xs) c.len-in-loop-items.result at.rows.rows.items c.contents_of_module.new.rows.rows.items (here ∙ sym (items_size ms at.yielded (omega (arith, within)))) at.invariant.rows c.in_ok-contents.ensures.rows);
      size = omega (arith, ap length pushed, length-append at.all.items (c.in_ok-contents.contents ∷ []), length-append at.yielded (xs ∷ []), at.invariant.size);
      rest = append_assoc at.yielded (xs ∷ []) left ∙ all;
      count = omega (arith, c.in-Some.ensures.steps.1, at.invariant.count, ap length step);
    }

pub returns-clause-contents : goal.returns-clause-contents
returns-clause-contents c =
    let ms = c.args.modules.now in
    let at = c.loop-items in
    let none = nothing_left (into_iter_items at.items-iterator) (sym at.invariant.count ∙ c.in-None.ensures.steps.0) in
    let met : at.yielded ≡ c.args.items.items = sym (append-nil at.yielded) ∙ ap (λ xss. at.yielded ++ xss) (sym none) ∙ at.invariant.rest in
    subst (λ (xss : List (Vec Item Global)). AllZip (IsContents (with_items ms c.args.items.items)) (with_items ms xss) at.all.items) met at.invariant.are

pub returns-clause-rows : goal.returns-clause-rows
returns-clause-rows c =
    let ms = c.args.modules.now in
    let names = names_of c.args.keys.now in
    let at = c.loop-items in
    let none = nothing_left (into_iter_items at.items-iterator) (sym at.invariant.count ∙ c.in-None.ensures.steps.0) in
    let met : at.yielded ≡ c.args.items.items = sym (append-nil at.yielded) ∙ ap (λ xss. at.yielded ++ xss) (sym none) ∙ at.invariant.rest in
    all_rows names (with_items ms c.args.items.items) at.rows.rows.items c.requires.names
    (subst (λ (xss : List (Vec Item Global)). AreRowsOf names (with_items ms xss) at.rows.rows.items) met at.invariant.rows)
