-- Modules whose items were taken out: their segments and rows are those of the modules as they were written.
use Rattle.std.proofs.Common.{◌≡◌, List, [], sym, ap, ◌∙◌, subst}
use Rattle.std.specs.Prelude.{◌↔◌, Vec, flat_map}
use Rattle.std.specs.List.{AllByRecursion}
use Rattle.std.specs.declared.alloc.Global.{Global}
use Rattle.rn_text.specs.Texts.{Text}
use Rattle.rn_syntax.specs.declared.tree.Item.{Item}
use Rattle.rn_assemble.specs.Components as specs
use Rattle.rn_assemble.specs.declared.including.segments.Segments.{Segments}
use Rattle.rn_assemble.specs.declared.reading.contents.Contents.{Contents}
use Rattle.rn_assemble.specs.declared.reading.key_rows.KeyRows.{KeyRows}
use Rattle.rn_assemble.specs.declared.reading.named_modules.ModuleId.{ModuleId}
use Rattle.rn_assemble.specs.declared.reading.named_modules.NamedModule.{NamedModule}
use Rattle.rn_assemble.specs.inside.Bringing.{CanList, IsLackIn, OfRoots}
use Rattle.rn_assemble.specs.inside.Checked.{AreExpanded}
use Rattle.rn_assemble.specs.inside.Contained.{AreFlat}
use Rattle.rn_assemble.specs.inside.ContentsOf.{AreContents, name_at}
use Rattle.rn_assemble.specs.inside.Included.{AreIncluded}
use Rattle.rn_assemble.specs.inside.Lacking.{LacksFrom}
use Rattle.rn_assemble.specs.inside.Rows.{AreRows}
use Rattle.rn_assemble.specs.inside.Segments.{AreSegmentsOf}
use Rattle.rn_assemble.specs.inside.Views.{AreInOrder, module_numbers, modules_view, with_items}
use Rattle.rn_assemble.proofs.Answering.CheckedModules.{expanded}
use Rattle.rn_assemble.proofs.Expansion.WantedNumbers.{names_rise}

-- the slices are those of the lists
pub modules_expanded : (modules slice heads held : List NamedModule) (items : List (Vec Item Global)) (names : List Text) (roots held_roots : List ModuleId) (contents held_contents : List Contents) (rows : KeyRows) (x : Segments)
    → AreInOrder modules → AllByRecursion (λ (m : specs.NamedModule). AreFlat m.tree.items) (modules_view modules)
    → slice ≡ modules → AreIncluded (modules_view slice) (module_numbers roots)
    → held ≡ heads → with_items heads items ≡ modules_view modules
    → AreContents (with_items held items) contents → AreRows (with_items held items) names rows.rows.items
    → held_contents ≡ contents → held_roots ≡ roots
    → OfRoots held_contents (module_numbers held_roots) (λ ms. AreSegmentsOf ms x (flat_map (λ r. specs.components ms (name_at ms r) []) (module_numbers held_roots)))
    → OfRoots held_contents (module_numbers held_roots) (λ ms. (y : Text) (k : specs.Key) → IsLackIn ms x.list.items x.brought.items y k ↔ LacksFrom ms (module_numbers held_roots) y k)
    → AreExpanded (modules_view modules) names rows x
modules_expanded modules slice heads held items names roots held_roots contents held_contents rows x in_order flat same included heads_same whole are_contents are_rows contents_same roots_same segments lacks =
    let ms = modules_view modules in
    let order = names_rise modules in_order in
    let of_slice = subst (λ (xs : List NamedModule). AreIncluded (modules_view xs) (module_numbers roots)) same included in
    let of_roots = subst (λ (is : List ModuleId). AreIncluded ms (module_numbers is)) (sym roots_same) of_slice in
    let written : with_items held items ≡ ms = ap (λ (xs : List NamedModule). with_items xs items) heads_same ∙ whole in
    let row_list = subst (λ ys. AreRows ys names rows.rows.items) written are_rows in
    let are = subst (λ (cs : List Contents). AreContents ms cs) (sym contents_same) (subst (λ ys. AreContents ys contents) written are_contents) in
    let can : CanList ms held_contents = record { in_order = order; flat = flat; are = are } in
    expanded ms names rows x (module_numbers held_roots) order flat of_roots row_list (segments ms can of_roots.within) (lacks ms can of_roots.within)
