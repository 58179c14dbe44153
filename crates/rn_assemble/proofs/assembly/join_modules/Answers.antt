use Rattle.std.proofs.Common.{sym, ap, ◌∙◌}
use Rattle.rn_assemble.specs.inside.Checked.{AreExpanded}
use Rattle.rn_assemble.specs.inside.Views.{AreNamed, module_names, modules_view, names_of}
use Rattle.rn_assemble.proofs.Answering.ExpandedModules.{modules_expanded}
use Rattle.rn_assemble.proofs.Expansion.WantedNumbers.{names_seen}
use Rattle.rn_assemble.proofs.assembly.join_modules.Goals as goal

-- the modules without their items are named as those with them, and these are expanded
expanded : (c : goal.After-segments-2-1) → AreNamed (modules_view c.args.modules.items) c.as_slice-6.result.now
    × AreExpanded (modules_view c.args.modules.items) (names_of c.in_ok-keys.keys) c.in_ok-contents.rows c.in_ok-segments.segments
expanded c = (
  names_seen c.args.modules.items ∙ sym c.in_ok-modules.ensures.names ∙ ap module_names (sym c.as_slice-6.ensures.value),
  modules_expanded c.args.modules.items c.as_slice.result.now _ c.as_slice-3.result.now c.in_ok-modules.items.items (names_of c.in_ok-keys.keys) c.in_ok-roots.roots.items c.as_slice-5.result.now c.in_ok-contents.contents.items c.as_slice-4.result.now c.in_ok-contents.rows c.in_ok-segments.segments
      c.requires.in_order c.requires.flat c.as_slice.ensures.value c.in_ok-roots.ensures c.as_slice-3.ensures.value c.in_ok-modules.ensures.items
      c.in_ok-contents.ensures.contents c.in_ok-contents.ensures.rows c.as_slice-4.ensures.value c.as_slice-5.ensures.value c.in_ok-segments.ensures.segments c.in_ok-segments.ensures.lacks,
)

pub join_keys-requires-clause-known : goal.join_keys-requires-clause-known
join_keys-requires-clause-known c = let (named, is) = expanded c in (modules_view c.args.modules.items, named, c.requires.kept, is)

pub returns : goal.returns
returns c =
    let here : goal.After-segments-2-1 = assumption in
    let (named, is) = expanded here in
    c.join_keys.ensures (modules_view c.args.modules.items) named is
