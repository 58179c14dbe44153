-- Components of a row that are an include's own.
use Rattle.std.proofs.Common.{◌≡◌, ◌<◌, ◌≤◌, ℕ, true, Contains, List, Some, sym, ap, ◌∙◌, arith}
use Rattle.std.specs.Prelude.{slice_get}
use Rattle.std.proofs.lemmas.Option.{get_or_from_slice_get, slice_get_within}
use Rattle.rn_pattern.proofs.Ordered.InOrder.{contained_each}
use Rattle.rn_assemble.specs.Components.{Component, Key, NamedModule}
use Rattle.rn_assemble.specs.declared.reading.contents.Contents.{Contents}
use Rattle.rn_assemble.specs.declared.reading.contents.Include.{Include}
use Rattle.rn_assemble.specs.declared.reading.key_rows.WrittenComponent as code
use Rattle.rn_assemble.specs.declared.including.segments.FollowedInclude.{FollowedInclude}
use Rattle.rn_assemble.specs.declared.including.segments.Segments.{Segments}
use Rattle.rn_assemble.specs.inside.ContentsOf.{AreApart, HasOrderedIncludes}
use Rattle.rn_assemble.specs.inside.Rows.{IsRowOf}
use Rattle.rn_assemble.specs.inside.Segments.{AreSegmentsOf, IsBrought}
use Rattle.rn_assemble.proofs.KeyPieces.RowFacts.{each_at, row_in}
use Rattle.rn_assemble.proofs.KeyPieces.RowParts.{is_within}
use Rattle.rn_assemble.proofs.KeyPieces.Runs.{within_says}

module _ (modules : List NamedModule) (x : Segments) (cs : List Component) (s : AreSegmentsOf modules x cs) where
  -- the includes of a module stand in order, and apart
  pub includes_known : (m : ℕ) (c : Contents) → slice_get x.contents.now m ≡ Some c → HasOrderedIncludes c × AreApart c.includes.items
  includes_known m c at = (each_at HasOrderedIncludes x.contents.now m c s.ordered at, each_at (λ (d : Contents). AreApart d.includes.items) x.contents.now m c s.apart at)

  -- a component that an include which was followed has among its own is one of an include of its module
  pub component_own : (k : Key) (row : List code.WrittenComponent) → IsRowOf modules k row → (b : FollowedInclude) → Contains x.brought.items b → (i : ℕ) (w : code.WrittenComponent) → slice_get row i ≡ Some w
      → is_within b.module.0 b.own_from b.own_to w ≡ true → (c : Contents) × (n : Include) × (slice_get x.contents.now w.module.0 ≡ Some c) × Contains c.includes.items n × (n.from ≤ w.number) × (w.number < n.to)
  component_own k row is b has i w at within =
      let told = within_says b.module.0 b.own_from b.own_to w within in
      let facts = (row_in modules k cs row x is s).written i w at in
      let brought = contained_each (IsBrought modules x.contents.now x.list.items) x.brought.items s.brought b has in
      let own = brought.own facts.0 (ap (slice_get x.contents.now) (sym told.0) ∙ facts.1) in
      let among : Contains facts.0.includes.items own.0 = (b.number, slice_get_within facts.0.includes.items b.number own.0 own.1, get_or_from_slice_get facts.0.includes.items b.number own.0 own.0 own.1) in
      (facts.0, own.0, facts.1, among, omega (arith, told.1, own.2), omega (arith, told.2, own.3))
