use Rattle.std.proofs.Common.{ℕ, Option, refl, sym, subst, ◌∙◌}
use Rattle.std.specs.Prelude.{MatchOption, Vec}
use Rattle.std.specs.declared.alloc.Global.{Global}
use Rattle.rn_graph.specs.Graph.{IsGraph, rows_of}
use Rattle.rn_graph.specs.Loops.{IsLoop}
use Rattle.rn_graph.specs.Ranks.{HasNoLoop, IsFirstLoop}
use Rattle.rn_files.proofs.FileGraphs.{graph_if, tested_sources}
use Rattle.rn_files.proofs.walking.soundness.sources_fault.Goals as goal

pub first_loop-requires : goal.first_loop-requires
first_loop-requires c = subst IsGraph (sym c.in_ok-edges.ensures) (graph_if c.as_slice-files.result.now (sym c.is_graph.ensures ∙ c.if-not-is_graph.false))

pub returns : goal.returns
returns c =
    let rows = rows_of c.in_ok-edges.edges in
    let P : Option (Vec ℕ Global) → Type 0 = λ o. MatchOption o (HasNoLoop rows) (λ files. (first : ℕ) × IsFirstLoop rows first × IsLoop rows first files.items) in
    tested_sources c.args.sources.now rows c.as_slice-files.result.now c.as_slice.result.now _
    c.as_slice-files.ensures.value c.as_slice.ensures.value refl c.in_ok-edges.ensures
    (sym c.is_graph.ensures ∙ c.if-not-is_graph.false) (sym c.are_below.ensures ∙ c.if-not-are_below.false)
    (sym c.have_names.ensures ∙ c.if-not-have_names.false) (sym c.have_targets.ensures ∙ c.if-not-have_targets.false)
    (sym c.have_own_names.ensures ∙ c.if-not-have_own_names.false)
    (subst P c.in-None.is c.in_ok-looped.ensures)
