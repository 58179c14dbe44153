use Rattle.std.proofs.Common.{sym, ap, ◌∙◌}
use Rattle.std.specs.Prelude.{encode_utf8}
use Rattle.std.proofs.lemmas.Str.{IsUtf8-past_char}
use Rattle.rn_rng.specs.Layout.{escaped, reference}
use Rattle.rn_rng.specs.inside.Views.{holder_view}
use Rattle.rn_rng.proofs.References.{nothing_escaped}
use Rattle.rn_rng.proofs.Writing.{flat_map-append, writes_as, writes_nil, writes_then}
use Rattle.rn_rng.proofs.lines.Writer.put_references.Goals as goal

pub loop-c-preserved : goal.loop-c-preserved
loop-c-preserved c =
    let h = holder_view c.args.holder in
    let held = c.loop-c.invariant in
    let parts = c.in-Some.ensures.steps.0 in (
      IsUtf8-past_char _ _ c.in-Some.c held.0 parts,
      λ z w. held.1 z (writes_as (sym (flat_map-append (reference h) (encode_utf8 c.in-Some.c) _) ∙ ap (escaped h) (sym parts)) (writes_then c.put_reference.ensures w)),
    )

pub returns : goal.returns
returns c =
    let h = holder_view c.args.holder in
    c.loop-c.invariant.1 c.loop-c.self (writes_as (sym (nothing_escaped h _ c.in-None.ensures.steps.0.0)) (writes_nil c.loop-c.self))
