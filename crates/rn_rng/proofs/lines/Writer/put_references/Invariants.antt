use Rattle.std.proofs.Common.{IsUtf8}
use Rattle.std.specs.Str.Iter.{chars_rest}
use Rattle.rn_rng.specs.declared.lines.Writer.{Writer}
use Rattle.rn_rng.specs.Layout.{escaped}
use Rattle.rn_rng.specs.inside.Views.{holder_view}
use Rattle.rn_rng.specs.inside.Writes.{Writes}
use Rattle.rn_rng.proofs.lines.Writer.put_references.Given as goal

-- once what is left is written, all is
abbrev pub invariant-loop-c : goal.invariant-loop-c
invariant-loop-c l = IsUtf8 (chars_rest l.c-iterator)
    × ((z : Writer) → Writes (escaped (holder_view l.holder) (chars_rest l.c-iterator)) l.self z → Writes (escaped (holder_view l.holder) l.text) l.initial.self z)
