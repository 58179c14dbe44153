use Rattle.std.proofs.Common.{◌≡◌, length}
use Rattle.std.specs.Str.{chars, IsUtf8}
use Rattle.rn_text.specs.Segments.{is_verbatim}
use Rattle.rn_text.proofs.segments.is_verbatim.Given as goal

abbrev pub invariant-loop-first : goal.invariant-loop-first
invariant-loop-first l = record { same : is_verbatim (chars l.text) ≡ is_verbatim (chars l.rest); utf8 : IsUtf8 l.rest }

abbrev pub decreases-loop-first : goal.decreases-loop-first
decreases-loop-first l = length (chars l.rest)
