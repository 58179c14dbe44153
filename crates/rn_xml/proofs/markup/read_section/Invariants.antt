use Rattle.std.proofs.Common.{◌≤◌, length}
use Rattle.std.specs.Prelude.{codes, string_bytes}
use Rattle.rn_xml.specs.inside.Rests.{source}
use Rattle.rn_xml.proofs.UpToEnds.{PutsUpTo}
use Rattle.rn_xml.proofs.Refusals.RefusedMarkup.{LeavesEnd}
use denote.Shadow.{shadow}
use denote.Text.{Utf8}
use Rattle.rn_xml.proofs.markup.read_section.Given as goal

abbrev pub invariant-loop-c : goal.invariant-loop-c
invariant-loop-c l = shadow (Utf8 l.rest) × (length l.rest ≤ length l.text) × PutsUpTo (codes "]]>") (string_bytes l.fn.out) (string_bytes l.out) (source l.initial.rest) (source l.rest)
    × LeavesEnd (codes "]]>") (source l.initial.rest) (source l.rest)

abbrev pub decreases-loop-c : goal.decreases-loop-c
decreases-loop-c l = length l.rest
