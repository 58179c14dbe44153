use Rattle.std.proofs.Common.{◌≡◌, ℕ, ◌-◌, List, take, drop, Some}
use Rattle.rn_text.specs.Parts.{Piece}
use Rattle.rn_simplify.specs.Spelling.{chain}
use Rattle.rn_simplify.specs.inside.Writes.{bytes_of, depth_after, prefixes_view, written_members, Writes}
use Rattle.rn_simplify.proofs.pattern_text.+pattern.Given as goal

abbrev pub invariant-write_chain-loop-i : goal.invariant-write_chain-loop-i
invariant-write_chain-loop-i l = (s : List Piece) → bytes_of s ≡ l.connector → ((n : ℕ) → depth_after s n ≡ Some n) → Writes (chain s (written_members (prefixes_view l.prefixes) (take (l.i - l.first) (drop l.first l.members)))) l.initial.writer l.writer
