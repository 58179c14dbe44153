use Rattle.std.proofs.Common.{◌≡◌, ◌+◌, drop, map}
use Rattle.std.specs.Prelude.{string_bytes}
use Rattle.rn_simplify.specs.Spelling.{place}
use Rattle.rn_simplify.proofs.declared_prefixes.place_among.Given as goal

-- the text isn't among those so far
abbrev pub invariant-loop-index : goal.invariant-loop-index
invariant-loop-index l = place l.text (map (λ u. string_bytes u) l.texts) ≡ place l.text (map (λ u. string_bytes u) (drop l.index l.texts)) + l.index
