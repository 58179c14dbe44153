use Rattle.std.proofs.Common.{◌≡◌, flat_map, fold, take, ◌++◌}
use Rattle.std.specs.Hash as fed
use Rattle.std.specs.Prelude.{string_bytes}
use Rattle.rn_pattern.proofs.tables.hashing.hash_parameters.Given as goal

abbrev pub invariant-loop-name : goal.invariant-loop-name
invariant-loop-name g l = l.state ≡ fold g.H.Hasher.write l.initial.state (flat_map (λ p. fed.str (string_bytes p.0) ++ fed.str (string_bytes p.1)) (take l.name-index l.parameters))
