use Rattle.std.proofs.Common.{◌≡◌, map, string_bytes}
use Rattle.rn_modset.specs.Contributions.{member}
use Rattle.rnc_merge.specs.Jobs.{list_lines}
use Rattle.rnc_merge.proofs.jobs.list_lines.Given as goal

abbrev pub invariant-loop-contribution : goal.invariant-loop-contribution
invariant-loop-contribution l = string_bytes l.lines ≡ list_lines (map (λ c. member c.now) l.yielded)
