use Rattle.std.proofs.Common.{All}
use Rattle.std.specs.Prelude.{string_bytes}
use Rattle.rn_files.specs.ReadableFiles.{IsKept, IsReadFor}
use Rattle.rn_files.proofs.walking.source_reading.reading_of_sources.Given as goal

-- what is kept so far is fronts of what was read
abbrev pub invariant-loop-source : goal.invariant-loop-source
invariant-loop-source g l =
    All (λ a. IsKept (IsReadFor (g.F.Files.leads l._files) (g.F.Files.gives l._files) l._asked) (string_bytes a.text) a.written) l.attempts.items
