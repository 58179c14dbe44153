use Rattle.std.proofs.Common.{All}
use Rattle.rn_files.specs.ReadableFiles.{IsReadSource, IsReadFor}
use Rattle.rn_files.proofs.walking.source_reading.sources.Given as goal

-- the sources so far have the texts that were read
abbrev pub invariant-loop-followed : goal.invariant-loop-followed
invariant-loop-followed g l =
    All (IsReadSource (IsReadFor (g.F.Files.leads l._files) (g.F.Files.gives l._files) l._asked)) l.sources.items
