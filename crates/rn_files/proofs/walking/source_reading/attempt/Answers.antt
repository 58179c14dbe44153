use Rattle.rn_files.specs.ReadableFiles.{IsReadFor}
use Rattle.rn_files.proofs.FilesRead.{followed_kept}
use Rattle.rn_files.proofs.walking.source_reading.attempt.Goals as goal

pub returns : goal.returns
returns g c = followed_kept (IsReadFor (g.F.Files.leads c.args._files.now) (g.F.Files.gives c.args._files.now) c.args._asked.now) c.args.followed c.requires
