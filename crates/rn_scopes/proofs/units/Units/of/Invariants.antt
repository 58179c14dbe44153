-- The files so far were added.
use Rattle.std.proofs.Common.{◌≡◌, All, take}
use Rattle.rn_scopes.specs.UnitFiles.{HasTargets, files_of}
use Rattle.rn_scopes.proofs.units.Units.of.Given as goal

abbrev pub invariant-loop-file : goal.invariant-loop-file
invariant-loop-file l = record {
  files : files_of l.all ≡ take l.file-index l.files;
  targets : All HasTargets l.all.files.items;
}
