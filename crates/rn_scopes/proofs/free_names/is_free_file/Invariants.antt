-- If the names of the parts that are left are free, all are.
use Rattle.std.proofs.Common.{length, string_bytes}
use Rattle.std.specs.List.{AllByRecursion}
use Rattle.rn_scopes.specs.FreeNames.{FileIsFree, PartIsFree}
use Rattle.rn_scopes.proofs.free_names.is_free_file.Given as goal

abbrev pub invariant-parts : goal.invariant-parts
invariant-parts l = AllByRecursion (PartIsFree l.names.made_stems (string_bytes l.names.start) l.given.file.text.now) l.rest → FileIsFree l.names.made_stems (string_bytes l.names.start) l.given.file

abbrev pub decreases-parts : goal.decreases-parts
decreases-parts l = length l.rest
