-- The URIs of the modules so far are gathered, behind those that mean something by themselves.
use Rattle.std.proofs.Common.{◌++◌, take}
use Rattle.rn_assemble.specs.ShortTexts.{module_uris, special_uris}
use Rattle.rn_assemble.specs.inside.GatheredUris.{AreGathered}
use Rattle.rn_assemble.specs.inside.Views.{modules_view}
use Rattle.rn_assemble.proofs.shortening.literal_uris.Given as goal

abbrev pub invariant-loop-module : goal.invariant-loop-module
invariant-loop-module l = AreGathered (special_uris ++ module_uris (modules_view (take l.module-index l.modules))) l.uris
