-- No URI of the modules so far is long.
use Rattle.std.proofs.Common.{◌≡◌, false, take}
use Rattle.std.specs.List.{list_any}
use Rattle.rn_assemble.specs.ShortTexts.{is_long, module_uris}
use Rattle.rn_assemble.specs.inside.Views.{modules_view}
use Rattle.rn_assemble.proofs.shortening.have_long_uri.Given as goal

abbrev pub invariant-loop-module : goal.invariant-loop-module
invariant-loop-module l = list_any is_long (module_uris (modules_view (take l.module-index l.modules))) ≡ false
