-- No URI of the declarations so far is long.
use Rattle.std.proofs.Common.{◌≡◌, false, map, take}
use Rattle.std.specs.List.{list_any}
use Rattle.rn_syntax.specs.View.{declaration_view}
use Rattle.rn_assemble.specs.ShortTexts.{declared_uris, is_long}
use Rattle.rn_assemble.proofs.shortening.has_long_uri.Given as goal

abbrev pub invariant-loop-declaration : goal.invariant-loop-declaration
invariant-loop-declaration l = list_any is_long (declared_uris (map declaration_view (take l.declaration-index l.declarations))) ≡ false
