-- The URIs of the declarations so far are gathered.
use Rattle.std.proofs.Common.{map, take}
use Rattle.rn_syntax.specs.View.{declaration_view}
use Rattle.rn_assemble.specs.ShortTexts.{declared_uris}
use Rattle.rn_assemble.specs.inside.GatheredUris.{GathersUris}
use Rattle.rn_assemble.proofs.shortening.add_literals.Given as goal

abbrev pub invariant-loop-declaration : goal.invariant-loop-declaration
invariant-loop-declaration l = GathersUris (declared_uris (map declaration_view (take l.declaration-index l.declarations))) l.initial.uris l.uris
