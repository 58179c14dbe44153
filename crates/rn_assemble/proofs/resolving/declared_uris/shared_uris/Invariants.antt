-- The URIs so far are those of the declarations so far.
use Rattle.std.proofs.Common.{◌≡◌, map, take}
use Rattle.rn_syntax.specs.Places.{uri_of}
use Rattle.rn_syntax.specs.View.{declaration_view}
use Rattle.rn_assemble.specs.inside.Shared.{shared_uri}
use Rattle.rn_assemble.proofs.resolving.declared_uris.shared_uris.Given as goal

abbrev pub invariant-loop-declaration : goal.invariant-loop-declaration
invariant-loop-declaration l = map shared_uri l.uris.items ≡ map (λ d. uri_of (declaration_view d)) (take l.declaration-index l.declarations)
