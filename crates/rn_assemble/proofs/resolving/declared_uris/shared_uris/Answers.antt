-- All declarations were gone through.
use Rattle.std.proofs.Common.{ap, sym, ◌∙◌, arith, map}
use Rattle.std.proofs.lemmas.List.{take_all}
use Rattle.std.proofs.lemmas.Simd.{map-map}
use Rattle.rn_syntax.specs.declared.tree.Declaration.{Declaration}
use Rattle.rn_syntax.specs.Places.{uri_of}
use Rattle.rn_syntax.specs.View.{declaration_view}
use Rattle.rn_assemble.proofs.resolving.declared_uris.shared_uris.Goals as goal

pub returns : goal.returns
returns c =
    let f = λ (d : Declaration). uri_of (declaration_view d) in
    c.loop-declaration.invariant ∙ ap (map f) (take_all c.loop-declaration.declaration-index c.args.declarations.now (omega arith))
    ∙ sym (map-map uri_of declaration_view c.args.declarations.now)
