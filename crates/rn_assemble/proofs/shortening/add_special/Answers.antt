use Rattle.std.proofs.Common.{[], ◌∷◌}
use Rattle.rn_pattern.specs.NameRules.{declarations}
use Rattle.rn_syntax.specs.Places.{xml_uri, xsd_uri}
use Rattle.rn_assemble.proofs.Renaming.DeclaredUris.{gathers_then, gathers_unless}
use Rattle.rn_assemble.proofs.shortening.add_special.Goals as goal

pub returns : goal.returns
returns c =
    gathers_unless c.add_uri-4.result ([] ∷ xml_uri ∷ xsd_uri ∷ []) (declarations ∷ []) c.args.uris.now c.add_uri-3.new.uris c.add_uri-4.new.uris
    (gathers_then ([] ∷ xml_uri ∷ []) (xsd_uri ∷ []) c.args.uris.now c.add_uri-2.new.uris c.add_uri-3.new.uris
    (gathers_then ([] ∷ []) (xml_uri ∷ []) c.args.uris.now c.add_uri.new.uris c.add_uri-2.new.uris c.in_ok-add_uri.ensures c.in_ok-add_uri-2.ensures)
    c.in_ok-add_uri-3.ensures)
    c.add_uri-4.ensures
