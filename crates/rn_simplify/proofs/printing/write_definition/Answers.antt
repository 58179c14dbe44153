use Rattle.std.proofs.Common.{◌∷◌, []}
use Rattle.std.specs.Str.{chars}
use Rattle.rn_pattern.specs.View.{pattern_view}
use Rattle.rn_simplify.specs.Spelling.{identifier, defined_as}
use Rattle.rn_simplify.specs.inside.Writes.{prefixes_view}
use Rattle.rn_simplify.proofs.Texts.Writing.{writes_then}
use Rattle.rn_simplify.proofs.Texts.PartTexts.{writes_identifier}
use Rattle.rn_simplify.proofs.printing.write_definition.Goals as goal

pub returns : goal.returns
returns c =
    let name = c.args.name.now in
    writes_then (identifier (chars name) ∷ []) (defined_as (prefixes_view c.args.prefixes.now) (pattern_view c.args.body.now)) (writes_identifier name c.utf8.name c.put_identifier.ensures) c.write_body.ensures
