use Rattle.std.proofs.Common.{[], sym, ap, ◌∙◌}
use Rattle.rn_assemble.specs.Resolve.{uri_text}
use Rattle.rn_rng.proofs.Rows.{uri_at_number}
use Rattle.rn_rng.proofs.namespaces.Namespaces.declared.Goals as goal

pub returns-then-number-declarations : goal.returns-then-number-declarations
returns-then-number-declarations c =
    let ds = c.args.self.now.declarations.now in
    let d = c.index-declarations-number.result in
    c.declaration_uri.ensures ∙ sym (ap (uri_text []) (uri_at_number ds c.args.number d c.if-number-declarations.true c.index-declarations-number.is))
