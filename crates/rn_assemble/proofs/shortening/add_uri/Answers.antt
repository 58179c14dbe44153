use Rattle.std.proofs.Common.{refl}
use Rattle.rn_assemble.proofs.Renaming.DeclaredUris.{gathers_one}
use Rattle.rn_assemble.proofs.shortening.add_uri.Goals as goal

pub returns : goal.returns
returns c = gathers_one _ (λ k l. refl) c.args.uri c.args.uris.now c.insert.new.self c.in_ok-insert.ensures.keys
