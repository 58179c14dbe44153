use Rattle.std.proofs.Common.{fold, flat_map, ap, ◌∙◌, ◌++◌, arith}
use Rattle.std.specs.Prelude.{String, string_bytes}
use Rattle.std.specs.declared.alloc.Global.{Global}
use Rattle.std.specs.Hash as fed
use Rattle.std.proofs.lemmas.List.{take_all}
use Rattle.rn_text.specs.Texts.{Text}
use Rattle.rn_pattern.proofs.Stores.Gathering.{flat_map-through}
use Rattle.rn_pattern.proofs.tables.hashing.hash_parameters.Goals as goal

pub returns : goal.returns
returns g c =
    let ps = c.args.parameters.now in
    c.loop-name.invariant
    ∙ ap (fold g.H.Hasher.write c.args.state.now)
    (ap (flat_map (λ (p : String Global × String Global). fed.str (string_bytes p.0) ++ fed.str (string_bytes p.1))) (take_all c.loop-name.name-index ps (omega arith))
    ∙ flat_map-through (λ (q : Text × Text). fed.str q.0 ++ fed.str q.1) (λ (p : String Global × String Global). (string_bytes p.0, string_bytes p.1)) ps)
