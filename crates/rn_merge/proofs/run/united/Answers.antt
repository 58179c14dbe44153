use Rattle.std.proofs.Common.{◌≡◌, List, [], ◌∙◌, ap, sym}
use Rattle.rn_modset.specs.Contributions.{Member}
use Rattle.rn_modset.specs.Sets.{union}
use Rattle.rn_modset.proofs.Unions.UnionLaws.{union_laws}
use Rattle.rn_merge.proofs.run.united.Goals as goal

pub returns-then-is_empty-clause-ok : goal.returns-then-is_empty-clause-ok
returns-then-is_empty-clause-ok c =
    let empty : c.args.held ≡ [] = c.is_empty.ensures.0 c.if-is_empty.true in
    sym (ap (λ (s : List Member). union s c.args.other) empty ∙ union_laws.begins c.args.other c.requires)
