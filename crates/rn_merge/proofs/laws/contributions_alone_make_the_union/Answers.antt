use Rattle.rn_merge.proofs.Runs.BroughtContributions.{brought, held, one_union, same_union, never_full, no_fault}
use Rattle.rn_merge.proofs.laws.contributions_alone_make_the_union.Goals as goal

pub returns-clause-held : goal.returns-clause-held
returns-clause-held c = λ bundles s h m. (brought bundles s h m, held bundles s h m)

pub returns-clause-one_union : goal.returns-clause-one_union
returns-clause-one_union c = one_union

pub returns-clause-never_full : goal.returns-clause-never_full
returns-clause-never_full c = never_full

pub returns-clause-same_union : goal.returns-clause-same_union
returns-clause-same_union c = same_union

pub returns-clause-any_order : goal.returns-clause-any_order
returns-clause-any_order c = λ bundles others s fault h same. no_fault bundles others s fault h (λ b. (same b).1)
