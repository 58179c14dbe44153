use Rattle.std.proofs.Common.{rules}
use Rattle.std.proofs.lemmas.Result.{on_ok_weaker}
use Rattle.rn_simplify.proofs.Simplified.PrunedForms.{names_rise}
use Rattle.rn_simplify.proofs.reachable.sort_by_name.Goals as goal

pub returns-clause-rising : goal.returns-clause-rising
returns-clause-rising c = on_ok_weaker c.sort_by.result (λ sorted distinct. names_rise c.sort_by.new.self.items distinct sorted (λ a r f' k. search rules)) c.sort_by.ensures.sorted
