use Rattle.std.proofs.Common.{◌≡◌, Option, subst}
use Rattle.std.specs.Prelude.{MatchOption}
use Rattle.rn_lift.specs.inside.Planned.{IsEditOf, StaysAt}
use Rattle.rn_lift.specs.declared.edits.Edit.{Edit}
use Rattle.rn_lift.proofs.StandIns.EachPart.{none_added, one_added}
use Rattle.rn_lift.proofs.edits.add_edit.Goals as goal

pub returns-in_default : goal.returns-in_default
returns-in_default c =
    let v = c.args.view.now in
    let stays = subst (λ (o : Option Edit). MatchOption o (StaysAt v c.args.number) (λ e. IsEditOf v e × (e.part ≡ c.args.number))) c.in_default.is c.in_ok-found.ensures in
    none_added v c.args.number c.args.edits.now.items stays

pub returns : goal.returns
returns c =
    let v = c.args.view.now in
    let found = subst (λ (o : Option Edit). MatchOption o (StaysAt v c.args.number) (λ e. IsEditOf v e × (e.part ≡ c.args.number))) c.in-Some.is c.in_ok-found.ensures in
    one_added v c.args.number c.args.edits.now.items c.push.new.self.items c.in-Some.edit c.in_ok-push.ensures.items found.0 found.1
