use Rattle.std.proofs.Common.{Option, [], append-nil, refl, subst, sym}
use Rattle.rn_report.specs.JsonMessages.{ArePlaceMembers}
use Rattle.rn_report.specs.declared.report.Page.{Page}
use Rattle.rn_report.proofs.showing.json_messages.write_file_place.Goals as goal

pub returns-in-None : goal.returns-in-None
returns-in-None c =
    let P : Option Page → Type 0 = λ page. ArePlaceMembers page c.args.spot.at [] in
    ([], subst P c.in-None.ensures refl, (refl, sym (append-nil _)))
