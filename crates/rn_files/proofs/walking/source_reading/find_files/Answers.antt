use Rattle.std.proofs.Common.{◌≡◌, Ok, Option, Result, subst}
use Rattle.std.specs.Prelude.{IfOk, IfSome}
use Rattle.rn_files.specs.inside.Following.{IsRootOf}
use Rattle.rn_files.specs.declared.opening.root_folder.RootFolder.{RootFolder}
use Rattle.rn_files.specs.declared.source_faults.LinkFault.{LinkFault}
use Rattle.rn_files.proofs.FilesRead.{within_none, within_some}
use Rattle.rn_files.proofs.walking.source_reading.find_files.Goals as goal

pub returns-in-Some-root : goal.returns-in-Some-root
returns-in-Some-root g c =
    let leads = g.F.Files.leads c.args.files.now in
    let named = c.in-Some-root.named in
    let answer = c.given_root-root.result in
    let root = c.in-Some-2.root in
    let IsAnswer : Option RootFolder → Type 0 = λ o. IfSome o (λ value. answer ≡ Ok value) in
    let is : answer ≡ Ok root = subst IsAnswer c.in-Some-2.is c.in_ok-root-in-Some-root.ensures.led in
    let IsFound : Result RootFolder LinkFault → Type 0 = λ r. IfOk r (IsRootOf leads named.now) in
    within_some leads (g.F.Files.gives c.args.files.now) c.args.asked.now c.in_ok-files-in-Some-root.files.followed.items named root
    c.in-Some-root.is (subst IsFound is c.given_root-root.ensures) c.in_ok-files-in-Some-root.ensures

pub returns : goal.returns
returns g c =
    within_none (g.F.Files.leads c.args.files.now) (g.F.Files.gives c.args.files.now) c.args.asked.now c.in_ok-files-in-None.files.followed.items
    c.in-None.is c.in_ok-files-in-None.ensures
