use Rattle.std.proofs.Common.{◌≡◌, ℕ, List, Bool, true, subst, string_bytes}
use Rattle.std.proofs.lemmas.Result.{IfOk-weaker}
use Rattle.rn_files.specs.ReadableFiles.{LiesInMap, MayBeRead}
use Rattle.rn_files.specs.inside.Following.{root_path}
use Rattle.rn_files.proofs.FilesRead.{may_in_map}
use Rattle.rn_files.proofs.opening.bounds.may_be_read.Goals as goal

pub returns : goal.returns
returns g c =
    let leads = g.F.Files.leads c.args.files.now in
    let root = root_path c.args.ways.now.root in
    let maps = c.args.ways.now.maps.now in
    let uri = string_bytes c.args.found.now.uri in
    let path = string_bytes c.args.found.now.path in
    let real = c.args.real.now in
    let Lies : List ℕ → Type 0 = λ u. LiesInMap leads maps u real in
    let P : Bool → Type 0 = λ b. b ≡ true → Lies c.as_str-2.result.now in
    let Q : Bool → Type 0 = λ b. b ≡ true → MayBeRead leads root maps uri path real in
    IfOk-weaker c.lies_in_map.result P Q (λ b lies yes. may_in_map leads root maps uri path real (subst Lies c.as_str-2.ensures.value (lies yes)))
    c.lies_in_map.ensures
