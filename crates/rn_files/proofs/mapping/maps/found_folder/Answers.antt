use Rattle.std.proofs.Common.{List, ℕ}
use Rattle.std.proofs.lemmas.Option.{IfSome_then}
use Rattle.rn_files.specs.Maps.{IsFoundFolder}
use Rattle.std.specs.Borrow.{Bor}
use Rattle.rn_files.proofs.mapping.maps.found_folder.Goals as goal

pub returns-in-Some : goal.returns-in-Some
returns-in-Some c =
    let Q : Bor (List ℕ) → Type 0 = λ folder. IsFoundFolder c.args.groups.now c.args.uri.now folder.now in
    IfSome_then c.folder_of.result {Q = Q} c.folder_of.ensures (λ folder h. (_, _, c.in-Some.ensures, h))
