use Rattle.std.proofs.Common.{ℕ, List, ap, ◌∙◌, sym, string_bytes}
use Rattle.rn_files.specs.ReadableFiles.{lies_in}
use Rattle.rn_files.proofs.FilesRead.{in_map}
use Rattle.rn_files.proofs.opening.bounds.lies_in_map.Goals as goal

pub returns-in-Ok : goal.returns-in-Ok
returns-in-Ok g c lies =
    let same = ap (λ (p : List ℕ). lies_in p c.args.real.now) c.as_str.ensures.value in
    in_map (g.F.Files.leads c.args.files.now) c.args.maps.now c.args.uri.now c.args.real.now c.in-Some.folder.now
    (string_bytes c.in-Ok.folder) c.in-Some.ensures c.in-Ok.ensures (sym same ∙ sym c.lies_in.ensures ∙ lies)
