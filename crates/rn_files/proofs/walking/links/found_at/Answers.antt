use Rattle.std.proofs.Common.{ℕ, List, subst, string_bytes}
use Rattle.rn_files.specs.Maps.{IsLocation}
use Rattle.rn_files.proofs.walking.links.found_at.Goals as goal

pub returns-clause-led : goal.returns-clause-led
returns-clause-led g c =
    let place = string_bytes c.in_ok-leads.leads.path in
    let is_mapped = c.in_ok-leads.leads.is_mapped in
    let path = string_bytes c.in_ok-path.path in
    let Lies : List ℕ → Type 0 = λ u. IsLocation c.args.ways.now.maps.now u place is_mapped in
    let Led : List ℕ → Type 0 = λ p. g.F.Files.leads c.args.files.now p path in
    (place, is_mapped, subst Lies c.as_str.ensures.value c.in_ok-leads.ensures, subst Led c.as_str-4.ensures.value c.in_ok-path.ensures)
