use Rattle.std.proofs.Common.{◌≡◌, ◌+◌, ℕ, List, sym, ap, ◌∙◌, [], slice_index_or, arith, add-one}
use Rattle.std.proofs.lemmas.List.{get_or-map}
use Rattle.std.specs.Borrow.{Bor}
use Rattle.rn_assemble.specs.inside.Keyed.{texts_of, name_at}
use Rattle.rn_assemble.proofs.reading.keys.name_of.Goals as goal

pub returns-in-Some : goal.returns-in-Some
returns-in-Some c =
    let xs = c.args.names.now in
    let at = c.in-Some.at in
    let behind : c.args.id.0 ≡ at + 1 = omega (arith, c.in-Some.ensures) in
    let here : name_at (texts_of xs) (at + 1) ≡ slice_index_or (texts_of xs) at [] = rw add-one (λ i. slice_index_or (texts_of xs) at []) in
    sym (ap (name_at (texts_of xs)) behind ∙ here ∙ get_or-map (λ (s : Bor (List ℕ)). s.now) xs at _ [] (omega (arith, c.if-at-names.true)))
