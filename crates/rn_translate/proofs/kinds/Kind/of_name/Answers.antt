-- The first element of this name.
use Rattle.std.proofs.Common.{◌≡◌, ◌∙◌, rules, tests, Bor}
use Rattle.std.specs.Prelude.{option_map, bytes_eq}
use Rattle.std.specs.List.{find}
use Rattle.std.proofs.lemmas.Iterator.{YieldsList-from_slice}
use Rattle.std.proofs.lemmas.Iterator.Search.{find_from_yields_List}
use Rattle.rn_translate.specs.SchemaElements.{kind_name, kinds}
use Rattle.rn_translate.specs.declared.kinds.Kind.{Kind}
use Rattle.rn_translate.proofs.KindNames.{found_kind}
use Rattle.rn_translate.proofs.kinds.Kind.of_name.Goals as goal

pub returns : goal.returns
returns c =
    let x = c.args.local.now in
    let found : option_map (λ (f : Bor Kind). f.now) c.find.result ≡ find (λ k. bytes_eq (kind_name k) x) kinds =
    find_from_yields_List (λ k. bytes_eq (kind_name k) x) _ _ c.find.result c.find.ensures.ran (YieldsList-from_slice kinds cc) (λ y b q k. search (rules, tests)) in
    c.copied.ensures ∙ found ∙ found_kind x kinds
