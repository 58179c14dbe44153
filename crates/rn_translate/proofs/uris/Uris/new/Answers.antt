-- Four texts, of which the first is that of the inherited namespace.
use Rattle.std.proofs.Common.{refl, ap, nat_cmp}
use Rattle.std.specs.BTreeMap.{is_at}
use Rattle.std.specs.Cmp.Lexicographic.{slice_cmp}
use Rattle.std.specs.Map.{lookup}
use Rattle.rn_translate.proofs.MadeUris.{pushed_one, table_made}
use Rattle.rn_translate.proofs.uris.Uris.new.Goals as goal

pub returns : goal.returns
returns c =
    table_made (record { texts = c.push.new.self; indices = c.new-2.result }) c.add.new.self c.add-2.new.self c.add-3.new.self _ _ _ _ refl refl refl refl
    (pushed_one _ _ _ c.in_ok-push.ensures.items c.new.ensures.items) (λ q. ap (λ es. lookup (is_at (λ text. slice_cmp nat_cmp q text.now)) es) c.new-2.ensures.empty)
    c.in_ok-add.ensures c.in_ok-add-2.ensures c.in_ok-add-3.ensures
