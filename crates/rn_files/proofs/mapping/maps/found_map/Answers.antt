use Rattle.std.proofs.Common.{List, ap, subst, ◌∙◌}
use Rattle.std.specs.Prelude.{Vec}
use Rattle.std.specs.declared.alloc.Global.{Global}
use Rattle.rn_files.specs.Maps.{HasNoMap, IsLongest}
use Rattle.rn_files.specs.declared.mapping.maps.Map.{Map}
use Rattle.rn_files.proofs.LongestPrefixes.{group_found, group_passed}
use Rattle.rn_files.proofs.mapping.maps.found_map.Goals as goal

pub returns-in-Some : goal.returns-in-Some
returns-in-Some c =
    let P : List Map → Type 0 = λ ms. IsLongest ms c.args.uri.now c.in-Some.found.0.now c.in-Some.found.1.now in
    group_found _ _ _ _ _ _ c.loop-rest.invariant c.in-len1-up.len_at_least (subst P (c.as_slice.ensures.value ∙ ap (λ (g : Vec Map Global). g.items) c.group-item.is) c.in-Some.ensures)

pub loop-rest-preserved : goal.loop-rest-preserved
loop-rest-preserved c =
    let P : List Map → Type 0 = λ ms. HasNoMap ms c.args.uri.now in
    group_passed _ _ _ _ c.loop-rest.invariant c.in-len1-up.len_at_least (subst P (c.as_slice.ensures.value ∙ ap (λ (g : Vec Map Global). g.items) c.group-item.is) c.in_default-longest.ensures)
