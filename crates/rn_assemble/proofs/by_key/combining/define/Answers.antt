use Rattle.std.proofs.Common.{◌≡◌, ◌∷◌, ◌++◌, [], false, map, sym, ap, ◌∙◌, subst}
use Rattle.std.specs.Prelude.{bytes_eq, string_bytes}
use Rattle.std.specs.List.{list_any}
use Rattle.rn_pattern.specs.Tree.{Tree}
use Rattle.rn_pattern.specs.View.{pattern_view}
use Rattle.rn_text.specs.Texts.{Text}
use Rattle.rn_assemble.specs.DefinitionsView.{definitions_view}
use Rattle.rn_assemble.proofs.Joining.DistinctNames.{inserted}
use Rattle.rn_assemble.proofs.by_key.combining.define.Goals as goal

pub returns : goal.returns
returns c = λ new.
    let s = c.in_ok-name.name in
    let es = c.args.defs.now.entries in
    let is : string_bytes s ≡ c.args.name.now = c.in_ok-name.ensures.ok in
    let fresh = subst (λ x. list_any (bytes_eq x) (map (λ (d : Text × Tree). d.0) (definitions_view es)) ≡ false) (sym is) new in
    ap definitions_view c.in_ok-insert.ensures.entries ∙ inserted es s c.args.body fresh ∙ ap (λ x. definitions_view es ++ (x, pattern_view c.args.body) ∷ []) is
