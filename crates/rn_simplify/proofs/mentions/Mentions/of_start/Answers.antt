use Rattle.std.proofs.Common.{◌∙◌, true, false, [], ap, map, sym, append-nil}
use Rattle.std.specs.Prelude.{bytes_eq, string_bytes}
use Rattle.std.specs.List.{list_any}
use Rattle.rn_pattern.specs.Canonical.{sorted_once}
use Rattle.rn_pattern.specs.View.{pattern_view}
use Rattle.rn_text.specs.Texts.{text_cmp}
use Rattle.rn_simplify.specs.inside.Gathers.{tree_libraries, tree_namespaces}
use Rattle.rn_simplify.proofs.mentions.Mentions.of_start.Goals as goal

pub returns : goal.returns
returns c =
    let p = pattern_view c.args.start.now in
    let whole = c.in_ok-add_pattern.ensures in
    let namespaces = whole.namespaces [] (ap (map (λ u. string_bytes u)) c.new.ensures.empty) ∙ ap (sorted_once text_cmp) (sym (append-nil (tree_namespaces false p))) in
    let libraries = whole.libraries [] (ap (map (λ u. string_bytes u)) c.new-2.ensures.empty) ∙ ap (sorted_once text_cmp) (sym (append-nil (tree_libraries p))) in
    let empty = whole.ns_names ∙ ap (list_any (bytes_eq [])) (sym (append-nil (tree_namespaces true p))) in
    λ i. record { namespaces = namespaces i; libraries = libraries i; has_empty_ns_name = empty i }
