-- What a start and its definitions mention, gathered one after the other.
use Rattle.std.proofs.Common.{◌≡◌, true, false, List, [], sym, ap, ◌∙◌, append-nil}
use Rattle.std.specs.Prelude.{bytes_eq, ◌||◌}
use Rattle.std.specs.List.{list_any}
use Rattle.std.proofs.lemmas.List.Folds.{list_any-append}
use Rattle.rn_pattern.specs.Canonical.{sorted_once}
use Rattle.rn_pattern.specs.Tree.{Tree}
use Rattle.rn_text.specs.Texts.{Text, text_cmp}
use Rattle.rn_simplify.specs.declared.mentions.Mentions.{Mentions}
use Rattle.rn_simplify.specs.inside.Gathers.{Gathered, Gathers, by_definitions, gathered, mentions_view, tree_libraries, tree_namespaces}

-- the definitions after the start
pub gathered_with : (p : Tree) (ds : List (Text × Tree)) (a b : Mentions) → mentions_view a ≡ gathered (record { start = p; definitions = [] }) → Gathers (by_definitions ds) a b
    → mentions_view b ≡ gathered (record { start = p; definitions = ds })
gathered_with p ds a b is more =
    let namespaces = more.namespaces (tree_namespaces false p) (ap (λ (g : Gathered). g.namespaces) is ∙ ap (sorted_once text_cmp) (append-nil (tree_namespaces false p))) in
    let libraries = more.libraries (tree_libraries p) (ap (λ (g : Gathered). g.libraries) is ∙ ap (sorted_once text_cmp) (append-nil (tree_libraries p))) in
    let others = (by_definitions ds).ns_names in
    let empty = more.ns_names ∙ ap (λ b. b || list_any (bytes_eq []) others) (ap (λ (g : Gathered). g.has_empty_ns_name) is ∙ ap (list_any (bytes_eq [])) (append-nil (tree_namespaces true p)))
    ∙ sym (list_any-append (bytes_eq []) (tree_namespaces true p) others) in
    λ i. record { namespaces = namespaces i; libraries = libraries i; has_empty_ns_name = empty i }
