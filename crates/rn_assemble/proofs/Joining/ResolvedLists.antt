-- Lists of patterns and name classes, resolved one after the other.
use Rattle.std.proofs.Common.{◌≡◌, List, [], ◌∷◌, map, refl, sym, ap, ◌∙◌}
use Rattle.std.specs.Prelude.{Box, Vec}
use Rattle.std.specs.declared.alloc.Global.{Global}
use Rattle.rn_pattern.specs.Tree.{more_names, more_trees, name_trees_of, trees_of}
use Rattle.rn_text.specs.Texts.{Text}
use Rattle.rn_syntax.specs.Tree.{Declaration}
use Rattle.rn_syntax.specs.View.{class_view, classes_view, named_step, pattern_step, pattern_view, patterns_view}
use Rattle.rn_syntax.specs.declared.tree.Nc.{Nc}
use Rattle.rn_syntax.specs.Tree as t
use Rattle.rn_syntax.specs.declared.tree.Operator.{Operator}
use Rattle.rn_syntax.specs.declared.tree.Postfix.{Postfix}
use Rattle.rn_syntax.specs.declared.tree.Pat.{Pat, fold-roll-Pat}
use Rattle.rn_syntax.specs.declared.tree.Pat.TheOpen.{Pat-F}
use Rattle.rn_syntax.specs.declared.tree.Pat.TheVariants.{rolls-Repeated, rolls-Chain}
use Rattle.rn_syntax.specs.declared.tree.Pat.TheViews as written
use Rattle.rn_assemble.specs.Resolve.{resolved_class, resolved_classes, resolved_pattern, resolved_patterns}

pub classes_resolved : (inherited : Text) (ds : List Declaration) (own : Text) (cs : List Nc) → name_trees_of (map (λ c. resolved_class inherited ds own (class_view c)) cs) ≡ resolved_classes inherited ds own (classes_view cs)
classes_resolved inherited ds own [] = refl
classes_resolved inherited ds own (c ∷ cs) = ap (more_names (resolved_class inherited ds own (class_view c))) (classes_resolved inherited ds own cs)

pub patterns_resolved : (inherited : Text) (ds : List Declaration) (ps : List Pat) → trees_of (map (λ p. resolved_pattern inherited ds (pattern_view p)) ps) ≡ resolved_patterns inherited ds (patterns_view ps)
patterns_resolved inherited ds [] = refl
patterns_resolved inherited ds (p ∷ ps) = ap (more_trees (resolved_pattern inherited ds (pattern_view p))) (patterns_resolved inherited ds ps)

-- trees of single nodes
pub repeated_seen : (r : Postfix) (p : Box Pat Global) → pattern_view (written.Repeated r p) ≡ t.repeated r (pattern_view p.value)
repeated_seen r p = ap pattern_view (sym (rolls-Repeated r p)) ∙ fold-roll-Pat t.Pattern (t.NameClass × t.Pattern) pattern_step named_step (Pat-F.Repeated r p)

pub chain_seen : (o : Operator) (ps : Vec Pat Global) → pattern_view (written.Chain o ps) ≡ t.chain o (patterns_view ps.items)
chain_seen o ps = ap pattern_view (sym (rolls-Chain o ps)) ∙ fold-roll-Pat t.Pattern (t.NameClass × t.Pattern) pattern_step named_step (Pat-F.Chain o ps)
