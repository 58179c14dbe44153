-- The content of a pattern that has one.
use Rattle.std.proofs.Common.{◌≡◌, ◌⊎◌, inl, inr, Some, ap, sym, ◌∙◌}
use Rattle.std.specs.Prelude.{Box}
use Rattle.std.specs.declared.alloc.Global.{Global}
use Rattle.rn_pattern.specs.Tree.{NameTree, Tree}
use Rattle.rn_pattern.specs.View.{named_step, pattern_step, pattern_view}
use Rattle.rn_pattern.specs.declared.tree.Named.{Named}
use Rattle.rn_pattern.specs.declared.tree.Pattern.{Pattern, fold-roll-Pattern}
use Rattle.rn_pattern.specs.declared.tree.Pattern.TheOpen.{Pattern-F}
use Rattle.rn_pattern.specs.declared.tree.Pattern.TheVariants as variant
use Rattle.rn_simplify.specs.inside.Contents.{content_of}
use Rattle.rn_simplify.proofs.Simplified.NamedParts.{attribute_seen, element_seen}

pub content_seen : (p : Pattern) (b : Box Pattern Global) → (p ≡ variant.List b) ⊎ (p ≡ variant.OneOrMore b) → content_of (pattern_view p) ≡ Some (pattern_view b.value)
content_seen p b (inl e) = ap (λ q. content_of (pattern_view q)) (e ∙ sym (variant.rolls-List b)) ∙ ap content_of (fold-roll-Pattern Tree (NameTree × Tree) pattern_step named_step (Pattern-F.List b))
content_seen p b (inr e) = ap (λ q. content_of (pattern_view q)) (e ∙ sym (variant.rolls-OneOrMore b)) ∙ ap content_of (fold-roll-Pattern Tree (NameTree × Tree) pattern_step named_step (Pattern-F.OneOrMore b))

pub named_content_seen : (p : Pattern) (n : Box Named Global) → (p ≡ variant.Attribute n) ⊎ (p ≡ variant.Element n) → content_of (pattern_view p) ≡ Some (pattern_view n.value.content)
named_content_seen p n (inl e) = ap (λ q. content_of (pattern_view q)) e ∙ ap content_of (attribute_seen n)
named_content_seen p n (inr e) = ap (λ q. content_of (pattern_view q)) e ∙ ap content_of (element_seen n)
