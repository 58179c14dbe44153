-- The trees of attributes and elements.
use Rattle.std.proofs.Common.{◌≡◌, rules}
use Rattle.std.specs.Prelude.{Box}
use Rattle.std.specs.declared.alloc.Global.{Global}
use Rattle.rn_pattern.specs.Tree as tree
use Rattle.rn_pattern.specs.View.{name_class_view, pattern_view}
use Rattle.rn_pattern.specs.declared.tree.Named.{Named}
use Rattle.rn_pattern.specs.declared.tree.Pattern.{Attribute, Element, the_lemmas}

pub attribute_seen : (n : Box Named Global) → pattern_view (Attribute n) ≡ tree.attribute (name_class_view n.value.class) (pattern_view n.value.content)
attribute_seen n = search (rules, the_lemmas)

pub element_seen : (n : Box Named Global) → pattern_view (Element n) ≡ tree.element (name_class_view n.value.class) (pattern_view n.value.content)
element_seen n = search (rules, the_lemmas)
