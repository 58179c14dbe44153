-- The patterns that stand in a pattern.
use Rattle.std.specs.Prelude.{Bool, true, false, Option, Some, None}
use Rattle.rn_pattern.specs.Tree as t
use Rattle.rn_pattern.specs.Tree.{Tree}
use Rattle.rn_pattern.specs.View.{pattern_view}
use Rattle.rn_pattern.specs.declared.tree.Pattern.{Pattern}

-- the content of a list, an attribute, an element or a repetition
abbrev pub content_of : Tree → Option Tree
content_of (t.list p) = Some p
content_of (t.attribute n p) = Some p
content_of (t.element n p) = Some p
content_of (t.one_or_more p) = Some p
content_of p = None

-- a pattern that is no datatype, with no pattern in it
abbrev pub is_leaf : Tree → Bool
is_leaf t.not_allowed = true
is_leaf t.empty = true
is_leaf t.text = true
is_leaf (t.ref x) = true
is_leaf (t.value l x s) = true
is_leaf p = false

-- the tree of a pattern's form: the pattern's own where none is made
abbrev pub form_or : Option Pattern → Tree → Tree
form_or None p = p
form_or (Some q) p = pattern_view q
