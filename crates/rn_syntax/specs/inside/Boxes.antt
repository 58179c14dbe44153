-- The trees of what is handed on in a box.
use Rattle.std.specs.Prelude.{Box}
use Rattle.std.specs.declared.alloc.Global.{Global}
use Rattle.rn_syntax.specs.declared.tree.Named.{Named}
use Rattle.rn_syntax.specs.declared.tree.Nc.{Nc}
use Rattle.rn_syntax.specs.Tree.{NameClass, Pattern}
use Rattle.rn_syntax.specs.View.{class_view, pattern_view}

abbrev pub boxed_class_view : Box Nc Global → NameClass
boxed_class_view c = class_view c.value

-- a name class, and the pattern in braces behind it
abbrev pub boxed_named_view : Box Named Global → NameClass × Pattern
boxed_named_view n = (class_view n.value.class, pattern_view n.value.content)
