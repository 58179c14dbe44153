-- The trees of what stands in a name class or a pattern: a value, the members of a name class, its except.
use Rattle.std.specs.Prelude.{List, map, Option, Some, None, string_bytes, Box}
use Rattle.std.specs.declared.alloc.Global.{Global}
use Rattle.std.specs.Rc.{rc_str_bytes}
use Rattle.rn_pattern.specs.Tree as tree
use Rattle.rn_pattern.specs.Tree.{NameTrees, no_names, more_names, name_trees_of, Tree}
use Rattle.rn_pattern.specs.View.{name_class_view}
use Rattle.rn_pattern.specs.declared.tree.NameClass.{NameClass}
use Rattle.rn_pattern.specs.declared.tree.Value.{Value}

abbrev pub value_view : Value → Tree
value_view v = tree.value (rc_str_bytes v.library) (string_bytes v.type_name) (string_bytes v.text)

-- the members of a choice of name classes
abbrev pub name_classes_view : List NameClass → NameTrees
name_classes_view cs = name_trees_of (map name_class_view cs)

-- an except as a list of none or one
abbrev pub except_view : Option (Box NameClass Global) → NameTrees
except_view None = no_names
except_view (Some c) = more_names (name_class_view c.value) no_names
