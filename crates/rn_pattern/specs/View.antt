-- The trees that a `NameClass` and a `Pattern` stand for.
use Rattle.std.specs.Prelude.{List, map, Option, Some, None, String, string_bytes, Box}
use Rattle.std.specs.declared.alloc.Global.{Global}
use Rattle.std.specs.declared.rc.Rc.{Rc}
use Rattle.std.specs.Rc.{rc_str_bytes}
use Rattle.rn_pattern.specs.Tree as tree
use Rattle.rn_pattern.specs.Tree.{Parameters, NameTree, Tree, Trees, no_trees, more_trees, name_trees_of, trees_of}
use Rattle.rn_pattern.specs.declared.tree.NameClass.{NameClass, fold-NameClass}
use Rattle.rn_pattern.specs.declared.tree.NameClass.TheOpen.{NameClass-F}
use Rattle.rn_pattern.specs.declared.tree.Named.{Named}
use Rattle.rn_pattern.specs.declared.tree.Pattern.{Pattern, fold-Pattern}
use Rattle.rn_pattern.specs.declared.tree.Pattern.TheOpen.{Pattern-F, Named-F}

-- one level, with each name class inside already seen as its tree
abbrev pub name_class_step : NameClass-F NameTree → NameTree
name_class_step (NameClass-F.AnyName None) = tree.any_name
name_class_step (NameClass-F.AnyName (Some c)) = tree.any_name_but c.value
name_class_step (NameClass-F.NsName u None) = tree.ns_name (rc_str_bytes u)
name_class_step (NameClass-F.NsName u (Some c)) = tree.ns_name_but (rc_str_bytes u) c.value
name_class_step (NameClass-F.Name u l) = tree.name (rc_str_bytes u) l
name_class_step (NameClass-F.Choice cs) = tree.name_choice (name_trees_of cs.items)

abbrev pub name_class_view : NameClass → NameTree
name_class_view = fold-NameClass NameTree name_class_step

abbrev pub parameters_view : List (String Global × String Global) → Parameters
parameters_view ps = map (λ p. (string_bytes p.0, string_bytes p.1)) ps

abbrev pub named_step : Named-F Tree (NameTree × Tree) → NameTree × Tree
named_step n = (name_class_view n.class, n.content)

abbrev pub pattern_step : Pattern-F Tree (NameTree × Tree) → Tree
pattern_step Pattern-F.NotAllowed = tree.not_allowed
pattern_step Pattern-F.Empty = tree.empty
pattern_step Pattern-F.Text = tree.text
pattern_step (Pattern-F.Ref x) = tree.ref x
pattern_step (Pattern-F.Value v) = tree.value (rc_str_bytes v.value.library) (string_bytes v.value.type_name) (string_bytes v.value.text)
pattern_step (Pattern-F.Datum d None) = tree.datum (rc_str_bytes d.value.library) (string_bytes d.value.type_name) (parameters_view d.value.params.items)
pattern_step (Pattern-F.Datum d (Some p)) = tree.datum_but (rc_str_bytes d.value.library) (string_bytes d.value.type_name) (parameters_view d.value.params.items) p.value
pattern_step (Pattern-F.List p) = tree.list p.value
pattern_step (Pattern-F.Attribute n) = tree.attribute n.value.0 n.value.1
pattern_step (Pattern-F.Element n) = tree.element n.value.0 n.value.1
pattern_step (Pattern-F.OneOrMore p) = tree.one_or_more p.value
pattern_step (Pattern-F.Group ps) = tree.group (trees_of (map (λ (r : Rc Tree Global). r.value) ps.items))
pattern_step (Pattern-F.Interleave ps) = tree.interleave (trees_of (map (λ (r : Rc Tree Global). r.value) ps.items))
pattern_step (Pattern-F.Choice ps) = tree.choice (trees_of (map (λ (r : Rc Tree Global). r.value) ps.items))

abbrev pub pattern_view : Pattern → Tree
pattern_view = fold-Pattern Tree (NameTree × Tree) pattern_step named_step

-- the names and the content of an element or an attribute
abbrev pub named_view : Named → NameTree × Tree
named_view n = (name_class_view n.class, pattern_view n.content)

abbrev pub shared_view : Rc Pattern Global → Tree
shared_view p = pattern_view p.value

-- the trees of shared patterns, in their order
abbrev pub shared_trees : List (Rc Pattern Global) → Trees
shared_trees ps = trees_of (map shared_view ps)

abbrev pub boxed_view : Box Pattern Global → Tree
boxed_view p = pattern_view p.value

-- an except as a list of none or one
abbrev pub excepted_view : Option (Box Pattern Global) → Trees
excepted_view None = no_trees
excepted_view (Some p) = more_trees (pattern_view p.value) no_trees
