-- The trees of patterns, name classes and items of the code, by their variants.
use Rattle.std.proofs.Common.{◌≡◌, rules, Box, Global}
use Rattle.std.specs.Prelude.{Vec}
use Rattle.std.specs.Cow.{cow_str_bytes}
use Rattle.rn_syntax.specs.declared.tree.Operator.{Operator}
use Rattle.rn_syntax.specs.declared.tree.AnyName.{AnyName}
use Rattle.rn_syntax.specs.declared.tree.Data.{Data}
use Rattle.rn_syntax.specs.declared.tree.Value as value
use Rattle.rn_syntax.specs.declared.tree.PrefixedName.{PrefixedName}
use Rattle.rn_syntax.specs.declared.tree.Nc as nc
use Rattle.rn_syntax.specs.declared.tree.Nc.{Nc}
use Rattle.rn_syntax.specs.declared.tree.Pat.{Pat, List, Mixed, Value, Datum, Chain, the_lemmas}
use Rattle.rn_syntax.specs.declared.tree.Include.{Include}
use Rattle.rn_syntax.specs.declared.tree.Item as item
use Rattle.rn_syntax.specs.Tree as t
use Rattle.rn_syntax.specs.View.{any_view, class_view, classes_view, datatype_view, item_view, items_view, name_view, params_view, pattern_view, patterns_view, prefix_view, type_view}

pub view-List : (p : Box Pat Global) → pattern_view (List p) ≡ t.list (pattern_view p.value)
view-List p = search (rules, the_lemmas)

pub view-Mixed : (p : Box Pat Global) → pattern_view (Mixed p) ≡ t.mixed (pattern_view p.value)
view-Mixed p = search (rules, the_lemmas)

pub view-Value : (v : Box value.Value Global) → pattern_view (Value v) ≡ t.value (type_view v.value.datatype) (cow_str_bytes v.value.text)
view-Value v = search (rules, the_lemmas)

pub view-Datum : (d : Box Data Global) → pattern_view (Datum d) ≡ t.datum (datatype_view d.value.datatype) (params_view d.value.params.items)
view-Datum d = search (rules, the_lemmas)

pub view-Chain : (o : Operator) (ps : Vec Pat Global) → pattern_view (Chain o ps) ≡ t.chain o (patterns_view ps.items)
view-Chain o ps = search (rules, the_lemmas)

pub view-Prefixed : (x : Box PrefixedName Global) → class_view (nc.Prefixed x) ≡ t.name (name_view x.value)
view-Prefixed x = search (rules, nc.the_lemmas)

pub view-All : (x : Box AnyName Global) → class_view (nc.All x) ≡ t.all (any_view x.value)
view-All x = search (rules, nc.the_lemmas)

pub view-AllBut : (x : Box AnyName Global) (c : Box Nc Global) → class_view (nc.AllBut x c) ≡ t.all_but (any_view x.value) (class_view c.value)
view-AllBut x c = search (rules, nc.the_lemmas)

pub view-Choice : (cs : Box (Vec Nc Global) Global) → class_view (nc.Choice cs) ≡ t.choice (classes_view cs.value.items)
view-Choice cs = search (rules, nc.the_lemmas)

pub view-Local : (l : _) → class_view (nc.Local l) ≡ t.name (t.local l.now)
view-Local l = search (rules, nc.the_lemmas)

pub view-Include : (i : Box Include Global) → item_view (item.Include i) ≡ t.include (cow_str_bytes i.value.wanted) (prefix_view i.value.inherit) (items_view i.value.items.items)
view-Include i = search (rules, item.the_lemmas)
