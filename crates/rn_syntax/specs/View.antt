-- The tree that a tree of the code stands for.
use Rattle.std.specs.Prelude.{ℕ, Box, List, map, Option, Some, None}
use Rattle.std.specs.Borrow.{Bor}
use Rattle.std.specs.declared.alloc.Global.{Global}
use Rattle.std.specs.Cow.{cow_str_bytes}
use Rattle.rn_syntax.specs.declared.tree.Prefix as code_prefix
use Rattle.rn_syntax.specs.declared.tree.PrefixedName as code_name
use Rattle.rn_syntax.specs.declared.tree.AnyName as code_any
use Rattle.rn_syntax.specs.declared.tree.AnyName.TheVariants as a
use Rattle.rn_syntax.specs.declared.tree.Nc as code_class
use Rattle.rn_syntax.specs.declared.tree.Nc.TheOpen.{Nc-F}
use Rattle.rn_syntax.specs.declared.tree.Datatype as code_type
use Rattle.rn_syntax.specs.declared.tree.Datatype.TheVariants as d
use Rattle.rn_syntax.specs.declared.tree.Param.{Param}
use Rattle.rn_syntax.specs.declared.tree.Pat as code_pattern
use Rattle.rn_syntax.specs.declared.tree.Pat.TheOpen.{Pat-F, Named-F}
use Rattle.rn_syntax.specs.declared.tree.Uri as code_uri
use Rattle.rn_syntax.specs.declared.tree.Uri.TheVariants as u
use Rattle.rn_syntax.specs.declared.tree.Declaration as code_declaration
use Rattle.rn_syntax.specs.declared.tree.Declaration.TheVariants as e
use Rattle.rn_syntax.specs.declared.tree.Item as code_item
use Rattle.rn_syntax.specs.declared.tree.Item.TheOpen.{Item-F, Include-F}
use Rattle.rn_syntax.specs.declared.tree.Module as code_module
use Rattle.rn_syntax.specs.Tree as t
use Rattle.rn_syntax.specs.Tree.{Name, AnyName, NameClass, Datatype, Params, Pattern, Uri, Declaration, Item, Items, Module, classes_of, patterns_of, items_of}

abbrev pub name_view : code_name.PrefixedName → Name
name_view n = t.prefixed n.prefix.name.now n.local.now n.prefix.at

abbrev pub any_view : code_any.AnyName → AnyName
any_view a.Any = t.any
any_view (a.AnyOf p) = t.any_of p.name.now p.at

-- one level, with each name class inside already seen as its tree
abbrev pub class_step : Nc-F NameClass → NameClass
class_step (Nc-F.Local l) = t.name (t.local l.now)
class_step (Nc-F.Prefixed x) = t.name (name_view x.value)
class_step (Nc-F.All x) = t.all (any_view x.value)
class_step (Nc-F.AllBut x c) = t.all_but (any_view x.value) c.value
class_step (Nc-F.Choice cs) = t.choice (classes_of cs.value.items)

abbrev pub class_view : code_class.Nc → NameClass
class_view = code_class.fold-Nc NameClass class_step

abbrev pub classes_view : List code_class.Nc → t.NameClasses
classes_view cs = classes_of (map class_view cs)

abbrev pub datatype_view : code_type.Datatype → Datatype
datatype_view (d.String i) = t.string i
datatype_view (d.Token i) = t.token i
datatype_view (d.Named p l) = t.named p.name.now l.now p.at

abbrev pub type_view : Option code_type.Datatype → Option Datatype
type_view None = None
type_view (Some x) = Some (datatype_view x)

abbrev pub param_view : Param → List ℕ × List ℕ
param_view p = (p.name.now, cow_str_bytes p.text)

abbrev pub params_view : List Param → Params
params_view ps = map param_view ps

-- one level, with each pattern inside already seen as its tree
abbrev pub named_step : Named-F Pattern (NameClass × Pattern) → NameClass × Pattern
named_step n = (class_view n.class, n.content)

abbrev pub pattern_step : Pat-F Pattern (NameClass × Pattern) → Pattern
pattern_step (Pat-F.Element n) = t.element n.value.0 n.value.1
pattern_step (Pat-F.Attribute n) = t.attribute n.value.0 n.value.1
pattern_step (Pat-F.List p) = t.list p.value
pattern_step (Pat-F.Mixed p) = t.mixed p.value
pattern_step Pat-F.Empty = t.empty
pattern_step Pat-F.NotAllowed = t.not_allowed
pattern_step Pat-F.Text = t.text
pattern_step (Pat-F.Ref x) = t.ref x.now
pattern_step (Pat-F.Value v) = t.value (type_view v.value.datatype) (cow_str_bytes v.value.text)
pattern_step (Pat-F.Datum d) = t.datum (datatype_view d.value.datatype) (params_view d.value.params.items)
pattern_step (Pat-F.DatumBut d i p) = t.datum_but (datatype_view d.value.datatype) (params_view d.value.params.items) i p.value
pattern_step (Pat-F.Repeated s p) = t.repeated s p.value
pattern_step (Pat-F.Chain op ps) = t.chain op (patterns_of ps.items)

abbrev pub pattern_view : code_pattern.Pat → Pattern
pattern_view = code_pattern.fold-Pat Pattern (NameClass × Pattern) pattern_step named_step

abbrev pub boxed_view : Box code_pattern.Pat Global → Pattern
boxed_view p = pattern_view p.value

abbrev pub patterns_view : List code_pattern.Pat → t.Patterns
patterns_view ps = patterns_of (map pattern_view ps)

abbrev pub uri_view : code_uri.Uri → Uri
uri_view (u.Literal s) = t.literal (cow_str_bytes s)
uri_view u.Inherited = t.inherited

abbrev pub place_view : code_prefix.Prefix → List ℕ × ℕ
place_view p = (p.name.now, p.at)

abbrev pub prefix_view : Option code_prefix.Prefix → Option (List ℕ × ℕ)
prefix_view None = None
prefix_view (Some p) = Some (place_view p)

abbrev pub declaration_view : code_declaration.Declaration → Declaration
declaration_view (e.Namespace p x) = t.namespace p.name.now p.at (uri_view x)
declaration_view (e.Default i p x) = t.default i (prefix_view p) (uri_view x)
declaration_view (e.Datatypes p s) = t.datatypes p.name.now p.at (cow_str_bytes s)

-- one level, with each item inside already seen as its tree
abbrev pub include_step : Include-F Item Item → Item
include_step i = t.include (cow_str_bytes i.wanted) (prefix_view i.inherit) (items_of i.items.items)

abbrev pub item_step : Item-F Item Item → Item
item_step (Item-F.Define x w p) = t.define x.now w (boxed_view p)
item_step (Item-F.Start w p) = t.start w (boxed_view p)
item_step (Item-F.Div xs) = t.div (items_of xs.items)
item_step (Item-F.Include i) = i.value

abbrev pub item_view : code_item.Item → Item
item_view = code_item.fold-Item Item Item item_step include_step

abbrev pub items_view : List code_item.Item → Items
items_view xs = items_of (map item_view xs)

abbrev pub module_view : code_module.Module → Module
module_view m = record { declarations = map declaration_view m.decls.items; items = items_view m.items.items }

-- borrowed texts
abbrev pub texts_view : List (Bor (List ℕ)) → List (List ℕ)
texts_view ts = map (λ t. t.now) ts
