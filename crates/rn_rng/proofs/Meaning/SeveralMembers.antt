-- In the tree of a text each choice of name classes and each group, interleave or choice has several members.
use Rattle.std.specs.Prelude.{⊤, List, [], ◌∷◌}
use Rattle.rn_syntax.specs.declared.tree.Operator.{Operator}
use Rattle.rn_syntax.specs.Tree as t
use Rattle.rn_syntax.specs.Tree.{NameClass, NameClasses, Pattern, Patterns, Item, Items, Module, classes_of, patterns_of, items_of}
use Rattle.rn_syntax.specs.Grammar as g
use Rattle.rn_syntax.specs.Grammar.{Tokens, IsNameClass, AreMoreClasses, IsClassOperand, IsClassPrimary, IsClassCore, IsPattern, AreMore, IsOperand, IsPrimary, IsCore, IsComponent, AreItems, IsModule}

abbrev pub AreSeveralClasses : NameClasses → Type 0
AreSeveralClasses t.no_classes = ⊥
AreSeveralClasses (t.class c t.no_classes) = ⊥
AreSeveralClasses (t.class c (t.class d cs)) = ⊤

abbrev mutual
  pub IsPluralClass : NameClass → Type 0
  IsPluralClass (t.name n) = ⊤
  IsPluralClass (t.all a) = ⊤
  IsPluralClass (t.all_but a c) = IsPluralClass c
  IsPluralClass (t.choice cs) = AreSeveralClasses cs × ArePluralClasses cs

  pub ArePluralClasses : NameClasses → Type 0
  ArePluralClasses t.no_classes = ⊤
  ArePluralClasses (t.class c cs) = IsPluralClass c × ArePluralClasses cs

abbrev pub AreSeveral : Patterns → Type 0
AreSeveral t.no_patterns = ⊥
AreSeveral (t.pattern p t.no_patterns) = ⊥
AreSeveral (t.pattern p (t.pattern q ps)) = ⊤

abbrev mutual
  pub IsPlural : Pattern → Type 0
  IsPlural (t.element c p) = IsPluralClass c × IsPlural p
  IsPlural (t.attribute c p) = IsPluralClass c × IsPlural p
  IsPlural (t.list p) = IsPlural p
  IsPlural (t.mixed p) = IsPlural p
  IsPlural t.empty = ⊤
  IsPlural t.not_allowed = ⊤
  IsPlural t.text = ⊤
  IsPlural (t.ref x) = ⊤
  IsPlural (t.value d s) = ⊤
  IsPlural (t.datum d ps) = ⊤
  IsPlural (t.datum_but d ps i p) = IsPlural p
  IsPlural (t.repeated s p) = IsPlural p
  IsPlural (t.chain op ps) = AreSeveral ps × ArePlural ps

  pub ArePlural : Patterns → Type 0
  ArePlural t.no_patterns = ⊤
  ArePlural (t.pattern p ps) = IsPlural p × ArePlural ps

abbrev mutual
  pub IsPluralItem : Item → Type 0
  IsPluralItem (t.define x m p) = IsPlural p
  IsPluralItem (t.start m p) = IsPlural p
  IsPluralItem (t.div xs) = ArePluralItems xs
  IsPluralItem (t.include s h xs) = ⊤

  pub ArePluralItems : Items → Type 0
  ArePluralItems t.no_items = ⊤
  ArePluralItems (t.item x xs) = IsPluralItem x × ArePluralItems xs

-- ---- name classes

abbrev AllClasses : List NameClass → Type 0
AllClasses [] = ⊤
AllClasses (c ∷ cs) = IsPluralClass c × AllClasses cs

all_classes : (cs : List NameClass) → AllClasses cs → ArePluralClasses (classes_of cs)
all_classes [] h = tt
all_classes (c ∷ cs) h = (h.0, all_classes cs h.1)

several_classes : {ts rest : Tokens} {cs : List NameClass} → (c : NameClass) → AreMoreClasses ts cs rest → AreSeveralClasses (classes_of (c ∷ cs))
several_classes c (g.last o) = tt
several_classes c (g.more o m) = tt

mutual
  class_plural : {ts rest : Tokens} {c : NameClass} → IsNameClass ts c rest → IsPluralClass c
  class_plural (g.one o) = class_operand_plural o
  class_plural (g.choice {c = c} {cs = cs} o m) = (several_classes c m, (class_operand_plural o, all_classes cs (more_classes_plural m)))

  more_classes_plural : {ts rest : Tokens} {cs : List NameClass} → AreMoreClasses ts cs rest → AllClasses cs
  more_classes_plural (g.last o) = (class_operand_plural o, tt)
  more_classes_plural (g.more o m) = (class_operand_plural o, more_classes_plural m)

  class_operand_plural : {ts rest : Tokens} {c : NameClass} → IsClassOperand ts c rest → IsPluralClass c
  class_operand_plural (g.plain p) = class_primary_plural p
  class_operand_plural (g.except a n p) = class_primary_plural p

  class_primary_plural : {ts rest : Tokens} {c : NameClass} → IsClassPrimary ts c rest → IsPluralClass c
  class_primary_plural (g.primary a c f) = class_core_plural c

  class_core_plural : {ts rest : Tokens} {c : NameClass} → IsClassCore ts c rest → IsPluralClass c
  class_core_plural (g.word w) = tt
  class_core_plural g.prefixed_name = tt
  class_core_plural (g.any_name n) = tt
  class_core_plural (g.parens c) = class_plural c

-- ---- patterns

abbrev AllPatterns : List Pattern → Type 0
AllPatterns [] = ⊤
AllPatterns (p ∷ ps) = IsPlural p × AllPatterns ps

all_patterns : (ps : List Pattern) → AllPatterns ps → ArePlural (patterns_of ps)
all_patterns [] h = tt
all_patterns (p ∷ ps) h = (h.0, all_patterns ps h.1)

several_patterns : {op : Operator} {ts rest : Tokens} {ps : List Pattern} → (p : Pattern) → AreMore op ts ps rest → AreSeveral (patterns_of (p ∷ ps))
several_patterns p (g.last o) = tt
several_patterns p (g.more o m) = tt

mutual
  pattern_plural : {ts rest : Tokens} {p : Pattern} → IsPattern ts p rest → IsPlural p
  pattern_plural (g.one o) = operand_plural o
  pattern_plural (g.chain {p = p} {ps = ps} o m) = (several_patterns p m, (operand_plural o, all_patterns ps (more_plural m)))

  more_plural : {op : Operator} {ts rest : Tokens} {ps : List Pattern} → AreMore op ts ps rest → AllPatterns ps
  more_plural (g.last o) = (operand_plural o, tt)
  more_plural (g.more o m) = (operand_plural o, more_plural m)

  operand_plural : {ts rest : Tokens} {p : Pattern} → IsOperand ts p rest → IsPlural p
  operand_plural (g.plain p) = primary_plural p
  operand_plural (g.repeated p f) = primary_plural p
  operand_plural (g.except a d m p) = primary_plural p

  primary_plural : {ts rest : Tokens} {p : Pattern} → IsPrimary ts p rest → IsPlural p
  primary_plural (g.primary a c f) = core_plural c

  core_plural : {ts rest : Tokens} {p : Pattern} → IsCore ts p rest → IsPlural p
  core_plural (g.element c p) = (class_plural c, pattern_plural p)
  core_plural (g.attribute c p) = (class_plural c, pattern_plural p)
  core_plural (g.list p) = pattern_plural p
  core_plural (g.mixed p) = pattern_plural p
  core_plural g.empty = tt
  core_plural g.not_allowed = tt
  core_plural g.text = tt
  core_plural g.ref = tt
  core_plural (g.value l) = tt
  core_plural (g.typed_value d l) = tt
  core_plural (g.datum d m) = tt
  core_plural (g.parens p) = pattern_plural p

-- ---- modules

component_plural : {ts rest : Tokens} {x : Item} → IsComponent ts x rest → IsPluralItem x
component_plural (g.define p) = pattern_plural p
component_plural (g.start p) = pattern_plural p

items_plural : {ts rest : Tokens} {xs : List Item} → AreItems ts xs rest → ArePluralItems (items_of xs)
items_plural g.none = tt
items_plural (g.component a c m) = (component_plural c, items_plural m)
items_plural (g.div a n m) = (items_plural n, items_plural m)
items_plural (g.include a l i o m) = (tt, items_plural m)
items_plural (g.note n m) = items_plural m

pub module_plural : {ts : Tokens} {m : Module} → IsModule ts m → ArePluralItems m.items
module_plural (g.items d i) = items_plural i
module_plural (g.grammar d a i f) = items_plural i
