-- The tree of good tokens: names are names, texts are texts of XML characters, and choices of name classes have members.
use Rattle.std.proofs.Common.{◌≡◌, ℕ, List, [], ◌∷◌, Option, Some, None, refl, subst, ltb}
use Rattle.std.specs.Prelude.{⊤, codes, true}
use Rattle.std.specs.List.{list_all}
use Rattle.rn_text.specs.Characters.{is_ncname, is_name_start, is_name_char}
use Rattle.rn_text.specs.Texts.{Text}
use Rattle.rn_text.specs.declared.keywords.Keyword.{Keyword}
use Rattle.rn_text.specs.declared.keywords.Keyword.TheVariants as k
use Rattle.rn_syntax.specs.declared.tree.Operator.{Operator}
use Rattle.rn_text.specs.Keywords.{spelling}
use Rattle.rn_syntax.specs.Terminal.{Terminal, Placed}
use Rattle.rn_syntax.specs.Tree as t
use Rattle.rn_syntax.specs.Tree.{Name, Datatype, Params, NameClass, NameClasses, Pattern, Patterns, Uri, Declaration, Item, Items, Module, patterns_of, classes_of, items_of}
use Rattle.rn_syntax.specs.Grammar as g
use Rattle.rn_syntax.specs.Grammar.{Tokens, IsWord, IsLiteral, Closed, IsAnnotation, MayHaveAnnotation, AreFollows, IsDatatype, MayHaveParams, IsNameClass, AreMoreClasses, IsClassOperand, IsClassPrimary, IsClassCore, IsPattern, AreMore, IsOperand, IsPrimary, IsCore, IsUri, AreDeclarations, IsComponent, IsNote, AreInnerItems, MayInherit, MayHaveOverrides, AreItems, IsModule}
use Rattle.rn_syntax.proofs.TokenKinds.PieceTokens.{ascii}
use Rattle.rn_assemble.specs.WritableTexts.{IsName, IsXml, AreParams}
use Rattle.rn_assemble.proofs.WellFormed.Terminals.{IsGoodTerminal, IsGoodPlaced, AreGood, name_is, xml_append}

-- ---- good trees

abbrev pub IsGoodName : Name → Type 0
IsGoodName (t.local l) = IsName l
IsGoodName (t.prefixed p l i) = IsName l

abbrev mutual
  pub IsGoodClass : NameClass → Type 0
  IsGoodClass (t.name n) = IsGoodName n
  IsGoodClass (t.all a) = ⊤
  IsGoodClass (t.all_but a c) = IsGoodClass c
  IsGoodClass (t.choice t.no_classes) = ⊥
  IsGoodClass (t.choice (t.class c cs)) = IsGoodClass c × AreGoodClasses cs

  pub AreGoodClasses : NameClasses → Type 0
  AreGoodClasses t.no_classes = ⊤
  AreGoodClasses (t.class c cs) = IsGoodClass c × AreGoodClasses cs

abbrev pub IsGoodDatatype : Datatype → Type 0
IsGoodDatatype (t.string i) = ⊤
IsGoodDatatype (t.token i) = ⊤
IsGoodDatatype (t.named p l i) = IsName l

abbrev mutual
  pub IsGoodPattern : Pattern → Type 0
  IsGoodPattern (t.element c p) = IsGoodClass c × IsGoodPattern p
  IsGoodPattern (t.attribute c p) = IsGoodClass c × IsGoodPattern p
  IsGoodPattern (t.list p) = IsGoodPattern p
  IsGoodPattern (t.mixed p) = IsGoodPattern p
  IsGoodPattern t.empty = ⊤
  IsGoodPattern t.not_allowed = ⊤
  IsGoodPattern t.text = ⊤
  IsGoodPattern (t.ref x) = IsName x
  IsGoodPattern (t.value None s) = IsXml s
  IsGoodPattern (t.value (Some d) s) = IsGoodDatatype d × IsXml s
  IsGoodPattern (t.datum d ps) = IsGoodDatatype d × AreParams ps
  IsGoodPattern (t.datum_but d ps i p) = IsGoodDatatype d × AreParams ps × IsGoodPattern p
  IsGoodPattern (t.repeated s p) = IsGoodPattern p
  IsGoodPattern (t.chain op ps) = AreGoodPatterns ps

  pub AreGoodPatterns : Patterns → Type 0
  AreGoodPatterns t.no_patterns = ⊤
  AreGoodPatterns (t.pattern p ps) = IsGoodPattern p × AreGoodPatterns ps

abbrev pub IsGoodUri : Uri → Type 0
IsGoodUri (t.literal s) = IsXml s
IsGoodUri t.inherited = ⊤

abbrev pub AreGoodDeclarations : List Declaration → Type 0
AreGoodDeclarations [] = ⊤
AreGoodDeclarations (t.namespace p i u ∷ ds) = IsGoodUri u × AreGoodDeclarations ds
AreGoodDeclarations (t.default i p u ∷ ds) = IsGoodUri u × AreGoodDeclarations ds
AreGoodDeclarations (t.datatypes p i s ∷ ds) = IsXml s × AreGoodDeclarations ds

abbrev mutual
  pub IsGoodItem : Item → Type 0
  IsGoodItem (t.define x m p) = IsName x × IsGoodPattern p
  IsGoodItem (t.start m p) = IsGoodPattern p
  IsGoodItem (t.div xs) = AreGoodItems xs
  IsGoodItem (t.include s h xs) = AreGoodItems xs

  pub AreGoodItems : Items → Type 0
  AreGoodItems t.no_items = ⊤
  AreGoodItems (t.item x xs) = IsGoodItem x × AreGoodItems xs

pub record IsGoodModule (m : Module) : Type 0 where
  pub declarations : AreGoodDeclarations m.declarations
  pub items : AreGoodItems m.items

-- ---- tokens behind

ascii_name : (cs : Text) → is_ncname cs ≡ true → list_all (λ c. ltb c 128) cs ≡ true → IsName cs
ascii_name cs e a = subst IsName (ascii cs a) (name_is cs e)

keyword_name : (w : Keyword) → IsName (spelling w)
unfolding is_name_start is_name_char
keyword_name k.Attribute = ascii_name (codes "attribute") refl refl
keyword_name k.Default = ascii_name (codes "default") refl refl
keyword_name k.Datatypes = ascii_name (codes "datatypes") refl refl
keyword_name k.Div = ascii_name (codes "div") refl refl
keyword_name k.Element = ascii_name (codes "element") refl refl
keyword_name k.Empty = ascii_name (codes "empty") refl refl
keyword_name k.External = ascii_name (codes "external") refl refl
keyword_name k.Grammar = ascii_name (codes "grammar") refl refl
keyword_name k.Include = ascii_name (codes "include") refl refl
keyword_name k.Inherit = ascii_name (codes "inherit") refl refl
keyword_name k.List = ascii_name (codes "list") refl refl
keyword_name k.Mixed = ascii_name (codes "mixed") refl refl
keyword_name k.Namespace = ascii_name (codes "namespace") refl refl
keyword_name k.NotAllowed = ascii_name (codes "notAllowed") refl refl
keyword_name k.Parent = ascii_name (codes "parent") refl refl
keyword_name k.Start = ascii_name (codes "start") refl refl
keyword_name k.String = ascii_name (codes "string") refl refl
keyword_name k.Text = ascii_name (codes "text") refl refl
keyword_name k.Token = ascii_name (codes "token") refl refl

word_good : {x : Terminal} {n : Text} → IsWord x n → IsGoodTerminal x → IsName n
word_good g.by_name h = h
word_good (g.by_keyword {w = w}) h = keyword_name w

literal_good : {ts rest : Tokens} {s : Text} → IsLiteral ts s rest → AreGood ts → IsXml s × AreGood rest
literal_good g.one h = h
literal_good (g.joined {s = s} {more = more} l) h = let rest = literal_good l h.1.1 in (xml_append s more h.0 rest.0, rest.1)

closed_good : {ts rest : Tokens} → Closed ts rest → AreGood ts → AreGood rest
closed_good g.close h = h.1
closed_good (g.other e c) h = closed_good c h.1
closed_good (g.nested c d) h = closed_good d (closed_good c h.1)

annotation_good : {ts rest : Tokens} → IsAnnotation ts rest → AreGood ts → AreGood rest
annotation_good (g.bracketed c) h = closed_good c h.1

may_good : {ts rest : Tokens} → MayHaveAnnotation ts rest → AreGood ts → AreGood rest
may_good g.bare h = h
may_good (g.annotated a) h = annotation_good a h

follows_good : {ts rest : Tokens} → AreFollows ts rest → AreGood ts → AreGood rest
follows_good g.none h = h
follows_good (g.more n a f) h = follows_good f (annotation_good a h.1.1)

datatype_good : {x : Placed} {d : Datatype} → IsDatatype x d → IsGoodPlaced x → IsGoodDatatype d
datatype_good g.string h = tt
datatype_good g.token h = tt
datatype_good g.named h = h.1

params_good : {ts rest : Tokens} {ps : Params} → g.AreParams ts ps rest → AreGood ts → AreParams ps × AreGood rest
params_good g.close h = (tt, h.1)
params_good (g.param a w l ps) h =
    let k = may_good a h in
    let value = literal_good l k.1.1 in
    let rest = params_good ps value.1 in
    ((word_good w k.0, value.0, rest.0), rest.1)

may_params_good : {ts rest : Tokens} {ps : Params} → MayHaveParams ts ps rest → AreGood ts → AreParams ps × AreGood rest
may_params_good g.none h = (tt, h)
may_params_good (g.braces p) h = params_good p h.1

-- ---- name classes

abbrev AllClasses : List NameClass → Type 0
AllClasses [] = ⊤
AllClasses (c ∷ cs) = IsGoodClass c × AllClasses cs

all_classes : (cs : List NameClass) → AllClasses cs → AreGoodClasses (classes_of cs)
all_classes [] h = tt
all_classes (c ∷ cs) h = (h.0, all_classes cs h.1)

mutual
  class_good : {ts rest : Tokens} {c : NameClass} → IsNameClass ts c rest → AreGood ts → IsGoodClass c × AreGood rest
  class_good (g.one o) h = class_operand_good o h
  class_good (g.choice {cs = cs} o m) h = let first = class_operand_good o h in let rest = more_classes_good m first.1 in ((first.0, all_classes cs rest.0), rest.1)

  more_classes_good : {ts rest : Tokens} {cs : List NameClass} → AreMoreClasses ts cs rest → AreGood ts → AllClasses cs × AreGood rest
  more_classes_good (g.last o) h = let first = class_operand_good o h.1 in ((first.0, tt), first.1)
  more_classes_good (g.more o m) h = let first = class_operand_good o h.1 in let rest = more_classes_good m first.1 in ((first.0, rest.0), rest.1)

  class_operand_good : {ts rest : Tokens} {c : NameClass} → IsClassOperand ts c rest → AreGood ts → IsGoodClass c × AreGood rest
  class_operand_good (g.plain p) h = class_primary_good p h
  class_operand_good (g.except a n p) h = class_primary_good p (may_good a h).1.1

  class_primary_good : {ts rest : Tokens} {c : NameClass} → IsClassPrimary ts c rest → AreGood ts → IsGoodClass c × AreGood rest
  class_primary_good (g.primary a c f) h = let core = class_core_good c (may_good a h) in (core.0, follows_good f core.1)

  class_core_good : {ts rest : Tokens} {c : NameClass} → IsClassCore ts c rest → AreGood ts → IsGoodClass c × AreGood rest
  class_core_good (g.word w) h = (word_good w h.0, h.1)
  class_core_good g.prefixed_name h = (h.0.1, h.1)
  class_core_good (g.any_name n) h = (tt, h.1)
  class_core_good (g.parens c) h = let inner = class_good c h.1 in (inner.0, inner.1.1)

-- ---- patterns

abbrev AllPatterns : List Pattern → Type 0
AllPatterns [] = ⊤
AllPatterns (p ∷ ps) = IsGoodPattern p × AllPatterns ps

all_patterns : (ps : List Pattern) → AllPatterns ps → AreGoodPatterns (patterns_of ps)
all_patterns [] h = tt
all_patterns (p ∷ ps) h = (h.0, all_patterns ps h.1)

mutual
  pattern_good : {ts rest : Tokens} {p : Pattern} → IsPattern ts p rest → AreGood ts → IsGoodPattern p × AreGood rest
  pattern_good (g.one o) h = operand_good o h
  pattern_good (g.chain {ps = ps} o m) h = let first = operand_good o h in let rest = more_good m first.1 in ((first.0, all_patterns ps rest.0), rest.1)

  more_good : {op : Operator} {ts rest : Tokens} {ps : List Pattern} → AreMore op ts ps rest → AreGood ts → AllPatterns ps × AreGood rest
  more_good (g.last o) h = let first = operand_good o h.1 in ((first.0, tt), first.1)
  more_good (g.more o m) h = let first = operand_good o h.1 in let rest = more_good m first.1 in ((first.0, rest.0), rest.1)

  operand_good : {ts rest : Tokens} {p : Pattern} → IsOperand ts p rest → AreGood ts → IsGoodPattern p × AreGood rest
  operand_good (g.plain p) h = primary_good p h
  operand_good (g.repeated p f) h = let inner = primary_good p h in (inner.0, follows_good f inner.1.1)
  operand_good (g.except a d m p) h =
      let k = may_good a h in
      let params = may_params_good m k.1 in
      let inner = primary_good p params.1.1 in
      ((datatype_good d k.0, params.0, inner.0), inner.1)

  primary_good : {ts rest : Tokens} {p : Pattern} → IsPrimary ts p rest → AreGood ts → IsGoodPattern p × AreGood rest
  primary_good (g.primary a c f) h = let core = core_good c (may_good a h) in (core.0, follows_good f core.1)

  core_good : {ts rest : Tokens} {p : Pattern} → IsCore ts p rest → AreGood ts → IsGoodPattern p × AreGood rest
  core_good (g.element c p) h = let name = class_good c h.1 in let inner = pattern_good p name.1.1 in ((name.0, inner.0), inner.1.1)
  core_good (g.attribute c p) h = let name = class_good c h.1 in let inner = pattern_good p name.1.1 in ((name.0, inner.0), inner.1.1)
  core_good (g.list p) h = let inner = pattern_good p h.1.1 in (inner.0, inner.1.1)
  core_good (g.mixed p) h = let inner = pattern_good p h.1.1 in (inner.0, inner.1.1)
  core_good g.empty h = (tt, h.1)
  core_good g.not_allowed h = (tt, h.1)
  core_good g.text h = (tt, h.1)
  core_good g.ref h = (h.0, h.1)
  core_good (g.value l) h = literal_good l h
  core_good (g.typed_value d l) h = let value = literal_good l h.1 in ((datatype_good d h.0, value.0), value.1)
  core_good (g.datum d m) h = let params = may_params_good m h.1 in ((datatype_good d h.0, params.0), params.1)
  core_good (g.parens p) h = let inner = pattern_good p h.1 in (inner.0, inner.1.1)

-- ---- modules

uri_good : {ts rest : Tokens} {u : Uri} → IsUri ts u rest → AreGood ts → IsGoodUri u × AreGood rest
uri_good (g.literal l) h = literal_good l h
uri_good g.inherited h = (tt, h.1)

declarations_good : {ts rest : Tokens} {ds : List Declaration} → AreDeclarations ts ds rest → AreGood ts → AreGoodDeclarations ds × AreGood rest
declarations_good g.none h = (tt, h)
declarations_good (g.more (g.namespace w u) m) h = let first = uri_good u h.1.1.1 in let rest = declarations_good m first.1 in ((first.0, rest.0), rest.1)
declarations_good (g.more (g.default u) m) h = let first = uri_good u h.1.1.1 in let rest = declarations_good m first.1 in ((first.0, rest.0), rest.1)
declarations_good (g.more (g.default_prefix w u) m) h = let first = uri_good u h.1.1.1.1 in let rest = declarations_good m first.1 in ((first.0, rest.0), rest.1)
declarations_good (g.more (g.datatypes w l) m) h = let first = literal_good l h.1.1.1 in let rest = declarations_good m first.1 in ((first.0, rest.0), rest.1)

component_good : {ts rest : Tokens} {x : Item} → IsComponent ts x rest → AreGood ts → IsGoodItem x × AreGood rest
component_good (g.define p) h = let inner = pattern_good p h.1.1 in ((h.0, inner.0), inner.1)
component_good (g.start p) h = pattern_good p h.1.1

note_good : {ts rest : Tokens} → IsNote ts rest → AreGood ts → AreGood rest
note_good (g.by_name a) h = annotation_good a h.1
note_good (g.by_prefixed a) h = annotation_good a h.1

abbrev AllItems : List Item → Type 0
AllItems [] = ⊤
AllItems (x ∷ xs) = IsGoodItem x × AllItems xs

all_items : (xs : List Item) → AllItems xs → AreGoodItems (items_of xs)
all_items [] h = tt
all_items (x ∷ xs) h = (h.0, all_items xs h.1)

inner_good : {ts rest : Tokens} {xs : List Item} → AreInnerItems ts xs rest → AreGood ts → AllItems xs × AreGood rest
inner_good g.none h = (tt, h)
inner_good (g.component a c m) h = let first = component_good c (may_good a h) in let rest = inner_good m first.1 in ((first.0, rest.0), rest.1)
inner_good (g.div {ys = ys} a n m) h = let own = inner_good n (may_good a h).1.1 in let rest = inner_good m own.1.1 in ((all_items ys own.0, rest.0), rest.1)
inner_good (g.note n m) h = inner_good m (note_good n h)

inherit_good : {ts rest : Tokens} {i : Option (Text × ℕ)} → MayInherit ts i rest → AreGood ts → AreGood rest
inherit_good g.none h = h
inherit_good (g.inherit w) h = h.1.1.1

override_good : {ts rest : Tokens} {xs : List Item} → MayHaveOverrides ts xs rest → AreGood ts → AllItems xs × AreGood rest
override_good g.none h = (tt, h)
override_good (g.braces n) h = let own = inner_good n h.1 in (own.0, own.1.1)

items_good : {ts rest : Tokens} {xs : List Item} → AreItems ts xs rest → AreGood ts → AllItems xs × AreGood rest
items_good g.none h = (tt, h)
items_good (g.component a c m) h = let first = component_good c (may_good a h) in let rest = items_good m first.1 in ((first.0, rest.0), rest.1)
items_good (g.div {ys = ys} a n m) h = let own = items_good n (may_good a h).1.1 in let rest = items_good m own.1.1 in ((all_items ys own.0, rest.0), rest.1)
items_good (g.include {ys = ys} a l i o m) h =
    let name = literal_good l (may_good a h).1 in
    let own = override_good o (inherit_good i name.1) in
    let rest = items_good m own.1 in
    ((all_items ys own.0, rest.0), rest.1)
items_good (g.note n m) h = items_good m (note_good n h)

-- the module of good tokens
pub module_good : {ts : Tokens} {m : Module} → IsModule ts m → AreGood ts → IsGoodModule m
module_good (g.items {xs = xs} d i) h = let first = declarations_good d h in let rest = items_good i first.1 in record { declarations = first.0; items = all_items xs rest.0 }
module_good (g.grammar {xs = xs} d a i f) h = let first = declarations_good d h in let rest = items_good i (may_good a first.1).1.1 in record { declarations = first.0; items = all_items xs rest.0 }
