-- What each element of the XML syntax is written as in the compact syntax, up to its children, between them and behind them
-- (RELAX NG 2001, 3; RELAX NG Compact Syntax, 3).
use Rattle.std.specs.Prelude.{ℕ, ◌-◌, Bool, true, false, ◌&&◌, not, nat_le, if◌then◌else◌, List, [], ◌∷◌, ◌++◌, Option, Some, None, is_some, unwrap_or, bytes_eq, codes}
use Rattle.rn_text.specs.Texts.{Text}
use Rattle.rn_text.specs.declared.keywords.Keyword.{Keyword}
use Rattle.rn_text.specs.declared.keywords.Keyword.TheVariants as w
use Rattle.rn_xml.specs.Infoset.{Attribute}
use Rattle.rn_translate.specs.Terms.{Namespace, inherited, uri, Term, keyword, symbol, identifier, local, prefixed, any_of, prefix, datatype, literal, open_brace, close_brace, open_parenthesis, close_parenthesis, any_text}
use Rattle.rn_translate.specs.SchemaElements.{Context, value_of, trimmed, name_in, qualified}
use Rattle.rn_translate.specs.declared.kinds.Kind.{Kind}
use Rattle.rn_translate.specs.declared.kinds.Kind.TheVariants as k
use Rattle.rn_translate.specs.declared.standing.Operator.{Operator}
use Rattle.rn_translate.specs.declared.standing.Operator.TheVariants as o
use Rattle.rn_translate.specs.declared.standing.Standing.{Standing}
use Rattle.rn_translate.specs.declared.standing.Standing.TheVariants as s

-- where an element is in the one around it: how its pattern or name class stands, whether it is the first of the children, whether it is
-- the last of them but for an except, and whether it is the root
pub record Place : Type 0 where
  pub standing : Standing
  pub is_first : Bool
  pub is_last : Bool
  pub is_root : Bool

-- an element as far as its terms depend on it: what its names without prefix are in by default, what is inherited in it, where it is, its
-- attributes, the text that it begins with, how many children it has and whether one is an except
pub record Written : Type 0 where
  pub kind : Kind
  pub default : Namespace
  pub context : Context
  pub place : Place
  pub attributes : List Attribute
  pub text : Text
  pub count : ℕ
  pub has_except : Bool

-- what stands behind the name class that the children begin with, if they begin with one; how the others stand; what is between them; and
-- what is behind them all
pub record Layout : Type 0 where
  pub class : Option (List Term)
  pub standing : Standing
  pub separator : List Term
  pub behind : List Term

-- ---- operators and parentheses

abbrev pub is_operator : Operator → Operator → Bool
is_operator o.Comma o.Comma = true
is_operator o.Ampersand o.Ampersand = true
is_operator o.Bar o.Bar = true
is_operator _ _ = false

abbrev pub operator_term : Operator → List Term
operator_term o.Comma = symbol (codes ",") ∷ []
operator_term o.Ampersand = symbol (codes "&") ∷ []
operator_term o.Bar = symbol (codes "|") ∷ []

-- operators have no precedence, so one stands beside another in parentheses alone; so it is before a sign of repetition and behind `-`
abbrev pub needs_parentheses : Standing → Operator → Bool
needs_parentheses s.Alone op = false
needs_parentheses (s.Beside around) op = not (is_operator around op)
needs_parentheses s.Tight op = true

abbrev pub is_tight : Standing → Bool
is_tight s.Tight = true
is_tight _ = false

abbrev pub is_alone : Standing → Bool
is_alone s.Alone = true
is_alone _ = false

abbrev pub if_so : Bool → List Term → List Term
if_so b ts = if b then ts else []

-- so many operands: one alone stands as the whole does
abbrev pub begins_operands : Standing → Operator → ℕ → List Term
begins_operands standing op count = if_so (not (nat_le count 1) && needs_parentheses standing op) open_parenthesis

abbrev pub operands : Standing → Operator → ℕ → Layout
operands standing op count = if nat_le count 1
    then record { class = None; standing = standing; separator = []; behind = [] }
    else record { class = None; standing = s.Beside op; separator = operator_term op; behind = if_so (needs_parentheses standing op) close_parenthesis }

abbrev pub then_behind : Layout → List Term → Layout
then_behind l ts = record l { behind = l.behind ++ ts }

-- children one after the other, and what is behind them
abbrev pub around : List Term → Layout
around ts = record { class = None; standing = s.Alone; separator = []; behind = ts }

-- ---- names

abbrev pub is_same : Namespace → Namespace → Bool
is_same inherited inherited = true
is_same (uri x) (uri y) = bytes_eq x y
is_same _ _ = false

-- a name in a namespace has no prefix where that is the one of names without prefix
abbrev pub name_term : (bare : Namespace) → Namespace × Text → Term
name_term bare n = if is_same n.0 bare then local n.1 else prefixed n.0 n.1

-- the name that a text is; unprefixed: its namespace where it has no prefix
abbrev pub name_terms : Written → (unprefixed : Namespace) → Text → List Term
name_terms e unprefixed text = name_term e.context.bare (qualified e.context.scope unprefixed text) ∷ []

-- the namespace of the attribute `name` without prefix: of an attribute that has no `ns` itself it is none (4.8)
abbrev pub unprefixed_in : Written → Kind → Namespace
unprefixed_in e k.Attribute = if is_some (value_of (codes "ns") e.attributes) then e.context.namespace else uri []
unprefixed_in e _ = e.context.namespace

-- ---- elements and attributes

-- what opens so many patterns: of none, it is any text
abbrev pub opening : ℕ → List Term
opening count = if nat_le 1 count then open_brace else any_text

abbrev pub closing : ℕ → List Term
closing count = if_so (nat_le 1 count) close_brace

-- what has a name: it gives it by the attribute `name`, or its first child is a name class (3)
abbrev pub has_name : Kind → Bool
has_name k.Element = true
has_name k.Attribute = true
has_name _ = false

-- the name that the attribute gives, and what opens the content behind it
abbrev pub given_name : Written → Option Text → List Term
given_name e (Some name) = name_terms e (unprefixed_in e e.kind) name ++ opening e.count
given_name e None = []

abbrev pub begins_named : Written → Keyword → Option Text → List Term
begins_named e word name = keyword word ∷ given_name e name

-- without the attribute `name` the first child is a name class, and what opens the others is behind that
abbrev pub named : Written → Option Text → Layout
named e (Some name) = then_behind (operands s.Alone o.Comma e.count) (closing e.count)
named e None = record (then_behind (operands s.Alone o.Comma (e.count - 1)) (closing (e.count - 1))) { class = Some (opening (e.count - 1)) }

-- ---- data, values and files

-- a datatype that a value gives
abbrev pub datatype_terms : Written → Option Text → List Term
datatype_terms e (Some name) = datatype e.context.library (trimmed name) ∷ []
datatype_terms e None = []

-- a parameter; the first one opens the braces round all of them, and the last one closes them
abbrev pub begins_param : Written → List Term
begins_param e =
    if_so e.place.is_first open_brace ++ local (name_in (codes "name") e.attributes) ∷ symbol (codes "=") ∷ literal e.text ∷ if_so e.place.is_last close_brace

-- what has an except is in parentheses, unless it is alone
abbrev pub is_closed : Written → Bool
is_closed e = e.has_except && not (is_alone e.place.standing)

-- the namespace that a file inherits is told if it isn't the default one (4.6 and 4.7)
abbrev pub inherit_terms : (default namespace : Namespace) → List Term
inherit_terms default namespace = if_so (not (is_same namespace default)) (keyword w.Inherit ∷ symbol (codes "=") ∷ prefix namespace ∷ [])

abbrev pub link_terms : Written → Keyword → List Term
link_terms e word =
    keyword word ∷ literal (unwrap_or (value_of (codes "href") e.attributes) []) ∷ inherit_terms e.default e.context.namespace

-- how a definition is combined with others of its name (4.17)
abbrev pub method_term : Option Text → List Term
method_term (Some text) = if bytes_eq (trimmed text) (codes "choice") then symbol (codes "|=") ∷ [] else symbol (codes "&=") ∷ []
method_term None = symbol (codes "=") ∷ []

abbrev pub defined : Option Text → List Term
defined (Some name) = identifier (trimmed name) ∷ []
defined None = keyword w.Start ∷ []

abbrev pub begins_definition : Written → List Term
begins_definition e = defined (value_of (codes "name") e.attributes) ++ method_term (value_of (codes "combine") e.attributes)

-- what holds items of a grammar, what is one, and what stands for a file or for nothing
abbrev pub is_of_grammar : Kind → Bool
is_of_grammar k.Grammar = true
is_of_grammar k.Start = true
is_of_grammar k.Define = true
is_of_grammar k.Div = true
is_of_grammar k.Include = true
is_of_grammar k.ExternalRef = true
is_of_grammar k.Foreign = true
is_of_grammar _ = false

-- ---- the table of elements

-- what is written up to the children; several children of one that holds a pattern are a group, of an except they are a choice (4.12)
abbrev pub begins : Written → Kind → List Term
begins e k.Element = begins_named e w.Element (value_of (codes "name") e.attributes)
begins e k.Attribute = begins_named e w.Attribute (value_of (codes "name") e.attributes)
begins e k.Group = begins_operands e.place.standing o.Comma e.count
begins e k.Interleave = begins_operands e.place.standing o.Ampersand e.count
begins e k.Choice = begins_operands e.place.standing o.Bar e.count
begins e k.Optional = if_so (is_tight e.place.standing) open_parenthesis ++ begins_operands s.Tight o.Comma e.count
begins e k.ZeroOrMore = if_so (is_tight e.place.standing) open_parenthesis ++ begins_operands s.Tight o.Comma e.count
begins e k.OneOrMore = if_so (is_tight e.place.standing) open_parenthesis ++ begins_operands s.Tight o.Comma e.count
begins e k.List = keyword w.List ∷ open_brace
begins e k.Mixed = keyword w.Mixed ∷ open_brace
begins e k.Ref = identifier (name_in (codes "name") e.attributes) ∷ []
begins e k.ParentRef = keyword w.Parent ∷ identifier (name_in (codes "name") e.attributes) ∷ []
begins e k.Empty = keyword w.Empty ∷ []
begins e k.Text = keyword w.Text ∷ []
begins e k.NotAllowed = keyword w.NotAllowed ∷ []
begins e k.Value = datatype_terms e (value_of (codes "type") e.attributes) ++ literal e.text ∷ []
begins e k.Data = if_so (is_closed e) open_parenthesis ++ datatype e.context.library (name_in (codes "type") e.attributes) ∷ []
begins e k.Param = begins_param e
begins e k.Except = symbol (codes "-") ∷ begins_operands s.Tight o.Bar e.count
begins e k.Name = name_terms e e.context.namespace e.text
begins e k.AnyName = if_so (is_closed e) open_parenthesis ++ symbol (codes "*") ∷ []
begins e k.NsName = if_so (is_closed e) open_parenthesis ++ any_of e.context.namespace ∷ []
begins e k.Grammar = if_so (not e.place.is_root) (keyword w.Grammar ∷ open_brace)
begins e k.Start = begins_definition e
begins e k.Define = begins_definition e
begins e k.Div = keyword w.Div ∷ open_brace
begins e k.Include = link_terms e w.Include ++ if_so (nat_le 1 e.count) open_brace
begins e k.ExternalRef = link_terms e w.External
begins e k.Foreign = []

-- how the children are written
abbrev pub layout : Written → Kind → Layout
layout e k.Element = named e (value_of (codes "name") e.attributes)
layout e k.Attribute = named e (value_of (codes "name") e.attributes)
layout e k.Group = operands e.place.standing o.Comma e.count
layout e k.Interleave = operands e.place.standing o.Ampersand e.count
layout e k.Choice = operands e.place.standing o.Bar e.count
layout e k.Optional = then_behind (operands s.Tight o.Comma e.count) (symbol (codes "?") ∷ if_so (is_tight e.place.standing) close_parenthesis)
layout e k.ZeroOrMore = then_behind (operands s.Tight o.Comma e.count) (symbol (codes "*") ∷ if_so (is_tight e.place.standing) close_parenthesis)
layout e k.OneOrMore = then_behind (operands s.Tight o.Comma e.count) (symbol (codes "+") ∷ if_so (is_tight e.place.standing) close_parenthesis)
layout e k.List = then_behind (operands s.Alone o.Comma e.count) close_brace
layout e k.Mixed = then_behind (operands s.Alone o.Comma e.count) close_brace
layout e k.Data = around (if_so (is_closed e) close_parenthesis)
layout e k.Except = operands s.Tight o.Bar e.count
layout e k.AnyName = around (if_so (is_closed e) close_parenthesis)
layout e k.NsName = around (if_so (is_closed e) close_parenthesis)
layout e k.Grammar = around (if_so (not e.place.is_root) close_brace)
layout e k.Start = operands s.Alone o.Comma e.count
layout e k.Define = operands s.Alone o.Comma e.count
layout e k.Div = around close_brace
layout e k.Include = around (if_so (nat_le 1 e.count) close_brace)
layout e _ = around []
