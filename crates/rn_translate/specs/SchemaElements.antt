-- The elements of a schema in the XML syntax, their attributes and names (RELAX NG 2001, 3 and 4.2 to 4.10).
use Rattle.std.specs.Prelude.{ℕ, Bool, true, false, ◌&&◌, ◌||◌, ◌==◌, if◌then◌else◌, List, [], ◌∷◌, ◌++◌, ◌+◌, length, Option, Some, None, unwrap_or, bytes_eq, codes}
use Rattle.std.specs.List.{after_first, before_first, list_all, position_or_len}
use Rattle.rn_text.specs.Texts.{Text, is_white}
use Rattle.rn_xml.specs.Infoset.{Name, Attribute, Binding, Node, element, characters, Nodes, no_nodes, more_nodes}
use Rattle.rn_xml.specs.XmlTags.{Scope, uri_in, xml_uri}
use Rattle.rn_translate.specs.Terms.{Namespace, uri}
use Rattle.rn_translate.specs.declared.kinds.Kind.{Kind}
use Rattle.rn_translate.specs.declared.kinds.Kind.TheVariants as k

-- ---- elements

-- the namespace of RELAX NG
abbrev pub rng_uri : Text
rng_uri = codes "http://relaxng.org/ns/structure/1.0"

-- the local name of an element; an element of another vocabulary is called what no element is
abbrev pub kind_name : Kind → Text
kind_name k.Element = codes "element"
kind_name k.Attribute = codes "attribute"
kind_name k.Group = codes "group"
kind_name k.Interleave = codes "interleave"
kind_name k.Choice = codes "choice"
kind_name k.Optional = codes "optional"
kind_name k.ZeroOrMore = codes "zeroOrMore"
kind_name k.OneOrMore = codes "oneOrMore"
kind_name k.List = codes "list"
kind_name k.Mixed = codes "mixed"
kind_name k.Ref = codes "ref"
kind_name k.ParentRef = codes "parentRef"
kind_name k.Empty = codes "empty"
kind_name k.Text = codes "text"
kind_name k.Value = codes "value"
kind_name k.Data = codes "data"
kind_name k.NotAllowed = codes "notAllowed"
kind_name k.ExternalRef = codes "externalRef"
kind_name k.Grammar = codes "grammar"
kind_name k.Param = codes "param"
kind_name k.Except = codes "except"
kind_name k.Start = codes "start"
kind_name k.Define = codes "define"
kind_name k.Div = codes "div"
kind_name k.Include = codes "include"
kind_name k.Name = codes "name"
kind_name k.AnyName = codes "anyName"
kind_name k.NsName = codes "nsName"
kind_name k.Foreign = codes "an annotation"

-- the elements of section 3
abbrev pub kinds : List Kind
kinds =
    k.Element ∷ k.Attribute ∷ k.Group ∷ k.Interleave ∷ k.Choice ∷ k.Optional ∷ k.ZeroOrMore ∷ k.OneOrMore ∷ k.List
    ∷ k.Mixed ∷ k.Ref ∷ k.ParentRef ∷ k.Empty ∷ k.Text ∷ k.Value ∷ k.Data ∷ k.NotAllowed ∷ k.ExternalRef ∷ k.Grammar
    ∷ k.Param ∷ k.Except ∷ k.Start ∷ k.Define ∷ k.Div ∷ k.Include ∷ k.Name ∷ k.AnyName ∷ k.NsName ∷ []

-- the one of this name
abbrev pub kind_in : List Kind → Text → Option Kind
kind_in [] local = None
kind_in (kind ∷ others) local = if bytes_eq (kind_name kind) local then Some kind else kind_in others local

-- what an element of this name is; none for one of the namespace of RELAX NG that section 3 doesn't have
abbrev pub kind_of : Name → Option Kind
kind_of n = if bytes_eq n.uri rng_uri then kind_in kinds n.local else Some k.Foreign

-- whether the content of the element is a text (3)
abbrev pub holds_text : Kind → Bool
holds_text k.Name = true
holds_text k.Value = true
holds_text k.Param = true
holds_text _ = false

-- an element of another vocabulary, and characters, are no part of the schema (4.1 and 4.2)
abbrev pub is_part : Node → Bool
is_part (element n bound attributes inside) = bytes_eq n.uri rng_uri
is_part (characters text) = false

abbrev pub is_foreign : Option Kind → Bool
is_foreign (Some k.Foreign) = true
is_foreign _ = false

abbrev pub is_except_kind : Option Kind → Bool
is_except_kind (Some k.Except) = true
is_except_kind _ = false

abbrev pub is_except : Node → Bool
is_except (element n bound attributes inside) = is_except_kind (kind_of n)
is_except (characters text) = false

-- how many parts of the schema the children are
abbrev pub count_of : Nodes → ℕ
count_of no_nodes = 0
count_of (more_nodes x xs) = if is_part x then 1 + count_of xs else count_of xs

-- whether an except is among them
abbrev pub has_except : Nodes → Bool
has_except no_nodes = false
has_except (more_nodes x xs) = is_except x || has_except xs

-- the characters that the children begin with
abbrev pub text_of : Nodes → Text
text_of no_nodes = []
text_of (more_nodes (characters text) xs) = text
text_of (more_nodes (element n bound attributes inside) xs) = []

-- ---- attributes

-- the value of the attribute of this name, which is in no namespace
abbrev pub value_of : Text → List Attribute → Option Text
value_of x [] = None
value_of x (a ∷ others) = if bytes_eq a.name.local x && bytes_eq a.name.uri [] then Some a.value else value_of x others

-- without the white space at its front
abbrev pub without_front : Text → Text
without_front [] = []
without_front (c ∷ cs) = if is_white c then without_front cs else c ∷ cs

-- without the white space at its end
abbrev pub without_end : Text → Text
without_end [] = []
without_end (c ∷ cs) = if list_all is_white (c ∷ cs) then [] else c ∷ without_end cs

-- without the white space at either end (4.2)
abbrev pub trimmed : Text → Text
trimmed s = without_end (without_front s)

-- the value of an attribute that is a name, a type or a method; of no attribute, no text
abbrev pub name_in : Text → List Attribute → Text
name_in x attributes = trimmed (unwrap_or (value_of x attributes) [])

-- ---- what is inherited

-- what an element has of itself or inherits: the nearest `ns` (4.9) and `datatypeLibrary` (4.3), the prefixes that are bound (4.10), and the
-- namespace of a name without prefix, where it stands here in the compact text
pub record Context : Type 0 where
  pub namespace : Namespace
  pub library : Namespace
  pub scope : Scope
  pub bare : Namespace

abbrev pub nearest : Namespace → Option Text → Namespace
nearest around (Some text) = uri text
nearest around None = around

-- a name without prefix is in the default namespace in an element's name, and in none in an attribute's (compact syntax, 3)
abbrev pub bare_in : (default around : Namespace) → Kind → Namespace
bare_in default around k.Element = default
bare_in default around k.Attribute = uri []
bare_in default around _ = around

-- in an element of this kind, with these declarations and attributes
abbrev pub inside_of : (default : Namespace) → Context → Kind → List Binding → List Attribute → Context
inside_of default c kind bound attributes = record {
  namespace = nearest c.namespace (value_of (codes "ns") attributes);
  library = nearest c.library (value_of (codes "datatypeLibrary") attributes);
  scope = bound ++ c.scope;
  bare = bare_in default c.bare kind;
}

-- ---- names (4.8 to 4.10)

abbrev pub is_colon : ℕ → Bool
is_colon c = c == 58

-- what is before the first colon, and what is behind it
abbrev pub prefix_and_local : Text → Option (Text × Text)
prefix_and_local text = if position_or_len is_colon text == length text then None else Some (before_first is_colon text, after_first is_colon text)

-- the namespace that a prefix means; `xml` always means its own (Namespaces in XML 1.0, 3)
abbrev pub prefix_uri : Scope → Text → Text
prefix_uri scope prefix = if bytes_eq prefix (codes "xml") then xml_uri else unwrap_or (uri_in scope prefix) []

-- the namespace and the local part of a name that is parted so
abbrev pub parted : Scope → (unprefixed : Namespace) → Text → Option (Text × Text) → Namespace × Text
parted scope unprefixed text (Some p) = (uri (prefix_uri scope p.0), p.1)
parted scope unprefixed text None = (unprefixed, text)

-- the name that a text is; without a prefix it is in the namespace `unprefixed`
abbrev pub qualified : Scope → (unprefixed : Namespace) → Text → Namespace × Text
qualified scope unprefixed text = parted scope unprefixed (trimmed text) (prefix_and_local (trimmed text))
