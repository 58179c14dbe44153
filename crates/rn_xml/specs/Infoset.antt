-- The information set of a document, as far as a schema uses it (XML Information Set, Second Edition, 2.2, 2.3 and 2.6; Namespaces in
-- XML 1.0, Third Edition). Strings are their UTF-8 bytes.
use Rattle.std.specs.Prelude.{List}
use Rattle.rn_text.specs.Texts.{Text}

-- the name of an element or an attribute: the name of its namespace, which is empty where it has none; its prefix, which is empty where
-- it has none; and its local part
pub record Name : Type 0 where
  pub uri : Text
  pub prefix : Text
  pub local : Text

-- an attribute that declares no namespace, with its normalised value
pub record Attribute : Type 0 where
  pub name : Name
  pub value : Text

-- what a prefix means; the empty one is the default namespace
pub record Binding : Type 0 where
  pub prefix : Text
  pub uri : Text

mutual
  -- an element with its name, the namespaces that it declares, its attributes and its children; or characters
  pub data Node : Type 0 where
    element : Name → List Binding → List Attribute → Nodes → Node
    characters : Text → Node

  pub data Nodes : Type 0 where
    no_nodes : Nodes
    more_nodes : Node → Nodes → Nodes
