-- What the nodes of each kind have.
use Rattle.std.specs.Prelude.{Bool, true, false, Option, Some, None}
use Rattle.rn_pattern.specs.Tree as tree
use Rattle.rn_pattern.specs.Tree.{Parameters, Tree, Trees, no_trees, more_trees}
use Rattle.rn_text.specs.Texts.{Text}
use Rattle.rn_pattern.specs.declared.node.Node.{Node}

-- a node that is no datatype, with no node in it
abbrev pub is_leaf : {I : Type 0} → Node I → Bool
is_leaf Node.NotAllowed = true
is_leaf Node.Empty = true
is_leaf Node.Text = true
is_leaf (Node.Ref x) = true
is_leaf (Node.Value l x t) = true
is_leaf n = false

-- the content of a list, an attribute, an element or a repetition
abbrev pub node_content : {I : Type 0} → Node I → Option I
node_content (Node.List i) = Some i
node_content (Node.Attribute c i) = Some i
node_content (Node.Element c i) = Some i
node_content (Node.OneOrMore i) = Some i
node_content n = None

-- a group, an interleave or a choice
abbrev pub has_members : {I : Type 0} → Node I → Bool
has_members (Node.Group is) = true
has_members (Node.Interleave is) = true
has_members (Node.Choice is) = true
has_members n = false

-- a datatype with the patterns of its except, of which there is one or none
abbrev pub datum_over : Text → Text → Parameters → Trees → Tree
datum_over l x ps no_trees = tree.datum l x ps
datum_over l x ps (more_trees p none) = tree.datum_but l x ps p

-- the pattern of an except, if there is one
abbrev pub except_trees : {I : Type 0} → (I → Tree) → Option I → Trees
except_trees at None = no_trees
except_trees at (Some i) = more_trees (at i) no_trees
