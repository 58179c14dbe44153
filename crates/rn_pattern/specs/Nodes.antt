-- The ids in a node.
use Rattle.std.specs.Prelude.{◌∷◌, [], List, option_to_list}
use Rattle.rn_pattern.specs.declared.node.Node.{Node}

abbrev pub node_members : {I : Type 0} → Node I → List I
node_members (Node.Datum l x ps e) = option_to_list e
node_members (Node.List i) = i ∷ []
node_members (Node.Attribute c i) = i ∷ []
node_members (Node.Element c i) = i ∷ []
node_members (Node.OneOrMore i) = i ∷ []
node_members (Node.Group is) = is.items
node_members (Node.Interleave is) = is.items
node_members (Node.Choice is) = is.items
node_members n = []
