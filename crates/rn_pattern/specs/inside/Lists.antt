-- Groups, interleaves and choices as lists of members (RELAX NG 2001, 4.12, 4.20 and 4.21).
use Rattle.std.specs.Prelude.{List}
use Rattle.rn_pattern.specs.Tree as tree
use Rattle.rn_pattern.specs.Tree.{Tree, Trees}
use Rattle.rn_pattern.specs.Canonical.{alternatives, grouped, interleaved, node_of}
use Rattle.rn_pattern.specs.declared.connector.Connector.{Connector}

-- the pattern as members of a list of the kind
abbrev pub members_by : Connector → Tree → List Tree
members_by Connector.Choice = alternatives
members_by Connector.Group = grouped
members_by Connector.Interleave = interleaved

-- a list without members
abbrev pub neutral : Connector → Tree
neutral Connector.Choice = tree.not_allowed
neutral Connector.Group = tree.empty
neutral Connector.Interleave = tree.empty

abbrev pub over : Connector → Trees → Tree
over Connector.Choice = tree.choice
over Connector.Group = tree.group
over Connector.Interleave = tree.interleave

abbrev pub listed : Connector → List Tree → Tree
listed c ps = node_of (neutral c) (over c) ps
