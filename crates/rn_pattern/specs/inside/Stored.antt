-- The trees of a list of nodes, each of which names earlier ones by their places.
use Rattle.std.specs.Prelude.{◌++◌, ◌∷◌, [], ℕ, ◌+◌, ◌<◌, List, All, length, slice_index_or, nat_lt, Bool, ⊤, Option, Some, None, String, string_bytes}
use Rattle.std.specs.Coded.{×_prop, Π_prop, Unit-prop, le_prop}
use Rattle.std.specs.Rc.{rc_str_bytes}
use Rattle.rn_pattern.specs.Tree as tree
use Rattle.rn_pattern.specs.Tree.{Tree}
use Rattle.rn_text.specs.Texts.{Text}
use Rattle.std.specs.declared.alloc.Global.{Global}
use Rattle.rn_pattern.specs.declared.tree.NameClass.{NameClass}
use Rattle.rn_pattern.specs.Store.{node_view}
use Rattle.rn_pattern.specs.declared.node.Node.{Node}
use Rattle.rn_pattern.specs.declared.node.NodeId.{NodeId}

abbrev pub knows : List Tree → NodeId → Bool
knows ts i = nat_lt i.0 (length ts)

abbrev pub tree_at : List Tree → NodeId → Tree
tree_at ts i = slice_index_or ts i.0 tree.not_allowed

-- the trees so far, and those of the nodes behind
abbrev pub trees_from : List Tree → List (Node NodeId) → List Tree
trees_from ts [] = ts
trees_from ts (n ∷ ns) = trees_from (ts ++ node_view (tree_at ts) n ∷ []) ns

abbrev pub trees_of_nodes : List (Node NodeId) → List Tree
trees_of_nodes ns = trees_from [] ns

-- each id in the node is below k
abbrev pub NamesBelow : ℕ → Node NodeId → Type 0
NamesBelow k (Node.Datum l x ps (Some i)) = i.0 < k
NamesBelow k (Node.List i) = i.0 < k
NamesBelow k (Node.Attribute c i) = i.0 < k
NamesBelow k (Node.Element c i) = i.0 < k
NamesBelow k (Node.OneOrMore i) = i.0 < k
NamesBelow k (Node.Group is) = All (λ i. i.0 < k) is.items
NamesBelow k (Node.Interleave is) = All (λ i. i.0 < k) is.items
NamesBelow k (Node.Choice is) = All (λ i. i.0 < k) is.items
NamesBelow k n = ⊤

-- each node names earlier ones alone
abbrev pub NameEarlier : ℕ → List (Node NodeId) → Type 0
NameEarlier k [] = ⊤
NameEarlier k (n ∷ ns) = NamesBelow k n × NameEarlier (k + 1) ns

pub NamesBelow-prop : (k : ℕ) (n : Node NodeId) → IsProp (NamesBelow k n)
NamesBelow-prop k (Node.Datum l x ps (Some i)) = le_prop
NamesBelow-prop k (Node.List i) = le_prop
NamesBelow-prop k (Node.Attribute c i) = le_prop
NamesBelow-prop k (Node.Element c i) = le_prop
NamesBelow-prop k (Node.OneOrMore i) = le_prop
NamesBelow-prop k (Node.Group is) = Π_prop (λ j. Π_prop (λ d. Π_prop (λ h. le_prop)))
NamesBelow-prop k (Node.Interleave is) = Π_prop (λ j. Π_prop (λ d. Π_prop (λ h. le_prop)))
NamesBelow-prop k (Node.Choice is) = Π_prop (λ j. Π_prop (λ d. Π_prop (λ h. le_prop)))
NamesBelow-prop k n = Unit-prop

pub NameEarlier-prop : (k : ℕ) (ns : List (Node NodeId)) → IsProp (NameEarlier k ns)
NameEarlier-prop k [] = Unit-prop
NameEarlier-prop k (n ∷ ns) = ×_prop (NamesBelow-prop k n) (NameEarlier-prop (k + 1) ns)

-- what the order compares of a node, in turn, before its ids: its kind, its texts, parameters and name class
abbrev pub node_rank : {I : Type 0} → Node I → ℕ
node_rank Node.NotAllowed = 0
node_rank Node.Empty = 1
node_rank Node.Text = 2
node_rank (Node.Ref x) = 3
node_rank (Node.Value l x t) = 4
node_rank (Node.Datum l x ps e) = 5
node_rank (Node.List i) = 6
node_rank (Node.Attribute c i) = 7
node_rank (Node.Element c i) = 8
node_rank (Node.OneOrMore i) = 9
node_rank (Node.Group is) = 10
node_rank (Node.Interleave is) = 11
node_rank (Node.Choice is) = 12

abbrev pub node_texts : {I : Type 0} → Node I → List Text
node_texts (Node.Ref x) = x ∷ [] ∷ [] ∷ []
node_texts (Node.Value l x t) = rc_str_bytes l ∷ string_bytes x ∷ string_bytes t ∷ []
node_texts (Node.Datum l x ps e) = rc_str_bytes l ∷ string_bytes x ∷ [] ∷ []
node_texts n = [] ∷ [] ∷ [] ∷ []

abbrev pub node_parameters : {I : Type 0} → Node I → List (String Global × String Global)
node_parameters (Node.Datum l x ps e) = ps.items
node_parameters n = []

abbrev pub node_class : {I : Type 0} → Node I → Option NameClass
node_class (Node.Attribute c i) = Some c
node_class (Node.Element c i) = Some c
node_class n = None
