-- What the ids of a store of patterns stand for.
use Rattle.std.specs.Prelude.{◌≡◌, ◌≢◌, ◌↔◌, ◌⊎◌, ◌+◌, ◌≤◌, All, AllPairs, Contains, ℕ, List, map, length, Bool, IsTrue, IfOk, OnErr, Option, Some, None, Result, string_bytes}
use Rattle.std.specs.Rc.{rc_str_bytes}
use Rattle.rn_pattern.specs.Tree as tree
use Rattle.rn_pattern.specs.Tree.{Parameters, Tree, trees_of}
use Rattle.rn_text.specs.Texts.{Text}
use Rattle.rn_pattern.specs.Canonical.{datum_but_step}
use Rattle.rn_pattern.specs.View.{name_class_view, parameters_view}
use Rattle.rn_pattern.specs.declared.node.Node.{Node}

-- the tree of a node, by those of the ids in it
abbrev pub node_view : {I : Type 0} → (I → Tree) → Node I → Tree
node_view at Node.NotAllowed = tree.not_allowed
node_view at Node.Empty = tree.empty
node_view at Node.Text = tree.text
node_view at (Node.Ref x) = tree.ref x
node_view at (Node.Value l x t) = tree.value (rc_str_bytes l) (string_bytes x) (string_bytes t)
node_view at (Node.Datum l x ps None) = tree.datum (rc_str_bytes l) (string_bytes x) (parameters_view ps.items)
node_view at (Node.Datum l x ps (Some i)) = tree.datum_but (rc_str_bytes l) (string_bytes x) (parameters_view ps.items) (at i)
node_view at (Node.List i) = tree.list (at i)
node_view at (Node.Attribute c i) = tree.attribute (name_class_view c) (at i)
node_view at (Node.Element c i) = tree.element (name_class_view c) (at i)
node_view at (Node.OneOrMore i) = tree.one_or_more (at i)
node_view at (Node.Group is) = tree.group (trees_of (map at is.items))
node_view at (Node.Interleave is) = tree.interleave (trees_of (map at is.items))
node_view at (Node.Choice is) = tree.choice (trees_of (map at is.items))

-- each of these ids is one of the store's
abbrev pub KnowsAll : {I : Type 0} → (I → Bool) → List I → Type 0
KnowsAll knows is = All (λ i. IsTrue (knows i)) is

-- each id of the old store is one of the new, and stands for the same tree
abbrev pub KeepsTrees : {I : Type 0} → (I → Bool) → (I → Tree) → (I → Bool) → (I → Tree) → Type 0
KeepsTrees {I} knows tree_of knows' tree_of' = (i : I) → IsTrue (knows i) → IsTrue (knows' i) × (tree_of' i ≡ tree_of i)

-- a call keeps the ids of a store, and what they stand for
abbrev pub KeepsIds : {S I : Type 0} → (S → I → Bool) → (S → I → Tree) → (old new : S) → Type 0
KeepsIds knows tree_of old new = KeepsTrees (knows old) (tree_of old) (knows new) (tree_of new)

-- an id of the new store is one of the old, or the answered one
abbrev pub AddsOnly : {I : Type 0} → (I → Bool) → (I → Bool) → I → Type 0
AddsOnly {I} knows knows' answered = (i : I) → IsTrue (knows' i) → IsTrue (knows i) ⊎ (i ≡ answered)

-- a constructor keeps what the ids of a store stand for; it adds no id but the one that it answers, and if it is refused, none
abbrev pub AddsAnswerOnly : {S I E : Type 0} → (S → I → Bool) → (S → I → Tree) → (S → ℕ) → (old new : S) → Result I E → Type 0
AddsAnswerOnly knows tree_of size old new result =
    KeepsIds knows tree_of old new × IfOk result (AddsOnly (knows old) (knows new)) × (size new ≤ size old + 1) × OnErr result (size new ≡ size old)

-- the store has exactly this many ids
abbrev pub HasCount : {I : Type 0} → (I → Bool) → ℕ → Type 0
HasCount {I} knows n = (ids : List I) × (length ids ≡ n) × AllPairs (λ i j. i ≢ j) ids × ((i : I) → IsTrue (knows i) ↔ Contains ids i)

-- the id is one of the store's, and stands for the tree
abbrev pub StandsFor : {I : Type 0} → (I → Bool) → (I → Tree) → Tree → I → Type 0
StandsFor knows tree_of t i = IsTrue (knows i) × (tree_of i ≡ t)

-- the data of a datatype, with an except or without (6.2.8)
abbrev pub datum_by : Text → Text → Parameters → Option Tree → Tree
datum_by library type params None = tree.datum library type params
datum_by library type params (Some p) = tree.datum_but library type params p

abbrev pub datum_step : Text → Text → Parameters → Option Tree → Tree
datum_step library type params None = tree.datum library type params
datum_step library type params (Some p) = datum_but_step library type params p
