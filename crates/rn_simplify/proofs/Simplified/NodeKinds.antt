-- What the nodes with a content or with members stand for.
use Rattle.std.proofs.Common.{◌≡◌, ◌+◌, ◌⊎◌, inl, inr, [], ◌∷◌, Option, Some, None, refl, ap, ◌∙◌}
use Rattle.std.specs.Prelude.{Box, String, string_bytes, Vec}
use Rattle.std.specs.Rc.{rc_str_bytes}
use Rattle.std.specs.declared.alloc.Global.{Global}
use Rattle.std.specs.declared.rc.RcStr.{RcStr}
use Rattle.rn_pattern.proofs.Ordered.PatternKinds.{datum_of}
use Rattle.rn_pattern.specs.Nodes.{node_members}
use Rattle.rn_pattern.specs.Store.{node_view}
use Rattle.rn_pattern.specs.Tree.{Parameters, Tree}
use Rattle.rn_text.specs.Texts.{Text}
use Rattle.rn_pattern.specs.View.{excepted_view, parameters_view}
use Rattle.rn_pattern.specs.declared.node.Node.{Node}
use Rattle.rn_pattern.specs.declared.tree.NameClass.{NameClass}
use Rattle.rn_pattern.specs.declared.tree.Pattern.{Pattern}
use Rattle.rn_simplify.specs.inside.NodeKinds.{datum_over, except_trees, node_content}
use Rattle.rn_simplify.proofs.Simplified.NodeSizes.{tree_size, ids_size, members_size}

module _ {I : Type 0} (n : Node I) (v : Vec I Global) where
  pub members_in : (n ≡ Node.Group v) ⊎ ((n ≡ Node.Interleave v) ⊎ (n ≡ Node.Choice v)) → node_members n ≡ v.items
  members_in (inl e) = ap node_members e
  members_in (inr (inl e)) = ap node_members e
  members_in (inr (inr e)) = ap node_members e

  pub size_in : (at : I → Tree) → (n ≡ Node.Group v) ⊎ ((n ≡ Node.Interleave v) ⊎ (n ≡ Node.Choice v)) → tree_size (node_view at n) ≡ ids_size at v.items + 1
  size_in at (inl e) = ap (λ m. tree_size (node_view at m)) e ∙ ap (λ k. k + 1) (members_size at v.items)
  size_in at (inr (inl e)) = ap (λ m. tree_size (node_view at m)) e ∙ ap (λ k. k + 1) (members_size at v.items)
  size_in at (inr (inr e)) = ap (λ m. tree_size (node_view at m)) e ∙ ap (λ k. k + 1) (members_size at v.items)

-- a node over a content
abbrev pub IsOver : {I : Type 0} → Node I → I → Type 0
IsOver n i = (n ≡ Node.List i) ⊎ (((c : NameClass) × n ≡ Node.Attribute c i) ⊎ (((c : NameClass) × n ≡ Node.Element c i) ⊎ (n ≡ Node.OneOrMore i)))

module _ {I : Type 0} (n : Node I) (i : I) where
  pub over_one : IsOver n i → node_members n ≡ i ∷ []
  over_one (inl e) = ap node_members e
  over_one (inr (inl e)) = ap node_members e.1
  over_one (inr (inr (inl e))) = ap node_members e.1
  over_one (inr (inr (inr e))) = ap node_members e

  pub content_in : IsOver n i → node_content n ≡ Some i
  content_in (inl e) = ap node_content e
  content_in (inr (inl e)) = ap node_content e.1
  content_in (inr (inr (inl e))) = ap node_content e.1
  content_in (inr (inr (inr e))) = ap node_content e

  pub over_size : (at : I → Tree) → IsOver n i → tree_size (node_view at n) ≡ tree_size (at i) + 1
  over_size at (inl e) = ap (λ m. tree_size (node_view at m)) e
  over_size at (inr (inl e)) = ap (λ m. tree_size (node_view at m)) e.1
  over_size at (inr (inr (inl e))) = ap (λ m. tree_size (node_view at m)) e.1
  over_size at (inr (inr (inr e))) = ap (λ m. tree_size (node_view at m)) e

pub datum_alike : (l x : Text) (ps : Parameters) (p : Option (Box Pattern Global)) → datum_of l x ps (excepted_view p) ≡ datum_over l x ps (excepted_view p)
datum_alike l x ps None = refl
datum_alike l x ps (Some p) = refl

pub node_of_datum : {I : Type 0} (at : I → Tree) (l : RcStr Global) (x : String Global) (ps : Vec (String Global × String Global) Global) (e : Option I) → datum_over (rc_str_bytes l) (string_bytes x) (parameters_view ps.items) (except_trees at e) ≡ node_view at (Node.Datum l x ps e)
node_of_datum at l x ps None = refl
node_of_datum at l x ps (Some i) = refl
