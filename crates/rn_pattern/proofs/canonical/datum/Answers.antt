-- The parts of a datatype, copied.
use Rattle.std.proofs.Common.{List, Option, Some, None, IsTrue, ◌∙◌, length}
use Rattle.std.specs.Prelude.{IfSome, String, Vec}
use Rattle.std.specs.Rc.{rc_str_bytes}
use Rattle.std.specs.declared.alloc.Global.{Global}
use Rattle.std.specs.declared.rc.RcStr.{RcStr}
use Rattle.rn_pattern.specs.Tree.{Tree}
use Rattle.rn_pattern.specs.declared.node.Node.{Node}
use Rattle.rn_pattern.specs.declared.node.NodeId.{NodeId}
use Rattle.rn_pattern.specs.inside.Stored.{NamesBelow, knows, tree_at, trees_of_nodes}
use Rattle.rn_pattern.specs.Store.{datum_by}
use Rattle.rn_pattern.specs.View.{parameters_view}
use Rattle.std.specs.Option.{option_map}
use Rattle.rn_pattern.proofs.Stores.Copied.{datum_seen, parameters_copied}
use Rattle.rn_pattern.proofs.Stores.NodeTrees.{knows_place}
use Rattle.rn_pattern.proofs.canonical.datum.Goals as goal

pub returns-clause-tree : goal.returns-clause-tree
returns-clause-tree c =
    let at = tree_at (trees_of_nodes c.args.nodes.now.nodes.now) in
    let params = parameters_copied c.args.params.now c.in_ok-params.params.items c.in_ok-params.ensures.ok in
    datum_seen at c.args.library c.in_ok-type_name.type_name c.in_ok-params.params c.allowed_except.result
    ∙ (λ i. datum_by (rc_str_bytes c.args.library) (c.in_ok-type_name.ensures.ok i) (params i) (option_map at c.allowed_except.result))
    ∙ c.allowed_except.ensures.tree (rc_str_bytes c.args.library) c.args.type_name.now (parameters_view c.args.params.now)

datum_below : (ts : List Tree) (l : RcStr Global) (x : String Global) (ps : Vec (String Global × String Global) Global) (e : Option NodeId) → IfSome e (λ i. IsTrue (knows ts i)) → NamesBelow (length ts) (Node.Datum l x ps e)
datum_below ts l x ps None h = tt
datum_below ts l x ps (Some i) h = knows_place ts i h

pub returns-clause-stored : goal.returns-clause-stored
returns-clause-stored c =
    datum_below (trees_of_nodes c.args.nodes.now.nodes.now) c.args.library c.in_ok-type_name.type_name c.in_ok-params.params c.allowed_except.result c.allowed_except.ensures.known
