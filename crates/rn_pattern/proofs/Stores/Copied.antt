-- What is copied stands for the same.
use Rattle.std.proofs.Common.{◌≡◌, List, [], ◌∷◌, Option, Some, None, refl}
use Rattle.std.specs.Prelude.{String, string_bytes, Vec}
use Rattle.std.specs.List.{AllZip}
use Rattle.std.specs.Option.{option_map}
use Rattle.std.specs.Rc.{rc_str_bytes}
use Rattle.std.specs.declared.alloc.Global.{Global}
use Rattle.std.specs.declared.rc.RcStr.{RcStr}
use Rattle.rn_pattern.specs.Tree.{Tree}
use Rattle.rn_pattern.specs.Store.{node_view, datum_by}
use Rattle.rn_pattern.specs.View.{parameters_view}
use Rattle.rn_pattern.specs.declared.node.Node.{Node}
use Rattle.rn_pattern.specs.declared.node.NodeId.{NodeId}

pub datum_seen : (at : NodeId → Tree) (l : RcStr Global) (x : String Global) (ps : Vec (String Global × String Global) Global) (e : Option NodeId) → node_view at (Node.Datum l x ps e) ≡ datum_by (rc_str_bytes l) (string_bytes x) (parameters_view ps.items) (option_map at e)
datum_seen at l x ps None = refl
datum_seen at l x ps (Some i) = refl

pub parameters_copied : (ps qs : List (String Global × String Global)) → AllZip (λ (p q : String Global × String Global). (string_bytes q.0 ≡ string_bytes p.0) × (string_bytes q.1 ≡ string_bytes p.1)) ps qs → parameters_view qs ≡ parameters_view ps
parameters_copied [] [] h = refl
parameters_copied [] (q ∷ qs) h = absurd h
parameters_copied (p ∷ ps) [] h = absurd h
parameters_copied (p ∷ ps) (q ∷ qs) h = λ i. (h.0.0 i, h.0.1 i) ∷ parameters_copied ps qs h.1 i
