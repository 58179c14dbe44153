-- The shared patterns without content, told by the order of patterns.
use Rattle.std.proofs.Common.{◌≡◌}
use Rattle.std.specs.declared.alloc.Global.{Global}
use Rattle.std.specs.declared.cmp.Ordering.TheVariants.{Equal}
use Rattle.std.specs.declared.rc.Rc.{Rc}
use Rattle.rn_pattern.specs.Order.{tree_cmp}
use Rattle.rn_pattern.specs.Tree.{empty, text}
use Rattle.rn_pattern.specs.View.{shared_view}
use Rattle.rn_pattern.specs.declared.tree.Pattern.{Pattern}
use Rattle.rn_pattern.proofs.Ordered.Orders.{tree_same}

pub is_empty : (p : Rc Pattern Global) → tree_cmp (shared_view p) empty ≡ Equal → shared_view p ≡ empty
is_empty p h = tree_same (shared_view p) empty h

pub is_text : (p : Rc Pattern Global) → tree_cmp (shared_view p) text ≡ Equal → shared_view p ≡ text
is_text p h = tree_same (shared_view p) text h
