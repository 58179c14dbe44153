use Rattle.std.proofs.Common.{ap, ◌∙◌, arith, map}
use Rattle.std.specs.Rc.{rc_str_bytes}
use Rattle.std.proofs.lemmas.List.{take_all}
use Rattle.rn_pattern.specs.Tree.{name_trees_of}
use Rattle.rn_syntax.specs.declared.tree.Nc.{Nc}
use Rattle.rn_syntax.specs.View.{class_view}
use Rattle.rn_assemble.specs.Resolve.{resolved_class}
use Rattle.rn_assemble.proofs.Joining.ResolvedLists.{classes_resolved}
use Rattle.rn_assemble.proofs.resolving.resolution.+name_class.Goals as goal

pub name_classes-returns : goal.name_classes-returns
name_classes-returns t c = λ ds b.
    let f = λ (k : Nc). resolved_class (rc_str_bytes c.args.context.inherited.now) ds (rc_str_bytes c.args.own.now) (class_view k) in
    ap name_trees_of (c.loop-class.invariant ds b ∙ ap (map f) (take_all c.loop-class.class-index c.args.classes.now (omega arith)))
    ∙ classes_resolved (rc_str_bytes c.args.context.inherited.now) ds (rc_str_bytes c.args.own.now) c.args.classes.now
