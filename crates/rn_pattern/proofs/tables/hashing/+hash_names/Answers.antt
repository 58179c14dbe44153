use Rattle.std.proofs.Common.{fold, flat_map, map, sym, ap, ◌∙◌, arith}
use Rattle.std.proofs.lemmas.List.{take_all}
use Rattle.rn_pattern.specs.inside.Hashing.{name_writes}
use Rattle.rn_pattern.specs.View.{name_class_view}
use Rattle.rn_pattern.proofs.Stores.Gathering.{flat_map-through}
use Rattle.rn_pattern.proofs.Stores.Hashing.{fed_more, names_writes-list}
use Rattle.rn_pattern.proofs.tables.hashing.+hash_names.Goals as goal

pub hash_name_classes-returns : goal.hash_name_classes-returns
hash_name_classes-returns g t c =
    let cs = c.args.classes.now in
    c.loop-class.invariant
    ∙ ap (fold g.H.Hasher.write c.args.state.now)
    (ap (flat_map (λ n. name_writes (name_class_view n))) (take_all c.loop-class.class-index cs (omega arith))
    ∙ flat_map-through name_writes name_class_view cs ∙ sym (names_writes-list (map name_class_view cs)))

pub hash_name_classes-loop-class-preserved : goal.hash_name_classes-loop-class-preserved
hash_name_classes-loop-class-preserved g t c =
    let fed = c.hash_name_class.ensures ∙ ap (λ n. fold g.H.Hasher.write c.loop-class.state (name_writes (name_class_view n))) c.class-item.is in
    fed_more g.H.Hasher.write c.args.state.now c.loop-class.state c.hash_name_class.new.state (λ n. name_writes (name_class_view n)) c.args.classes.now c.loop-class.class-index c.class-item.result c.loop-class-test.true c.loop-class.invariant fed
