use Rattle.std.proofs.Common.{◌≡◌, flat_map, fold, take}
use Rattle.rn_pattern.specs.inside.Hashing.{name_writes}
use Rattle.rn_pattern.specs.View.{name_class_view}
use Rattle.rn_pattern.proofs.tables.hashing.+hash_names.Given as goal

abbrev pub invariant-hash_name_classes-loop-class : goal.invariant-hash_name_classes-loop-class
invariant-hash_name_classes-loop-class g l = l.state ≡ fold g.H.Hasher.write l.initial.state (flat_map (λ c. name_writes (name_class_view c)) (take l.class-index l.classes))
