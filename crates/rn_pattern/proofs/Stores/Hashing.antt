-- What is hashed of a list, entry by entry.
use Rattle.std.proofs.Common.{◌≡◌, ◌<◌, ◌+◌, ◌++◌, ℕ, List, [], ◌∷◌, length, take, get_or, flat_map, fold, refl, ap, ◌∙◌}
use Rattle.std.specs.Hash.{fed_then}
use Rattle.rn_pattern.specs.Tree.{NameTree, name_trees_of}
use Rattle.rn_pattern.specs.inside.Hashing.{name_writes, names_writes}
use Rattle.rn_pattern.proofs.Stores.Gathering.{flat_map-more}

pub fed_more : {X S : Type 0} (write : S → List ℕ → S) (before s after : S) (f : X → List (List ℕ)) (xs : List X) (k : ℕ) (d : X) → k < length xs → s ≡ fold write before (flat_map f (take k xs)) → after ≡ fold write s (f (get_or xs k d)) → after ≡ fold write before (flat_map f (take (k + 1) xs))
fed_more write before s after f xs k d inside h g =
    fed_then write before s after (flat_map f (take k xs)) (f (get_or xs k d)) h g
    ∙ ap (fold write before) (flat_map-more f xs k d inside (flat_map f (take k xs)) refl (f (get_or xs k d)) refl)

pub names_writes-list : (cs : List NameTree) → names_writes (name_trees_of cs) ≡ flat_map name_writes cs
names_writes-list [] = refl
names_writes-list (c ∷ cs) = ap (λ t. name_writes c ++ t) (names_writes-list cs)
