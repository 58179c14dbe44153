-- Merging lists that rise.
use Rattle.std.specs.Prelude.{◌≡◌, ◌≢◌, ◌⊎◌, true, false, not, List, [], ◌∷◌, ◌++◌}
use Rattle.std.specs.List.{AllByRecursion, filter}
use Rattle.std.specs.declared.cmp.Ordering.TheVariants.{Less}
use Rattle.rn_modset.specs.Contributions.{Member, member_cmp}
use Rattle.rn_modset.specs.Sets.{has}

-- the members of t that s lacks
abbrev pub missing : List Member → List Member → List Member
missing s t = filter (λ m. not (has s m)) t

-- the first of these, if there is one, is not below m
abbrev pub IsNotBelow : List Member → Member → Type 0
IsNotBelow [] m = Unit {0}
IsNotBelow (x ∷ xs) m = member_cmp x m ≢ Less

-- the rest has all of the list that is not below m
abbrev pub KeepsFrom : List Member → List Member → Member → Type 0
KeepsFrom s rest m = (q : Member) → member_cmp q m ≢ Less → has rest q ≡ has s q

-- the lists share no member
abbrev pub AreApart : List Member → List Member → Type 0
AreApart s t = (q : Member) → has s q ≡ true → has t q ≡ false

-- each of these is less than m
abbrev pub AreBelow : List Member → Member → Type 0
AreBelow s m = AllByRecursion (λ x. member_cmp x m ≡ Less) s

-- the first list ends in what is greater than all of the second, which is empty if the first is
abbrev pub EndsAbove : List Member → List Member → Type 0
EndsAbove s t = (s ≡ [] → t ≡ []) × ((front : List Member) (m : Member) → s ≡ front ++ m ∷ [] → AreBelow t m)

-- m is the greatest of two lists, and was taken from the end of one
abbrev pub TakesGreatest : List Member → List Member → List Member → List Member → Member → Type 0
TakesGreatest s t s_left t_left m =
    ((s ≡ s_left ++ m ∷ []) × (t_left ≡ t) × AreBelow t m) ⊎ ((t ≡ t_left ++ m ∷ []) × (s_left ≡ s) × AreBelow s m)
