-- Members of a joined list that are the same as an earlier one (RELAX NG 2001, 4.17).
use Rattle.std.specs.Prelude.{ℕ, ◌≡◌, ◌≤◌, List, [], slice_get, slice_index_or, Some}
use Rattle.rn_pattern.specs.Tree.{Tree, interleave, choice, list_of}

-- the members of the list that several components are joined to
abbrev pub joined_members : Tree → List Tree
joined_members (interleave ps) = list_of ps
joined_members (choice ps) = list_of ps
joined_members p = []

-- the first place of each member, which is not behind it, has a member that is the same
abbrev pub AreFirstsBy : (Tree → Tree → Type 0) → List ℕ → List Tree → Type 0
AreFirstsBy Same firsts members = (i j : ℕ) (p : Tree) → slice_get firsts i ≡ Some j → slice_get members i ≡ Some p
    → (j ≤ i) × Same (slice_index_or members j p) p

abbrev pub AreFirsts : List ℕ → List Tree → Type 0
AreFirsts = AreFirstsBy (λ p q. p ≡ q)
