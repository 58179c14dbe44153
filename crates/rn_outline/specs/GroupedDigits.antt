-- Numbers as sentences show them.
use Rattle.std.specs.Prelude.{ℕ, ◌%◌, ◌==◌, List, [], ◌∷◌, ◌++◌, length, decimal, if◌then◌else◌}

-- what stands before these digits: a comma, where they are three, or six, or nine, and so on
abbrev pub comma_before : List ℕ → List ℕ
comma_before [] = []
comma_before (d ∷ ds) = if length (d ∷ ds) % 3 == 0 then 44 ∷ [] else []

-- the digits in threes from the right, with a comma between each two
abbrev pub with_commas : List ℕ → List ℕ
with_commas [] = []
with_commas (d ∷ ds) = d ∷ (comma_before ds ++ with_commas ds)

-- what is shown of a number
abbrev pub grouped_digits : ℕ → List ℕ
grouped_digits n = with_commas (decimal n)
