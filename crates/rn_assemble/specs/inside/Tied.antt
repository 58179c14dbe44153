-- Members of a joined list that the code finds to be the same: first places, and the bodies that tell them (RELAX NG 2001, 4.17).
use Rattle.std.specs.Prelude.{ℕ, ◌≡◌, ◌<◌, List, length, slice_index_or, map, Vec}
use Rattle.std.specs.declared.alloc.Global.{Global}
use Rattle.std.specs.Coded.{×_prop, Π_prop, le_prop}
use Rattle.std.specs.Ordering.{Ordering-set}
use Rattle.std.specs.declared.cmp.Ordering.TheVariants.{Equal}
use Rattle.rn_graph.specs.Graph.{row}
use Rattle.rn_pattern.specs.Order.{tree_cmp}
use Rattle.rn_pattern.specs.Tree.{Tree}
use Rattle.rn_text.specs.Texts.{Text}
use Rattle.rn_assemble.specs.Firsts.{AreFirstsBy, joined_members}

-- first places whose members the order of patterns takes for equal; it tells different ones apart
abbrev pub AreTied : List ℕ → List Tree → Type 0
AreTied = AreFirstsBy (λ p q. tree_cmp p q ≡ Equal)

-- the lists of first places
abbrev pub firsts_of : List (Vec ℕ Global) → List (List ℕ)
firsts_of vs = map (λ (v : Vec ℕ Global). v.items) vs

-- the first places of the members of each definition
abbrev pub HaveTied : List (List ℕ) → List (Text × Tree) → Type 0
HaveTied rows ds = (n : ℕ) (d : Text × Tree) → n < length ds → AreTied (row rows n) (joined_members (slice_index_or ds n d).1)

-- each has one proof at most, so that structs can hold it
pub AreTied-prop : (firsts : List ℕ) (members : List Tree) → IsProp (AreTied firsts members)
AreTied-prop firsts members = Π_prop (λ i. Π_prop (λ j. Π_prop (λ p. Π_prop (λ at. Π_prop (λ is. ×_prop le_prop (Ordering-set _ _))))))

pub HaveTied-prop : (rows : List (List ℕ)) (ds : List (Text × Tree)) → IsProp (HaveTied rows ds)
HaveTied-prop rows ds = Π_prop (λ n. Π_prop (λ d. Π_prop (λ l. AreTied-prop _ _)))
