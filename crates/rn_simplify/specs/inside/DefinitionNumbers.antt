-- Definitions by their numbers, and what references to them become.
use Rattle.std.specs.Prelude.{◌≡◌, ℕ, Bool, List, Some, Contains, Decides, map, bytes_eq}
use Rattle.std.specs.List.{filter_map}
use Rattle.std.specs.Map.{lookup}
use Rattle.rn_pattern.specs.Tree.{Tree, Trees}
use Rattle.rn_text.specs.Texts.{Text}
use Rattle.rn_pattern.specs.Matching.{Grammar}
use Rattle.rn_graph.specs.Graph.{Reached, is_marked}
use Rattle.rn_pattern.specs.Canonical.{canonical, ref_unless_settled}
use Rattle.rn_simplify.specs.inside.ReferredNames.{all_references, references}
pub use Rattle.rn_assemble.specs.SettlingOrder.{number_of}

-- the numbers of the names that have a definition
abbrev pub numbers_of : List (Text × Tree) → List Text → List ℕ
numbers_of ds xs = filter_map (number_of ds) xs

-- the numbers of the definitions that a pattern refers to, or that patterns do
abbrev pub reference_numbers : List (Text × Tree) → Tree → List ℕ
reference_numbers ds p = numbers_of ds (references p)

abbrev pub all_reference_numbers : List (Text × Tree) → Trees → List ℕ
all_reference_numbers ds ps = numbers_of ds (all_references ps)

-- of each of the definitions es, the numbers in ds of what it refers to
abbrev pub rows_by : List (Text × Tree) → List (Text × Tree) → List (List ℕ)
rows_by ds es = map (λ e. numbers_of ds (references e.1)) es

-- the graph of the references of a grammar, and what its start refers to
abbrev pub graph_of : Grammar → List (List ℕ)
graph_of G = rows_by G.definitions G.definitions

abbrev pub start_of : Grammar → List ℕ
start_of G = numbers_of G.definitions (references G.start)

-- each mark tells whether the start reaches the definition of its number
abbrev pub MarksReached : Grammar → List Bool → Type 0
MarksReached G marks = (k : ℕ) → Decides (is_marked marks k) (Reached (graph_of G) (start_of G) k)

-- the references to each definition whose number is in the list become what its canonical form is
abbrev pub AreSettled : List (Text × Tree) → List ℕ → (Text → Tree) → Type 0
AreSettled ds numbers t = (x : Text) (k : ℕ) (p : Tree) → number_of ds x ≡ Some k → lookup (bytes_eq x) ds ≡ Some p → Contains numbers k → t x ≡ ref_unless_settled x (canonical t p)
