-- The graph of what files refer to: its numbers, its links, and its loops.
use Rattle.std.proofs.Common.{◌≡◌, ◌≢◌, false, not, ℕ, suc, zero, ◌<◌, ◌+◌, ◌==◌, ◌∙◌, true, List, [], ◌∷◌, ◌++◌, length, take, get_or, ap, subst, sym, arith}
use Rattle.std.specs.Prelude.{nat_lt, All, Err, IfOk, MatchOption, None, Ok, Option, Result, Some, Vec, string_bytes}
use Rattle.std.specs.List.{list_all}
use Rattle.std.specs.Str.{bytes_eq}
use Rattle.std.specs.declared.alloc.Global.{Global}
use Rattle.std.proofs.lemmas.Bool.{and_parts, false≢true, ltb-true}
use Rattle.std.proofs.lemmas.Bool.Decides.{nat_tests}
use Rattle.std.proofs.lemmas.Slice.Eq.{bytes_eq-Decides}
use Rattle.std.proofs.lemmas.List.{length-map, map-append, take_more}
use Rattle.std.proofs.lemmas.List.Elements.{All-contains, All-weaker, All-head, All-tail}
use Rattle.std.proofs.lemmas.List.Sums.{AllPass-from_list_all}
use Rattle.rn_files.specs.declared.sources.SourceFile.{SourceFile}
use Rattle.rn_files.specs.declared.sources.Sources.{Sources}
use Rattle.rn_files.specs.Sources.{HaveOwnNames, count_links, edges_of, AreSoundSources}
use Rattle.rn_files.specs.inside.Sources.{differ_in_name, have_own_names}
use Rattle.rn_modset.specs.Contributions.{is_module_name}
use Rattle.rn_graph.specs.Graph.{AllBelow, row, IsGraph}
use Rattle.rn_graph.specs.Loops.{IsLoop}
use Rattle.rn_graph.specs.Ranks.{HasNoLoop, IsFirstLoop, Leads}

-- numbers that were tested are less
pub all_less : (n : ℕ) (xs : List ℕ) → list_all (λ x. nat_lt x n) xs ≡ true → All (λ x. x < n) xs
all_less n xs h = All-weaker (λ x. nat_lt x n ≡ true) (λ x. x < n) (λ x. ltb-true x n) xs (AllPass-from_list_all (λ x. nat_lt x n) xs h)

abbrev IsTested : ℕ → SourceFile → Type 0
IsTested n f = list_all (λ x. nat_lt x n) f.targets.items ≡ true

rows_below : (n : ℕ) (files : List SourceFile) → All (IsTested n) files → (x : ℕ) → AllBelow n (row (edges_of files) x)
rows_below n [] h x y c = let bad : c.0 < 0 = c.1 in omega arith
rows_below n (f ∷ fs) h zero y c = All-contains (λ x. x < n) f.targets.items y (all_less n f.targets.items (All-head (IsTested n) f fs h)) c
rows_below n (f ∷ fs) h (suc x) y c = rows_below n fs (All-tail (IsTested n) f fs h) x y c

-- files whose targets were tested are a graph
pub graph_if : (files : List SourceFile) → list_all (λ (f : SourceFile). list_all (λ x. nat_lt x (length files)) f.targets.items) files ≡ true → IsGraph (edges_of files)
graph_if files h =
    let each : All (IsTested (length files)) files = AllPass-from_list_all (λ (f : SourceFile). list_all (λ x. nat_lt x (length files)) f.targets.items) files h in
    let P : ℕ → Type 0 = λ n. (x : ℕ) → AllBelow n (row (edges_of files) x) in
    subst P (sym (length-map files (λ (f : SourceFile). f.targets.items))) (rows_below (length files) files each)

-- the loop through the first node that comes back to itself
pub loop_of_first : {E : Type 0} (rows : List (List ℕ)) (first : ℕ) (r : Result (Option (Vec ℕ Global)) E) → IsFirstLoop rows first
    → IfOk r (λ found. MatchOption found (¬ Leads rows first first) (λ nodes. IsLoop rows first nodes.items))
    → IfOk r (λ found. MatchOption found (HasNoLoop rows) (λ nodes. (x : ℕ) × IsFirstLoop rows x × IsLoop rows x nodes.items))
loop_of_first rows first (Ok None) is none = absurd (none is.holds)
loop_of_first rows first (Ok (Some nodes)) is looped = (first, is, looped)
loop_of_first rows first (Err e) is looped = tt

-- a file's row behind those of the files before it
pub one_row_more : (rows more : List (List ℕ)) (xs : List ℕ) (files : List SourceFile) (i : ℕ) (file : SourceFile) → i < length files
    → file ≡ get_or files i file → xs ≡ file.targets.items → rows ≡ edges_of (take i files) → more ≡ rows ++ xs ∷ [] → more ≡ edges_of (take (i + 1) files)
one_row_more rows more xs files i file within is same before added =
    added
    ∙ ap (λ z. z ++ (xs ∷ [])) before
    ∙ ap (λ z. edges_of (take i files) ++ (z ∷ [])) (same ∙ ap (λ (f : SourceFile). f.targets.items) is)
    ∙ sym (ap edges_of (take_more files i file within) ∙ map-append (λ (f : SourceFile). f.targets.items) (take i files) (get_or files i file ∷ []))

abbrev HasTargets : SourceFile → Type 0
HasTargets f = length f.targets.items ≡ count_links f

same_number : (a b : ℕ) → (a == b) ≡ true → a ≡ b
same_number a b h = grind (arith, nat_tests)

same_if : (f : SourceFile) → (length f.targets.items == count_links f) ≡ true → HasTargets f
same_if f h = same_number (length f.targets.items) (count_links f) h

name_differs : (f g : SourceFile) → differ_in_name f g ≡ true → string_bytes f.name ≢ string_bytes g.name
name_differs f g h e =
    let same : bytes_eq (string_bytes f.name) (string_bytes g.name) ≡ true = (bytes_eq-Decides (string_bytes f.name) (string_bytes g.name)).1 e in
    false≢true (sym (ap not same) ∙ h)

-- names that were tested are apart
own_names : (fs : List SourceFile) → have_own_names fs ≡ true → HaveOwnNames fs
own_names [] h = tt
own_names (f ∷ fs) h =
    let each = and_parts (list_all (differ_in_name f) fs) (have_own_names fs) h in (
      All-weaker (λ g. differ_in_name f g ≡ true) (λ g. string_bytes f.name ≢ string_bytes g.name) (name_differs f) fs
          (AllPass-from_list_all (differ_in_name f) fs each.0),
      own_names fs each.1,
    )

-- what was tested of sources holds of them
pub tested_sources : (s : Sources) (rows : List (List ℕ)) (files : List SourceFile) (roots : List ℕ) (count : ℕ)
    → files ≡ s.files.items → roots ≡ s.roots.items → count ≡ length files → rows ≡ edges_of files
    → list_all (λ (f : SourceFile). list_all (λ x. nat_lt x (length files)) f.targets.items) files ≡ true → list_all (λ x. nat_lt x count) roots ≡ true
    → list_all (λ (f : SourceFile). is_module_name (string_bytes f.name)) files ≡ true
    → list_all (λ (f : SourceFile). length f.targets.items == count_links f) files ≡ true → have_own_names files ≡ true
    → HasNoLoop rows → AreSoundSources s
tested_sources s rows files roots count same same_roots counted are graph below named linked own no_loop =
    let H : List (List ℕ) → Type 0 = λ z. HasNoLoop z in
    let T : List SourceFile → Type 0 = λ z. IsGraph (edges_of z) in
    let U : List SourceFile → Type 0 = λ z. HasNoLoop (edges_of z) in
    let N : List SourceFile → Type 0 = λ z. All (λ (f : SourceFile). is_module_name (string_bytes f.name) ≡ true) z in
    let L : List SourceFile → Type 0 = λ z. All HasTargets z in
    let O : List SourceFile → Type 0 = λ z. HaveOwnNames z in
    let R : List ℕ → Type 0 = λ z. All (λ r. r < length s.files.items) z in
    let C : ℕ → Type 0 = λ n. All (λ r. r < n) roots in
    record {
      targets = subst T same (graph_if files graph);
      links = subst L same
          (All-weaker (λ (f : SourceFile). (length f.targets.items == count_links f) ≡ true) HasTargets same_if files
          (AllPass-from_list_all (λ (f : SourceFile). length f.targets.items == count_links f) files linked));
      no_loop = subst U same (subst H are no_loop);
      roots = subst R same_roots (subst C (counted ∙ ap (λ z. length z) same) (all_less count roots below));
      own_names = subst O same (own_names files own);
      names = subst N same (AllPass-from_list_all (λ (f : SourceFile). is_module_name (string_bytes f.name)) files named);
    }
