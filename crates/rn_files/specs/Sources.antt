-- Sources: files that were read, with what they refer to.
use Rattle.std.specs.Prelude.{◌≡◌, ℕ, ◌<◌, ◌≢◌, true, List, [], ◌∷◌, map, All, length, count_by, string_bytes, ⊤}
use Rattle.rn_outline.specs.Links.{is_link}
use Rattle.rn_modset.specs.Contributions.{is_module_name}
use Rattle.rn_graph.specs.Graph.{IsGraph}
use Rattle.rn_graph.specs.Ranks.{HasNoLoop}
use Rattle.rn_files.specs.declared.sources.SourceFile.{SourceFile}
use Rattle.rn_files.specs.declared.sources.Sources.{Sources}

-- for each file, the numbers of those that its includes and externals mean
abbrev pub edges_of : List SourceFile → List (List ℕ)
edges_of files = map (λ (f : SourceFile). f.targets.items) files

-- how many includes and externals a file has
abbrev pub count_links : SourceFile → ℕ
count_links f = count_by is_link f.outline.parts.items

-- no file has the name of one after it
abbrev pub HaveOwnNames : List SourceFile → Type 0
HaveOwnNames [] = ⊤
HaveOwnNames (f ∷ fs) = All (λ g. string_bytes f.name ≢ string_bytes g.name) fs × HaveOwnNames fs

-- targets and roots are numbers of files, and each include and external has a target; no file comes back to itself; and
-- names are those of modules, each of one file
pub record AreSoundSources (s : Sources) : Type 0 where
  pub targets : IsGraph (edges_of s.files.items)
  pub links : All (λ f. length f.targets.items ≡ count_links f) s.files.items
  pub no_loop : HasNoLoop (edges_of s.files.items)
  pub roots : All (λ r. r < length s.files.items) s.roots.items
  pub names : All (λ f. is_module_name (string_bytes f.name) ≡ true) s.files.items
  pub own_names : HaveOwnNames s.files.items
