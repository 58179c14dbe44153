-- What is known of modules whose includes were followed, and what is found of their components.
use Rattle.std.specs.Prelude.{ℕ, ◌≡◌, ◌↔◌, List, map, MatchOption, ⊤}
use Rattle.std.specs.List.Sorted.{IsStrictlySortedBy}
use Rattle.std.specs.String.{string_bytes}
use Rattle.rn_text.specs.Texts.{Text, text_cmp}
use Rattle.rn_pattern.specs.Matching.{Grammar}
use Rattle.rn_assemble.specs.declared.reading.key_rows.KeyRows.{KeyRows}
use Rattle.rn_assemble.specs.declared.including.segments.Segments.{Segments}
use Rattle.rn_assemble.specs.declared.refusal.Refusal as code
use Rattle.rn_assemble.specs.declared.refusal.Refusal.TheVariants as r
use Rattle.rn_assemble.specs.Components.{Key, NamedModule, set_components}
use Rattle.rn_assemble.specs.inside.Bringing.{IsLackIn}
use Rattle.rn_assemble.specs.inside.Included.{AreIncluded}
use Rattle.rn_assemble.specs.inside.Joining.{IsSound}
use Rattle.rn_assemble.specs.inside.Rows.{AreRows}
use Rattle.rn_assemble.specs.inside.Segments.{AreSegmentsOf}
use Rattle.rn_assemble.specs.Refusal.{Refusal, override, IsFirstFor, Lacks, StandsFor, grammar_of}
use Rattle.rn_assemble.specs.Refused.{key_view, refusal_view}

-- the modules come in the order of their names, no include refuses them, and these are the rows of their components by the numbers of these names, and their segments; an include that overrides what it didn't bring in is a lack of its module
pub record AreExpanded (modules : List NamedModule) (names : List Text) (rows : KeyRows) (x : Segments) : Type 0 where
  pub numbers : List ℕ
  pub included : AreIncluded modules numbers
  pub modules_in_order : IsStrictlySortedBy text_cmp (map (λ (m : NamedModule). m.name) modules)
  pub in_order : IsStrictlySortedBy text_cmp names
  pub rows_are : AreRows modules names rows.rows.items
  pub segments_are : AreSegmentsOf modules x (set_components modules)
  pub lacks : (y : Text) (k : Key) → IsLackIn modules x.list.items x.brought.items y k ↔ Lacks modules y k

-- the first refusal that stands for the modules, or want of memory
abbrev pub IsFirstOfModules : List NamedModule → code.Refusal → Type 0
IsFirstOfModules modules q = MatchOption (refusal_view q) (q ≡ r.Memory) (IsFirstFor modules)

-- the least override of what isn't there, or want of memory
abbrev pub IsLacking : List NamedModule → code.Refusal → Type 0
IsLacking modules (r.Override m k) = StandsFor modules (override (string_bytes m) (key_view k))
IsLacking modules r.Memory = ⊤
IsLacking modules _ = ⊥

-- where no refusal stands for the modules, their grammar is well formed and can be written
abbrev pub KeepsWellFormed : List NamedModule → Type 0
KeepsWellFormed modules = ((q : Refusal) → ¬ StandsFor modules q) → IsSound (grammar_of modules)

-- no refusal stands for the modules, and this is their grammar
abbrev pub IsGrammarOf : List NamedModule → Grammar → Type 0
IsGrammarOf modules g = ((q : Refusal) → ¬ StandsFor modules q) × (g ≡ grammar_of modules)
