-- Modules whose includes were followed: what is found of their components, in the order of the refusals.
use Rattle.std.proofs.Common.{◌≡◌, ◌↔◌, ℕ, ◌<◌, List, [], length, map, flat_map, Result, MatchResult, Contains, sym, ap, ◌∙◌, subst}
use Rattle.std.specs.List.{AllByRecursion}
use Rattle.std.specs.List.Sorted.{IsStrictlySortedBy}
use Rattle.std.proofs.lemmas.List.Folds.{flat_map-map}
use Rattle.std.proofs.lemmas.Result.{MatchResult-weaker}
use Rattle.rn_text.specs.Texts.{Text, text_cmp}
use Rattle.rn_pattern.proofs.Ordered.InOrder.{contained_each}
use Rattle.rn_assemble.specs.declared.grammar.Grammar.{Grammar}
use Rattle.rn_assemble.specs.declared.reading.key_rows.KeyRows.{KeyRows}
use Rattle.rn_assemble.specs.declared.refusal.Refusal as code
use Rattle.rn_assemble.specs.declared.including.segments.FollowedInclude.{FollowedInclude}
use Rattle.rn_assemble.specs.declared.including.segments.Segments.{Segments}
use Rattle.rn_assemble.specs.inside.Bringing.{IsLackIn}
use Rattle.rn_assemble.specs.inside.Checked.{AreExpanded, IsGrammarOf, IsFirstOfModules, KeepsWellFormed}
use Rattle.rn_assemble.specs.Components.{Component, Key, NamedModule, components, roots, set_components}
use Rattle.rn_assemble.specs.inside.Contained.{AreFlat}
use Rattle.rn_assemble.specs.inside.ContentsOf.{name_at}
use Rattle.rn_assemble.specs.GrammarView.{grammar_view}
use Rattle.rn_assemble.specs.inside.Included.{AreIncluded}
use Rattle.rn_assemble.specs.inside.Joining.{CanBeJoined, IsJoinedGrammar, IsMisnamed}
use Rattle.rn_assemble.specs.inside.Lacking.{LacksFrom}
use Rattle.rn_assemble.specs.inside.Methods.{CanCombine}
use Rattle.rn_assemble.specs.inside.Rows.{AreRows}
use Rattle.rn_assemble.specs.inside.Segments.{AreSegmentsOf, IsBrought}
use Rattle.rn_assemble.specs.Refusal.{Lacks}
use Rattle.rn_assemble.specs.Combine.{joined_grammar}
use Rattle.rn_assemble.specs.SettlingOrder.{IsSettlingOrder}
use Rattle.rn_assemble.specs.inside.ReferenceOrder.{AreDefinedKeys}
use Rattle.rn_assemble.specs.inside.Sound.{HasSoundReferences}
use Rattle.rn_assemble.proofs.Answering.FirstRefusal.{NoneBelow, none_included, none_lacking, none_combined, none_named, none_sound, misnamed_first, joined_grammar_of}
use Rattle.rn_assemble.proofs.Expansion.Lacking.{lacks_alike}

-- the components of the roots are those of the set
from_roots : (modules : List NamedModule) (numbers : List ℕ) → AreIncluded modules numbers → flat_map (λ n. components modules (name_at modules n) []) numbers ≡ set_components modules
from_roots modules numbers a =
    let f : Text → List Component = λ x. components modules x [] in
    sym (flat_map-map f (name_at modules) numbers) ∙ ap (flat_map f) a.are ∙ flat_map-map f (λ (m : NamedModule). m.name) (roots modules)

pub expanded : (modules : List NamedModule) (names : List Text) (rows : KeyRows) (x : Segments) (numbers : List ℕ) → IsStrictlySortedBy text_cmp (map (λ (m : NamedModule). m.name) modules) → AllByRecursion (λ (m : NamedModule). AreFlat m.tree.items) modules
    → AreIncluded modules numbers → AreRows modules names rows.rows.items → AreSegmentsOf modules x (flat_map (λ n. components modules (name_at modules n) []) numbers)
    → ((y : Text) (k : Key) → IsLackIn modules x.list.items x.brought.items y k ↔ LacksFrom modules numbers y k) → AreExpanded modules names rows x
expanded modules names rows x numbers o flat a are segments found = record {
  numbers = numbers;
  included = a;
  modules_in_order = o;
  in_order = are.names_are.in_order;
  rows_are = are;
  segments_are = subst (AreSegmentsOf modules x) (from_roots modules numbers a) segments;
  lacks = λ y k. let alike = lacks_alike modules numbers o flat a y k in ((λ l. alike.0 ((found y k).0 l)), (λ l. (found y k).1 (alike.1 l)));
}

module _ (modules : List NamedModule) (names : List Text) (rows : KeyRows) (x : Segments) (h : AreExpanded modules names rows x) where
  -- the module of each include that was followed is there
  pub brought_within : (b : FollowedInclude) → Contains x.brought.items b → b.«module».0 < length modules
  brought_within b c = (contained_each (IsBrought modules x.contents.now x.list.items) x.brought.items h.segments_are.brought b c).module_within

  pub passed_includes : NoneBelow modules 5
  passed_includes = none_included modules h.numbers h.included

  module _ (never : (y : Text) (k : Key) → ¬ Lacks modules y k) where
    pub passed_overrides : NoneBelow modules 6
    passed_overrides = none_lacking modules passed_includes never

    module _ (can : CanCombine (set_components modules)) where
      pub passed_methods : NoneBelow modules 9
      passed_methods = none_combined modules passed_overrides can

      module _ (sound : HasSoundReferences (set_components modules)) where
        passed_references : NoneBelow modules 11
        passed_references = none_sound modules passed_methods sound

        -- the components have a start, these are the keys that they define, and what they are joined to can be settled in the order
        pub can_be_joined : KeepsWellFormed modules → (defined order : List ℕ) → AreDefinedKeys names (set_components modules) defined → IsSettlingOrder (joined_grammar (set_components modules)) order → CanBeJoined names (set_components modules) defined order
        can_be_joined kept defined order d o = record { start = can.start; defined_are = d; settles = o; sound = λ keeps. kept (none_named modules passed_references keeps) }

        pub joined_or_first : (r : Result Grammar code.Refusal) → MatchResult r (IsJoinedGrammar (set_components modules)) (IsMisnamed (set_components modules)) → MatchResult r (λ g. IsGrammarOf modules (grammar_view g)) (IsFirstOfModules modules)
        joined_or_first r found = MatchResult-weaker r found (joined_grammar_of modules passed_references) (misnamed_first modules passed_references)
