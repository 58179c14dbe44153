-- The grammar to which components are joined, and what stands against it (RELAX NG 2001, 4.16, 4.17).
use Rattle.std.specs.Prelude.{◌≡◌, ℕ, true, List, ⊤}
use Rattle.rn_text.specs.Texts.{Text}
use Rattle.rn_pattern.specs.Matching.{Grammar}
use Rattle.rn_assemble.specs.declared.grammar.Grammar as code
use Rattle.rn_assemble.specs.declared.refusal.Refusal.{Refusal}
use Rattle.rn_assemble.specs.declared.refusal.Refusal.TheVariants as r
use Rattle.rn_assemble.specs.Components.{Key, Component, has_key, start_key}
use Rattle.rn_assemble.specs.Combine.{joined_grammar}
use Rattle.rn_assemble.specs.GrammarView.{grammar_view}
use Rattle.rn_assemble.specs.Least.{IsLeast, key_cmp}
use Rattle.rn_assemble.specs.WellFormed.{HasWritableTexts, IsWellFormed}
use Rattle.rn_assemble.specs.inside.ReferenceOrder.{AreDefinedKeys}
use Rattle.rn_assemble.specs.Refusal.{BreaksNameRules}
use Rattle.rn_assemble.specs.Refused.{key_view}
use Rattle.rn_assemble.specs.SettlingOrder.{IsSettlingOrder}

-- the grammar is well formed and can be written
abbrev pub IsSound : Grammar → Type 0
IsSound G = IsWellFormed G × HasWritableTexts G

-- what the components are joined to is sound where no key breaks the restrictions on name classes
abbrev pub AreSoundIfNamed : List Component → Type 0
AreSoundIfNamed cs = ((k : Key) → ¬ BreaksNameRules cs k) → IsSound (joined_grammar cs)

-- the components have a start, these keys are those that they define, and what they are joined to can be settled in this order, and is sound if its name classes are
pub record CanBeJoined (names : List Text) (cs : List Component) (defined order : List ℕ) : Type 0 where
  pub start : has_key start_key cs ≡ true
  pub defined_are : AreDefinedKeys names cs defined
  pub settles : IsSettlingOrder (joined_grammar cs) order
  pub sound : AreSoundIfNamed cs

-- the components' grammar, in which no key breaks the restrictions on name classes
pub record IsJoinedGrammar (cs : List Component) (g : code.Grammar) : Type 0 where
  pub is : grammar_view g ≡ joined_grammar cs
  pub keeps : (k : Key) → ¬ BreaksNameRules cs k

-- the least key that breaks the restrictions on name classes, or want of memory
abbrev pub IsMisnamed : List Component → Refusal → Type 0
IsMisnamed cs (r.NameClass k) = IsLeast key_cmp (BreaksNameRules cs) (key_view k)
IsMisnamed cs r.Memory = ⊤
IsMisnamed cs _ = ⊥
