-- References of components: to what is defined, and not back to themselves outside elements.
use Rattle.std.specs.Prelude.{List, ⊤}
use Rattle.std.specs.String.{string_bytes}
use Rattle.rn_text.specs.Texts.{Text, text_cmp}
use Rattle.rn_pattern.specs.References.{IsUndefined, IsRecursive}
use Rattle.rn_assemble.specs.Components.{Component}
use Rattle.rn_assemble.specs.Combine.{joined_grammar}
use Rattle.rn_assemble.specs.Least.{IsLeast}
use Rattle.rn_assemble.specs.declared.refusal.Refusal.{Refusal}
use Rattle.rn_assemble.specs.declared.refusal.Refusal.TheVariants as r

-- every name that is referred to is defined, and none that is reached comes back to itself outside elements (RELAX NG 2001, 4.18, 4.19)
pub record HasSoundReferences (cs : List Component) : Type 0 where
  pub defined : (x : Text) → ¬ IsUndefined (joined_grammar cs) x
  pub loop_free : (x : Text) → ¬ IsRecursive (joined_grammar cs) x

-- the first refusal of references that stands
abbrev pub IsUnsound : List Component → Refusal → Type 0
IsUnsound cs (r.Undefined x) = IsLeast text_cmp (IsUndefined (joined_grammar cs)) (string_bytes x)
IsUnsound cs (r.Recursive x) = IsLeast text_cmp (IsRecursive (joined_grammar cs)) (string_bytes x) × ((y : Text) → ¬ IsUndefined (joined_grammar cs) y)
IsUnsound cs r.Memory = ⊤
IsUnsound cs _ = ⊥
