-- Methods of combining, and keys of which something holds, by their numbers.
use Rattle.std.specs.Prelude.{ℕ, suc, ◌≡◌, ◌<◌, Bool, true, false, List, length, Option, Some, None}
use Rattle.rn_text.specs.Texts.{Text}
use Rattle.rn_syntax.specs.declared.tree.Method.{Method}
use Rattle.rn_syntax.specs.declared.tree.Method.TheVariants as m
use Rattle.rn_assemble.specs.Components.{Component, Key, has_key, start_key}
use Rattle.rn_assemble.specs.Combine.{is_plain, is_choice, is_interleave, IsPlainTwice, IsMixed}
use Rattle.rn_assemble.specs.declared.by_key.checks.MethodFault.{MethodFault}
use Rattle.rn_assemble.specs.declared.by_key.checks.MethodFault.TheVariants.{PlainTwice, Mixed}
use Rattle.rn_assemble.specs.declared.reading.keys.KeyId.{KeyId}
use Rattle.rn_assemble.specs.declared.refusal.Refusal.{Refusal}
use Rattle.rn_assemble.specs.declared.refusal.Refusal.TheVariants as r
use Rattle.rn_assemble.specs.Least.{IsLeast, key_cmp}
use Rattle.rn_assemble.specs.Refused.{key_view}
use Rattle.rn_assemble.specs.inside.Keyed.{key_at}

-- whether a method is the one that is asked for
abbrev pub is_method : Method → Method → Bool
is_method m.Plain = is_plain
is_method m.Choice = is_choice
is_method m.Interleave = is_interleave

-- the fault stands against combining the components of the key (RELAX NG 2001, 4.17)
abbrev pub HasFault : MethodFault → List Component → Key → Type 0
HasFault PlainTwice cs k = IsPlainTwice k cs
HasFault Mixed cs k = IsMixed k cs

-- the number of the least key of which P holds, or it holds of none
abbrev pub IsLeastNumber : List Text → (Key → Type 0) → Option KeyId → Type 0
IsLeastNumber names P None = (k : ℕ) → k < suc (length names) → ¬ P (key_at names k)
IsLeastNumber names P (Some n) = (n.0 < suc (length names)) × P (key_at names n.0) × ((k : ℕ) → k < n.0 → ¬ P (key_at names k))

-- no key has two plain components, or components of both methods, and there is a start (RELAX NG 2001, 4.17, 4.18)
pub record CanCombine (cs : List Component) : Type 0 where
  pub plain_once : (k : Key) → ¬ IsPlainTwice k cs
  pub one_method : (k : Key) → ¬ IsMixed k cs
  pub start : has_key start_key cs ≡ true

-- the first refusal of components that stands, of those on methods and on the start
abbrev pub IsUncombined : List Component → Refusal → Type 0
IsUncombined cs (r.PlainTwice k) = IsLeast key_cmp (λ j. IsPlainTwice j cs) (key_view k)
IsUncombined cs (r.MixedMethods k) = IsLeast key_cmp (λ j. IsMixed j cs) (key_view k) × ((j : Key) → ¬ IsPlainTwice j cs)
IsUncombined cs r.NoStart = (has_key start_key cs ≡ false) × ((j : Key) → ¬ IsPlainTwice j cs) × ((j : Key) → ¬ IsMixed j cs)
IsUncombined cs r.Memory = Unit {0}
IsUncombined cs r = ⊥
