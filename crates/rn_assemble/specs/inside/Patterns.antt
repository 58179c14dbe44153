-- The patterns of keys in the code.
use Rattle.std.specs.Prelude.{ℕ, zero, suc, ◌≡◌, min, Bool, true, false, List, [], ◌∷◌, ◌++◌, map, Option, Some, None, Contains, Vec, ⊤}
use Rattle.std.specs.Option.{option_map_or}
use Rattle.std.specs.List.{AllByRecursion}
use Rattle.std.specs.declared.alloc.Global.{Global}
use Rattle.std.specs.declared.rc.Rc.{Rc}
use Rattle.rn_pattern.specs.NameRules.{KeepsNameRules}
use Rattle.rn_pattern.specs.Tree.{Tree}
use Rattle.rn_pattern.specs.View.{pattern_view, shared_view}
use Rattle.rn_pattern.specs.declared.tree.Pattern.{Pattern}
use Rattle.rn_assemble.specs.declared.by_key.combining.Joined.{Joined}
use Rattle.rn_assemble.specs.declared.refusal.Refusal.{Refusal}
use Rattle.rn_assemble.specs.declared.refusal.Refusal.TheVariants as r
use Rattle.rn_assemble.specs.Components.{Component, Key}
use Rattle.rn_assemble.specs.Combine.{joined_pattern}
use Rattle.rn_assemble.specs.Firsts.{joined_members}
use Rattle.rn_assemble.specs.Refusal.{BreaksNameRules}
use Rattle.rn_assemble.specs.Resolve.{resolved_pattern}
use Rattle.rn_assemble.specs.declared.reading.key_rows.WrittenComponent as code
use Rattle.rn_syntax.specs.Tree.{Declaration}
use Rattle.rn_syntax.specs.View.{boxed_view}
use Rattle.rn_text.specs.Texts.{Text}
use Rattle.rn_assemble.specs.Refused.{key_view}
use Rattle.rn_assemble.specs.inside.Tied.{AreTied}

-- the refusal of a key, for this reason, or want of memory
abbrev pub IsMisnamedAs : Key → Type 0 → Refusal → Type 0
IsMisnamedAs k Why (r.NameClass j) = (key_view j ≡ k) × Why
IsMisnamedAs k Why r.Memory = ⊤
IsMisnamedAs k Why _ = ⊥

-- the refusal of the key, since one of its components breaks the restrictions on name classes
abbrev pub IsMisnamedAt : List Component → Key → Refusal → Type 0
IsMisnamedAt cs k = IsMisnamedAs k (BreaksNameRules cs k)

-- what is joined under a key that keeps the restrictions on name classes, with the first members of its list; none under one that breaks them
abbrev pub IsJoined : List Component → Key → Option Joined → Type 0
IsJoined cs k None = BreaksNameRules cs k
IsJoined cs k (Some j) = (pattern_view j.pattern ≡ joined_pattern cs k) × (¬ BreaksNameRules cs k) × AreTied j.firsts.items (joined_members (joined_pattern cs k))

-- the key or the noted one, whichever is less
abbrev pub lesser : ℕ → Option ℕ → Option ℕ
lesser key least = Some (option_map_or (min key) least key)

-- a pattern that keeps the restrictions on name classes; none where it breaks them
abbrev pub IsResolved : Tree → Option Pattern → Type 0
IsResolved t None = ¬ KeepsNameRules t
IsResolved t (Some p) = (pattern_view p ≡ t) × KeepsNameRules t

-- what a single pattern is joined to
abbrev pub IsJoinedTo : Tree → Option Joined → Type 0
IsJoinedTo t None = ¬ KeepsNameRules t
IsJoinedTo t (Some j) = (pattern_view j.pattern ≡ t) × KeepsNameRules t × (j.firsts.items ≡ [])

-- patterns that all keep the restrictions; none where one breaks them
abbrev pub AreResolved : List Tree → Option (Vec (Rc Pattern Global) Global) → Type 0
AreResolved ts None = (t : Tree) × Contains ts t × ¬ KeepsNameRules t
AreResolved ts (Some ps) = (map shared_view ps.items ≡ ts) × AllByRecursion KeepsNameRules ts

-- the patterns of components with their names resolved
abbrev pub resolved_bodies : Text → List Declaration → List code.WrittenComponent → List Tree
resolved_bodies inherited ds ws = map (λ (w : code.WrittenComponent). resolved_pattern inherited ds (boxed_view w.body)) ws

-- the patterns of these components were added behind the old ones, and all keep the restrictions; or one breaks them
abbrev pub AddsResolved : Text → List Declaration → List code.WrittenComponent → (old new : List (Rc Pattern Global)) → Bool → Type 0
AddsResolved inherited ds ws old new true = (map shared_view new ≡ map shared_view old ++ resolved_bodies inherited ds ws) × AllByRecursion KeepsNameRules (resolved_bodies inherited ds ws)
AddsResolved inherited ds ws old new false = (t : Tree) × Contains (resolved_bodies inherited ds ws) t × ¬ KeepsNameRules t

-- so many numbers, each one more than the one before it
abbrev pub numbers_from : (begin count : ℕ) → List ℕ
numbers_from begin zero = []
numbers_from begin (suc n) = begin ∷ numbers_from (suc begin) n
