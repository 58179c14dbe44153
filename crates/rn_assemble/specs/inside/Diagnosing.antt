-- What stands against a set, as it is found: the components of a key in the segments that have them.
use Rattle.std.specs.Prelude.{ℕ, ◌<◌, ◌≤◌, ◌≡◌, ◌+◌, ◌⊎◌, Bool, true, List, [], ◌∷◌, ◌++◌, length, map, count_by, slice_get, slice_range, sum_by, Option, Some, None, Contains}
use Rattle.std.specs.List.{AllByRecursion}
use Rattle.std.specs.List.Sorted.{IsStrictlySortedBy}
use Rattle.std.specs.Ordering.{nat_cmp, ordering_then}
use Rattle.std.specs.declared.cmp.Ordering.{Ordering}
use Rattle.rn_syntax.specs.declared.tree.Method.{Method}
use Rattle.rn_text.specs.Texts.{Text, text_cmp}
use Rattle.rn_pattern.specs.References.{IsUndefined}
use Rattle.rn_pattern.specs.declared.references.Reach.{Reach}
use Rattle.rn_assemble.specs.Combine.{joined_grammar}
use Rattle.rn_assemble.specs.Components.{Component, Key, NamedModule}
use Rattle.rn_assemble.specs.Diagnosed.{AreFindingsInOrder, ArePlaced, AreTrue, IsOwnDefinition, IsReference, IsTrueFor, finding_refusal}
use Rattle.rn_assemble.specs.Refusal.{Refusal, rank}
use Rattle.rn_assemble.specs.declared.diagnosing.findings.Finding.{Finding}
use Rattle.rn_assemble.specs.declared.diagnosing.findings.Finding.TheVariants as f
use Rattle.rn_assemble.specs.declared.diagnosing.findings.Lack.{Lack}
use Rattle.rn_assemble.specs.declared.diagnosing.occurrences.Occurrence.{Occurrence}
use Rattle.rn_assemble.specs.declared.diagnosing.places.ComponentPlace.{ComponentPlace}
use Rattle.rn_assemble.specs.declared.diagnosing.places.IncludePlace.{IncludePlace}
use Rattle.rn_assemble.specs.declared.diagnosing.undefined_names.UndefinedName.{UndefinedName}
use Rattle.rn_assemble.specs.declared.including.pieces.Piece.{Piece}
use Rattle.rn_assemble.specs.declared.including.segments.FollowedInclude.{FollowedInclude}
use Rattle.rn_assemble.specs.declared.including.segments.Segments.{Segments}
use Rattle.rn_assemble.specs.declared.reading.key_rows.KeyRows.{KeyRows}
use Rattle.rn_assemble.specs.declared.reading.key_rows.WrittenComponent as code
use Rattle.rn_assemble.specs.declared.reading.keys.KeyId.{KeyId}
use Rattle.rn_assemble.specs.inside.Checked.{AreExpanded}
use Rattle.rn_assemble.specs.inside.Keyed.{key_at}
use Rattle.rn_assemble.specs.inside.Methods.{is_method}
use Rattle.rn_assemble.specs.inside.Referred.{IsMarkedName, references_at}
use Rattle.rn_assemble.specs.inside.Segments.{IsLackOf}

-- the place of a component
abbrev pub place_of : code.WrittenComponent → ComponentPlace
place_of w = record { «module» = w.module; number = w.number }

-- the finding says that the key has two plain definitions, those of the row at these indices
pub record SaysPlainTwice (key : KeyId) (row : List code.WrittenComponent) (first second : ℕ) (x : Finding) : Type 0 where
  pub one : code.WrittenComponent
  pub one_at : slice_get row first ≡ Some one
  pub other : code.WrittenComponent
  pub other_at : slice_get row second ≡ Some other
  pub parting : Option (IncludePlace × IncludePlace)
  pub is : x ≡ f.PlainTwice key (place_of one) (place_of other) parting

-- whether a method is the one that is asked for, if one is
abbrev pub meets : Option Method → Method → Bool
meets None m = true
meets (Some n) m = is_method n m

-- how many components of the piece pass a test of methods
abbrev pub count_in : List code.WrittenComponent → (Method → Bool) → Piece → ℕ
count_in row test p = count_by (λ (w : code.WrittenComponent). test w.method) (slice_range row p.from p.to)

-- the piece has the component at the index, and this passes a test of methods
pub record IsInPiece (row : List code.WrittenComponent) (test : Method → Bool) (p : Piece) (o : Occurrence) : Type 0 where
  pub segment_is : o.segment ≡ p.segment
  pub from : p.from ≤ o.index
  pub to : o.index < p.to
  pub component : code.WrittenComponent
  pub at : slice_get row o.index ≡ Some component
  pub passes : test component.method ≡ true

-- the components of a piece that pass were added
pub record AddsOccurrences (row : List code.WrittenComponent) (p : Piece) (test : Method → Bool) (old new : List Occurrence) : Type 0 where
  pub added : List Occurrence
  pub new_is : new ≡ old ++ added
  pub each : AllByRecursion (IsInPiece row test p) added
  pub size : length added ≡ count_in row test p

-- some are left out, so that there are two at most
pub record KeepsTwo (old new : List Occurrence) : Type 0 where
  pub each : (o : Occurrence) → Contains new o → Contains old o
  pub most : length new ≤ 2
  pub few : length new ≤ length old
  pub enough : (length new ≡ length old) ⊎ (length new ≡ 2)

-- two of the components in the pieces that pass, or all of them where there are fewer
pub record AreFirstTwo (row : List code.WrittenComponent) (pieces : List Piece) (test : Method → Bool) (found : List Occurrence) : Type 0 where
  pub each : AllByRecursion (λ (o : Occurrence). (p : Piece) × Contains pieces p × IsInPiece row test p o) found
  pub few : length found ≤ sum_by (count_in row test) pieces
  pub enough : (length found ≡ sum_by (count_in row test) pieces) ⊎ (length found ≡ 2)

-- the pieces are in the first segments, of which there are n
abbrev pub AreInList : ℕ → List Piece → Type 0
AreInList n pieces = AllByRecursion (λ (p : Piece). p.segment < n) pieces

-- the includes brought in segments that are there
abbrev pub HasBrought : Segments → Type 0
HasBrought x = AllByRecursion (λ (b : FollowedInclude). (b.from ≤ b.to) × (b.to ≤ length x.list.items)) x.brought.items

-- ---- findings, key by key

-- findings were added, in order and of keys below a bound, and what they say is true of the modules; of each such key of which a refusal of the kind is true, one says so
pub record AddsBelow (modules : List NamedModule) (names : List Text) (make : Key → Refusal) (bound : ℕ) (old new : List Finding) : Type 0 where
  pub added : List Finding
  pub new_is : new ≡ old ++ added
  pub true_of : AreTrue modules ([] ∷ names) added
  pub keyed : AllByRecursion (λ (f : Finding). (n : ℕ) × (n < bound) × (finding_refusal modules ([] ∷ names) f ≡ make (key_at names n))) added
  pub in_order : AreFindingsInOrder modules ([] ∷ names) added
  pub placed : ArePlaced modules ([] ∷ names) added
  pub all : (n : ℕ) → n < bound → IsTrueFor modules (make (key_at names n)) → (f : Finding) × Contains added f × (finding_refusal modules ([] ∷ names) f ≡ make (key_at names n))

-- findings were added in order, for what is true of the modules and of this rank: one for each refusal, and none that isn't true
pub record AddsRank (modules : List NamedModule) (names : List Text) (r : ℕ) (old new : List Finding) : Type 0 where
  pub added : List Finding
  pub new_is : new ≡ old ++ added
  pub true_of : AreTrue modules ([] ∷ names) added
  pub ranked : AllByRecursion (λ (f : Finding). rank (finding_refusal modules ([] ∷ names) f) ≡ r) added
  pub in_order : AreFindingsInOrder modules ([] ∷ names) added
  pub placed : ArePlaced modules ([] ∷ names) added
  pub all : (q : Refusal) → rank q ≡ r → IsTrueFor modules q → (f : Finding) × Contains added f × (finding_refusal modules ([] ∷ names) f ≡ q)

-- P holds of the modules and of the names of keys that these rows and segments are of
abbrev pub OfExpanded : KeyRows → Segments → (List NamedModule → List Text → Type 0) → Type 0
OfExpanded rows x P = (modules : List NamedModule) (names : List Text) → AreExpanded modules names rows x → P modules names

-- ---- lacks

-- the lack is of the key of that number, and of the include's module
abbrev pub IsLackBy : ℕ → FollowedInclude → Lack → Type 0
IsLackBy key b l = (l.key.0 ≡ key) × (l.include.module.0 ≡ b.module.0)

-- the lack is at the include, and at one of the include's own components that the row has
pub record IsLackAt (row : List code.WrittenComponent) (b : FollowedInclude) (l : Lack) : Type 0 where
  pub number_is : l.include.number ≡ b.number
  pub own : code.WrittenComponent
  pub among : Contains row own
  pub component_is : l.component ≡ place_of own
  pub module_is : own.module.0 ≡ b.module.0
  pub from : b.own_from ≤ own.number
  pub to : own.number < b.own_to

-- one lack was added, of the key of that number and of the include
pub record AddsLack (row : List code.WrittenComponent) (key : ℕ) (b : FollowedInclude) (old new : List Lack) : Type 0 where
  pub lack : Lack
  pub is : IsLackBy key b lack
  pub at : IsLackAt row b lack
  pub new_is : new ≡ old ++ lack ∷ []

-- lacks of the row of that number were added: one for each of the includes of which P holds
pub record AddsLacks (P : FollowedInclude → Type 0) (row : List code.WrittenComponent) (key : ℕ) (followed : List FollowedInclude) (old new : List Lack) : Type 0 where
  pub added : List Lack
  pub new_is : new ≡ old ++ added
  pub each : (l : Lack) → Contains added l → (b : FollowedInclude) × Contains followed b × P b × IsLackBy key b l × IsLackAt row b l
  pub all : (b : FollowedInclude) → Contains followed b → P b → (l : Lack) × Contains added l × IsLackBy key b l

-- a lack of one of the keys below a bound, where an include has it
pub record IsLackBelow (modules : List NamedModule) (names : List Text) (x : Segments) (bound : ℕ) (l : Lack) : Type 0 where
  pub below : l.key.0 < bound
  pub include : FollowedInclude
  pub among : Contains x.brought.items include
  pub lacks : IsLackOf modules x.list.items include (key_at names l.key.0)
  pub module_is : l.include.module.0 ≡ include.module.0
  pub placed : IsOwnDefinition modules l.include l.component (key_at names l.key.0)

-- the lacks are those of the keys below a bound
pub record AreLacks (modules : List NamedModule) (names : List Text) (x : Segments) (bound : ℕ) (ls : List Lack) : Type 0 where
  pub each : (l : Lack) → Contains ls l → IsLackBelow modules names x bound l
  pub all : (n : ℕ) → n < bound → (b : FollowedInclude) → Contains x.brought.items b → IsLackOf modules x.list.items b (key_at names n) → (l : Lack) × Contains ls l × IsLackBy n b l

-- the order of lacks: by their modules, and then by their keys
abbrev pub lack_cmp : Lack → Lack → Ordering
lack_cmp l m = ordering_then (nat_cmp l.include.module.0 m.include.module.0) (nat_cmp l.key.0 m.key.0)

-- some of the lacks stay, in order, for each one of the same key and module
pub record KeepsLacks (old new : List Lack) : Type 0 where
  pub each : (l : Lack) → Contains new l → Contains old l
  pub all : (l : Lack) → Contains old l → (m : Lack) × Contains new m × (m.key.0 ≡ l.key.0) × (m.include.module.0 ≡ l.include.module.0)
  pub in_order : IsStrictlySortedBy lack_cmp new

abbrev pub lack_finding : Lack → Finding
lack_finding l = f.Override l.key l.component l.include

-- ---- undefined names

-- the name's reference is one of a component of the row
pub record IsReferenceIn (row : List code.WrittenComponent) (u : UndefinedName) : Type 0 where
  pub component : code.WrittenComponent
  pub among : Contains row component
  pub component_is : u.reference.component ≡ place_of component
  pub at : slice_get (map (λ (r : Text × Reach). r.0) (references_at component)) u.reference.number ≡ Some u.name.now

-- each name has its reference in the modules
abbrev pub AreReferred : List NamedModule → List UndefinedName → Type 0
AreReferred modules us = AllByRecursion (λ (u : UndefinedName). IsReference modules u.reference u.name.now) us

-- those of the texts were added that are no marked names: each at least once, and no other; each has its reference in the row
pub record AddsUnmarked (row : List code.WrittenComponent) (names : List Text) (marks : List Bool) (xs : List Text) (old new : List UndefinedName) : Type 0 where
  pub kept : (u : UndefinedName) → Contains old u → Contains new u
  pub each : (u : UndefinedName) → Contains new u → Contains old u ⊎ (Contains xs u.name.now × (¬ IsMarkedName names marks u.name.now) × IsReferenceIn row u)
  pub all : (x : Text) → Contains xs x → ¬ IsMarkedName names marks x → (u : UndefinedName) × Contains new u × (u.name.now ≡ x)

-- the order of undefined names
abbrev pub undefined_cmp : UndefinedName → UndefinedName → Ordering
undefined_cmp u v = text_cmp u.name.now v.name.now

-- some of them stay, in order, for each one of the same name
pub record KeepsNames (old new : List UndefinedName) : Type 0 where
  pub each : (u : UndefinedName) → Contains new u → Contains old u
  pub all : (u : UndefinedName) → Contains old u → (v : UndefinedName) × Contains new v × (v.name.now ≡ u.name.now)
  pub in_order : IsStrictlySortedBy undefined_cmp new

-- the names are those that the components refer to and don't define, in order
pub record AreUndefined (cs : List Component) (us : List UndefinedName) : Type 0 where
  pub each : (u : UndefinedName) → Contains us u → IsUndefined (joined_grammar cs) u.name.now
  pub all : (x : Text) → IsUndefined (joined_grammar cs) x → (u : UndefinedName) × Contains us u × (u.name.now ≡ x)
  pub in_order : IsStrictlySortedBy undefined_cmp us

abbrev pub undefined_finding : UndefinedName → Finding
undefined_finding u = f.Undefined u.name u.reference
