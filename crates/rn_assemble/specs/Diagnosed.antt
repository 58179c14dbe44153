-- What stands against a set, all of it (RELAX NG 2001, 4.7, 4.17 and 4.18).
use Rattle.std.specs.Prelude.{ℕ, zero, suc, ◌≡◌, ◌<◌, ◌≤◌, ◌⊎◌, false, List, [], map, slice_get, slice_index_or, AllPairs, Contains, Some, ⊤}
use Rattle.std.specs.List.{AllByRecursion}
use Rattle.std.specs.declared.cmp.Ordering.TheVariants.{Less}
use Rattle.rn_text.specs.Texts.{Text, text_cmp}
use Rattle.rn_syntax.specs.declared.tree.Method.{Method}
use Rattle.rn_syntax.specs.declared.tree.Method.TheVariants as methods
use Rattle.rn_pattern.specs.References.{IsUndefined}
use Rattle.rn_assemble.specs.Combine.{IsMixed, IsPlainTwice}
use Rattle.rn_assemble.specs.Components.{Key, NamedModule, has_key, name_key, set_components, start_key}
use Rattle.rn_assemble.specs.Least.{key_cmp}
use Rattle.rn_assemble.specs.Refusal.{Refusal, override, plain_twice, mixed_methods, no_start, undefined, rank, Lacks, grammar_of}
use Rattle.rn_assemble.specs.Written.{WrittenComponent, Inclusion, inclusions_at, referred, written_at}
use Rattle.rn_assemble.specs.declared.diagnosing.diagnosis.Diagnosis.{Diagnosis}
use Rattle.rn_assemble.specs.declared.diagnosing.findings.Finding.{Finding}
use Rattle.rn_assemble.specs.declared.diagnosing.findings.Finding.TheVariants as f
use Rattle.rn_assemble.specs.declared.diagnosing.places.ComponentPlace.{ComponentPlace}
use Rattle.rn_assemble.specs.declared.diagnosing.places.IncludePlace.{IncludePlace}
use Rattle.rn_assemble.specs.declared.diagnosing.places.ReferencePlace.{ReferencePlace}

-- the key of a number, where these are the names of the keys: the start is number 0, and has no name
abbrev pub key_numbered : List Text → ℕ → Key
key_numbered names zero = start_key
key_numbered names (suc n) = name_key (slice_index_or names (suc n) [])

-- the refusal that a finding is, with these modules and these names of keys
abbrev pub finding_refusal : List NamedModule → List Text → Finding → Refusal
finding_refusal modules names (f.Override k component include) = override (slice_index_or (map (λ (m : NamedModule). m.name) modules) include.module.0 []) (key_numbered names k.0)
finding_refusal modules names (f.PlainTwice k first second parting) = plain_twice (key_numbered names k.0)
finding_refusal modules names (f.MixedMethods k choice interleave) = mixed_methods (key_numbered names k.0)
finding_refusal modules names f.NoStart = no_start
finding_refusal modules names (f.Undefined x reference) = undefined x.now

-- the refusal is true of the modules, whether or not it is the least of its kind; of refusals of which all can be found
abbrev pub IsTrueFor : List NamedModule → Refusal → Type 0
IsTrueFor modules (override x k) = Lacks modules x k
IsTrueFor modules (plain_twice k) = IsPlainTwice k (set_components modules)
IsTrueFor modules (mixed_methods k) = IsMixed k (set_components modules)
IsTrueFor modules no_start = has_key start_key (set_components modules) ≡ false
IsTrueFor modules (undefined x) = IsUndefined (grammar_of modules) x
IsTrueFor modules q = ⊥

-- each finding is a refusal that is true of the modules
abbrev pub AreTrue : List NamedModule → List Text → List Finding → Type 0
AreTrue modules names fs = AllByRecursion (λ (x : Finding). IsTrueFor modules (finding_refusal modules names x)) fs

-- ---- in order

-- of two refusals of one kind, the first has the lesser module, or the lesser key in the same module, or the lesser name
abbrev pub IsLesser : Refusal → Refusal → Type 0
IsLesser (override x k) (override y j) = (text_cmp x y ≡ Less) ⊎ ((x ≡ y) × (key_cmp k j ≡ Less))
IsLesser (plain_twice k) (plain_twice j) = key_cmp k j ≡ Less
IsLesser (mixed_methods k) (mixed_methods j) = key_cmp k j ≡ Less
IsLesser (undefined x) (undefined y) = text_cmp x y ≡ Less
IsLesser q r = ⊥

-- where both are true, a set is refused for the first
abbrev pub ComesBefore : Refusal → Refusal → Type 0
ComesBefore q r = (rank q < rank r) ⊎ IsLesser q r

-- each finding comes before those behind it
abbrev pub AreFindingsInOrder : List NamedModule → List Text → List Finding → Type 0
AreFindingsInOrder modules names fs = AllPairs (λ (x y : Finding). ComesBefore (finding_refusal modules names x) (finding_refusal modules names y)) fs

-- ---- where they are

-- the definition of that number of the module is of the key and by the method
pub record IsDefinition (modules : List NamedModule) (p : ComponentPlace) (k : Key) (method : Method) : Type 0 where
  pub definition : WrittenComponent
  pub at : slice_get (written_at modules p.module.0) p.number ≡ Some definition
  pub key_is : definition.key ≡ k
  pub method_is : definition.method ≡ method

-- the definition of that number of the module is of the key, and one of the include's own
pub record IsOwnDefinition (modules : List NamedModule) (include : IncludePlace) (p : ComponentPlace) (k : Key) : Type 0 where
  pub inclusion : Inclusion
  pub include_is : slice_get (inclusions_at modules include.module.0) include.number ≡ Some inclusion
  pub module_is : p.module.0 ≡ include.module.0
  pub from : inclusion.first ≤ p.number
  pub to : p.number < inclusion.end
  pub definition : WrittenComponent
  pub at : slice_get (written_at modules p.module.0) p.number ≡ Some definition
  pub key_is : definition.key ≡ k

-- the reference of that number in the definition is to the name
pub record IsReference (modules : List NamedModule) (r : ReferencePlace) (x : Text) : Type 0 where
  pub definition : WrittenComponent
  pub at : slice_get (written_at modules r.component.module.0) r.component.number ≡ Some definition
  pub reference_is : slice_get (referred definition.pattern) r.number ≡ Some x

-- the definitions, the include and the reference of a finding are those that it speaks of
abbrev pub IsPlaced : List NamedModule → List Text → Finding → Type 0
IsPlaced modules names (f.Override k component include) = IsOwnDefinition modules include component (key_numbered names k.0)
IsPlaced modules names (f.PlainTwice k first second parting) = IsDefinition modules first (key_numbered names k.0) methods.Plain × IsDefinition modules second (key_numbered names k.0) methods.Plain
IsPlaced modules names (f.MixedMethods k choice interleave) = IsDefinition modules choice (key_numbered names k.0) methods.Choice × IsDefinition modules interleave (key_numbered names k.0) methods.Interleave
IsPlaced modules names f.NoStart = ⊤
IsPlaced modules names (f.Undefined x reference) = IsReference modules reference x.now

-- ---- all of them

-- each finding is a refusal that is true of the modules, and each refusal that is true has a finding, of those of which all can be found; they are in the order in which the modules are refused for them
pub record AreFindings (modules : List NamedModule) (names : List Text) (fs : List Finding) : Type 0 where
  pub true_of : AreTrue modules names fs
  pub all : (q : Refusal) → IsTrueFor modules q → (x : Finding) × Contains fs x × (finding_refusal modules names x ≡ q)
  pub in_order : AreFindingsInOrder modules names fs

-- the first finding is the refusal
abbrev pub IsFirstFinding : List NamedModule → List Text → List Finding → Refusal → Type 0
IsFirstFinding modules names fs r = (x : Finding) × (slice_get fs 0 ≡ Some x) × (finding_refusal modules names x ≡ r)

-- each finding is where it says
abbrev pub ArePlaced : List NamedModule → List Text → List Finding → Type 0
ArePlaced modules names fs = AllByRecursion (IsPlaced modules names) fs

-- the names of the keys of a diagnosis
abbrev pub key_names : Diagnosis → List Text
key_names d = map (λ s. s.now) d.names.items
