-- The keys of all components that modules define have numbers.
use Rattle.std.proofs.Common.{◌≡◌, ℕ, suc, ◌<◌, inl, inr, ⊎_elim, Bool, true, false, not, ◌||◌, filter, List, [], ◌∷◌, length, Option, Some, None, refl, sym, ap, ◌∙◌, subst, arith, Contains, slice_range}
use Rattle.std.specs.Prelude.{slice_get}
use Rattle.std.proofs.lemmas.Bool.{false≢true, or_right}
use Rattle.std.proofs.lemmas.List.{get_or_default}
use Rattle.std.proofs.lemmas.List.Elements.{Contains-append_left, Contains-append_right, Contains-append_cases}
use Rattle.std.proofs.lemmas.Option.{get_or_from_slice_get, slice_get_within}
use Rattle.std.specs.Option.{option_map_or}
use Rattle.rn_text.specs.Texts.{Text}
use Rattle.rn_pattern.proofs.Ordered.InOrder.{contains_behind, contains_cases, contains_front}
use Rattle.rn_syntax.specs.Tree as t
use Rattle.rn_syntax.specs.Tree.{Item, Items}
use Rattle.rn_assemble.specs.Components.{Component, Key, NamedModule, has_key, name_key, same_key, start_key}
use Rattle.rn_assemble.specs.declared.including.segments.FollowedInclude.{FollowedInclude}
use Rattle.rn_assemble.specs.declared.including.segments.Segment.{Segment}
use Rattle.rn_assemble.specs.declared.including.segments.Segments.{Segments}
use Rattle.rn_assemble.specs.inside.Contained.{WrittenComponent, item_written_components, written_components}
use Rattle.rn_assemble.specs.inside.ContentsOf.{written_at}
use Rattle.rn_assemble.specs.inside.Keyed.{AreNames, defines, item_defines, key_at}
use Rattle.rn_assemble.specs.inside.Segments.{AreSegmentsOf, is_overridden, left_from, segment_components}
use Rattle.rn_assemble.proofs.Naming.KeptMembers.{in_range, kept_contained}
use Rattle.rn_assemble.proofs.Referring.KeyNumbers.{keyed_name, same_key-Decides}
use Rattle.rn_assemble.proofs.Referring.ListMembers.{flat_contains, map_contained}

-- the name of each component is one of those that the items define
mutual
  item_named : (x : Item) (w : WrittenComponent) (y : Text) → Contains (item_written_components x) w → w.key ≡ name_key y → Contains (item_defines x) y
  item_named (t.define x m p) w y c e = elim (contains_cases _ w [] c) [
    | inl is ↦ let same : x ≡ y = keyed_name x y (ap (λ (v : WrittenComponent). v.key) is ∙ e) in subst (λ z. Contains (x ∷ []) z) same (contains_front x [])
    | inr k ↦ absurd (omega (arith, k.1))
  ]
  item_named (t.start m p) w y c e = elim (contains_cases _ w [] c) [
    | inl is ↦ let wrong : start_key ≡ name_key y = ap (λ (v : WrittenComponent). v.key) is ∙ e in cc
    | inr k ↦ absurd (omega (arith, k.1))
  ]
  item_named (t.div xs) w y c e = all_named xs w y c e
  item_named (t.include wanted inherit xs) w y c e = all_named xs w y c e

  all_named : (xs : Items) (w : WrittenComponent) (y : Text) → Contains (written_components xs) w → w.key ≡ name_key y → Contains (defines xs) y
  all_named t.no_items w y c e = absurd (omega (arith, c.1))
  all_named (t.item x xs) w y c e =
      ⊎_elim (λ k. Contains-append_left (item_defines x) (defines xs) y (item_named x w y k e)) (λ k. Contains-append_right (item_defines x) (defines xs) y (all_named xs w y k e))
      (Contains-append_cases (item_written_components x) (written_components xs) w c)

-- the key has a number
abbrev pub HasNumber : List Text → Key → Type 0
HasNumber names k = (n : ℕ) × (n < suc (length names)) × (k ≡ key_at names n)

numbered : (names : List Text) (k : Key) → ((y : Text) → k ≡ name_key y → Contains names y) → HasNumber names k
numbered names start_key f = (0, omega arith, refl)
numbered names (name_key y) f =
    let c = f y refl in
    (suc c.0, omega (arith, c.1), ap name_key (sym (get_or_default names c.0 [] y c.1 ∙ c.2)))

-- the module that a component is of
written_in : (o : Option NamedModule) (w : WrittenComponent) → Contains (option_map_or (λ (m : NamedModule). written_components m.tree.items) o []) w → (m : NamedModule) × (o ≡ Some m) × Contains (written_components m.tree.items) w
written_in None w c = absurd (omega (arith, c.1))
written_in (Some m) w c = (m, refl, c)

pub written_number : (modules : List NamedModule) (names : List Text) → AreNames modules names → (i : ℕ) (w : WrittenComponent) → Contains (written_at modules i) w → HasNumber names w.key
written_number modules names n i w c =
    let (m, at, there) = written_in (slice_get modules i) w c in
    let among : Contains modules m = (i, slice_get_within modules i m at, get_or_from_slice_get modules i m m at) in
    numbered names w.key (λ y e. (n.defined y).1 (flat_contains (λ (x : NamedModule). defines x.tree.items) modules m y among (all_named m.tree.items w y there e)))

-- ---- components of the set

has_at : (b : Bool) (k : Key) (c : Component) (cs : List Component) → same_key k c.key ≡ b → (has_key k cs ≡ true → (d : Component) × Contains cs d × (d.key ≡ k)) → has_key k (c ∷ cs) ≡ true → (d : Component) × Contains (c ∷ cs) d × (d.key ≡ k)
has_at true k c cs t f h = (c, contains_front c cs, sym ((same_key-Decides k c.key).0 t))
has_at false k c cs t f h = let rest = f (sym (ap (λ b. b || has_key k cs) t) ∙ h) in (rest.0, contains_behind c rest.0 cs rest.1, rest.2)

pub has_component : (k : Key) (cs : List Component) → has_key k cs ≡ true → (c : Component) × Contains cs c × (c.key ≡ k)
has_component k [] h = absurd (false≢true h)
has_component k (c ∷ cs) h = has_at (same_key k c.key) k c cs refl (has_component k cs) h

pub has_there : (k : Key) (cs : List Component) (c : Component) → Contains cs c → c.key ≡ k → has_key k cs ≡ true
has_there k [] c there is = absurd (omega (arith, there.1))
has_there k (d ∷ cs) c there is = elim (contains_cases d c cs there) [
  | inl e ↦ ap (λ b. b || has_key k cs) ((same_key-Decides k d.key).1 (sym (ap (λ (b : Component). b.key) e ∙ is)))
  | inr l ↦ or_right (same_key k d.key) (has_key k cs) (has_there k cs c l is)
]

-- a component that is left in a segment was written
left_written : (modules : List NamedModule) (followed : List FollowedInclude) (n : ℕ) (ss : List Segment) (c : Component) → Contains (left_from modules followed n ss) c → (i : ℕ) × (w : WrittenComponent) × Contains (written_at modules i) w × (w.key ≡ c.key)
left_written modules followed n [] c k = absurd (omega (arith, k.1))
left_written modules followed n (s ∷ ss) c k = ⊎_elim
    (λ here.
    let in_segment = kept_contained _ (segment_components modules s) c here in
    let w = map_contained _ (slice_range (written_at modules s.module.0) s.from s.to) c in_segment in
    (s.module.0, w.0, in_range (written_at modules s.module.0) s.from s.to w.0 w.1, ap (λ (d : Component). d.key) w.2))
    (λ behind. left_written modules followed (suc n) ss c behind)
    (Contains-append_cases (filter (λ (d : Component). not (is_overridden modules followed d.key n)) (segment_components modules s)) (left_from modules followed (suc n) ss) c k)

-- the key of each component of a set has a number
pub set_number : (modules : List NamedModule) (names : List Text) (x : Segments) (cs : List Component) → AreNames modules names → AreSegmentsOf modules x cs → (k : Key) → has_key k cs ≡ true → HasNumber names k
set_number modules names x cs n a k h =
    let (c, there, is) = has_component k cs h in
    let (i, w, written, same) = left_written modules x.brought.items 0 x.list.items c (subst (λ ds. Contains ds c) (sym a.left) there) in
    subst (HasNumber names) (same ∙ is) (written_number modules names n i w written)
