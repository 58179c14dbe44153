-- The least override of what isn't there: how it is kept from key to key, and what it is in the end.
use Rattle.std.proofs.Common.{◌≡◌, ◌⊎◌, inl, inr, ⊎_elim, ℕ, suc, ◌+◌, ◌<◌, ◌≤◌, Bool, true, false, ◌||◌, ◌∷◌, refl, List, length, map, [], Option, Some, None, sym, ap, ◌∙◌, subst, arith, Contains, Less}
use Rattle.std.specs.List.{AllByRecursion, list_any}
use Rattle.std.specs.List.Sorted.{IsStrictlySortedBy}
use Rattle.std.proofs.lemmas.Bool.{cases_lt, false≢true}
use Rattle.std.proofs.lemmas.List.{length-map}
use Rattle.rn_text.specs.Texts.{Text, text_cmp}
use Rattle.rn_pattern.proofs.Ordered.InOrder.{contained_each, contains_behind, contains_front, text_no_less}
use Rattle.rn_assemble.specs.Components.{Key, NamedModule, same_key}
use Rattle.rn_assemble.specs.Least.{IsLeast, key_cmp}
use Rattle.rn_assemble.specs.declared.by_key.checks.Lack.{Lack}
use Rattle.rn_assemble.specs.declared.including.segments.FollowedInclude.{FollowedInclude}
use Rattle.rn_assemble.specs.declared.including.segments.Segments.{Segments}
use Rattle.rn_assemble.specs.declared.reading.named_modules.ModuleId.{ModuleId}
use Rattle.rn_assemble.specs.inside.Bringing.{IsLackIn}
use Rattle.rn_assemble.specs.inside.Contained.{WrittenComponent}
use Rattle.rn_assemble.specs.inside.ContentsOf.{name_at, written_at}
use Rattle.rn_assemble.specs.inside.Keyed.{AreNames, key_at}
use Rattle.rn_assemble.specs.inside.Lacking.{IsLeastLack, IsLesser}
use Rattle.rn_assemble.specs.inside.Pieces.{IsLeastLacking}
use Rattle.rn_assemble.specs.inside.Segments.{IsBrought, IsLackOf}
use Rattle.rn_assemble.proofs.KeyFaults.KnownRows.{below_next}
use Rattle.rn_assemble.proofs.Naming.KeptMembers.{in_range}
use Rattle.rn_assemble.proofs.Naming.KnownKeys.{HasNumber, written_number}
use Rattle.rn_assemble.proofs.Referring.KeyNumbers.{not_itself, same_key-Decides}
use Rattle.rn_assemble.proofs.Referring.LeastKeys.{less_number}
use Rattle.std.proofs.lemmas.Map.Keys.{Less-from_sorted}
use Rattle.std.specs.Prelude.{IfSome, slice_range}

any_found : {X : Type 0} (test : X → Bool) (x : X) (xs : List X) (b : Bool) → test x ≡ b → (list_any test xs ≡ true → (y : X) × Contains xs y × (test y ≡ true)) → (b || list_any test xs) ≡ true → (y : X) × Contains (x ∷ xs) y × (test y ≡ true)
any_found test x xs true e f h = (x, contains_front x xs, e)
any_found test x xs false e f h = let rest = f h in (rest.0, contains_behind x rest.0 xs rest.1, rest.2)

-- one of the elements passes a test that some pass
pub any_contained : {X : Type 0} (test : X → Bool) (xs : List X) → list_any test xs ≡ true → (x : X) × Contains xs x × (test x ≡ true)
any_contained test [] h = absurd (false≢true h)
any_contained test (x ∷ xs) h = any_found test x xs (test x) refl (any_contained test xs) h

-- the lack comes before that of a module and a key of these numbers, or is that one
abbrev pub IsUpTo : Lack → (module_at key_at : ℕ) → Type 0
IsUpTo l m n = (l.«module».0 < m) ⊎ ((l.«module».0 ≡ m) × (l.key.0 ≤ n))

at_most : (l : Lack) (m n : ℕ) → l.«module».0 ≤ m → l.key.0 ≤ n → IsUpTo l m n
at_most l m n h k = ⊎_elim (λ w. inl w) (λ w. inr (omega (arith, h, w), k)) (cases_lt l.«module».0 m)

before : (l held : Lack) (m n : ℕ) → l.«module».0 < held.«module».0 → IsUpTo held m n → IsUpTo l m n
before l held m n h (inl w) = inl (omega (arith, h, w))
before l held m n h (inr w) = inl (omega (arith, h, w.0))

no_later : (l : Lack) (m n : ℕ) → IsUpTo l m n → l.«module».0 ≤ m
no_later l m n (inl w) = omega (arith, w)
no_later l m n (inr w) = omega (arith, w.0)

module _ (modules : List NamedModule) (names : List Text) (x : Segments) where
  -- the include lacks the key of that number
  abbrev pub LacksNumber : FollowedInclude → ℕ → Type 0
  LacksNumber b n = IsLackOf modules x.list.items b (key_at names n)

  -- the least lack of the keys before that number, if there is one
  abbrev pub IsLeastUpTo : ℕ → Option Lack → Type 0
  IsLeastUpTo bound None = (n : ℕ) → n < bound → (b : FollowedInclude) → Contains x.brought.items b → ¬ LacksNumber b n
  IsLeastUpTo bound (Some l) = (l.key.0 < bound) × ((b : FollowedInclude) × Contains x.brought.items b × (b.«module».0 ≡ l.«module».0) × LacksNumber b l.key.0)
      × ((n : ℕ) → n < bound → (b : FollowedInclude) → Contains x.brought.items b → LacksNumber b n → IsUpTo l b.«module».0 n)

  -- no include lacks the key of that number
  pub passed : (key : ℕ) (o : Option Lack) → IsLeastUpTo key o → IsLeastLacking modules x (key_at names key) None → IsLeastUpTo (key + 1) o
  passed key None h none = below_next (λ n. (b : FollowedInclude) → Contains x.brought.items b → ¬ LacksNumber b n) key h none
  passed key (Some l) h none = (
    omega (arith, h.0),
    h.1,
    below_next (λ n. (b : FollowedInclude) → Contains x.brought.items b → LacksNumber b n → IsUpTo l b.«module».0 n) key h.2 (λ b c k. absurd (none b c k)),
  )

  -- some does
  pub met : (key : ℕ) (m : ModuleId) (o : Option Lack) (l : Lack) → IsLeastUpTo key o → IsLeastLacking modules x (key_at names key) (Some m) → IsLesser o (record { «module» = m; key = record { 0 = key } }) l → IsLeastUpTo (key + 1) (Some l)
  met key m None l h some e =
      let new : Lack = record { «module» = m; key = record { 0 = key } } in
      subst (λ (d : Lack). IsLeastUpTo (key + 1) (Some d)) (sym e) (
        omega arith,
        some.0,
        below_next (λ n. (b : FollowedInclude) → Contains x.brought.items b → LacksNumber b n → IsUpTo new b.«module».0 n) key (λ n w b c k. absurd (h n w b c k)) (λ b c k. at_most new b.«module».0 key (some.1 b c k) (omega arith)),
      )
  met key m (Some held) l h some (inl e) =
      subst (λ (d : Lack). IsLeastUpTo (key + 1) (Some d)) (sym e.1) (
        omega (arith, h.0),
        h.1,
        below_next (λ n. (b : FollowedInclude) → Contains x.brought.items b → LacksNumber b n → IsUpTo held b.«module».0 n) key h.2 (λ b c k. let least = some.1 b c k in at_most held b.«module».0 key (omega (arith, least, e.0)) (omega (arith, h.0))),
      )
  met key m (Some held) l h some (inr e) =
      let new : Lack = record { «module» = m; key = record { 0 = key } } in
      subst (λ (d : Lack). IsLeastUpTo (key + 1) (Some d)) (sym e.1) (
        omega arith,
        some.0,
        below_next (λ n. (b : FollowedInclude) → Contains x.brought.items b → LacksNumber b n → IsUpTo new b.«module».0 n) key (λ n w b c k. before new held b.«module».0 n e.0 (h.2 n w b c k)) (λ b c k. at_most new b.«module».0 key (some.1 b c k) (omega arith)),
      )

  -- the one that is kept is of an include and of a key that are there
  pub within_size : (bound size : ℕ) → bound ≤ size → (o : Option Lack) → IsLeastUpTo bound o → IfSome o (λ (l : Lack). (l.key.0 < size) × ((b : FollowedInclude) × Contains x.brought.items b × (b.«module».0 ≡ l.«module».0)))
  within_size bound size le None h = cc
  within_size bound size le (Some l) h = (omega (arith, h.0, le), (h.1.0, h.1.1, h.1.2))

  -- each key that an include lacks has a number
  pub lacked_number : AreNames modules names → (b : FollowedInclude) (k : Key) → IsLackOf modules x.list.items b k → HasNumber names k
  lacked_number n b k h =
      let own = slice_range (written_at modules b.«module».0) b.own_from b.own_to in
      let w = any_contained (λ (v : WrittenComponent). same_key k v.key) own h.0 in
      subst (HasNumber names) (sym ((same_key-Decides k w.0.key).0 w.2)) (written_number modules names n b.«module».0 w.0 (in_range (written_at modules b.«module».0) b.own_from b.own_to w.0 w.1))

  -- where modules and names are in order, and each key that an include lacks has a number
  module _ (mo : IsStrictlySortedBy text_cmp (map (λ (m : NamedModule). m.name) modules)) (no : IsStrictlySortedBy text_cmp names) (each : AllByRecursion (IsBrought modules x.contents.now x.list.items) x.brought.items) (has : (b : FollowedInclude) (k : Key) → Contains x.brought.items b → IsLackOf modules x.list.items b k → (n : ℕ) × (n < suc (length names)) × (k ≡ key_at names n)) where
    abbrev Lacking : Text → Key → Type 0
    Lacking = IsLackIn modules x.list.items x.brought.items

    less_place : (i j : ℕ) → i < j → j < length modules → text_cmp (name_at modules i) (name_at modules j) ≡ Less
    less_place i j l k = Less-from_sorted text_cmp (map (λ (m : NamedModule). m.name) modules) i j [] mo l (omega (arith, k, length-map modules (λ (m : NamedModule). m.name)))

    module_within : (b : FollowedInclude) → Contains x.brought.items b → b.«module».0 < length modules
    module_within b c = (contained_each (IsBrought modules x.contents.now x.list.items) x.brought.items each b c).module_within

    not_before : (i j : ℕ) → i ≤ j → j < length modules → (y : Text) → name_at modules j ≡ y → ¬ (text_cmp y (name_at modules i) ≡ Less)
    not_before i j h w y e less = ⊎_elim
        (λ l. text_no_less (name_at modules i) (name_at modules j) (less_place i j l w) (subst (λ z. text_cmp z (name_at modules i) ≡ Less) (sym e) less))
        (λ l. let same : i ≡ j = omega (arith, h, l) in not_itself y (subst (λ z. text_cmp y z ≡ Less) (ap (name_at modules) same ∙ e) less))
        (cases_lt i j)

    module _ (bound : ℕ) (all : bound ≡ suc (length names)) where
      up_to : (l : Lack) → IsLeastUpTo bound (Some l) → (y : Text) (k : Key) (p : Lacking y k) → IsUpTo l p.include.«module».0 (has p.include k p.among p.lacks).0
      up_to l h y k p =
          let n = has p.include k p.among p.lacks in
          h.2 n.0 (omega (arith, n.1, all)) p.include p.among (subst (λ j. IsLackOf modules x.list.items p.include j) n.2 p.lacks)

      least_module : (l : Lack) → IsLeastUpTo bound (Some l) → l.«module».0 < length modules → IsLeast text_cmp (λ y. (k : Key) × Lacking y k) (name_at modules l.«module».0)
      least_module l h w = record {
        holds = (key_at names l.key.0, record { include = h.1.0; among = h.1.1; name_is = ap (name_at modules) h.1.2; lacks = h.1.3 });
        least = λ y q less. not_before l.«module».0 q.1.include.«module».0 (no_later l q.1.include.«module».0 _ (up_to l h y q.0 q.1)) (module_within q.1.include q.1.among) y q.1.name_is less;
      }

      least_key : (l : Lack) → IsLeastUpTo bound (Some l) → IsLeast key_cmp (Lacking (name_at modules l.«module».0)) (key_at names l.key.0)
      least_key l h = record {
        holds = record { include = h.1.0; among = h.1.1; name_is = ap (name_at modules) h.1.2; lacks = h.1.3 };
        least = λ k p less.
            let n = has p.include k p.among p.lacks in
            let before : n.0 < l.key.0 = less_number names no n.0 l.key.0 n.1 (omega (arith, h.0, all)) (ap (λ j. key_cmp j (key_at names l.key.0)) (sym n.2) ∙ less) in
            ⊎_elim
            (λ w. not_itself (name_at modules l.«module».0) (subst (λ y. text_cmp (name_at modules l.«module».0) y ≡ Less) p.name_is (less_place l.«module».0 p.include.«module».0 w (module_within p.include p.among))))
            (λ w. absurd (omega (arith, before, w.1)))
            (up_to l h (name_at modules l.«module».0) k p);
      }

    pub least_lack : (bound : ℕ) → bound ≡ suc (length names) → (o : Option Lack) → IsLeastUpTo bound o → IsLeastLack modules names Lacking o
    least_lack bound all None h = λ y k p. let n = has p.include k p.among p.lacks in h n.0 (omega (arith, n.1, all)) p.include p.among (subst (λ j. IsLackOf modules x.list.items p.include j) n.2 p.lacks)
    least_lack bound all (Some l) h =
        let w : l.«module».0 < length modules = omega (arith, module_within h.1.0 h.1.1, h.1.2) in
        (w, omega (arith, h.0, all), least_module bound all l h w, least_key bound all l h)
