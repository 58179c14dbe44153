-- A set without refusal has no name that is plain twice, and none that is combined by both methods.
use Rattle.std.proofs.Common.{◌≡◌, ◌≢◌, ◌<◌, ◌⊎◌, inl, inr, Bool, true, false, cond, ◌&&◌, List, [], ◌∷◌, map, refl, sym, subst, arith}
use Rattle.std.specs.Prelude.{count_by}
use Rattle.std.specs.List.{list_any}
use Rattle.std.proofs.lemmas.Bool.{false≢true}
use Rattle.rn_modset.specs.Contributions.{Member}
use Rattle.rn_modset.proofs.Unions.Membership.{In, contains_from_in}
use Rattle.rn_assemble.specs.Components.{Key, same_key, Component, NamedModule, set_components}
use Rattle.rn_assemble.specs.Combine.{of_key, is_plain, is_choice, is_interleave, IsPlainTwice, IsMixed}
use Rattle.rn_assemble.specs.Refusal.{Refusal, plain_twice, mixed_methods, Stands, AreModules}
use Rattle.rn_assemble.proofs.Refusals.NoLeast.{no_key}
use Rattle.rn_assemble.proofs.Refusals.NoRefusal.{key_is}

abbrev keys : List Component → List Key
keys cs = map (λ (c : Component). c.key) cs

keyed_at : (k : Key) (c : Component) (cs : List Component) (b : Bool) → same_key k c.key ≡ b → (of_key k cs ≢ [] → In k (keys cs)) → cond b (c ∷ of_key k cs) (of_key k cs) ≢ [] → (c.key ≡ k) ⊎ In k (keys cs)
keyed_at k c cs true e ih some = inl (sym (key_is k c.key e))
keyed_at k c cs false e ih some = inr (ih some)

-- a key that has a component is one of the keys
keyed : (k : Key) (cs : List Component) → of_key k cs ≢ [] → In k (keys cs)
keyed k [] some = absurd (some refl)
keyed k (c ∷ cs) some = keyed_at k c cs (same_key k c.key) refl (keyed k cs) some

module _ (s : List Member) (modules : List NamedModule) (a : AreModules s modules) (none : (q : Refusal) → ¬ Stands s q) where
  abbrev cs : List Component
  cs = set_components modules

  pub plain_once : (k : Key) → ¬ IsPlainTwice k cs
  plain_once =
      no_key (λ k. IsPlainTwice k cs) (keys cs)
      (λ k h. contains_from_in (keys cs) k (keyed k cs (λ e. absurd (omega (arith, subst (λ (l : List Component). 1 < count_by (λ (c : Component). is_plain c.method) l) e h)))))
      (λ k least. none (plain_twice k) (modules, a, least))

  pub one_method : (k : Key) → ¬ IsMixed k cs
  one_method =
      no_key (λ k. IsMixed k cs) (keys cs)
      (λ k h. contains_from_in (keys cs) k (keyed k cs (λ e. false≢true (subst (λ (l : List Component). (list_any (λ (c : Component). is_choice c.method) l && list_any (λ (c : Component). is_interleave c.method) l) ≡ true) e h))))
      (λ k least. none (mixed_methods k) (modules, a, least))
