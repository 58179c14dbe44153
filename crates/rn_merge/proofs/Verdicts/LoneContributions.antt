-- A contribution alone is effective.
use Rattle.std.proofs.Common.{◌≡◌, ℕ, List, [], ◌∷◌, refl, sym, ap, ◌∙◌, subst, arith, inl, inr}
use Rattle.std.specs.Prelude.{Option, Some, Contains}
use Rattle.std.specs.List.Sorted.{IsStrictlySortedBy}
use Rattle.rn_modset.specs.Contributions.{Member}
use Rattle.rn_modset.specs.Modules.{Module, NamesRise, Holds, IsEffective, AreEffective}
use Rattle.rn_modset.proofs.Unions.Membership.{in_from_contains, contains_from_in, in_from_has, has_from_in}

module _ (name : List ℕ) (revision : ℕ) (text : List ℕ) where
  abbrev lone_set : List Member
  lone_set = record { name = name; revision = revision; text = Some text } ∷ []

  abbrev modules : List Module
  modules = (name, text) ∷ []

  holds : Holds lone_set name revision (Some text)
  holds = has_from_in lone_set (record { name = name; revision = revision; text = Some text }) (inl refl)

  is_it : (n : List ℕ) (r : ℕ) (t : Option (List ℕ)) → Holds lone_set n r t → (name ≡ n) × (revision ≡ r) × (Some text ≡ t)
  is_it n r t h = elim (in_from_has lone_set (record { name = n; revision = r; text = t }) h) [
    | inl e ↦ (ap (λ (m : Member). m.name) e, ap (λ (m : Member). m.revision) e, ap (λ (m : Member). m.text) e)
    | inr k ↦ absurd k
  ]

  effective : IsEffective lone_set name text
  effective = (
    revision,
    record { text = Some text; held = holds; highest = λ r t h. omega (arith, (is_it name r t h).1) },
    λ t. (λ h. sym (is_it name revision t h).2, λ e. subst (λ (o : Option (List ℕ)). Holds lone_set name revision o) (sym e) holds),
  )

  only : (n t : List ℕ) → IsEffective lone_set n t → Contains modules (n, t)
  only n t (r, highest, texts) =
      let (same, _, holder) = is_it n r (Some t) ((texts (Some t)).1 refl) in
      let same_text : text ≡ t = cc in
      contains_from_in modules (n, t) (inl (λ i. (same i, same_text i)))

  rises : NamesRise modules
  unfolding IsStrictlySortedBy
  rises = (tt, tt)

  pub effective_alone : AreEffective lone_set modules
  effective_alone = record {
    in_order = rises;
    are = λ n t. (
      λ c. elim (in_from_contains modules (n, t) c) [
        | inl e ↦ subst (λ (m : Module). IsEffective lone_set m.0 m.1) e effective
        | inr k ↦ absurd k
      ],
      only n t,
    );
    agreed = λ n r (highest, (t, u, differ, one, other)). differ (sym (is_it n r t one).2 ∙ (is_it n r u other).2);
  }
