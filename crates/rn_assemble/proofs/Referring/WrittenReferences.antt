-- The names that a written pattern refers to are those that it refers to when it is resolved.
use Rattle.std.proofs.Common.{◌≡◌, ◌⊎◌, inl, inr, ⊎_elim, List, [], ◌∷◌, ◌++◌, Some, None, refl, sym, ap, ◌∙◌, subst, arith, Contains}
use Rattle.std.specs.Prelude.{◌↔◌}
use Rattle.std.proofs.lemmas.Grind.{flat_map-append}
use Rattle.std.proofs.lemmas.List.Elements.{Contains-append_left, Contains-append_right, Contains-append_cases, Contains-push_cases}
use Rattle.rn_text.specs.Texts.{Text}
use Rattle.rn_pattern.specs.Reached.{RefersTo, SomeRefersTo}
use Rattle.rn_pattern.specs.References.{RefersOutside, SomeRefersOutside}
use Rattle.rn_pattern.proofs.Ordered.InOrder.{contains_front}
use Rattle.rn_syntax.specs.declared.tree.Operator.TheVariants as o
use Rattle.rn_syntax.specs.declared.tree.Postfix.TheVariants as postfix
use Rattle.rn_syntax.specs.Tree as t
use Rattle.rn_syntax.specs.Tree.{Declaration, Pattern, Patterns}
use Rattle.rn_assemble.specs.Resolve.{resolved_pattern, resolved_patterns}
use Rattle.rn_assemble.specs.inside.Referred.{references, all_references, names_within, within}
use Rattle.rn_pattern.specs.declared.references.Reach.{Reach}
use Rattle.rn_pattern.specs.declared.references.Reach.TheVariants.{Everywhere, OutsideElements}

none : (y : Text) → Contains [] y ↔ ⊥
none y = ((λ c. absurd (omega (arith, c.1))), λ h. absurd h)

one : (x y : Text) → Contains (x ∷ []) y ↔ (y ≡ x)
one x y = ((λ c. ⊎_elim (λ n. absurd (omega (arith, n.1))) (λ e. sym e) (Contains-push_cases [] x y c)), λ e. subst (Contains (x ∷ [])) (sym e) (contains_front x []))

alone : (A B : Type 0) → (A ↔ B) → A ↔ (B ⊎ (⊥ ⊎ ⊥))
alone A B h = ((λ a. inl (h.0 a)), λ k. ⊎_elim h.1 (λ n. ⊎_elim (λ x. absurd x) (λ x. absurd x) n) k)

either : (meant : Reach) (xs ys : List (Text × Reach)) (y : Text) (A B : Type 0) → (Contains (names_within meant xs) y ↔ A) → (Contains (names_within meant ys) y ↔ B) → Contains (names_within meant (xs ++ ys)) y ↔ (A ⊎ B)
either meant xs ys y A B h k =
    let both = flat_map-append (λ (r : Text × Reach). within meant r.1 r.0) xs ys in (
      (λ c. ⊎_elim (λ a. inl (h.0 a)) (λ b. inr (k.0 b)) (Contains-append_cases (names_within meant xs) (names_within meant ys) y (subst (λ ns. Contains ns y) both c))),
      λ s. subst (λ ns. Contains ns y) (sym both) (⊎_elim (λ a. Contains-append_left (names_within meant xs) (names_within meant ys) y (h.1 a)) (λ b. Contains-append_right (names_within meant xs) (names_within meant ys) y (k.1 b)) s),
    )

-- no reference inside elements is one outside them
mutual
  none_outside : (p : Pattern) → names_within OutsideElements (references Everywhere p) ≡ []
  none_outside (t.element c p) = none_outside p
  none_outside (t.attribute c p) = none_outside p
  none_outside (t.list p) = none_outside p
  none_outside (t.mixed p) = none_outside p
  none_outside t.empty = refl
  none_outside t.not_allowed = refl
  none_outside t.text = refl
  none_outside (t.ref x) = refl
  none_outside (t.value d s) = refl
  none_outside (t.datum d ps) = refl
  none_outside (t.datum_but d ps n p) = none_outside p
  none_outside (t.repeated s p) = none_outside p
  none_outside (t.chain s ps) = all_none_outside ps

  all_none_outside : (ps : Patterns) → names_within OutsideElements (all_references Everywhere ps) ≡ []
  all_none_outside t.no_patterns = refl
  all_none_outside (t.pattern p ps) =
      flat_map-append (λ (r : Text × Reach). within OutsideElements r.1 r.0) (references Everywhere p) (all_references Everywhere ps)
      ∙ ap (λ ns. ns ++ names_within OutsideElements (all_references Everywhere ps)) (none_outside p) ∙ all_none_outside ps

module _ (i : Text) (ds : List Declaration) (y : Text) where
  mutual
    pub referred : (r : Reach) (p : Pattern) → Contains (names_within Everywhere (references r p)) y ↔ RefersTo y (resolved_pattern i ds p)
    referred r (t.element c p) = referred Everywhere p
    referred r (t.attribute c p) = referred r p
    referred r (t.list p) = referred r p
    referred r (t.mixed p) = alone _ _ (referred r p)
    referred r t.empty = none y
    referred r t.not_allowed = none y
    referred r t.text = none y
    referred r (t.ref x) = one x y
    referred r (t.value None s) = none y
    referred r (t.value (Some d) s) = none y
    referred r (t.datum d ps) = none y
    referred r (t.datum_but d ps n p) = referred r p
    referred r (t.repeated postfix.Question p) = alone _ _ (referred r p)
    referred r (t.repeated postfix.Star p) = alone _ _ (referred r p)
    referred r (t.repeated postfix.Plus p) = referred r p
    referred r (t.chain o.Comma ps) = all_referred r ps
    referred r (t.chain o.Ampersand ps) = all_referred r ps
    referred r (t.chain o.Bar ps) = all_referred r ps

    all_referred : (r : Reach) (ps : Patterns) → Contains (names_within Everywhere (all_references r ps)) y ↔ SomeRefersTo y (resolved_patterns i ds ps)
    all_referred r t.no_patterns = none y
    all_referred r (t.pattern p ps) = either Everywhere (references r p) (all_references r ps) y _ _ (referred r p) (all_referred r ps)

  mutual
    pub referred_outside : (p : Pattern) → Contains (names_within OutsideElements (references OutsideElements p)) y ↔ RefersOutside y (resolved_pattern i ds p)
    referred_outside (t.element c p) = subst (λ ns. Contains ns y ↔ ⊥) (sym (none_outside p)) (none y)
    referred_outside (t.attribute c p) = referred_outside p
    referred_outside (t.list p) = referred_outside p
    referred_outside (t.mixed p) = alone _ _ (referred_outside p)
    referred_outside t.empty = none y
    referred_outside t.not_allowed = none y
    referred_outside t.text = none y
    referred_outside (t.ref x) = one x y
    referred_outside (t.value None s) = none y
    referred_outside (t.value (Some d) s) = none y
    referred_outside (t.datum d ps) = none y
    referred_outside (t.datum_but d ps n p) = referred_outside p
    referred_outside (t.repeated postfix.Question p) = alone _ _ (referred_outside p)
    referred_outside (t.repeated postfix.Star p) = alone _ _ (referred_outside p)
    referred_outside (t.repeated postfix.Plus p) = referred_outside p
    referred_outside (t.chain o.Comma ps) = all_referred_outside ps
    referred_outside (t.chain o.Ampersand ps) = all_referred_outside ps
    referred_outside (t.chain o.Bar ps) = all_referred_outside ps

    all_referred_outside : (ps : Patterns) → Contains (names_within OutsideElements (all_references OutsideElements ps)) y ↔ SomeRefersOutside y (resolved_patterns i ds ps)
    all_referred_outside t.no_patterns = none y
    all_referred_outside (t.pattern p ps) = either OutsideElements (references OutsideElements p) (all_references OutsideElements ps) y _ _ (referred_outside p) (all_referred_outside ps)
