-- References settled in an order in which each comes after those that it refers to outside elements.
use Rattle.std.proofs.Common.{◌≡◌, ◌<◌, inl, inr, ℕ, zero, suc, Bool, true, false, ◌∷◌, Option, Some, None, refl, sym, ap, ◌∙◌, arith}
use Rattle.rn_pattern.specs.Tree.{Tree, Trees, not_allowed, empty, text, ref, value, datum, datum_but, list, attribute, element, one_or_more, group, interleave, choice, no_trees, more_trees}
use Rattle.rn_text.specs.Texts.{Text}
use Rattle.rn_pattern.specs.Matching.{Grammar, definition_of}
use Rattle.rn_pattern.specs.Canonical.{canonical_name, choice_step, group_step, interleave_step, one_or_more_step, list_step, attribute_step, datum_but_step, canonical, canonical_all, ref_unless_settled, settled_within}
use Rattle.rn_pattern.specs.Reached.{RefersTo, SomeRefersTo}
use Rattle.rn_pattern.specs.References.{RefersOutside}
use Rattle.rn_pattern.proofs.CanonicalForms.Settled.{is_settled, Firm, canonical_firm, next, settled_canonical, solid_stand_in}
use Rattle.rn_pattern.specs.CanonicalShape.{AnyName, IsCanonicalPattern}

module _ (s t : Text → Tree) where
  mutual
    -- the canonical form depends on what the names become that the pattern refers to
    pub canonical_same : (p : Tree) → ((x : Text) → RefersTo x p → s x ≡ t x) → canonical s p ≡ canonical t p
    canonical_same not_allowed f = refl
    canonical_same empty f = refl
    canonical_same text f = refl
    canonical_same (ref x) f = f x refl
    canonical_same (value l x v) f = refl
    canonical_same (datum l x ps) f = refl
    canonical_same (datum_but l x ps p) f = ap (datum_but_step l x ps) (canonical_same p f)
    canonical_same (list p) f = ap list_step (canonical_same p f)
    canonical_same (attribute c p) f = ap (attribute_step (canonical_name c)) (canonical_same p f)
    canonical_same (element c p) f = ap (element (canonical_name c)) (canonical_same p f)
    canonical_same (one_or_more p) f = ap one_or_more_step (canonical_same p f)
    canonical_same (group ps) f = ap group_step (canonical_all_same ps f)
    canonical_same (interleave ps) f = ap interleave_step (canonical_all_same ps f)
    canonical_same (choice ps) f = ap choice_step (canonical_all_same ps f)

    canonical_all_same : (ps : Trees) → ((x : Text) → SomeRefersTo x ps → s x ≡ t x) → canonical_all s ps ≡ canonical_all t ps
    canonical_all_same no_trees f = refl
    canonical_all_same (more_trees p ps) f = let e = canonical_same p (λ x h. f x (inl h)) in let r = canonical_all_same ps (λ x h. f x (inr h)) in λ i. e i ∷ r i

stand_in_same_at : (x : Text) (p q : Tree) (a b : Bool) → is_settled p ≡ a → is_settled q ≡ b → Firm p q → Firm q p → ref_unless_settled x p ≡ ref_unless_settled x q
stand_in_same_at x p q true b e h f g = ap (ref_unless_settled x) (sym (f e))
stand_in_same_at x p q false true e h f g = ap (ref_unless_settled x) (g h)
stand_in_same_at x p q false false e h f g = solid_stand_in x p e ∙ sym (solid_stand_in x q h)

-- patterns that are settled alike leave the same reference
pub stand_in_same : (x : Text) (p q : Tree) → Firm p q → Firm q p → ref_unless_settled x p ≡ ref_unless_settled x q
stand_in_same x p q f g = stand_in_same_at x p q (is_settled p) (is_settled q) refl refl f g

-- t: what each wanted name becomes, by one step from what the names become that its definition refers to outside elements
module _ (G : Grammar) (t : Text → Tree) (forms : (x : Text) → IsCanonicalPattern (t x)) (Wanted : Text → Type 0) (rank : Text → ℕ)
    (made : (x : Text) → Wanted x → t x ≡ next G t x (definition_of G x))
    (falls : (x y : Text) (p : Tree) → Wanted x → definition_of G x ≡ Some p → RefersOutside y p → Wanted y × (rank y < rank x)) where
  next_same : (k : ℕ) (x : Text) (o : Option Tree) → definition_of G x ≡ o → Wanted x → ((p : Tree) → definition_of G x ≡ Some p → (y : Text) → RefersOutside y p → settled_within k G y ≡ t y) → next G (settled_within k G) x o ≡ next G t x o
  next_same k x None e w ih = refl
  next_same k x (Some p) e w ih =
      stand_in_same x (canonical (settled_within k G) p) (canonical t p)
      (canonical_firm (settled_within k G) t (λ y. settled_canonical G AnyName k y (λ _. tt)) p (λ y h _. sym (ih p e y h)))
      (canonical_firm t (settled_within k G) forms p (λ y h _. ih p e y h))

  -- looking through more references than its rank gives a name what it becomes so
  pub settled_is : (k : ℕ) (x : Text) → Wanted x → rank x < k → settled_within k G x ≡ t x
  settled_is zero x w l = absurd (omega (arith, l))
  settled_is (suc k) x w l =
      next_same k x (definition_of G x) refl w (λ p e y h. let (v, m) = falls x y p w e h in settled_is k y v (omega (arith, l, m))) ∙ sym (made x w)
