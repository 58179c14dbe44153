-- One more definition is settled: what was settled before it stays.
use Rattle.std.proofs.Common.{◌≡◌, ⊎_elim, ◌+◌, ◌<◌, ℕ, List, length, take, get_or, set, Option, Some, None, refl, sym, ap, ◌∙◌, subst, arith}
use Rattle.std.specs.Prelude.{Contains, bytes_eq}
use Rattle.std.specs.Option.{option_map_or}
use Rattle.std.specs.Map.{lookup}
use Rattle.std.proofs.lemmas.List.{take_more, get_or_default, get_or-set_same, get_or-set_other, length-take-le}
use Rattle.std.proofs.lemmas.List.Elements.{Contains-push_cases}
use Rattle.rn_pattern.specs.Tree.{Tree}
use Rattle.rn_text.specs.Texts.{Text}
use Rattle.rn_pattern.specs.Canonical.{canonical, ref_unless_settled}
use Rattle.rn_pattern.specs.CanonicalShape.{IsCanonicalPattern}
use Rattle.rn_pattern.specs.References.{RefersOutside}
use Rattle.rn_pattern.proofs.Matches.Ranked.{stand_in_same}
use Rattle.rn_pattern.proofs.CanonicalForms.Settled.{canonical_firm}
use Rattle.rn_simplify.specs.inside.DefinitionNumbers.{AreSettled, number_of}
use Rattle.rn_simplify.specs.inside.SettlingOrder.{IsInOrder}
use Rattle.rn_simplify.specs.inside.FormKinds.{becomes_by, stand_in, kind_of}
use Rattle.rn_simplify.specs.declared.form_kind.FormKind.{FormKind}
use Rattle.rn_simplify.proofs.Simplified.FormKinds.{settled_canonical, stand_in_is}
use Rattle.rn_simplify.proofs.Simplified.ReferenceGraph.{nothing, is_at, body_is}
use Rattle.rn_assemble.proofs.Referring.KeyOrders.{taken_at, before_taken}

-- patterns whose references outside elements become the same have forms of one kind
kind_same : (s t : Text → Tree) → ((x : Text) → IsCanonicalPattern (s x)) → ((x : Text) → IsCanonicalPattern (t x)) → (x : Text) (p : Tree) → ((y : Text) → RefersOutside y p → s y ≡ t y) → ref_unless_settled x (canonical s p) ≡ ref_unless_settled x (canonical t p)
kind_same s t f g x p h = stand_in_same x (canonical s p) (canonical t p) (canonical_firm s t f p (λ y k _. sym (h y k))) (canonical_firm t s g p (λ y k _. h y k))

module _ (ds : List (Text × Tree)) (order : List ℕ) (kinds kinds' : List FormKind) (ordered : IsInOrder ds order) (size : length kinds ≡ length ds) (i : ℕ) (l : i < length order)
    (more : kinds' ≡ set kinds (get_or order i 0) (kind_of (canonical (becomes_by ds kinds) (get_or ds (get_or order i 0) nothing).1))) where
  abbrev n : ℕ
  n = get_or order i 0

  abbrev p : Tree
  p = (get_or ds n nothing).1

  abbrev t : Text → Tree
  t = becomes_by ds kinds

  abbrev t' : Text → Tree
  t' = becomes_by ds kinds'

  same_at : (m : Option ℕ) → ¬ (m ≡ Some n) → option_map_or (λ j. get_or kinds' j FormKind.Other) m FormKind.Other ≡ option_map_or (λ j. get_or kinds j FormKind.Other) m FormKind.Other
  same_at None ne = refl
  same_at (Some j) ne = ap (λ w. get_or w j FormKind.Other) more ∙ get_or-set_other kinds n j (kind_of (canonical t p)) FormKind.Other (λ e. ne (ap (λ m. Some m) e))

  other : (x : Text) → ¬ (number_of ds x ≡ Some n) → t' x ≡ t x
  other x ne = ap (λ w. stand_in w x) (same_at (number_of ds x) ne)

  this : (x : Text) → number_of ds x ≡ Some n → t' x ≡ ref_unless_settled x (canonical t p)
  this x e =
      let within = (is_at ds x n e).within in
      let there : get_or kinds' n FormKind.Other ≡ kind_of (canonical t p) =
      ap (λ w. get_or w n FormKind.Other) more ∙ get_or-set_same kinds n (kind_of (canonical t p)) FormKind.Other (omega (arith, within, size)) in
      ap (λ m. stand_in (option_map_or (λ j. get_or kinds' j FormKind.Other) m FormKind.Other) x) e ∙ ap (λ w. stand_in w x) there ∙ stand_in_is x (canonical t p)

  still : (x : Text) (q : Tree) → ((y : Text) → RefersOutside y q → ¬ (number_of ds y ≡ Some n)) → ref_unless_settled x (canonical t q) ≡ ref_unless_settled x (canonical t' q)
  still x q h = kind_same t t' (settled_canonical ds kinds) (settled_canonical ds kinds') x q (λ y r. sym (other y (h y r)))

  apart : Contains (take i order) n → ⊥
  apart = ordered.once i l

  earlier : (x : Text) (m : ℕ) (q : Tree) → number_of ds x ≡ Some m → lookup (bytes_eq x) ds ≡ Some q → Contains (take i order) m → (y : Text) → RefersOutside y q → ¬ (number_of ds y ≡ Some n)
  earlier x m q e d c y r f =
      let (j, h, is) = before_taken order i m (omega (arith, l)) c in
      let here : get_or order j 0 ≡ m = get_or_default order j 0 m (omega (arith, h, l)) ∙ is in
      let (g, less, there) = before_taken order j n (omega (arith, h, l)) (ordered.behind j n x y q (omega (arith, h, l)) (e ∙ ap (λ z. Some z) (sym here)) d r f) in
      apart (taken_at order i g n (omega (arith, l)) (omega (arith, less, h)) there)

  first : (x : Text) (m : ℕ) (q : Tree) → number_of ds x ≡ Some m → lookup (bytes_eq x) ds ≡ Some q → Contains (take i order) m → t x ≡ ref_unless_settled x (canonical t q) → t' x ≡ ref_unless_settled x (canonical t' q)
  first x m q e d c h =
      let ne : ¬ (number_of ds x ≡ Some n) = λ f. (let g : Some m ≡ Some n = sym e ∙ f in let same : m ≡ n = cc in apart (subst (λ z. Contains (take i order) z) same c)) in
      other x ne ∙ h ∙ still x q (earlier x m q e d c)

  last : (x : Text) (q : Tree) → number_of ds x ≡ Some n → lookup (bytes_eq x) ds ≡ Some q → t' x ≡ ref_unless_settled x (canonical t' q)
  last x q e d =
      this x e ∙ ap (λ r. ref_unless_settled x (canonical t r)) (body_is ds x n q e d)
      ∙ still x q (λ y r f. apart (ordered.behind i n x y q l e d r f))

  pub settled_more : AreSettled ds (take i order) t → AreSettled ds (take (i + 1) order) t'
  settled_more h x m q e d c =
      ⊎_elim (λ b. first x m q e d b (h x m q e d b)) (λ same. last x q (e ∙ ap (λ z. Some z) (sym same)) d)
      (Contains-push_cases (take i order) n m (subst (λ (l : List ℕ). Contains l m) (take_more order i 0 l) c))

pub settled_none : (ds : List (Text × Tree)) (order : List ℕ) (t : Text → Tree) → AreSettled ds (take 0 order) t
settled_none ds order t x k p e d (j, l, is) = absurd (omega (arith, l, length-take-le 0 order (omega arith)))
