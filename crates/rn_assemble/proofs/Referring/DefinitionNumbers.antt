-- The numbers of definitions in their list, by their names.
use Rattle.std.proofs.Common.{◌≡◌, ◌+◌, ◌<◌, ℕ, zero, suc, Bool, true, false, cond, not, List, [], ◌∷◌, length, map, get_or, Option, Some, None, sym, ap, ◌∙◌, arith, lt-ltb}
use Rattle.std.specs.Prelude.{bytes_eq}
use Rattle.std.specs.List.{prefix_len}
use Rattle.std.specs.Map.{lookup}
use Rattle.std.specs.Cmp.Lexicographic.{bytes_decides}
use Rattle.std.proofs.lemmas.List.{get_or-map, length-map}
use Rattle.std.proofs.lemmas.List.Quantifiers.{position-Some}
use Rattle.rn_pattern.specs.Tree.{Tree, not_allowed}
use Rattle.rn_text.specs.Texts.{Text}
use Rattle.rn_assemble.specs.SettlingOrder.{number_of}

-- what stands for a definition that is not there
abbrev pub nothing : Text × Tree
nothing = ([], not_allowed)

lookup_first : (test : Text → Bool) (ds : List (Text × Tree)) (k : ℕ) → k < length ds → test (get_or ds k nothing).0 ≡ true → ((j : ℕ) → j < k → test (get_or ds j nothing).0 ≡ false) → lookup test ds ≡ Some (get_or ds k nothing).1
lookup_first test [] k l h f = absurd (omega (arith, l))
lookup_first test (d ∷ ds) zero l h f = ap (λ b. cond b (Some d.1) (lookup test ds)) h
lookup_first test (d ∷ ds) (suc k) l h f = ap (λ b. cond b (Some d.1) (lookup test ds)) (f 0 (omega arith)) ∙ lookup_first test ds k (omega (arith, l)) h (λ j m. f (suc j) (omega (arith, m)))

-- of a name with a number: its definition, by its place
pub record IsAt (ds : List (Text × Tree)) (x : Text) (k : ℕ) : Type 0 where
  pub within : k < length ds
  pub name : (get_or ds k nothing).0 ≡ x
  pub found : lookup (bytes_eq x) ds ≡ Some (get_or ds k nothing).1

name_at : (ds : List (Text × Tree)) (k : ℕ) → k < length ds → get_or (map (λ (d : Text × Tree). d.0) ds) k [] ≡ (get_or ds k nothing).0
name_at ds k l = get_or-map (λ (d : Text × Tree). d.0) ds k nothing [] l

pub is_at : (ds : List (Text × Tree)) (x : Text) (k : ℕ) → number_of ds x ≡ Some k → IsAt ds x k
is_at ds x k e =
    let p = position-Some (bytes_eq x) (map (λ (d : Text × Tree). d.0) ds) k [] e in
    let l : k < length ds = omega (arith, p.0, length-map ds (λ (d : Text × Tree). d.0)) in
    record {
      within = l;
      name = sym ((bytes_decides x (get_or ds k nothing).0).0 (ap (bytes_eq x) (sym (name_at ds k l)) ∙ p.1));
      found = lookup_first (bytes_eq x) ds k l (ap (bytes_eq x) (sym (name_at ds k l)) ∙ p.1) (λ j m. ap (bytes_eq x) (sym (name_at ds j (omega (arith, m, l)))) ∙ p.2 j m);
    }

front_at : (b : Bool) (n m : ℕ) (p : Tree) (q o : Option Tree) → (o ≡ Some p → n < m) → cond b q o ≡ Some p → cond (not b) (1 + n) 0 < suc m
front_at true n m p q o f e = omega arith
front_at false n m p q o f e = omega (arith, f e)

front_within : (test : Text → Bool) (ds : List (Text × Tree)) (p : Tree) → lookup test ds ≡ Some p → prefix_len (λ y. not (test y)) (map (λ (d : Text × Tree). d.0) ds) < length (map (λ (d : Text × Tree). d.0) ds)
front_within test [] p e = cc
front_within test (d ∷ ds) p e = front_at (test d.0) (prefix_len (λ y. not (test y)) (map (λ (d : Text × Tree). d.0) ds)) (length (map (λ (d : Text × Tree). d.0) ds)) p (Some d.1) (lookup test ds) (front_within test ds p) e

-- a name that has a definition has a number
pub number_some : (ds : List (Text × Tree)) (x : Text) (p : Tree) → lookup (bytes_eq x) ds ≡ Some p → (k : ℕ) × (number_of ds x ≡ Some k)
number_some ds x p e =
    let ns = map (λ (d : Text × Tree). d.0) ds in
    let n = prefix_len (λ y. not (bytes_eq x y)) ns in
    (n, ap (λ b. cond b (Some n) None) (lt-ltb n (length ns) (front_within (bytes_eq x) ds p e)))

-- of a definition that is found, the pattern at the number
pub body_is : (ds : List (Text × Tree)) (x : Text) (k : ℕ) (p : Tree) → number_of ds x ≡ Some k → lookup (bytes_eq x) ds ≡ Some p → (get_or ds k nothing).1 ≡ p
body_is ds x k p e f = let g : Some (get_or ds k nothing).1 ≡ Some p = sym (is_at ds x k e).found ∙ f in cc
