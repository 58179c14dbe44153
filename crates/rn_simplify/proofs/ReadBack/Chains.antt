-- Operands in a row, one after the other.
use Rattle.std.proofs.Common.{◌≡◌, ℕ, zero, suc, ◌<◌, List, [], ◌∷◌, ◌++◌, length, map, take, refl, sym, ap, ◌∙◌, subst, append_assoc, arith}
use Rattle.rn_text.specs.Parts.{Piece}
use Rattle.rn_pattern.specs.Tree.{name_trees_of}
use Rattle.rn_pattern.specs.declared.tree.NameClass.{NameClass}
use Rattle.rn_simplify.specs.Spelling.{Prefixes, NodeText, operand, chain, written_name, written_names}
use Rattle.rn_pattern.specs.View.{name_class_view}
use Rattle.rn_simplify.specs.declared.writer.Writer.{Writer}
use Rattle.rn_simplify.specs.inside.Writes.{Writes}
use Rattle.rn_simplify.proofs.Texts.Writing.{writes_nil, writes_as, writes_then}

-- what stands before a further operand
abbrev pub before : {A : Type 0} → List A → List Piece → List Piece
before [] s = []
before (v ∷ vs) s = s

module _ {A : Type 0} (g : A → NodeText) (s : List Piece) where
  abbrev pub row : List A → List Piece
  row xs = chain s (map g xs)

  pub row_more : (xs : List A) (x : A) → row (xs ++ x ∷ []) ≡ row xs ++ (before xs s ++ operand (g x))
  row_more [] x = refl
  row_more (y ∷ []) x = refl
  row_more (y ∷ z ∷ xs) x = ap (λ r. operand (g y) ++ (s ++ r)) (row_more (z ∷ xs) x) ∙ ap (λ r. operand (g y) ++ r) (sym (append_assoc s (row (z ∷ xs)) (s ++ operand (g x)))) ∙ sym (append_assoc (operand (g y)) (s ++ row (z ∷ xs)) (s ++ operand (g x)))

pub class_rows : (f : Prefixes) (cs : List NameClass) → written_names f (name_trees_of (map name_class_view cs)) ≡ map (λ c. written_name f (name_class_view c)) cs
class_rows f [] = refl
class_rows f (c ∷ cs) = ap (λ r. written_name f (name_class_view c) ∷ r) (class_rows f cs)

-- one more operand, behind what stands between
pub writes_row_more : {A : Type 0} (g : A → NodeText) (s : List Piece) (xs : List A) (x : A) {a b c d : Writer} → Writes (row g s xs) a b → Writes (before xs s) b c → Writes (operand (g x)) c d → Writes (row g s (xs ++ x ∷ [])) a d
writes_row_more g s xs x h j k = writes_as (sym (row_more g s xs x)) (writes_then (row g s xs) (before xs s ++ operand (g x)) h (writes_then (before xs s) (operand (g x)) j k))

pub before_none : {A : Type 0} (xs : List A) (i : ℕ) (s : List Piece) {a : Writer} → i ≡ 0 → Writes (before (take i xs) s) a a
before_none xs i s {a} e = subst (λ j. Writes (before (take j xs) s) a a) (sym e) (writes_nil a)

before_is : {A : Type 0} (xs : List A) (i : ℕ) (s : List Piece) → 0 < i → i < length xs → before (take i xs) s ≡ s
before_is [] i s h l = absurd (omega (arith, l))
before_is (x ∷ xs) zero s h l = absurd (omega (arith, h))
before_is (x ∷ xs) (suc i) s h l = refl

pub before_some : {A : Type 0} (xs : List A) (i : ℕ) (s : List Piece) {a b : Writer} → 0 < i → i < length xs → Writes s a b → Writes (before (take i xs) s) a b
before_some xs i s h l k = writes_as (sym (before_is xs i s h l)) k
