-- The graph of a grammar's references: what is reached in it are the names that are reached.
use Rattle.std.proofs.Common.{◌≡◌, inl, inr, ◌<◌, ℕ, List, [], length, get_or, Some, sym, ap, ◌∙◌, subst, arith}
use Rattle.std.specs.Prelude.{Contains}
use Rattle.std.proofs.lemmas.Bool.{cases_lt}
use Rattle.std.proofs.lemmas.List.{get_or-map, length-map, get_or_past}
use Rattle.rn_pattern.specs.Tree.{Tree}
use Rattle.rn_text.specs.Texts.{Text}
use Rattle.rn_pattern.specs.Matching.{Grammar}
use Rattle.rn_pattern.specs.Reached.{IsReached, by_start, by_definition}
use Rattle.rn_graph.specs.Graph.{AllBelow, IsGraph, Reached, at_first, along, row}
pub use Rattle.rn_assemble.proofs.Referring.DefinitionNumbers.{body_is, is_at, nothing, number_some}
use Rattle.rn_simplify.specs.inside.DefinitionNumbers.{graph_of, number_of, numbers_of, rows_by, start_of}
use Rattle.rn_simplify.specs.inside.ReferredNames.{references}
use Rattle.rn_simplify.proofs.Simplified.ReferredIn.{contains_none, refers_in, in_refers, mapped_in, source_of}

pub numbers_below : (ds : List (Text × Tree)) (xs : List Text) → AllBelow (length ds) (numbers_of ds xs)
numbers_below ds xs k c = let w = source_of (number_of ds) xs k c in (is_at ds w.0 k w.2).within

-- a row that holds something is there
pub row_within : (rows : List (List ℕ)) (k y : ℕ) → Contains (row rows k) y → k < length rows
row_within rows k y c = elim (cases_lt k (length rows)) [
  | inl h ↦ h
  | inr h ↦ absurd (contains_none y (subst (λ (l : List ℕ). Contains l y) (get_or_past rows k [] h) c))
]

pub row_is : (ds es : List (Text × Tree)) (k : ℕ) → k < length es → row (rows_by ds es) k ≡ numbers_of ds (references (get_or es k nothing).1)
row_is ds es k l = get_or-map (λ (e : Text × Tree). numbers_of ds (references e.1)) es k nothing [] l

pub rows_size : (ds es : List (Text × Tree)) → length (rows_by ds es) ≡ length es
rows_size ds es = length-map es (λ (e : Text × Tree). numbers_of ds (references e.1))

pub rows_graph : (ds es : List (Text × Tree)) → length es ≡ length ds → IsGraph (rows_by ds es)
rows_graph ds es same k y c =
    let l = row_within (rows_by ds es) k y c in
    let m = numbers_below ds (references (get_or es k nothing).1) y (subst (λ (r : List ℕ). Contains r y) (row_is ds es k (omega (arith, l, rows_size ds es))) c) in
    omega (arith, m, same, rows_size ds es)

module _ (F : Grammar) where
  abbrev ds : List (Text × Tree)
  ds = F.definitions

  pub reached_number : (x : Text) (k : ℕ) → IsReached F x → number_of ds x ≡ Some k → Reached (graph_of F) (start_of F) k
  reached_number x k (by_start h) e = at_first (mapped_in (number_of ds) (references F.start) x k (refers_in x F.start h) e)
  reached_number x k (by_definition {y = y} p r f h) e =
      let w = number_some ds y p f in
      let m = w.0 in
      let at = is_at ds y m w.1 in
      let here = mapped_in (number_of ds) (references p) x k (refers_in x p h) e in
      along (reached_number y m r w.1) (subst (λ (l : List ℕ). Contains l k) (ap (λ q. numbers_of ds (references q)) (sym (body_is ds y m p w.1 f)) ∙ sym (row_is ds ds m at.within)) here)

  pub number_reached : (k : ℕ) → Reached (graph_of F) (start_of F) k → (x : Text) × (number_of ds x ≡ Some k) × IsReached F x
  number_reached k (at_first c) = let w = source_of (number_of ds) (references F.start) k c in (w.0, w.2, by_start (in_refers w.0 F.start w.1))
  number_reached k (along {x = m} r c) =
      let (y, e, there) = number_reached m r in
      let at = is_at ds y m e in
      let w = source_of (number_of ds) (references (get_or ds m nothing).1) k (subst (λ (l : List ℕ). Contains l k) (row_is ds ds m at.within) c) in
      (w.0, w.2, by_definition (get_or ds m nothing).1 there at.found (in_refers w.0 (get_or ds m nothing).1 w.1))
