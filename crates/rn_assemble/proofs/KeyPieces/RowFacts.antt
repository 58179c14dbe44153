-- What is known of the row of a key.
use Rattle.std.proofs.Common.{◌≡◌, ℕ, zero, suc, ◌<◌, List, [], ◌∷◌, length, Some, refl, sym, ap, ◌∙◌, subst, inl, inr, arith}
use Rattle.std.specs.Prelude.{slice_get}
use Rattle.std.specs.Option.{option_map_or}
use Rattle.std.specs.List.{AllByRecursion, AllZip}
use Rattle.std.proofs.lemmas.Option.{get_or_from_slice_get, same_Some, slice_get_cases, slice_get_within}
use Rattle.rn_assemble.specs.Components.{Component, Key, NamedModule}
use Rattle.rn_assemble.specs.declared.reading.contents.Contents.{Contents}
use Rattle.rn_assemble.specs.declared.reading.key_rows.WrittenComponent as code
use Rattle.rn_assemble.specs.declared.including.segments.Segments.{Segments}
use Rattle.rn_assemble.specs.inside.Contained.{written_components}
use Rattle.rn_assemble.specs.inside.ContentsOf.{HasOrderedIncludes, IsContents, written_at}
use Rattle.rn_assemble.specs.inside.Rows.{IsRowOf}
use Rattle.rn_assemble.specs.inside.Segments.{AreSegmentsOf}
use Rattle.rn_assemble.proofs.KeyPieces.RowOrder.{IsWrittenIn, row_rises, row_written}
use Rattle.rn_assemble.proofs.KeyPieces.Runs.{IsRowIn}

-- an index within a list has an element
pub element_at : {X : Type 0} (xs : List X) (i : ℕ) → i < length xs → (x : X) × (slice_get xs i ≡ Some x)
element_at xs i l = elim (slice_get_cases xs i).1 [ inl s ↦ (s.0, s.2) | inr s ↦ absurd (omega (arith, s.0, l)) ]

pub each_at : {X : Type 0} (P : X → Type 0) (xs : List X) (i : ℕ) (x : X) → AllByRecursion P xs → slice_get xs i ≡ Some x → P x
each_at P [] i x h e = cc
each_at P (y ∷ ys) zero x h e = subst P (same_Some y x e) h.0
each_at P (y ∷ ys) (suc i) x h e = each_at P ys i x h.1 e

-- two lists that go together have elements at the same places
pub zip_at : {X Y : Type 0} (R : X → Y → Type 0) (xs : List X) (ys : List Y) (i : ℕ) → AllZip R xs ys → i < length xs → (x : X) × (y : Y) × (slice_get xs i ≡ Some x) × (slice_get ys i ≡ Some y) × R x y
zip_at R [] [] i z l = absurd (omega arith)
zip_at R [] (y ∷ ys) i z l = absurd z
zip_at R (x ∷ xs) [] i z l = absurd z
zip_at R (x ∷ xs) (y ∷ ys) zero z l = (x, y, refl, refl, z.0)
zip_at R (x ∷ xs) (y ∷ ys) (suc i) z l = zip_at R xs ys i z.1 (omega arith)

-- the row of a key is one of modules with the segments' contents
pub row_in : (modules : List NamedModule) (k : Key) (cs : List Component) (row : List code.WrittenComponent) (x : Segments) → IsRowOf modules k row → AreSegmentsOf modules x cs → IsRowIn x.contents.now row
row_in modules k cs row x is s =
    let written : (i : ℕ) (w : code.WrittenComponent) → slice_get row i ≡ Some w → (c : Contents) × (slice_get x.contents.now w.module.0 ≡ Some c) × HasOrderedIncludes c × (w.number < c.count) = λ i w e.
    let l = slice_get_within row i w e in
    let h : IsWrittenIn modules w = subst (IsWrittenIn modules) (get_or_from_slice_get row i w w e) (row_written modules k row is i w l) in
    let z = zip_at (IsContents modules) modules x.contents.now w.module.0 s.are.contents h.0 in
    let size : length (written_at modules w.module.0) ≡ z.1.count = ap (λ t. length (option_map_or (λ (m : NamedModule). written_components m.tree.items) t [])) z.2 ∙ sym z.4.count in
    (z.1, z.3, each_at HasOrderedIncludes x.contents.now w.module.0 z.1 s.ordered z.3, omega (arith, h.1, size)) in
    record { rises = row_rises modules k row is; written = written }
