-- Where no part of a file stands in an except, none of these numbers is that of one that does.
use Rattle.std.proofs.Common.{◌≡◌, ℕ, true, false, List, [], ◌∷◌, Some, None, Option, refl, sym, ap, ◌∙◌, ◌||◌}
use Rattle.std.specs.Prelude.{slice_get}
use Rattle.std.specs.List.{list_any}
use Rattle.std.specs.Option.{option_map_or}
use Rattle.std.proofs.lemmas.Bool.{false_from_ne_true, false≢true}
use Rattle.std.proofs.lemmas.List.Folds.{list_any_at}
use Rattle.std.proofs.lemmas.Option.{get_or_from_slice_get, slice_get_within}
use Rattle.rn_outline.specs.declared.file_parts.FilePart.{FilePart}
use Rattle.rn_lift.specs.inside.Excepted.{is_excepted}

module _ (parts : List FilePart) (none : list_any (λ (p : FilePart). p.in_except) parts ≡ false) where
  not_at : (n : ℕ) (found : Option FilePart) → slice_get parts n ≡ found → option_map_or (λ (p : FilePart). p.in_except) found false ≡ false
  not_at n None at = refl
  not_at n (Some p) at =
      false_from_ne_true p.in_except (λ t.
      false≢true (sym none ∙ list_any_at (λ (q : FilePart). q.in_except) parts n p (slice_get_within parts n p at) (ap (λ (q : FilePart). q.in_except) (get_or_from_slice_get parts n p p at) ∙ t)))

  pub none_excepted : (ns : List ℕ) → list_any (is_excepted parts) ns ≡ false
  none_excepted [] = refl
  none_excepted (n ∷ ns) = (λ i. not_at n (slice_get parts n) refl i || none_excepted ns i)
