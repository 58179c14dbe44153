-- What a set of texts holds is in order, each text once.
use Rattle.std.proofs.Common.{◌≡◌, List, [], ◌∷◌, ◌++◌, map, refl, sym, ap, ◌∙◌}
use Rattle.std.specs.BTreeSet.{insert_key}
use Rattle.std.specs.Ordering.{match_ordering}
use Rattle.std.specs.declared.cmp.Ordering.{Ordering}
use Rattle.std.specs.declared.cmp.Ordering.TheVariants.{Less, Equal, Greater}
use Rattle.std.proofs.lemmas.Cmp.{nat_list_cmp_total}
use Rattle.std.proofs.lemmas.List.Sorted.{IsPermutation-append_comm}
use Rattle.rn_text.specs.Texts.{Text, text_cmp}
use Rattle.rn_pattern.specs.Canonical.{put_once, sorted_once}
use Rattle.rn_pattern.proofs.Ordered.Orders.{text_same}
use Rattle.rn_pattern.proofs.Ordered.Sorting.{sorted_once_permutation}

pub sorted_more : (zs : List Text) (t : Text) → sorted_once text_cmp (zs ++ t ∷ []) ≡ put_once text_cmp t (sorted_once text_cmp zs)
sorted_more zs t = sorted_once_permutation text_cmp nat_list_cmp_total text_same (zs ++ t ∷ []) (t ∷ zs) (IsPermutation-append_comm zs (t ∷ []))

-- text: the text of a key, by which a set compares
module _ {K : Type 0} (text : K → Text) where
  put_key_by : (o : Ordering) (k l : K) (ls ks : List K) (us : List Text) → map text ks ≡ us
      → map text (match_ordering o (k ∷ l ∷ ls) (l ∷ ls) (l ∷ ks)) ≡ match_ordering o (text k ∷ text l ∷ map text ls) (text l ∷ map text ls) (text l ∷ us)
  put_key_by Less k l ls ks us h = refl
  put_key_by Equal k l ls ks us h = refl
  put_key_by Greater k l ls ks us h = ap (λ ys. text l ∷ ys) h

  module _ (cmp : K → K → Ordering) (is : (k l : K) → cmp k l ≡ text_cmp (text k) (text l)) where
    put_key : (k : K) (ks : List K) → map text (insert_key cmp ks k) ≡ put_once text_cmp (text k) (map text ks)
    put_key k [] = refl
    put_key k (l ∷ ls) =
        ap (λ o. map text (match_ordering o (k ∷ l ∷ ls) (l ∷ ls) (l ∷ insert_key cmp ls k))) (is k l)
        ∙ put_key_by (text_cmp (text k) (text l)) k l ls (insert_key cmp ls k) _ (put_key k ls)

    -- one more key
    pub gathered_more : (k : K) (ks ls : List K) (zs : List Text) → ls ≡ insert_key cmp ks k → map text ks ≡ sorted_once text_cmp zs
        → map text ls ≡ sorted_once text_cmp (zs ++ text k ∷ [])
    gathered_more k ks ls zs h g = ap (map text) h ∙ put_key k ks ∙ ap (put_once text_cmp (text k)) g ∙ sym (sorted_more zs (text k))
