-- A slice of contributions up to a place, at it, and behind it.
use Rattle.std.proofs.Common.{◌≡◌, ℕ, ◌+◌, ◌<◌, List, [], ◌∷◌, ◌++◌, length, get_or, take, drop, sym, ap, ◌∙◌}
use Rattle.std.proofs.lemmas.List.{take_more, drop_more, map_push, map-append, take-append-drop}
use Rattle.rn_modset.specs.declared.contribution.Contribution.{Contribution}
use Rattle.rn_modset.specs.Contributions.{member, members_of}

-- what is held at a place
pub record IsHeldAt (cs : List Contribution) (at : ℕ) (c : Contribution) : Type 0 where
  pub within : at < length cs
  pub is : c ≡ get_or cs at c

pub slice_front_more : (cs : List Contribution) (at : ℕ) (c : Contribution) → IsHeldAt cs at c → members_of (take (at + 1) cs) ≡ members_of (take at cs) ++ member c ∷ []
slice_front_more cs at c h = ap members_of (take_more cs at c h.within ∙ ap (λ x. take at cs ++ x ∷ []) (sym h.is)) ∙ map_push member (take at cs) c

pub slice_back_more : (cs : List Contribution) (at : ℕ) (c : Contribution) → IsHeldAt cs at c → members_of (drop at cs) ≡ member c ∷ members_of (drop (at + 1) cs)
slice_back_more cs at c h = ap members_of (drop_more cs at c h.within ∙ ap (λ x. x ∷ drop (at + 1) cs) (sym h.is))

pub split_at : (cs : List Contribution) (at : ℕ) (c : Contribution) → IsHeldAt cs at c → members_of cs ≡ members_of (take at cs) ++ member c ∷ members_of (drop (at + 1) cs)
split_at cs at c h = ap members_of (sym (take-append-drop at cs)) ∙ map-append member (take at cs) (drop at cs) ∙ ap (λ ys. members_of (take at cs) ++ ys) (slice_back_more cs at c h)
