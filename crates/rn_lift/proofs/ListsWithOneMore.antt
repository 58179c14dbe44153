-- A list with one element more behind it.
use Rattle.std.proofs.Common.{◌≡◌, List, [], ◌∷◌, ◌++◌, All, sym, subst}
use Rattle.std.specs.Prelude.{Contains}
use Rattle.std.proofs.lemmas.List.Elements.{All-push, Contains-append_left, Contains-push}

-- what was there is still there
pub still_there : {X : Type 0} (xs ys : List X) (x y : X) → ys ≡ xs ++ x ∷ [] → Contains xs y → Contains ys y
still_there {X} xs ys x y e h = subst (λ (l : List X). Contains l y) (sym e) (Contains-append_left xs (x ∷ []) y h)

-- what was added is there
pub last_there : {X : Type 0} (xs ys : List X) (x : X) → ys ≡ xs ++ x ∷ [] → Contains ys x
last_there {X} xs ys x e = subst (λ (l : List X). Contains l x) (sym e) (Contains-push xs x)

-- what holds of all that was there and of what was added holds of all
pub all_there : {X : Type 0} (P : X → Type 0) (xs ys : List X) (x : X) → ys ≡ xs ++ x ∷ [] → All P xs → P x → All P ys
all_there {X} P xs ys x e h p = subst (λ (l : List X). All P l) (sym e) (All-push P xs x h p)
