-- Statements that hold for each other, by their parts; and the least value of which they hold.
use mathlib.Core.Logic.{⊎_map}
use Rattle.std.proofs.Common.{◌≡◌, ◌↔◌, ◌⊎◌, sym, subst, Ordering}
use Rattle.rn_assemble.specs.Least.{IsLeast}

pub same_type : {A B : Type 0} → A ≡ B → A ↔ B
same_type e = (subst (λ T. T) e, subst (λ T. T) (sym e))

pub either : {A B C D : Type 0} → A ↔ B → C ↔ D → (A ⊎ C) ↔ (B ⊎ D)
either e f = (⊎_map e.0 f.0, ⊎_map e.1 f.1)

pub three : {A B C D E F : Type 0} → A ↔ B → C ↔ D → E ↔ F → (A × C × E) ↔ (B × D × F)
three e f g = (λ h. (e.0 h.0, f.0 h.1, g.0 h.2), λ h. (e.1 h.0, f.1 h.1, g.1 h.2))

pub some_alike : {X : Type 0} {P Q : X → Type 0} → ((x : X) → P x ↔ Q x) → ((x : X) × P x) ↔ ((x : X) × Q x)
some_alike e = (λ h. (h.0, (e h.0).0 h.1), λ h. (h.0, (e h.0).1 h.1))

-- what holds of the same values has the same least one
pub least_alike : {X : Type 0} (cmp : X → X → Ordering) (P Q : X → Type 0) → ((x : X) → P x ↔ Q x)
    → (x : X) → IsLeast cmp P x ↔ IsLeast cmp Q x
least_alike cmp P Q e x = (
  λ h. record { holds = (e x).0 h.holds; least = λ y k. h.least y ((e y).1 k) },
  λ h. record { holds = (e x).1 h.holds; least = λ y k. h.least y ((e y).0 k) },
)
