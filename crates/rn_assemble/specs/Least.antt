-- Least values of which something holds, and the order of keys: the start, then names by their bytes.
use Rattle.std.specs.Prelude.{◌≢◌}
use Rattle.std.specs.declared.cmp.Ordering.{Ordering}
use Rattle.std.specs.declared.cmp.Ordering.TheVariants.{Less, Equal, Greater}
use Rattle.rn_text.specs.Texts.{text_cmp}
use Rattle.rn_assemble.specs.Components.{Key, start_key, name_key}

-- P holds of x, and of nothing less
pub record IsLeast {X : Type 0} (cmp : X → X → Ordering) (P : X → Type 0) (x : X) : Type 0 where
  pub holds : P x
  pub least : (y : X) → P y → cmp y x ≢ Less

abbrev pub key_cmp : Key → Key → Ordering
key_cmp start_key start_key = Equal
key_cmp start_key (name_key y) = Less
key_cmp (name_key x) start_key = Greater
key_cmp (name_key x) (name_key y) = text_cmp x y
