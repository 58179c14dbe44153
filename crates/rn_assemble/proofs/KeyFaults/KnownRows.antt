-- The rows of keys of which the modules are known.
use Rattle.std.proofs.Common.{◌≡◌, ⊎_elim, ℕ, ◌+◌, ◌<◌, List, length, sym, subst, arith}
use Rattle.std.proofs.lemmas.Bool.{cases_lt}
use Rattle.rn_assemble.specs.Components.{NamedModule}
use Rattle.rn_assemble.specs.declared.reading.key_rows.KeyRows.{KeyRows}
use Rattle.rn_assemble.specs.declared.reading.key_rows.WrittenComponent as code
use Rattle.rn_assemble.specs.inside.Keyed.{key_at}
use Rattle.rn_assemble.specs.inside.Rows.{AreRows, IsRowOf, row_at}
use Rattle.rn_text.specs.Texts.{Text}

-- the row of a number is that of the key
pub row_of : (modules : List NamedModule) (names : List Text) (rows : KeyRows) → AreRows modules names rows.rows.items → (n : ℕ) → n < length rows.rows.items → (row : List code.WrittenComponent) → row ≡ row_at rows.rows.items n → IsRowOf modules (key_at names n) row
row_of modules names rows h n l row e = subst (λ (r : List code.WrittenComponent). IsRowOf modules (key_at names n) r) (sym e) (h.each n l)

-- a number below the next bound is below this one, or is this one
pub below_next : (P : ℕ → Type 0) (key : ℕ) → ((n : ℕ) → n < key → P n) → P key → (n : ℕ) → n < key + 1 → P n
below_next P key f p n l = ⊎_elim (λ h. f n h) (λ h. let e : key ≡ n = omega (arith, h, l) in subst P e p) (cases_lt n key)
