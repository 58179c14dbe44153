-- The text of a module that brings in a scope, and modules in the order of their names.
use Rattle.std.specs.Prelude.{◌≡◌, ℕ, ⊤, List, [], ◌∷◌, ◌++◌, IfSome, codes, slice_get, string_bytes}
use Rattle.std.specs.declared.cmp.Ordering.TheVariants.{Less}
use Rattle.rn_text.specs.Texts.{text_cmp}
use Rattle.rn_text.specs.Literals.{literal_bytes}
use Rattle.rn_lift.specs.declared.lifted.LiftedModule.{LiftedModule}

-- a text that includes a module, and hands a namespace to it
abbrev pub bringing_bytes : List ℕ → List ℕ → List ℕ
bringing_bytes namespace included = codes "namespace handed = " ++ (literal_bytes namespace ++ (codes "\ninclude " ++ (literal_bytes included ++ codes " inherit = handed\n")))

-- one name is below another, byte by byte
abbrev pub IsBelow : LiftedModule → LiftedModule → Type 0
IsBelow m n = text_cmp (string_bytes m.name) (string_bytes n.name) ≡ Less

-- each module's name is below that of the next one
abbrev pub AreRising : List LiftedModule → Type 0
AreRising [] = ⊤
AreRising (m ∷ ms) = IfSome (slice_get ms 0) (IsBelow m) × AreRising ms
