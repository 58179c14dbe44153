-- When a grammar is printed, and when it is refused. A printed text keeps the limits of a module's text, so that it can be read back.
use Rattle.std.specs.Prelude.{◌≡◌, ◌<◌, ◌≤◌, true, false, length}
use Rattle.rn_text.specs.Texts.{Text}
use Rattle.rn_pattern.specs.Matching.{Grammar}
use Rattle.rn_assemble.specs.declared.refusal.Refusal.{Refusal}
use Rattle.rn_assemble.specs.declared.refusal.Refusal.TheVariants as r
use Rattle.rn_simplify.specs.Spelling.{spelling}
use Rattle.rn_modset.specs.Limits.{max_text}
use Rattle.rn_simplify.specs.ReadBack.{is_too_deep}

-- the text is the spelling, which is neither too long nor too deep
abbrev pub IsPrinted : Grammar → Text → Type 0
IsPrinted n t = (length (spelling n) ≤ max_text) × (is_too_deep n ≡ false) × (t ≡ spelling n)

-- the length is tested first; want of memory says nothing
abbrev pub IsUnprinted : Grammar → Refusal → Type 0
IsUnprinted n r.OutputTooLarge = max_text < length (spelling n)
IsUnprinted n r.OutputTooDeep = (length (spelling n) ≤ max_text) × (is_too_deep n ≡ true)
IsUnprinted n r.Memory = Unit {0}
IsUnprinted n e = ⊥
