-- Prefixes with other texts for what they are bound to.
use Rattle.std.specs.Prelude.{ℕ, List, map}
use Rattle.rn_text.specs.Texts.{Text}

abbrev pub renamed_entries : (Text → Text) → List (List ℕ × Text) → List (List ℕ × Text)
renamed_entries named es = map (λ (e : List ℕ × Text). (e.0, named e.1)) es
