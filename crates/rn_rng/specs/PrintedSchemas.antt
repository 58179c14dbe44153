-- Documents of a schema in the XML syntax.
use Rattle.std.specs.Prelude.{IsSomeAnd}
use Rattle.rn_pattern.specs.Document.{Item}
use Rattle.rn_pattern.specs.Datatype.{Table}
use Rattle.rn_pattern.specs.Matching.{IsValid}
use Rattle.rn_rng.specs.GrammarElement.{grammar_of}

-- the element is a schema, and by the grammar that 4.2 to 4.18 make of it the document is valid
abbrev pub IsValidBy : (schema : Item) → Table → (doc : Item) → Type 0
IsValidBy schema T doc = IsSomeAnd (grammar_of schema) (λ G. IsValid G T doc)
