-- Outlines of texts.
use Rattle.std.specs.Prelude.{ℕ}
use Rattle.rn_outline.specs.Spans.{AreApart, AreInOrder}
use Rattle.rn_outline.specs.declared.file_parts.Outline.{Outline}

-- the parts stand in order within so many bytes, and their marks one behind another
pub record IsOutline (length : ℕ) (o : Outline) : Type 0 where
  pub in_order : AreInOrder length 0 o.parts.items
  pub apart : AreApart 0 o.parts.items
