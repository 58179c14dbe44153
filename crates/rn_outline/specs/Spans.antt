-- Where the parts of a file stand in its text.
use Rattle.std.specs.Prelude.{ℕ, ◌≤◌, List, [], ◌∷◌, ⊤}
use Rattle.rn_outline.specs.declared.file_parts.FilePart.{FilePart}
use Rattle.rn_outline.specs.declared.file_parts.Span.{Span}
use Rattle.rn_outline.specs.declared.file_parts.FilePartKind.{FilePartKind}
use Rattle.rn_outline.specs.declared.file_parts.FilePartKind.TheVariants.{Define, Start, Include, Grammar}

-- each part lies within so many bytes, and begins at this one or later, no earlier than the one before it
abbrev pub AreInOrder : ℕ → ℕ → List FilePart → Type 0
AreInOrder length from [] = ⊤
AreInOrder length from (p ∷ ps) = (from ≤ p.at.from) × (p.at.from ≤ p.at.to) × (p.at.to ≤ length) × AreInOrder length p.at.from ps

-- what is replaced where something else is to stand for a part of this kind and these bytes
abbrev pub mark_in : FilePartKind → Span → Span
mark_in (Define name _ _ _ _) at = name
mark_in (Start word _ _ _ _) at = word
mark_in (Include _ literal_at _) at = literal_at
mark_in _ at = at

-- the name that a definition defines, the literal of an include, and else the whole part
abbrev pub mark : FilePart → Span
mark p = mark_in p.kind p.at

-- the byte behind the mark of a part of this kind; what is in a grammar is behind its brace
abbrev pub front_end_in : FilePartKind → Span → ℕ
front_end_in (Grammar _ inside) at = inside.from
front_end_in kind at = (mark_in kind at).to

-- the byte behind a part's mark, or behind the brace of a nested grammar
abbrev pub front_end : FilePart → ℕ
front_end p = front_end_in p.kind p.at

-- the marks stand one behind another, from this byte on, each within its part
abbrev pub AreApart : ℕ → List FilePart → Type 0
AreApart from [] = ⊤
AreApart from (p ∷ ps) = (from ≤ (mark p).from) × ((mark p).from ≤ (mark p).to) × ((mark p).to ≤ p.at.to) × AreApart (front_end p) ps
