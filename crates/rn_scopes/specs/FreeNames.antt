-- Names that no file writes.
use Rattle.std.specs.Prelude.{◌≡◌, ◌≢◌, ℕ, false, List, ◌∷◌, ◌++◌, All, Option, Some, None, String, slice_range}
use Rattle.std.specs.List.{AllByRecursion}
use Rattle.std.specs.BTreeSet.{BTreeSet, contains_text}
use Rattle.std.specs.declared.alloc.Global.{Global}
use Rattle.rn_outline.specs.TokenNames.{unquoted_name}
use Rattle.rn_outline.specs.declared.file_parts.FilePart.{FilePart}
use Rattle.rn_outline.specs.declared.file_parts.FilePartKind.{FilePartKind}
use Rattle.rn_outline.specs.declared.file_parts.FilePartKind.TheVariants.{Define, Reference, Parent}
use Rattle.rn_outline.specs.declared.file_parts.Span.{Span}
use Rattle.rn_scopes.specs.declared.input_files.Lifting.{Lifting}

-- the token that is the name which a part defines or refers to
abbrev pub name_span : FilePartKind → Option Span
name_span (Define name _ _ _ _) = Some name
name_span (Reference name) = Some name
name_span (Parent name) = Some name
name_span _ = None

-- a name that does not begin with one of these stems and a dot
abbrev pub IsNoOwn : BTreeSet (String Global) → List ℕ → Type 0
IsNoOwn own name = (stem rest : List ℕ) → name ≡ stem ++ (46 ∷ rest) → contains_text own stem ≡ false

-- a name that is not that of a start, and does not begin with one of these stems and a dot
abbrev pub IsFreeName : BTreeSet (String Global) → List ℕ → List ℕ → Type 0
IsFreeName own start name = (name ≢ start) × IsNoOwn own name

-- the name that a part writes, if it writes one, is free
abbrev pub PartIsFree : BTreeSet (String Global) → List ℕ → List ℕ → FilePart → Type 0
PartIsFree own start text p = (s : Span) → name_span p.kind ≡ Some s → IsFreeName own start (unquoted_name (slice_range text s.from s.to))

-- the names that a file writes are free
abbrev pub FileIsFree : BTreeSet (String Global) → List ℕ → Lifting → Type 0
FileIsFree own start f = AllByRecursion (PartIsFree own start f.text.now) f.outline.now.parts.items

-- no name that these files write begins with a stem that was made and a dot, or is that of a start
abbrev pub AreFree : List Lifting → BTreeSet (String Global) → List ℕ → Type 0
AreFree files own start = All (FileIsFree own start) files
