-- Declarations whose URIs have short texts.
use Rattle.std.specs.Prelude.{◌≡◌, List, Option, map, bytes_eq, IfSome, IsSome}
use Rattle.std.specs.List.{AllByRecursion}
use Rattle.std.specs.Map.{lookup}
use Rattle.rn_text.specs.Texts.{Text}
use Rattle.rn_syntax.specs.Tree.{Declaration}
use Rattle.rn_syntax.specs.Places.{uri_of}
use Rattle.rn_assemble.specs.Components.{NamedModule}
use Rattle.rn_assemble.specs.inside.RenamedModules.{renamed_declaration, renamed_module, DeclaresKnown}
use Rattle.rn_assemble.specs.ShortTexts.{ShortTexts, literal_text, long_uri, IsKnown}

-- the pairs with the URI first
abbrev pub swapped : ShortTexts → List (Text × Text)
swapped es = map (λ (e : Text × Text). (e.1, e.0)) es

-- the short text of a URI
abbrev pub short_of : ShortTexts → Text → Option Text
short_of es u = lookup (bytes_eq u) (swapped es)

module _ (es : ShortTexts) where
  -- a short text stands for the URI
  abbrev pub HasShort : Text → Type 0
  HasShort u = IsSome (short_of es u)

  abbrev pub IsCovered : Declaration → Type 0
  IsCovered d = IfSome (literal_text (uri_of d)) HasShort

  abbrev pub AreCovered : List NamedModule → Type 0
  AreCovered ms = AllByRecursion (λ (m : NamedModule). AllByRecursion IsCovered m.tree.declarations) ms

  -- what stands for a declaration, and for a module, so that the URI comes back
  abbrev pub StandsForDeclaration : Declaration → Declaration → Type 0
  StandsForDeclaration d e = (renamed_declaration (long_uri es) e ≡ d) × DeclaresKnown (IsKnown es) e

  abbrev pub StandsForModule : NamedModule → NamedModule → Type 0
  StandsForModule m n = (renamed_module (long_uri es) n ≡ m) × AllByRecursion (DeclaresKnown (IsKnown es)) n.tree.declarations
