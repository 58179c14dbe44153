-- Other texts for the URIs that modules declare. The bodies of a module have prefixes in the place of URIs.
use Rattle.std.specs.Prelude.{List, map, IfSome}
use Rattle.std.specs.List.{AllByRecursion}
use Rattle.rn_text.specs.Texts.{Text}
use Rattle.rn_syntax.specs.Tree as t
use Rattle.rn_syntax.specs.Tree.{Uri, Declaration}
use Rattle.rn_syntax.specs.Places.{uri_of}
use Rattle.rn_assemble.specs.Components.{NamedModule}
use Rattle.rn_assemble.specs.ShortTexts.{literal_text}

-- named: what each URI is called
module _ (named : Text → Text) where
  abbrev pub renamed_uri : Uri → Uri
  renamed_uri (t.literal u) = t.literal (named u)
  renamed_uri t.inherited = t.inherited

  abbrev pub renamed_declaration : Declaration → Declaration
  renamed_declaration (t.namespace p i u) = t.namespace p i (renamed_uri u)
  renamed_declaration (t.default i p u) = t.default i p (renamed_uri u)
  renamed_declaration (t.datatypes p i u) = t.datatypes p i (named u)

  abbrev pub renamed_module : NamedModule → NamedModule
  renamed_module m = record { name = m.name; tree = record { declarations = map renamed_declaration m.tree.declarations; items = m.tree.items } }

  abbrev pub renamed_modules : List NamedModule → List NamedModule
  renamed_modules ms = map renamed_module ms

-- all URIs that are declared are known
module _ (Known : Text → Type 0) where
  abbrev pub DeclaresKnown : Declaration → Type 0
  DeclaresKnown d = IfSome (literal_text (uri_of d)) Known

  abbrev pub DeclareKnown : List NamedModule → Type 0
  DeclareKnown ms = AllByRecursion (λ (m : NamedModule). AllByRecursion DeclaresKnown m.tree.declarations) ms
