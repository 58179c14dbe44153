-- Without short texts modules stay as they are, and all URIs that they declare are known.
use Rattle.std.proofs.Common.{◌≡◌, List, [], ◌∷◌, map, refl, ap}
use Rattle.std.specs.List.{AllByRecursion}
use Rattle.rn_syntax.specs.Tree as t
use Rattle.rn_syntax.specs.Tree.{Declaration, Uri}
use Rattle.rn_assemble.specs.Components.{NamedModule}
use Rattle.rn_assemble.specs.inside.RenamedModules.{DeclareKnown, DeclaresKnown, renamed_declaration, renamed_modules, renamed_uri}
use Rattle.rn_assemble.specs.ShortTexts.{IsKnown, long_uri}

same_uri : (u : Uri) → renamed_uri (long_uri []) u ≡ u
same_uri (t.literal u) = refl
same_uri t.inherited = refl

same_declaration : (d : Declaration) → renamed_declaration (long_uri []) d ≡ d
same_declaration (t.namespace p i u) = ap (t.namespace p i) (same_uri u)
same_declaration (t.default i p u) = ap (t.default i p) (same_uri u)
same_declaration (t.datatypes p i u) = refl

same_declarations : (ds : List Declaration) → map (renamed_declaration (long_uri [])) ds ≡ ds
same_declarations [] = refl
same_declarations (d ∷ ds) = λ i. same_declaration d i ∷ same_declarations ds i

pub same_modules : (ms : List NamedModule) → renamed_modules (long_uri []) ms ≡ ms
same_modules [] = refl
same_modules (m ∷ ms) = λ i.
    record { name = m.name; tree = record { declarations = same_declarations m.tree.declarations i; items = m.tree.items } } ∷ same_modules ms i

declares_known : (d : Declaration) → DeclaresKnown (IsKnown []) d
declares_known (t.namespace p i (t.literal u)) = refl
declares_known (t.namespace p i t.inherited) = tt
declares_known (t.default i p (t.literal u)) = refl
declares_known (t.default i p t.inherited) = tt
declares_known (t.datatypes p i u) = refl

declare_known : (ds : List Declaration) → AllByRecursion (DeclaresKnown (IsKnown [])) ds
declare_known [] = tt
declare_known (d ∷ ds) = (declares_known d, declare_known ds)

pub modules_known : (ms : List NamedModule) → DeclareKnown (IsKnown []) ms
modules_known [] = tt
modules_known (m ∷ ms) = (declare_known m.tree.declarations, modules_known ms)
