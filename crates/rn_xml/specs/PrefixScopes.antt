-- What prefixes mean, element by element (Namespaces in XML 1.0, 6.1 and 6.2).
use Rattle.std.specs.Prelude.{◌≡◌, ℕ, ◌-◌, ◌==◌, if◌then◌else◌, List, [], ◌∷◌, ◌++◌, Option, Some, None, length, take, count_by, slice_get, codes, bytes_eq}
use Rattle.std.specs.BTreeMap.{get_by_text}
use Rattle.std.specs.Option.{option_map, option_map_or}
use Rattle.rn_text.specs.Texts.{Text}
use Rattle.rn_xml.specs.declared.document.XmlDeclaration.{XmlDeclaration}
use Rattle.rn_xml.specs.declared.scopes.Scopes.{Scopes}

-- the declarations of this prefix in the elements that are open, as indices, the innermost last
abbrev pub around : Scopes → Text → List ℕ
around scopes prefix = option_map_or (λ v. v.items) (get_by_text scopes.bound prefix) []

-- the last of some numbers
abbrev pub innermost : List ℕ → Option ℕ
innermost ns = slice_get ns (length ns - 1)

-- each prefix has the declarations around it that it had
abbrev pub IsSameScope : Scopes → Scopes → Type 0
IsSameScope old new = (q : Text) → around new q ≡ around old q

-- the same, but one more of this prefix
abbrev pub IsEntered : Scopes → Scopes → Text → ℕ → Type 0
IsEntered old new prefix declaration = (q : Text) → around new q ≡ (if bytes_eq prefix q then around old q ++ declaration ∷ [] else around old q)

-- how many of the declarations are of this prefix
abbrev pub count_of : Text → List XmlDeclaration → ℕ
count_of prefix declarations = count_by (λ d. bytes_eq d.prefix.now prefix) declarations

-- the same, but of each prefix as many fewer as there are of it among these
abbrev pub IsLeft : Scopes → Scopes → List XmlDeclaration → Type 0
IsLeft old new declarations = (q : Text) → around new q ≡ take (length (around old q) - count_of q declarations) (around old q)

-- the namespace of the declaration that a prefix means, as its index; with no declaration, none has a prefix, and the default is
-- no namespace
abbrev pub uri_found : List XmlDeclaration → Text → Option ℕ → Option ℕ
uri_found declarations prefix (Some i) = option_map (λ d. d.uri) (slice_get declarations i)
uri_found declarations prefix None = if length prefix == 0 then Some 0 else None

-- the namespace that a prefix means, as its index; `xml` always means the second (Namespaces in XML 1.0, 3 and 6)
abbrev pub uri_at : List XmlDeclaration → Scopes → Text → Option ℕ
uri_at declarations scopes prefix = if bytes_eq prefix (codes "xml") then Some 1 else uri_found declarations prefix (innermost (around scopes prefix))
