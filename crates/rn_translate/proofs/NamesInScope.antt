-- What the prefixes of names mean in a scope.
use Rattle.std.proofs.Common.{◌≡◌, ℕ, Bool, true, false, List, [], refl, sym, ap, ◌∙◌, Bor, Some, None}
use Rattle.std.specs.Prelude.{Option, option_map, unwrap_or, slice_get, bytes_eq, codes, IfNone, if◌then◌else◌}
use Rattle.std.specs.Option.{option_map_or}
use Rattle.std.proofs.lemmas.Bool.{cond-true, cond-false}
use Rattle.std.proofs.lemmas.Option.{none-some, same_Some}
use Rattle.rn_text.specs.Texts.{Text}
use Rattle.rn_xml.specs.Infoset.{Binding}
use Rattle.rn_xml.specs.XmlTags.{Scope, uri_in, xml_uri}
use Rattle.rn_xml.specs.PrefixScopes.{innermost}
use Rattle.rn_xml.specs.DocumentTrees.{binding_of, uri_at_index}
use Rattle.rn_xml.specs.declared.document.XmlDeclaration.{XmlDeclaration}
use Rattle.rn_xml.specs.declared.document.XmlDocument.{XmlDocument}
use Rattle.rn_xml.specs.inside.OpenTables.{binding_at, Denotes}
use Rattle.rn_xml.proofs.ScopeMeans.{innermost_last}
use Rattle.rn_translate.specs.Terms.{Namespace, uri, local as local_term, prefixed}
use Rattle.rn_translate.specs.SchemaElements.{parted, prefix_and_local, prefix_uri}
use Rattle.rn_translate.specs.Layouts.{is_same, name_term}
use Rattle.rn_translate.specs.inside.Meanings.{uri_meant}
use Rattle.rn_translate.specs.inside.UriTables.{empty_uri}
use Rattle.rn_translate.specs.inside.ElementsMeant.{KnowsUris}
use Rattle.rn_translate.specs.declared.translator.Translator.{Translator}
use Rattle.rn_translate.proofs.UriMeanings.{empty_meant}

-- the namespace that a declaration gives; none where there is no declaration
abbrev pub given_by : XmlDocument → Option XmlDeclaration → Text
given_by d o = option_map_or (λ (r : XmlDeclaration). uri_at_index d r.uri) o []

-- the same of the one of this index
abbrev pub given_at : XmlDocument → Option ℕ → Text
given_at d o = option_map_or (λ i. given_by d (slice_get d.declarations.items i)) o []

given_is : (d : XmlDocument) (b : Binding) (o : Option XmlDeclaration) → option_map (binding_of d) o ≡ Some b → given_by d o ≡ b.uri
given_is d b None is = absurd (none-some b is)
given_is d b (Some r) is = ap (λ (x : Binding). x.uri) (same_Some (binding_of d r) b is)

no_uri : (b : Bool) → unwrap_or {T = Text} (if b then Some [] else None) [] ≡ []
no_uri true = refl
no_uri false = refl

-- the innermost declaration of a prefix other than `xml` gives its namespace
pub declared_means : (d : XmlDocument) {q : Text} {s : Scope} {ns : List ℕ} → bytes_eq q (codes "xml") ≡ false → Denotes (binding_at d) q s ns → given_at d (innermost ns) ≡ unwrap_or (uri_in s q) []
declared_means d {q = q} other Denotes.nothing =
    sym (ap (λ (o : Option Text). unwrap_or o []) (cond-false (bytes_eq q (codes "xml")) (Some xml_uri) (if bytes_eq q [] then Some [] else None) other) ∙ no_uri (bytes_eq q []))
declared_means d {q = q} other (Denotes.other {b = b} {scope = s} miss more) =
    declared_means d other more ∙ sym (ap (λ (o : Option Text). unwrap_or o []) (cond-false (bytes_eq b.prefix q) (Some b.uri) (uri_in s q) miss))
declared_means d {q = q} other (Denotes.this {b = b} {scope = s} {ns = ns} n hit is more) =
    ap (given_at d) (innermost_last ns n) ∙ given_is d b (slice_get d.declarations.items n) is
    ∙ sym (ap (λ (o : Option Text). unwrap_or o []) (cond-true (bytes_eq b.prefix q) (Some b.uri) (uri_in s q) hit))

-- what a declaration means, by the URIs of the document's namespaces
pub given_meant : (t : Translator) → KnowsUris t → (o : Option XmlDeclaration)
    → uri_meant t.uris (option_map_or (λ (r : XmlDeclaration). unwrap_or (slice_get t.document_uris.items r.uri) empty_uri) o empty_uri) ≡ Some (uri (given_by t.document.now o))
given_meant t knows None = empty_meant knows.table
given_meant t knows (Some r) = knows.known r.uri

-- the namespace and the local part, where a name is split so
pub parted_so : (scope : Scope) (n : Namespace) (text local : Text) (o : Option (Bor Text)) → option_map (λ (p : Bor Text). (p.now, local)) o ≡ prefix_and_local text → IfNone o (local ≡ text)
    → ◌≡◌ {A = Namespace × Text} (option_map_or (λ (x : Bor Text). uri (prefix_uri scope x.now)) o n, local) (parted scope n text (prefix_and_local text))
parted_so scope n text local None e whole = ap (λ (t : Text). (n, t)) whole ∙ ap (λ (q : Option (Text × Text)). parted scope n text q) e
parted_so scope n text local (Some p) e whole = ap (λ (q : Option (Text × Text)). parted scope n text q) e

-- a name where the namespaces are the same, or not
pub name_same : (m n : Namespace) (local : Text) → is_same n m ≡ true → name_term m (n, local) ≡ local_term local
name_same m n local same = cond-true (is_same n m) (local_term local) (prefixed n local) same

pub name_other : (m n : Namespace) (local : Text) → is_same n m ≡ false → name_term m (n, local) ≡ prefixed n local
name_other m n local other = cond-false (is_same n m) (local_term local) (prefixed n local) other
