-- The scope round an element that ends.
use Rattle.std.proofs.Common.{◌≡◌, [], ◌++◌, sym, subst}
use Rattle.rn_xml.specs.XmlTags.{Scope}
use Rattle.rn_text.specs.Texts.{Text}
use Rattle.rn_xml.specs.PrefixScopes.{IsLeft, around}
use Rattle.rn_xml.specs.TableRows.{rows_of}
use Rattle.rn_xml.specs.inside.OpenTables.{binding_at, Denotes}
use Rattle.rn_xml.specs.declared.document.XmlElement.{XmlElement}
use Rattle.rn_xml.specs.declared.document.XmlDocument.{XmlDocument}
use Rattle.rn_xml.specs.declared.scopes.Scopes.{Scopes}
use Rattle.rn_xml.proofs.ScopeMeans.{leaves}
use Rattle.rn_translate.specs.declared.translator.Translator.{Translator}
use Rattle.rn_translate.specs.inside.ElementsMeant.{IsInScope, declared_at}

-- its declarations mean nothing behind it
pub scope_left : (t : Translator) (scopes : Scopes) (row : XmlElement) (s : Scope) → IsLeft t.scopes scopes (rows_of row.declarations t.document.now.declarations.items)
    → IsInScope t (declared_at t.document.now row ++ s) → IsInScope (record t { scopes = scopes }) s
scope_left t scopes row s left is = record {
  knows = record { table = is.knows.table; has = is.knows.has; known = is.knows.known };
  declared = λ q. subst (Denotes (binding_at t.document.now) q s) (sym (left q)) (leaves t.document.now (rows_of row.declarations t.document.now.declarations.items) (is.declared q));
}

-- nothing is declared before the root
pub none_declared : (d : XmlDocument) (scopes : Scopes) → ((q : Text) → around scopes q ≡ []) → (q : Text) → Denotes (binding_at d) q [] (around scopes q)
none_declared d scopes none q = subst (Denotes (binding_at d) q []) (sym (none q)) Denotes.nothing
