-- What is printed, and what it means.
use Rattle.std.specs.Prelude.{◌≡◌, List, Some}
use Rattle.rn_translate.specs.declared.printing.Declared.{Declared}
use Rattle.rn_translate.specs.declared.terms.Placed.{Placed}
use Rattle.rn_translate.specs.Terms.{Namespace, Term}
use Rattle.rn_translate.specs.inside.Meanings.{known, terms_meant, uri_meant}
use Rattle.rn_translate.specs.inside.NeededPrefixes.{AreBound, each_once, needed_libraries, needed_namespaces}
use Rattle.rn_translate.specs.inside.UriTables.{IsTable}

-- the prefixes that the terms of the code need are declared, and the terms and the default namespace mean these
pub record IsPrintable (d : Declared) (ps : List Placed) (schema_default : Namespace) (ts : List Term) : Type 0 where
  pub table : IsTable d.uris.now
  pub default : uri_meant d.uris.now d.default ≡ Some schema_default
  pub namespaces : AreBound d.namespaces (each_once (needed_namespaces ps))
  pub libraries : AreBound d.libraries (each_once (needed_libraries ps))
  pub terms : terms_meant d.uris.now ps ≡ known ts
