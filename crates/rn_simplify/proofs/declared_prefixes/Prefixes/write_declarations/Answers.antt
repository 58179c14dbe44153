use Rattle.std.proofs.Common.{◌++◌}
use Rattle.std.specs.Prelude.{codes}
use Rattle.rn_assemble.specs.ShortTexts.{long_uri, short_texts}
use Rattle.rn_simplify.specs.Spelling.{bindings, default_line, library_prefix, namespace_prefix, empty_entries, entries}
use Rattle.rn_simplify.specs.inside.Writes.{prefixes_view}
use Rattle.rn_simplify.proofs.Texts.Writing.{writes_then}
use Rattle.rn_simplify.proofs.Texts.LineTexts.{default_written}
use Rattle.rn_simplify.proofs.declared_prefixes.Prefixes.write_declarations.Goals as goal

pub returns : goal.returns
returns c =
    let f = prefixes_view c.args.self.now in
    let long = long_uri (short_texts c.args.uris.now) in
    let none = bindings (codes "namespace") (empty_entries c.args.self.now.empty_namespace) in
    let namespaces = bindings (codes "namespace") (entries long (namespace_prefix f) f.namespaces) in
    let libraries = bindings (codes "datatypes") (entries long (library_prefix f) f.libraries) in
    writes_then default_line (none ++ (namespaces ++ libraries)) (default_written c.put.ensures)
    (writes_then none (namespaces ++ libraries) c.write_empty_namespace.ensures (writes_then namespaces libraries c.write_namespaces.ensures c.write_libraries.ensures))
