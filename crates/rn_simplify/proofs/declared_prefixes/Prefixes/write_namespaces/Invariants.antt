use Rattle.std.proofs.Common.{map, take}
use Rattle.std.specs.Prelude.{codes, string_bytes}
use Rattle.rn_assemble.specs.ShortTexts.{long_uri, short_texts}
use Rattle.rn_simplify.specs.Spelling.{bindings, namespace_prefix, entries}
use Rattle.rn_simplify.specs.inside.Writes.{prefixes_view, Writes}
use Rattle.rn_simplify.proofs.declared_prefixes.Prefixes.write_namespaces.Given as goal

abbrev pub invariant-loop-uri : goal.invariant-loop-uri
invariant-loop-uri l = Writes (bindings (codes "namespace") (entries (long_uri (short_texts l.uris)) (namespace_prefix (prefixes_view l.self)) (map (λ u. string_bytes u) (take l.uri-index l.self.namespaces.keys)))) l.initial.writer l.writer
