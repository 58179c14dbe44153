-- Those that are passed are known.
use Rattle.std.proofs.Common.{take}
use Rattle.rn_translate.specs.inside.UriTables.{HasUrisOf, IsTable}
use Rattle.rn_translate.proofs.KnownNamespaces.{AreKnown}
use Rattle.rn_translate.proofs.uris.Uris.namespaces.Given as goal

abbrev pub invariant-namespaces : goal.invariant-namespaces
invariant-namespaces l = IsTable l.self → HasUrisOf l.self l.document → AreKnown l.self l.namespaces.items (take l.uri-index l.document.uris.items)
