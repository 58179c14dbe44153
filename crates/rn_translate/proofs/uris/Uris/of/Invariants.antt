-- The URIs of what is passed are in the table.
use Rattle.std.proofs.Common.{◌≡◌, true, take}
use Rattle.std.specs.Prelude.{All, string_bytes}
use Rattle.rn_translate.specs.inside.UriTables.{HasUri, IsTable, gives_uri}
use Rattle.rn_translate.proofs.uris.Uris.of.Given as goal

abbrev pub invariant-namespaces : goal.invariant-namespaces
invariant-namespaces l = record {
  table : IsTable l.uris;
  has : All (λ s. HasUri l.uris (string_bytes s)) (take l.uri-index l.document.uris.items);
}

abbrev pub invariant-attributes : goal.invariant-attributes
invariant-attributes l = record {
  table : IsTable l.uris;
  namespaces : All (λ s. HasUri l.uris (string_bytes s)) l.document.uris.items;
  has : All (λ a. gives_uri a.name.local.now ≡ true → HasUri l.uris (string_bytes a.value)) (take l.attribute-index l.document.attributes.items);
}
