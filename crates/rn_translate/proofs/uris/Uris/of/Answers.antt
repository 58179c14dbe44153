-- Each text that is passed is added.
use Rattle.std.proofs.Common.{◌≡◌, ◌<◌, ◌≤◌, length, get_or, sym, ◌∙◌, subst, arith, true}
use Rattle.std.specs.Prelude.{All, string_bytes}
use Rattle.std.proofs.lemmas.List.{take_all}
use Rattle.rn_translate.specs.inside.UriTables.{HasUri, gives_uri}
use Rattle.rn_translate.specs.declared.uris.Uris.{Uris}
use Rattle.rn_translate.proofs.MadeUris.{Keeps, adds_given, given_more, gives_none, namespaces_more, table_still}
use Rattle.rn_translate.proofs.uris.Uris.of.Goals as goal
use Rattle.rn_translate.proofs.uris.Uris.of.Goals.{then-gives_uri+in_ok-add-2, else-gives_uri}

pub namespaces-preserved : goal.namespaces-preserved
namespaces-preserved c =
    let items = c.args.document.now.uris.items in
    let table = c.namespaces.invariant.table in
    let added = c.in_ok-add.ensures table.indexed in
    let within : c.namespaces.uri-index < length items = omega (arith, c.namespaces-test.true, c.deref-uri-items.ensures.len, c.args.document.now.uris.ok.0) in
    let is : c.uri-item.result ≡ get_or items c.namespaces.uri-index c.uri-item.result = cc in
    record {
      table = table_still c.namespaces.uris c.add.new.self c.as_str.result table added;
      has = namespaces_more c.namespaces.uris c.add.new.self c.as_str.result items c.namespaces.uri-index c.uri-item.result table added within is c.as_str.ensures.value c.namespaces.invariant.has;
    }

pub attributes-init : goal.attributes-init
attributes-init c =
    let items = c.args.document.now.uris.items in
    let past : length items ≤ c.namespaces.uri-index = omega (arith, c.namespaces-test.false, c.deref-uri-items.ensures.len, c.args.document.now.uris.ok.0) in
    record {
      table = c.namespaces.invariant.table;
      namespaces = subst (All (λ s. HasUri c.namespaces.uris (string_bytes s))) (take_all c.namespaces.uri-index items past) c.namespaces.invariant.has;
      has = λ k a h. absurd (omega (arith, h));
    }

pub attributes-preserved : goal.attributes-preserved
attributes-preserved c =
    let rows = c.args.document.now.attributes.items in
    let old = c.attributes.uris in
    let table = c.attributes.invariant.table in
    let a = c.attribute-item.result in
    let within : c.attributes.attribute-index < length rows = omega (arith, c.attributes-test.true, c.deref-attribute-items.ensures.len, c.args.document.now.attributes.ok.0) in
    let is : a ≡ get_or rows c.attributes.attribute-index a = cc in
    let keeps : Keeps old c.if-gives_uri.uris a = elim c.if-gives_uri.branch [
      | then-gives_uri+in_ok-add-2 w ↦ subst (λ (u : Uris). Keeps old u a) (sym w.uris-is)
          (adds_given old w.add-then-gives_uri.new.self w.as_str-then-gives_uri.result a table (w.in_ok-add-2.ensures table.indexed) w.as_str-then-gives_uri.ensures.value)
      | else-gives_uri w ↦ subst (λ (u : Uris). Keeps old u a) (sym w.uris-is) (gives_none old a table (sym c.gives_uri.ensures ∙ w.if-gives_uri.false))
    ] in
    record {
      table = keeps.table;
      namespaces = λ k s h. keeps.kept _ (c.attributes.invariant.namespaces k s h);
      has = given_more old c.if-gives_uri.uris rows c.attributes.attribute-index a keeps within is c.attributes.invariant.has;
    }

pub returns-clause-has : goal.returns-clause-has
returns-clause-has c =
    let rows = c.args.document.now.attributes.items in
    let past : length rows ≤ c.attributes.attribute-index = omega (arith, c.attributes-test.false, c.deref-attribute-items.ensures.len, c.args.document.now.attributes.ok.0) in
    record {
      namespaces = c.attributes.invariant.namespaces;
      given = subst (All (λ a. gives_uri a.name.local.now ≡ true → HasUri c.attributes.uris (string_bytes a.value))) (take_all c.attributes.attribute-index rows past) c.attributes.invariant.has;
    }
