-- The URI of the next one is pushed.
use Rattle.std.proofs.Common.{◌≡◌, ◌<◌, ◌≤◌, length, get_or, sym, ap, ◌∙◌, subst, arith, Some}
use Rattle.std.specs.Prelude.{string_bytes}
use Rattle.rn_text.specs.Texts.{Text}
use Rattle.std.proofs.lemmas.List.{take_all}
use Rattle.rn_translate.specs.Terms.{uri}
use Rattle.rn_translate.specs.inside.UriTables.{HasUri}
use Rattle.rn_translate.proofs.KnownNamespaces.{AreKnown, each_known, known_more}
use Rattle.rn_translate.proofs.uris.Uris.namespaces.Goals as goal

pub namespaces-preserved : goal.namespaces-preserved
namespaces-preserved c = λ table has.
    let uris = c.args.self.now in
    let ss = c.args.document.now.uris.items in
    let i = c.namespaces.uri-index in
    let s = c.uri-item.result in
    let within : i < length ss = omega (arith, c.namespaces-test.true, c.deref-uri-items.ensures.len, c.args.document.now.uris.ok.0) in
    let is : s ≡ get_or ss i s = cc in
    let there : HasUri uris (string_bytes s) = subst (λ x. HasUri uris (string_bytes x)) (sym is) (has.namespaces i s within) in
    let meant = c.uri.ensures table.indexed (subst (HasUri uris) (sym c.as_str.ensures.value) there) ∙ ap (λ (x : Text). Some (uri x)) c.as_str.ensures.value in
    known_more uris c.namespaces.namespaces.items c.push.new.self.items c.uri.result ss i s c.in_ok-push.ensures.items within is meant (c.namespaces.invariant table has)

pub returns : goal.returns
returns c = λ table has k.
    let ss = c.args.document.now.uris.items in
    let past : length ss ≤ c.namespaces.uri-index = omega (arith, c.namespaces-test.false, c.deref-uri-items.ensures.len, c.args.document.now.uris.ok.0) in
    each_known c.args.self.now c.namespaces.namespaces.items ss k table (subst (AreKnown c.args.self.now c.namespaces.namespaces.items) (take_all c.namespaces.uri-index ss past) (c.namespaces.invariant table has))
