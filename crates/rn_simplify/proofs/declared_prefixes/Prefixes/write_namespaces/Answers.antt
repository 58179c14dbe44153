use Rattle.std.proofs.Common.{◌≡◌, ◌<◌, length, get_or, map, take, sym, ap, ◌∙◌, subst}
use Rattle.std.specs.Prelude.{codes, string_bytes}
use Rattle.std.specs.Str.{encode_utf8_all}
use Rattle.rn_assemble.specs.ShortTexts.{long_uri, short_texts}
use Rattle.rn_simplify.specs.Spelling.{bindings, namespace_prefix, bound_to, entries}
use Rattle.rn_simplify.specs.inside.Writes.{none, prefixes_view, Writes, WritesBytes}
use Rattle.rn_simplify.proofs.Texts.LineTexts.{texts_more, writes_namespace, writes_one_binding}
use Rattle.rn_simplify.proofs.declared_prefixes.Prefixes.write_namespaces.Goals as goal

pub loop-uri-preserved : goal.loop-uri-preserved
loop-uri-preserved c =
    let prefix = namespace_prefix (prefixes_view c.args.self.now) in
    let long = long_uri (short_texts c.args.uris.now) in
    let ks = c.args.self.now.namespaces.keys in
    let i = c.loop-uri.uri-index in
    let x = c.uri-item.result in
    let within : i < length ks = subst (λ s. i < length s) c.as_slice-uri-items.ensures.keys c.loop-uri-test.true in
    let next : x ≡ get_or ks i x = subst (λ s. x ≡ get_or s i x) c.as_slice-uri-items.ensures.keys c.uri-item.is in
    let named = subst (λ t. WritesBytes (encode_utf8_all (prefix t)) none c.put.new.self c.write_namespace.new.writer) c.deref.ensures c.write_namespace.ensures in
    let bound = subst (λ t. Writes (bound_to t) c.write_namespace.new.writer c.write_bound.new.writer) (c.uri.ensures ∙ ap long c.deref-in-loop-uri.ensures) c.write_bound.ensures in
    subst (λ us. Writes (bindings (codes "namespace") (entries long prefix us)) c.args.writer.now c.write_bound.new.writer) (sym (texts_more ks i x within next))
    (writes_one_binding (codes "namespace") long prefix (map (λ u. string_bytes u) (take i ks)) (string_bytes x) c.loop-uri.invariant (writes_namespace (prefix (string_bytes x)) (long (string_bytes x)) c.put.ensures named bound))
