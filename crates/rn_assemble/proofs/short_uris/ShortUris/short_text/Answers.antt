use Rattle.std.proofs.Common.{◌∙◌, ◌<◌, ◌≤◌, List, length, sym, ap, subst, Some, Ok, Err, rules, string_bytes}
use Rattle.std.specs.List.Sorted.{IsBinarySearchResult}
use Rattle.std.proofs.lemmas.Fn.{always_returns_same}
use Rattle.rn_text.specs.Texts.{text_cmp}
use Rattle.rn_assemble.specs.declared.short_uris.ShortUri.{ShortUri}
use Rattle.rn_assemble.proofs.Renaming.TableSearches.{uri_looked_up}
use Rattle.rn_assemble.proofs.short_uris.ShortUris.short_text.Goals as goal

pub returns-in-Ok : goal.returns-in-Ok
returns-in-Ok c =
    let at = c.in-Ok.ensures.position (λ (e : ShortUri). text_cmp (string_bytes e.uri) c.args.uri.now) (always_returns_same _ _ _ (λ a r f' k. search rules)) in
    uri_looked_up c.args.self.now.list.items c.args.uri.now (Ok c.in-Ok.at) c.requires.uris
    (subst (λ (es : List ShortUri). IsBinarySearchResult (λ (e : ShortUri). text_cmp (string_bytes e.uri) c.args.uri.now) es (Ok c.in-Ok.at)) c.deref.ensures.value at)
    (subst (λ (es : List ShortUri). c.in-Ok.at < length es) c.deref.ensures.value c.in-Ok.ensures.bound) c.index.result.now
    ∙ ap (λ (e : ShortUri). Some (string_bytes e.short)) (sym c.index.ensures) ∙ ap Some (sym c.as_str.ensures.value)

pub returns-in-Err : goal.returns-in-Err
returns-in-Err c =
    let none = c.in-Err.ensures.position (λ (e : ShortUri). text_cmp (string_bytes e.uri) c.args.uri.now) (always_returns_same _ _ _ (λ a r f' k. search rules)) in
    uri_looked_up c.args.self.now.list.items c.args.uri.now (Err c.in-Err.field-0) c.requires.uris
    (subst (λ (es : List ShortUri). IsBinarySearchResult (λ (e : ShortUri). text_cmp (string_bytes e.uri) c.args.uri.now) es (Err c.in-Err.field-0)) c.deref.ensures.value none)
    (subst (λ (es : List ShortUri). c.in-Err.field-0 ≤ length es) c.deref.ensures.value c.in-Err.ensures.bound)
