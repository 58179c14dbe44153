use Rattle.std.proofs.Common.{◌∙◌, sym, ap, Some, Ok, Err, rules, string_bytes}
use Rattle.std.proofs.lemmas.Fn.{always_returns_same}
use Rattle.rn_text.specs.Texts.{text_cmp}
use Rattle.rn_assemble.specs.declared.short_uris.ShortUri.{ShortUri}
use Rattle.rn_assemble.proofs.Renaming.TableSearches.{short_looked_up}
use Rattle.rn_assemble.proofs.short_uris.find_short.Goals as goal

pub returns-in-Ok : goal.returns-in-Ok
returns-in-Ok c =
    let at = c.in-Ok.ensures.position (λ (e : ShortUri). text_cmp (string_bytes e.short) c.args.short.now) (always_returns_same _ _ _ (λ a r f' k. search rules)) in
    short_looked_up c.args.list.now c.args.short.now (Ok c.in-Ok.at) c.requires at c.in-Ok.ensures.bound c.index-list-at.result
    ∙ ap (λ (e : ShortUri). Some (string_bytes e.uri)) (sym c.index-list-at.is)

pub returns-in-Err : goal.returns-in-Err
returns-in-Err c =
    let none = c.in-Err.ensures.position (λ (e : ShortUri). text_cmp (string_bytes e.short) c.args.short.now) (always_returns_same _ _ _ (λ a r f' k. search rules)) in
    short_looked_up c.args.list.now c.args.short.now (Err c.in-Err.field-0) c.requires none c.in-Err.ensures.bound
