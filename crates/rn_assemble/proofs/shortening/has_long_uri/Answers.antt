use Rattle.std.proofs.Common.{append-nil, sym, ap, ◌∙◌}
use Rattle.std.specs.List.{list_any}
use Rattle.std.specs.Option.{option_to_list}
use Rattle.rn_syntax.specs.Places.{uri_of}
use Rattle.rn_syntax.specs.Tree.{Declaration}
use Rattle.rn_syntax.specs.View.{declaration_view}
use Rattle.rn_assemble.specs.ShortTexts.{is_long, literal_text}
use Rattle.rn_assemble.proofs.Renaming.DeclaredUris.{found_in}
use Rattle.rn_assemble.proofs.shortening.has_long_uri.Goals as goal

pub returns-then-declares_long : goal.returns-then-declares_long
returns-then-declares_long c = sym (found_in (λ (d : Declaration). option_to_list (literal_text (uri_of d))) declaration_view is_long c.args.declarations.now
    c.loop-declaration.declaration-index c.declaration-item.result c.loop-declaration-test.true c.declaration-item.is
    (ap (list_any is_long) (sym (append-nil (option_to_list (literal_text (uri_of (declaration_view c.declaration-item.result)))))) ∙ sym c.if-declares_long.ensures))
