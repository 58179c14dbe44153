-- A copy of the text that the look-up found stands for the URI.
use Rattle.std.proofs.Common.{◌≡◌, Some, ap, sym, ◌∙◌, subst}
use Rattle.std.specs.Prelude.{bytes_eq, string_bytes}
use Rattle.std.specs.Cow.{cow_str_bytes}
use Rattle.std.specs.Map.{lookup}
use Rattle.rn_text.specs.Texts.{Text}
use Rattle.rn_assemble.specs.ShortTexts.{IsKnown, IsTable, ShortTexts, long_uri, short_texts}
use Rattle.rn_assemble.specs.inside.Covered.{swapped}
use Rattle.rn_assemble.proofs.Renaming.ShortTables.{short_stands}
use Rattle.rn_assemble.proofs.shortening.shorten_text.Goals as goal

copied : (es : ShortTexts) → IsTable es → (u v s w : Text) → v ≡ u → w ≡ s → lookup (bytes_eq v) (swapped es) ≡ Some s
    → (long_uri es w ≡ u) × IsKnown es w
copied es t u v s w same copy e =
    short_stands es t u w (subst (λ (x : Text). lookup (bytes_eq x) (swapped es) ≡ Some w) same (e ∙ ap Some (sym copy)))

pub returns-in-Some-clause-renamed : goal.returns-in-Some-clause-renamed
returns-in-Some-clause-renamed c =
    (copied (short_texts c.args.uris.now) c.requires.table (cow_str_bytes c.args.uri) c.as_str.result.now c.in-Some.short.now
    (string_bytes c.in_ok-from_str-in-Some.field-0) c.as_str.ensures.value c.in_ok-from_str-in-Some.ensures.ok c.in-Some.ensures).0

pub returns-in-Some-clause-known : goal.returns-in-Some-clause-known
returns-in-Some-clause-known c =
    (copied (short_texts c.args.uris.now) c.requires.table (cow_str_bytes c.args.uri) c.as_str.result.now c.in-Some.short.now
    (string_bytes c.in_ok-from_str-in-Some.field-0) c.as_str.ensures.value c.in_ok-from_str-in-Some.ensures.ok c.in-Some.ensures).1
