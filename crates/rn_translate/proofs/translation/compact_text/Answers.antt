-- What is printed is a text of the schema's tokens.
use Rattle.std.specs.Prelude.{string_bytes}
use Rattle.std.specs.Str.{chars}
use Rattle.rn_translate.proofs.CutTexts.{text_of_tokens}
use Rattle.rn_translate.proofs.Walking.ReadTables.{sound_tables}
use Rattle.rn_translate.proofs.translation.compact_text.Goals as goal

pub returns-in-Ok-clause-translation : goal.returns-in-Ok-clause-translation
returns-in-Ok-clause-translation c = λ read.
    let whole = c.in-Ok.field-0 in
    text_of_tokens whole.is_open (string_bytes whole.text) _ (c.in-Ok.ensures.meant read.root (sound_tables (chars c.args.source.now) c.args.document.now read) read.holds) whole.unmarked
