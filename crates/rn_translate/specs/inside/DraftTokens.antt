-- What is appended to a compact text, as tokens.
use Rattle.std.specs.Prelude.{List, ◌++◌, string_bytes}
use Rattle.rn_translate.specs.Spelled.{Spelled}
use Rattle.rn_translate.specs.Cuts.{IsSpelledAs}
use Rattle.rn_translate.specs.declared.draft.Draft.{Draft}

-- whatever tokens the text had, it has these behind them
abbrev pub Writes : Draft → Draft → List Spelled → Type 0
Writes old new tokens = (before : List Spelled) → IsSpelledAs old.is_open (string_bytes old.text) before → IsSpelledAs new.is_open (string_bytes new.text) (before ++ tokens)

-- the text has these tokens
abbrev pub IsPrintedAs : Draft → List Spelled → Type 0
IsPrintedAs d tokens = IsSpelledAs d.is_open (string_bytes d.text) tokens
