use Rattle.std.proofs.Common.{◌≡◌, ◌++◌, IsUtf8, string_bytes}
use Rattle.std.specs.Str.Iter.{chars_rest}
use Rattle.rn_report.specs.PrintedCharacters.{printed}
use Rattle.rn_report.proofs.report.push_printable.Given as goal

-- what is printed so far, and what is left
abbrev pub invariant-loop-character : goal.invariant-loop-character
invariant-loop-character l = IsUtf8 (chars_rest l.character-iterator)
    × (string_bytes l.lines ++ printed (chars_rest l.character-iterator) ≡ string_bytes l.initial.lines ++ printed l.text)
