-- A message behind others, and messages that are left out.
use Rattle.std.specs.Prelude.{◌≡◌, ℕ, ◌+◌, ◌-◌, ◌^◌, List, ◌++◌, min}
use Rattle.rn_report.specs.Messages.{IsMessageText}
use Rattle.rn_report.specs.declared.report.Colours.{Colours}
use Rattle.rn_report.specs.declared.report.Message.{Message}
use Rattle.rn_report.specs.declared.report.Page.{Page}

-- a text and then the lines of a message
abbrev pub AddsMessage : List Page → Colours → Message → (before after : List ℕ) → Type 0
AddsMessage pages colours message before after = (lines : List ℕ) × IsMessageText pages colours message lines × (after ≡ before ++ lines)

-- one more is counted, up to the greatest number that is held
abbrev pub one_more : ℕ → ℕ
one_more count = min (count + 1) (2 ^ 64 - 1)
