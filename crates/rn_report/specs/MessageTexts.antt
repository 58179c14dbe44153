-- Messages in a format.
use Rattle.std.specs.Prelude.{ℕ, List}
use Rattle.rn_report.specs.JsonMessages.{AreObjectLines}
use Rattle.rn_report.specs.Messages.{AreLines}
use Rattle.rn_report.specs.declared.showing.formats.Format.{Format}
use Rattle.rn_report.specs.declared.showing.formats.Format.TheVariants.{Lines, Json}
use Rattle.rn_report.specs.declared.report.Messages.{Messages}
use Rattle.rn_report.specs.declared.report.Page.{Page}

-- the text of what is told: lines in colours or not, or objects
abbrev pub AreMessagesIn : Format → List Page → Messages → List ℕ → Type 0
AreMessagesIn (Lines colours) pages told text = AreLines pages colours told text
AreMessagesIn Json pages told text = AreObjectLines pages told text
