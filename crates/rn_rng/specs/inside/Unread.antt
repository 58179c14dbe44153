-- Why a text is no module.
use Rattle.rn_text.specs.Texts.{Text}
use Rattle.rn_syntax.specs.declared.fault.FaultKind.{FaultKind}
use Rattle.rn_assemble.specs.Refusal.{HasTextFault}
use Rattle.rn_rng.specs.declared.xml_fault.XmlFault.{XmlFault}
use Rattle.rn_rng.specs.declared.xml_fault.XmlFault.TheVariants as fault

-- the text has a fault, or memory was refused
abbrev pub IsUnread : Text → XmlFault → Type 0
IsUnread text fault.NoSchema = (f : FaultKind) × HasTextFault text f
IsUnread text fault.Memory = Unit {0}
IsUnread text fault.TooLarge = ⊥
