-- Faults of a text that is no document.
use Rattle.std.specs.Prelude.{◌≢◌}
use Rattle.rn_xml.specs.declared.xml_fault.XmlFaultKind.{XmlFaultKind}
use Rattle.rn_xml.specs.declared.xml_fault.XmlFaultKind.TheVariants.{Deep, Memory}

-- a fault of the text itself: neither that more elements are open than are read, nor that memory was refused
pub record IsOfText (kind : XmlFaultKind) : Type 0 where
  pub not_deep : kind ≢ Deep
  pub not_memory : kind ≢ Memory
