-- The XML text of a module, and when there is none.
use Rattle.std.specs.Prelude.{◌≡◌, ◌≢◌, ◌<◌, ◌≤◌, [], length}
use Rattle.rn_text.specs.Texts.{Text}
use Rattle.rn_syntax.specs.declared.fault.FaultKind.{FaultKind}
use Rattle.rn_syntax.specs.Tree.{Module, includes}
use Rattle.rn_assemble.specs.Refusal.{HasTextFault, IsModuleOf}
use Rattle.rn_rng.specs.declared.xml_fault.XmlFault.{XmlFault}
use Rattle.rn_rng.specs.declared.xml_fault.XmlFault.TheVariants as fault
use Rattle.rn_rng.specs.Layout.{max_xml, xml_text}
use Rattle.rn_rng.specs.Translation.{xml_of}

-- a module without includes has one XML text
abbrev pub text_of : Module → Text
text_of m = xml_text (xml_of m)

-- the text is that of the module, which has no includes, and no longer than it may be
abbrev pub IsWritten : Module → Text → Type 0
IsWritten m t = (includes m.items ≡ []) × (length (text_of m) ≤ max_xml) × (t ≡ text_of m)

-- why a module has no text; that memory was refused says nothing
abbrev pub IsUnwritten : Module → XmlFault → Type 0
IsUnwritten m fault.TooLarge = (includes m.items ≡ []) × (max_xml < length (text_of m))
IsUnwritten m fault.NoSchema = includes m.items ≢ []
IsUnwritten m fault.Memory = Unit {0}

-- ---- texts of modules

-- the text is a module without includes, in which no fault stands
pub record IsFlatModuleOf (text : Text) (m : Module) : Type 0 where
  pub is_module : IsModuleOf text m
  pub no_fault : (f : FaultKind) → ¬ HasTextFault text f
  pub no_includes : includes m.items ≡ []

-- the XML text of the module that a text is
abbrev pub IsXmlOf : Text → Text → Type 0
IsXmlOf schema t = (m : Module) × IsFlatModuleOf schema m × IsWritten m t

-- why a text has none; that memory was refused says nothing
abbrev pub HasNoXml : Text → XmlFault → Type 0
HasNoXml schema fault.TooLarge = (m : Module) × IsFlatModuleOf schema m × (max_xml < length (text_of m))
HasNoXml schema fault.NoSchema = (m : Module) → ¬ IsFlatModuleOf schema m
HasNoXml schema fault.Memory = Unit {0}
