-- Texts that could not be decoded.
use Rattle.std.specs.Prelude.{◌≤◌, length, string_bytes}
use Rattle.rn_xml.specs.declared.xml_fault.Undecoded.{Undecoded}

-- the fault has its place in the text
abbrev pub HasPlace : Undecoded → Type 0
HasPlace u = u.fault.at ≤ length (string_bytes u.text)
