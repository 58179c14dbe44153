-- Fields of the XML declaration.
use Rattle.std.specs.Prelude.{◌<◌, ◌≤◌, length}
use Rattle.rn_text.specs.Texts.{Text}
use Rattle.rn_xml.specs.declared.declaration.Field.{Field}

-- the field's value and what follows it lie in the text
abbrev pub IsFieldOf : Text → Field → Type 0
IsFieldOf text field = (field.left ≤ length text) × (length field.rest.now < length text)
