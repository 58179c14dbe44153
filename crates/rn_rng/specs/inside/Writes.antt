-- What is appended to a text up to a limit.
use Rattle.std.specs.Prelude.{◌≡◌, ◌<◌, ◌≤◌, Bool, cond, ◌++◌, length, Option, Some, None, nat_lt, string_bytes}
use Rattle.rn_text.specs.Texts.{Text}
use Rattle.rn_rng.specs.declared.lines.Writer.{Writer}
use Rattle.rn_rng.specs.declared.lines.XmlStop.{XmlStop}
use Rattle.rn_rng.specs.declared.lines.XmlStop.TheVariants as stop
use Rattle.rn_rng.specs.declared.xml_fault.XmlFault.{XmlFault}
use Rattle.rn_rng.specs.declared.xml_fault.XmlFault.TheVariants as fault
use Rattle.rn_rng.specs.Layout.{max_xml}

-- the text has no more bytes than it may have
abbrev pub IsWithin : Writer → Type 0
IsWithin w = length (string_bytes w.text) ≤ max_xml

-- the bytes are appended, unless the writer is stopped
pub record Writes (bs : Text) (a b : Writer) : Type 0 where
  pub stays : (s : XmlStop) → a.stopped ≡ Some s → b.stopped ≡ Some s
  pub text : b.stopped ≡ None → string_bytes b.text ≡ string_bytes a.text ++ bs
  pub within : b.stopped ≡ None → IsWithin a → IsWithin b
  pub too_large : a.stopped ≡ None → b.stopped ≡ Some stop.TooLarge → max_xml < length (string_bytes a.text ++ bs)

-- what stops a writer behind an append: there was no memory for it, or the text has become too large; else what stopped it before
abbrev pub stop_behind : (appended : Bool) → Writer → Option XmlStop
stop_behind appended w = cond appended (cond (nat_lt max_xml (length (string_bytes w.text))) (Some stop.TooLarge) w.stopped) (Some stop.Memory)

-- why the writer has no text
abbrev pub IsHindrance : Writer → XmlFault → Type 0
IsHindrance w fault.Memory = w.stopped ≡ Some stop.Memory
IsHindrance w fault.TooLarge = w.stopped ≡ Some stop.TooLarge
IsHindrance w fault.NoSchema = ⊥
