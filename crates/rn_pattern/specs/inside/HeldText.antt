-- Texts that lie in place or are shared.
use Rattle.std.specs.Rc.{rc_str_bytes}
use Rattle.rn_text.specs.Texts.{Text}
use Rattle.rn_pattern.specs.declared.small_string.Held.{Held}
use Rattle.rn_pattern.specs.declared.small_string.Held.TheVariants.{Short, Long}

-- the bytes of the text
abbrev pub held_bytes : Held → Text
held_bytes (Short text) = text
held_bytes (Long text) = rc_str_bytes text
