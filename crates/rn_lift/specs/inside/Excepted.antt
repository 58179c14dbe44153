-- Parts of a file that stand in excepts (RELAX NG 2001, 7.1.4).
use Rattle.std.specs.Prelude.{ℕ, Bool, false, List, slice_get}
use Rattle.std.specs.Option.{option_map_or}
use Rattle.rn_outline.specs.declared.file_parts.FilePart.{FilePart}

-- whether the part of that number stands in an except
abbrev pub is_excepted : List FilePart → ℕ → Bool
is_excepted parts n = option_map_or (λ (p : FilePart). p.in_except) (slice_get parts n) false
