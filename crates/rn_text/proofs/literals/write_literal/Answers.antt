use Rattle.std.proofs.Common.{ap, length}
use Rattle.std.specs.String.{string_bytes}
use Rattle.std.proofs.lemmas.Str.{IsUtf8-string_bytes}
use Rattle.rn_text.proofs.Quoting.WrittenLiterals.{cut_behind}
use Rattle.rn_text.proofs.literals.write_literal.Goals as goal

pub truncate-requires : goal.truncate-requires
truncate-requires c within =
    let b = cut_behind (string_bytes c.args.out.now) (string_bytes c.append_literal-appended.new.out) c.append_literal-appended.ensures.longer.0 (length c.as_str-before.result.now)
    (IsUtf8-string_bytes c.args.out.now) (IsUtf8-string_bytes c.append_literal-appended.new.out) c.append_literal-appended.ensures.longer.1 (ap length c.as_str-before.ensures.value) in
    (b.0, λ positive below high. b.1 below high)
