use Rattle.std.proofs.Common.{◌≡◌, ◌++◌, sym, subst}
use Rattle.std.specs.Prelude.{string_bytes, option_to_list, IfOk}
use Rattle.std.specs.Str.{chars}
use Rattle.std.proofs.lemmas.Str.{IsUtf8-string_bytes}
use Rattle.rn_xml.proofs.PushedCharacters.{push_answer}
use Rattle.rn_xml.proofs.values.push_some.Goals as goal

pub returns-in-Some : goal.returns-in-Some
returns-in-Some c =
    subst (λ o. IfOk c.push.result (λ done. chars (string_bytes c.push.new.self) ≡ chars (string_bytes c.args.value.now) ++ option_to_list o)) (sym c.in-Some.is)
    (push_answer c.push.result (string_bytes c.args.value.now) (string_bytes c.push.new.self) c.in-Some.c (IsUtf8-string_bytes c.args.value.now) (IsUtf8-string_bytes c.push.new.self) c.push.ensures.bytes)
