use Rattle.std.proofs.Common.{◌≡◌, ◌++◌, sym, subst}
use Rattle.std.specs.Prelude.{string_bytes, IfOk}
use Rattle.std.specs.Str.{chars}
use Rattle.std.proofs.lemmas.Str.{IsUtf8-string_bytes}
use Rattle.rn_xml.proofs.PushedCharacters.{push_answer}
use Rattle.rn_xml.proofs.Sources.{normal_other, normal_lone}
use Rattle.rn_xml.proofs.markup.push_normal.Goals as goal

pub returns-then-c-ne13 : goal.returns-then-c-ne13
returns-then-c-ne13 c =
    subst (λ n. IfOk c.push.result (λ done. chars (string_bytes c.push.new.self) ≡ chars (string_bytes c.args.out.now) ++ n)) (sym (normal_other c.args.c (chars c.args.after.now) c.if-c-ne13.true))
    (push_answer c.push.result (string_bytes c.args.out.now) (string_bytes c.push.new.self) c.args.c (IsUtf8-string_bytes c.args.out.now) (IsUtf8-string_bytes c.push.new.self) c.push.ensures.bytes)

pub returns : goal.returns
returns c =
    subst (λ n. IfOk c.push-2.result (λ done. chars (string_bytes c.push-2.new.self) ≡ chars (string_bytes c.args.out.now) ++ n))
    (sym (normal_lone c.args.c (chars c.args.after.now) c.if-c-ne13.false (sym c.if-begins.ensures)))
    (push_answer c.push-2.result (string_bytes c.args.out.now) (string_bytes c.push-2.new.self) 10 (IsUtf8-string_bytes c.args.out.now) (IsUtf8-string_bytes c.push-2.new.self) c.push-2.ensures.bytes)
