-- All characters but the first.
use Rattle.std.proofs.Common.{sym, ap, ◌∙◌, drop}
use Rattle.std.specs.Str.{encode_utf8_all}
use Rattle.std.proofs.lemmas.Str.{encodes-chars}
use Rattle.rn_syntax.proofs.productions.terminals.behind_first.Goals as goal

pub returns-in-Some : goal.returns-in-Some
returns-in-Some c = sym (ap (λ l. encode_utf8_all (drop 1 l)) c.in-Some.ensures.cases ∙ encodes-chars _ c.in-Some.ensures.utf8)

pub returns-in-None : goal.returns-in-None
returns-in-None c = sym (encodes-chars _ c.utf8.text) ∙ ap encode_utf8_all c.in-None.ensures.cases ∙ sym (ap (λ l. encode_utf8_all (drop 1 l)) c.in-None.ensures.cases)
