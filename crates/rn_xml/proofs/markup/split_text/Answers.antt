use Rattle.std.proofs.Common.{arith, sym}
use Rattle.std.specs.Prelude.{string_bytes}
use Rattle.std.proofs.lemmas.Bool.{eqb-true}
use Rattle.rn_xml.specs.inside.Rests.{source}
use Rattle.rn_xml.proofs.CharacterData.{characters_more, characters_none}
use Rattle.std.proofs.lemmas.Result.{err_from_is_err_and}
use Rattle.std.specs.Str.{chars}
use Rattle.rn_xml.proofs.Refusals.RefusedCharacters.{text_reaches}
use Rattle.rn_xml.proofs.markup.split_text.Goals as goal

pub loop-content-init : goal.loop-content-init
loop-content-init c = (c.utf8.text, omega arith, omega arith, λ some. omega arith, characters_none (source c.args.text.now) (string_bytes c.new-content.result) c.new-content.ensures.bytes)

pub loop-content-preserved-then-is_empty : goal.loop-content-preserved-then-is_empty
loop-content-preserved-then-is_empty c =
    let utf8 = rw c.in-Some.is at c.in_ok-after.ensures.utf8 in
    let shorter = rw c.in-Some.is at c.in_ok-after.ensures.reads in
    let read = rw c.in-Some.is at c.in_ok-after.ensures.characters in
    let empty = eqb-true _ 0 (sym c.if-is_empty.ensures) in (
      utf8,
      omega arith,
      omega arith,
      λ some. omega arith,
      characters_more (string_bytes c.loop-content.content) (string_bytes c.read_run.new.out) (source c.args.text.now) (source c.loop-content.rest.now) (source c.in-Some.after.now) c.loop-content.invariant.4 read,
    )

pub loop-content-preserved : goal.loop-content-preserved
loop-content-preserved c =
    let utf8 = rw c.in-Some.is at c.in_ok-after.ensures.utf8 in
    let shorter = rw c.in-Some.is at c.in_ok-after.ensures.reads in
    let read = rw c.in-Some.is at c.in_ok-after.ensures.characters in (
      utf8,
      omega arith,
      omega arith,
      λ some. omega arith,
      characters_more (string_bytes c.loop-content.content) (string_bytes c.read_run.new.out) (source c.args.text.now) (source c.loop-content.rest.now) (source c.in-Some.after.now) c.loop-content.invariant.4 read,
    )

pub returns-in_err-after-clause-refused : goal.returns-in_err-after-clause-refused
returns-in_err-after-clause-refused c =
    let p = err_from_is_err_and c.from_residual.result c.from_residual.ensures.1 in
    rw (p.1, p.2) (λ own. text_reaches (source c.args.text.now) (chars (string_bytes c.loop-content.content)) (source c.loop-content.rest.now) c.loop-content.invariant.4 (c.in_err-after.ensures.refused own))
