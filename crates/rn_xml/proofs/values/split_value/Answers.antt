use Rattle.std.proofs.Common.{arith, ap, ℕ, List}
use Rattle.std.specs.Prelude.{string_bytes}
use Rattle.std.specs.Str.{chars}
use Rattle.rn_xml.specs.inside.Rests.{source}
use Rattle.rn_xml.specs.DocumentFaults.{IsOfText}
use Rattle.rn_xml.specs.XmlCharacters.{lines_of, IsValue}
use Rattle.rn_xml.proofs.AttributeValues.{closed, begun, continued_more}
use Rattle.rn_xml.proofs.Refusals.RefusedFronts.{if_each_err}
use Rattle.rn_xml.proofs.Refusals.RefusedValues.{leaves_itself, leaves_more, no_value_left}
use Rattle.rn_xml.proofs.values.split_value.Goals as goal

pub loop-c-init : goal.loop-c-init
loop-c-init c = (c.utf8.text, omega arith, begun c.args.quote (source c.args.text.now) (string_bytes c.new-value.result) c.new-value.ensures.bytes, leaves_itself c.args.quote (source c.args.text.now))

pub returns-then-c-quote-clause-value : goal.returns-then-c-quote-clause-value
returns-then-c-quote-clause-value c =
    closed c.args.quote c.in-Some.c (source c.args.text.now) (chars (string_bytes c.loop-c.value)) (chars c.loop-c.rest.now) (chars c.in-Some.after.now) c.requires c.in-Some.ensures.cases c.if-c-quote.true c.loop-c.invariant.2

pub loop-c-preserved : goal.loop-c-preserved
loop-c-preserved c = (
  c.in_ok-found.ensures.utf8,
  omega (arith, c.in_ok-found.ensures.reads),
  continued_more c.args.quote (source c.args.text.now) (chars (string_bytes c.loop-c.value)) (chars (string_bytes c.push_some.new.value)) (source c.loop-c.rest.now) (source c.in_ok-found.behind.now) c.in_ok-found.found
      c.in_ok-push_some.ensures c.loop-c.invariant.2 (c.in_ok-found.ensures.value c.args.quote c.if-c-quote.false),
  leaves_more c.args.quote (source c.args.text.now) (source c.loop-c.rest.now) (source c.in_ok-found.behind.now) c.loop-c.invariant.3 (c.in_ok-found.ensures.leaves c.args.quote c.requires c.if-c-quote.false),
)

pub returns-in_err-found-clause-refused : goal.returns-in_err-found-clause-refused
returns-in_err-found-clause-refused c =
    if_each_err c.from_residual.result (λ stop. IsOfText stop.kind → (value rest : List ℕ) → ¬ IsValue c.args.quote (source c.args.text.now) value rest) (λ stop own value rest is.
    let left = c.loop-c.invariant.3 value rest is in c.in_err-found.ensures.refused c.args.quote c.requires c.if-c-quote.false left.0 rest left.1)

pub returns-clause-refused : goal.returns-clause-refused
returns-clause-refused c = λ own value rest is.
    let left = c.loop-c.invariant.3 value rest is in no_value_left c.args.quote (source c.loop-c.rest.now) left.0 rest (ap lines_of c.in_default.ensures.cases) left.1
