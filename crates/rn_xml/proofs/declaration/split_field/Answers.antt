use Rattle.std.proofs.Common.{◌≡◌, ◌∷◌, ◌++◌, ◌∙◌, sym, ap, arith, false, true, subst, ℕ}
use Rattle.std.specs.Str.{chars}
use Rattle.std.specs.Prelude.{◌==◌}
use Rattle.rn_text.specs.Segments.{after_run, begins_with, is_delimiter}
use Rattle.rn_xml.specs.XmlCharacters.{IsSpace, lines_of}
use Rattle.rn_xml.specs.inside.Rests.{source}
use Rattle.rn_text.specs.Texts.{is_white}
use Rattle.std.proofs.lemmas.Bool.Decides.{nat_tests}
use Rattle.rn_xml.proofs.Decoding.DeclarationFields.{lacks_space, lacks_name, lacks_equals, lacks_all, lacks_quote, lacks_close, only_field, named_field, no_white, no_quote, cut_at_quote}
use Rattle.rn_xml.proofs.declaration.split_field.Goals as goal
use Rattle.rn_xml.proofs.declaration.split_field.Goals.{else-quote-ne34-via-then-quote-ne34+else-quote-ne39, else-quote-ne34-via-else-quote-ne34}

pub returns-then-spaced-text-clause-only : goal.returns-then-spaced-text-clause-only
returns-then-spaced-text-clause-only c =
    lacks_space c.args.name.now (chars c.args.text.now) c.requires.some c.requires.word c.requires.inner
    (no_white c.args.text.now c.after_space-spaced.result.now c.utf8.text c.after_space-spaced.utf8 c.after_space-spaced.ensures.run (grind arith))

pub returns-in_err-after_front-clause-only : goal.returns-in_err-after_front-clause-only
returns-in_err-after_front-clause-only c =
    rw c.from_residual.ensures
    (lacks_name c.args.name.now (chars c.args.text.now) c.requires.some c.requires.word c.requires.inner
    (λ behind e. c.in_err-after_front.ensures.cases behind (c.after_space-spaced.ensures.run ∙ e)))

pub returns-in_err-equals-clause-only : goal.returns-in_err-equals-clause-only
returns-in_err-equals-clause-only c =
    let behind = chars c.in_ok-after_front.field-0.now in
    let named : after_run is_white (chars c.args.text.now) ≡ c.args.name.now ++ behind = sym c.after_space-spaced.ensures.run ∙ c.in_ok-after_front.ensures.cases in
    rw c.from_residual-in_err-equals.ensures
    (lacks_equals c.args.name.now (chars c.args.text.now) c.requires.some c.requires.word c.requires.inner behind named
    (ap (begins_with (λ d. d == 61)) (sym c.after_space.ensures.run) ∙ c.in_err-equals.ensures.cases))

pub returns-in_err-quote-clause-only : goal.returns-in_err-quote-clause-only
returns-in_err-quote-clause-only c =
    let behind = chars c.in_ok-after_front.field-0.now in
    let equals = chars c.in_ok-equals.equals.now in
    let named : after_run is_white (chars c.args.text.now) ≡ c.args.name.now ++ behind = sym c.after_space-spaced.ensures.run ∙ c.in_ok-after_front.ensures.cases in
    let equal : after_run is_white behind ≡ 61 ∷ equals = sym c.after_space.ensures.run ∙ c.in_ok-equals.ensures.cases in
    rw c.from_residual-in_err-quote.ensures
    (lacks_all c.args.name.now (chars c.args.text.now) c.requires.some c.requires.word c.requires.inner behind named equals equal
    (sym c.after_space-2.ensures.run ∙ c.in_err-quote.ensures.cases))

neither : (q : ℕ) → ¬ (q ≡ 34) → ¬ (q ≡ 39) → is_delimiter q ≡ false
neither q a b = grind (arith, nat_tests)

pub returns-then-quote-ne39-clause-only : goal.returns-then-quote-ne39-clause-only
returns-then-quote-ne39-clause-only c =
    let behind = chars c.in_ok-after_front.field-0.now in
    let equals = chars c.in_ok-equals.equals.now in
    let named : after_run is_white (chars c.args.text.now) ≡ c.args.name.now ++ behind = sym c.after_space-spaced.ensures.run ∙ c.in_ok-after_front.ensures.cases in
    let equal : after_run is_white behind ≡ 61 ∷ equals = sym c.after_space.ensures.run ∙ c.in_ok-equals.ensures.cases in
    lacks_quote c.args.name.now (chars c.args.text.now) c.requires.some c.requires.word c.requires.inner behind named equals equal
    c.in_ok-quote.quote (chars c.in_ok-quote.inside.now) (sym c.after_space-2.ensures.run ∙ c.in_ok-quote.ensures.cases)
    (neither c.in_ok-quote.quote c.if-quote-ne34.true c.if-quote-ne39.true)

double : (q : ℕ) → q ≡ 34 → is_delimiter q ≡ true
double q e = ap is_delimiter e

single : (q : ℕ) → q ≡ 39 → is_delimiter q ≡ true
single q e = ap is_delimiter e

pub returns-in_err-value-clause-only : goal.returns-in_err-value-clause-only
returns-in_err-value-clause-only c =
    let behind = chars c.in_ok-after_front.field-0.now in
    let equals = chars c.in_ok-equals.equals.now in
    let named : after_run is_white (chars c.args.text.now) ≡ c.args.name.now ++ behind = sym c.after_space-spaced.ensures.run ∙ c.in_ok-after_front.ensures.cases in
    let equal : after_run is_white behind ≡ 61 ∷ equals = sym c.after_space.ensures.run ∙ c.in_ok-equals.ensures.cases in
    let quote : is_delimiter c.in_ok-quote.quote ≡ true = elim c.else-quote-ne34.branch [
      | else-quote-ne34-via-then-quote-ne34+else-quote-ne39 w ↦ single c.in_ok-quote.quote w.if-quote-ne39.false
      | else-quote-ne34-via-else-quote-ne34 w ↦ double c.in_ok-quote.quote w.if-quote-ne34.false
    ] in
    rw c.from_residual-in_err-value.ensures
    (lacks_close c.args.name.now (chars c.args.text.now) c.requires.some c.requires.word c.requires.inner behind named equals equal
    c.in_ok-quote.quote (chars c.in_ok-quote.inside.now) (sym c.after_space-2.ensures.run ∙ c.in_ok-quote.ensures.cases) quote
    (no_quote c.in_ok-quote.quote c.in_ok-quote.inside.now c.in_ok-quote.ensures.utf8 c.in_err-value.ensures.cases))

pub returns-clause-field : goal.returns-clause-field
returns-clause-field c =
    let behind = chars c.in_ok-after_front.field-0.now in
    let equals = chars c.in_ok-equals.equals.now in
    let named : after_run is_white (chars c.args.text.now) ≡ c.args.name.now ++ behind = sym c.after_space-spaced.ensures.run ∙ c.in_ok-after_front.ensures.cases in
    let equal : after_run is_white behind ≡ 61 ∷ equals = sym c.after_space.ensures.run ∙ c.in_ok-equals.ensures.cases in
    let quote : is_delimiter c.in_ok-quote.quote ≡ true = elim c.else-quote-ne34.branch [
      | else-quote-ne34-via-then-quote-ne34+else-quote-ne39 w ↦ single c.in_ok-quote.quote w.if-quote-ne39.false
      | else-quote-ne34-via-else-quote-ne34 w ↦ double c.in_ok-quote.quote w.if-quote-ne34.false
    ] in
    let cut = cut_at_quote c.in_ok-quote.quote c.in_ok-quote.inside.now c.in_ok-value.value.now c.in_ok-value.rest.now c.in_ok-quote.ensures.utf8 quote c.in_ok-value.ensures.cases in
    named_field c.args.name.now (chars c.args.text.now) c.requires.some c.requires.word c.requires.inner behind named equals equal
    c.in_ok-quote.quote (chars c.in_ok-quote.inside.now) (sym c.after_space-2.ensures.run ∙ c.in_ok-quote.ensures.cases)
    (chars c.in_ok-value.value.now) (chars c.in_ok-value.rest.now) cut.0 quote
    (subst (λ l. IsSpace (source c.args.text.now) (lines_of l)) c.after_space-spaced.ensures.run (c.after_space-spaced.ensures.some c.if-spaced-text.false))

pub returns-clause-only : goal.returns-clause-only
returns-clause-only c =
    let behind = chars c.in_ok-after_front.field-0.now in
    let equals = chars c.in_ok-equals.equals.now in
    let named : after_run is_white (chars c.args.text.now) ≡ c.args.name.now ++ behind = sym c.after_space-spaced.ensures.run ∙ c.in_ok-after_front.ensures.cases in
    let equal : after_run is_white behind ≡ 61 ∷ equals = sym c.after_space.ensures.run ∙ c.in_ok-equals.ensures.cases in
    let quote : is_delimiter c.in_ok-quote.quote ≡ true = elim c.else-quote-ne34.branch [
      | else-quote-ne34-via-then-quote-ne34+else-quote-ne39 w ↦ single c.in_ok-quote.quote w.if-quote-ne39.false
      | else-quote-ne34-via-else-quote-ne34 w ↦ double c.in_ok-quote.quote w.if-quote-ne34.false
    ] in
    let cut = cut_at_quote c.in_ok-quote.quote c.in_ok-quote.inside.now c.in_ok-value.value.now c.in_ok-value.rest.now c.in_ok-quote.ensures.utf8 quote c.in_ok-value.ensures.cases in
    only_field c.args.name.now (chars c.args.text.now) c.requires.some c.requires.word c.requires.inner behind named equals equal
    c.in_ok-quote.quote (chars c.in_ok-quote.inside.now) (sym c.after_space-2.ensures.run ∙ c.in_ok-quote.ensures.cases)
    (chars c.in_ok-value.value.now) (chars c.in_ok-value.rest.now) cut.0 quote cut.1
