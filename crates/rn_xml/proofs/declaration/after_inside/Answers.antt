use Rattle.std.specs.Str.{chars}
use Rattle.rn_xml.specs.inside.Rests.{source}
use Rattle.rn_xml.proofs.Decoding.DeclarationParts.{info_read, inside_read}
use Rattle.std.proofs.lemmas.Bool.{true≢false}
use Rattle.std.proofs.Common.{sym, ◌∙◌}
use Rattle.rn_xml.proofs.Refusals.RefusedDeclarations.{version_none, version_wrong, behind_version, version_end}
use Rattle.rn_xml.proofs.declaration.after_inside.Goals as goal

pub returns-clause-declared : goal.returns-clause-declared
returns-clause-declared c =
    inside_read (source c.args.text.now) (source c.in_ok-version.version.rest.now) (source c.in_ok-after_encoding.field-0.now) (source c.in_ok-after_standalone.field-0.now) (chars c.after_space.result.now) c.after_front.result
    (info_read (source c.args.text.now) (source c.in_ok-version.version.value.now) (source c.in_ok-version.version.rest.now) c.in_ok-version.ensures.field (c.is_version.ensures.0 c.if-not-is_version.false))
    c.in_ok-after_encoding.ensures.encoding c.in_ok-after_standalone.ensures.standalone c.after_space.ensures.space c.after_front.ensures.cases

pub returns-in_err-version-clause-only : goal.returns-in_err-version-clause-only
returns-in_err-version-clause-only c = rw c.from_residual.ensures (version_none (source c.args.text.now) c.in_err-version.ensures.only)

pub returns-then-not-is_version-clause-only : goal.returns-then-not-is_version-clause-only
returns-then-not-is_version-clause-only c = version_wrong (source c.args.text.now) (source c.in_ok-version.version.value.now) (source c.in_ok-version.version.rest.now) c.in_ok-version.ensures.only
    (λ v. true≢false (sym (c.is_version.ensures.1 v) ∙ c.if-not-is_version.true))

pub returns-in_err-after_encoding-clause-only : goal.returns-in_err-after_encoding-clause-only
returns-in_err-after_encoding-clause-only c = rw c.from_residual-in_err-after_encoding.ensures (λ rest is.
    c.in_err-after_encoding.ensures.only rest (behind_version (source c.args.text.now) (source c.in_ok-version.version.value.now) (source c.in_ok-version.version.rest.now) c.in_ok-version.ensures.only rest is))

pub returns-in_err-after_standalone-clause-only : goal.returns-in_err-after_standalone-clause-only
returns-in_err-after_standalone-clause-only c = rw c.from_residual-in_err-after_standalone.ensures (λ rest is.
    c.in_err-after_standalone.ensures.only rest (c.in_ok-after_encoding.ensures.only rest
    (behind_version (source c.args.text.now) (source c.in_ok-version.version.value.now) (source c.in_ok-version.version.rest.now) c.in_ok-version.ensures.only rest is)))

pub returns-clause-only : goal.returns-clause-only
returns-clause-only c = version_end (source c.args.text.now) (source c.in_ok-version.version.value.now) (source c.in_ok-version.version.rest.now) (source c.in_ok-after_encoding.field-0.now) (chars c.in_ok-after_standalone.field-0.now)
    (chars c.after_space.result.now) c.after_front.result c.in_ok-version.ensures.only c.in_ok-after_encoding.ensures.only c.in_ok-after_standalone.ensures.only c.after_space.ensures.run c.after_front.ensures.cases
