use Rattle.std.proofs.Common.{◌∷◌, ◌++◌}
use Rattle.std.specs.Str.{chars}
use Rattle.rn_xml.specs.XmlTags.{prefixed}
use Rattle.rn_xml.proofs.QNames.{name_split, unprefixed_name, unprefixed_split, prefixed_split}
use Rattle.std.proofs.Common.{◌∙◌, sym}
use Rattle.rn_xml.proofs.Refusals.RefusedFronts.{if_err}
use Rattle.rn_xml.proofs.Refusals.RefusedNames.{no_name, no_local, two_colons, colon_lines, read_name_ends}
use Rattle.rn_xml.proofs.characters.split_qname.Goals as goal

pub returns-in_default-clause-name : goal.returns-in_default-clause-name
returns-in_default-clause-name c =
    let name = rw c.in_ok-first.ensures.ok_part at c.split_ncname.ensures.cases in
    record {
      written = chars c.in_ok-first.first.now;
      is_name = unprefixed_name (chars c.in_ok-first.first.now) name.1;
      splits = unprefixed_split (chars c.args.text.now) (chars c.in_ok-first.first.now) (chars c.in_ok-first.rest.now) (name_split _ _ _ name.0 name.2) name.1;
    }

pub returns-clause-name : goal.returns-clause-name
returns-clause-name c =
    let prefix = rw c.in_ok-first.ensures.ok_part at c.split_ncname.ensures.cases in
    let local = rw c.in_ok-local.ensures.ok_part at c.split_ncname-2.ensures.cases in
    record {
      written = chars c.in_ok-first.first.now ++ 58 ∷ chars c.in_ok-local.local.now;
      is_name = prefixed prefix.1 local.1;
      splits =
          prefixed_split (chars c.args.text.now) (chars c.in_ok-first.first.now) (chars c.in_ok-first.rest.now) (chars c.in_ok-local.local.now) (chars c.in-Some.after.now) (chars c.in_ok-local.rest.now)
          (name_split _ _ _ prefix.0 prefix.2) c.in-Some.ensures.cases (name_split _ _ _ local.0 local.2) prefix.1 local.1;
    }

pub returns-in_default-clause-ends : goal.returns-in_default-clause-ends
returns-in_default-clause-ends c =
    let name = rw c.in_ok-first.ensures.ok_part at c.split_ncname.ensures.cases in
    read_name_ends (chars c.args.text.now) (chars c.in_ok-first.rest.now) name.2 c.in_default.ensures.cases

pub returns-clause-ends : goal.returns-clause-ends
returns-clause-ends c =
    let local = rw c.in_ok-local.ensures.ok_part at c.split_ncname-2.ensures.cases in
    read_name_ends (chars c.in-Some.after.now) (chars c.in_ok-local.rest.now) local.2 (sym c.begins.ensures ∙ c.if-begins.false)

pub returns-in_err-first-clause-refused : goal.returns-in_err-first-clause-refused
returns-in_err-first-clause-refused c =
    let none = rw c.in_err-first.ensures.ok_part at c.split_ncname.ensures.cases in
    if_err c.from_residual.result (λ written prefix local behind. no_name (chars c.args.text.now) written prefix local behind none)

pub returns-in_err-local-clause-refused : goal.returns-in_err-local-clause-refused
returns-in_err-local-clause-refused c =
    let name = rw c.in_ok-first.ensures.ok_part at c.split_ncname.ensures.cases in
    let none = rw c.in_err-local.ensures.ok_part at c.split_ncname-2.ensures.cases in
    let whole = colon_lines (chars c.args.text.now) (chars c.in_ok-first.first.now) (chars c.in_ok-first.rest.now) (chars c.in-Some.after.now) name.1 (name_split _ _ _ name.0 name.2) c.in-Some.ensures.cases in
    if_err c.from_residual-in_err-local.result (λ written prefix local behind. no_local (chars c.args.text.now) (chars c.in_ok-first.first.now) (chars c.in-Some.after.now) written prefix local behind name.1 whole none)

pub returns-then-begins-clause-refused : goal.returns-then-begins-clause-refused
returns-then-begins-clause-refused c =
    let name = rw c.in_ok-first.ensures.ok_part at c.split_ncname.ensures.cases in
    let word = rw c.in_ok-local.ensures.ok_part at c.split_ncname-2.ensures.cases in
    let whole = colon_lines (chars c.args.text.now) (chars c.in_ok-first.first.now) (chars c.in_ok-first.rest.now) (chars c.in-Some.after.now) name.1 (name_split _ _ _ name.0 name.2) c.in-Some.ensures.cases in
    λ written prefix local behind. two_colons (chars c.args.text.now) (chars c.in_ok-first.first.now) (chars c.in-Some.after.now) (chars c.in_ok-local.local.now) (chars c.in_ok-local.rest.now) written prefix local behind
    name.1 whole word.1 (name_split _ _ _ word.0 word.2) (sym c.begins.ensures ∙ c.if-begins.true)
