use Rattle.std.proofs.Common.{refl}
use Rattle.rn_xml.proofs.TagSteps.{adds_declaration}
use Rattle.rn_xml.proofs.Refusals.RefusedAttributes.{forbidden_adds, repeated_adds}
use Rattle.rn_xml.proofs.tags.TagReader.declare.Goals as goal

pub returns-clause-declared : goal.returns-clause-declared
returns-clause-declared c = λ a declares r outer written has.
    let d = c.in_ok-declaration.ensures in
    adds_declaration r c.args.self.now _ outer c.args.first written a c.args.prefix.now c.args.uri.now d.added.0 c.in_ok-declaration.declaration d.longer.0 has d.rest refl refl d.longer.1 (d.knows has.knows)
    d.added.1 d.added.2 (d.added.3 has.knows) d.index c.in_ok-enter.ensures.ok (c.is_forbidden.ensures.allowed c.if-is_forbidden.false) (c.is_declared.ensures.no c.if-is_declared.false) declares

pub returns-then-is_forbidden-clause-refused : goal.returns-then-is_forbidden-clause-refused
returns-then-is_forbidden-clause-refused c = λ own a declares r outer written has.
    forbidden_adds a c.args.prefix.now c.args.uri.now declares (c.is_forbidden.ensures.forbidden c.if-is_forbidden.true) written

pub returns-then-is_declared-clause-refused : goal.returns-then-is_declared-clause-refused
returns-then-is_declared-clause-refused c = λ own a declares r outer written has.
    repeated_adds a c.args.prefix.now c.args.uri.now declares written (has.only c.args.prefix.now (c.is_declared.ensures.yes c.if-is_declared.true))
