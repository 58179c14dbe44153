use Rattle.std.proofs.Common.{sym, subst, inl}
use Rattle.rn_xml.specs.Encodings.{IsCalled}
use Rattle.rn_xml.specs.inside.Rests.{source}
use Rattle.rn_xml.proofs.Decoding.DeclaredEncodings.{called, both_utf16}
use Rattle.rn_xml.proofs.encoding.declared.Goals as goal

pub returns-in-Some-encoding_named-clause-encoding : goal.returns-in-Some-encoding_named-clause-encoding
returns-in-Some-encoding_named-clause-encoding c =
    let encoding = c.in-Some-encoding_named.encoding in
    let name = c.in-Some.field.value.now in
    let k = called encoding name c.in-Some-encoding_named.ensures in
    let kinds = both_utf16 encoding c.args.meant c.eq.result c.eq-in_units.result c.eq.ensures c.eq-in_units.ensures c.if-eq-in_units.true in
    record {
      named = inl (source name, c.in-Some.ensures.cases k.0, subst (λ n. IsCalled encoding n) (sym k.1) c.in-Some-encoding_named.ensures);
      fits = kinds.0;
      only = kinds.1;
    }
