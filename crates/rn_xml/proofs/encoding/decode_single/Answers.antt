use Rattle.std.proofs.Common.{◌≡◌, ◌∙◌, ap, refl, arith, string_bytes, take, subst, nat_le, true}
use Rattle.std.specs.Str.{chars}
use Rattle.std.specs.List.{list_all}
use Rattle.std.proofs.lemmas.List.{take_all}
use Rattle.std.proofs.lemmas.Str.{chars-nil, IsUtf8-string_bytes}
use Rattle.rn_xml.proofs.Decoding.DecodedTexts.{byte_read, byte_fits}
use Rattle.rn_xml.proofs.encoding.decode_single.Goals as goal

pub loop-b-init : goal.loop-b-init
loop-b-init c = record { text = ap chars c.new-text.ensures.bytes ∙ chars-nil; fits = refl }

pub loop-b-preserved : goal.loop-b-preserved
loop-b-preserved c = record {
  text = byte_read c.args.bytes.now (string_bytes c.loop-b.text) (string_bytes c.push.new.self) c.loop-b.b-index c.from.result
      (IsUtf8-string_bytes c.loop-b.text) c.loop-b-test.true (grind arith) (grind arith) (grind arith) c.loop-b.invariant.text;
  fits = byte_fits c.args.bytes.now c.loop-b.b-index c.args.most c.loop-b-test.true c.if-b-most.false c.loop-b.invariant.fits;
}

pub returns-clause-text : goal.returns-clause-text
returns-clause-text c =
    let all : take c.loop-b.b-index c.args.bytes.now ≡ c.args.bytes.now = take_all c.loop-b.b-index c.args.bytes.now c.loop-b-test.false in
    (c.loop-b.invariant.text ∙ all, subst (λ l. list_all (λ b. nat_le b c.args.most) l ≡ true) all c.loop-b.invariant.fits)
