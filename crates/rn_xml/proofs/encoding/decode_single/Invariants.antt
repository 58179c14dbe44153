use Rattle.std.proofs.Common.{◌≡◌, true, take, nat_le, string_bytes}
use Rattle.std.specs.Str.{chars}
use Rattle.std.specs.List.{list_all}
use Rattle.rn_xml.proofs.encoding.decode_single.Given as goal

abbrev pub invariant-loop-b : goal.invariant-loop-b
invariant-loop-b l = record {
  text : chars (string_bytes l.text) ≡ take l.b-index l.bytes;
  fits : list_all (λ b. nat_le b l.most) (take l.b-index l.bytes) ≡ true;
}
