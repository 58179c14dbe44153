use Rattle.std.proofs.Common.{◌≡◌, ◌++◌, ◌<◌, ◌^◌, ap, ◌∙◌, subst, rules, true, false, length, nat_eq}
use Rattle.std.specs.Prelude.{codes, decimal, bytes_eq}
use Rattle.rn_syntax.specs.Places.{xml_uri}
use Rattle.rn_simplify.specs.Spelling.{place}
use Rattle.rn_simplify.specs.inside.Writes.{prefixes_view, WritesBytes, none}
use Rattle.rn_simplify.proofs.Texts.Writing.{bytes_then}
use Rattle.rn_simplify.proofs.Texts.PartTexts.{xml_namespace, other_namespace}
use Rattle.rn_simplify.proofs.declared_prefixes.Prefixes.write_namespace.Goals as goal

pub returns-then-eq : goal.returns-then-eq
returns-then-eq c =
    let f = prefixes_view c.args.self.now in
    let u = c.args.uri.now in
    let e : nat_eq (length u) 0 ≡ false = search rules in
    let h : bytes_eq u xml_uri ≡ true = search rules in
    subst (λ b. WritesBytes b none c.args.writer.now c.put-then-eq.new.self) (xml_namespace f u e h) c.put-then-eq.ensures

pub returns-else-eq : goal.returns-else-eq
returns-else-eq c =
    let f = prefixes_view c.args.self.now in
    let u = c.args.uri.now in
    let e : nat_eq (length u) 0 ≡ false = search rules in
    let h : bytes_eq u xml_uri ≡ false = search rules in
    let p : c.place_of.result ≡ place u f.namespaces = c.place_of.ensures in
    let l : place u f.namespaces < 2 ^ 64 = subst (λ n. n < 2 ^ 64) p c.place_of.type_inv in
    subst (λ b. WritesBytes b none c.args.writer.now c.put_number.new.self) (ap (λ n. codes "n" ++ decimal n) p ∙ other_namespace f u e h l) (bytes_then (codes "n") (decimal c.place_of.result) c.put-else-eq.ensures c.put_number.ensures)
