use Rattle.std.proofs.Common.{◌≡◌, ◌++◌, ◌<◌, ap, ◌∙◌, subst, rules, true, false}
use Rattle.std.specs.Prelude.{codes, decimal, bytes_eq, ◌^◌}
use Rattle.rn_syntax.specs.Places.{xsd_uri}
use Rattle.rn_simplify.specs.Spelling.{place}
use Rattle.rn_simplify.specs.inside.Writes.{prefixes_view, WritesBytes, none}
use Rattle.rn_simplify.proofs.Texts.Writing.{bytes_then}
use Rattle.rn_simplify.proofs.Texts.PartTexts.{xsd_library, numbered_library}
use Rattle.rn_simplify.proofs.declared_prefixes.Prefixes.write_library.Goals as goal

pub returns-then-eq : goal.returns-then-eq
returns-then-eq c =
    let h : bytes_eq c.args.uri.now xsd_uri ≡ true = search rules in
    subst (λ b. WritesBytes b none c.args.writer.now c.put.new.self) (xsd_library (prefixes_view c.args.self.now) c.args.uri.now h) c.put.ensures

pub returns-else-eq : goal.returns-else-eq
returns-else-eq c =
    let f = prefixes_view c.args.self.now in
    let l = c.args.uri.now in
    let h : bytes_eq l xsd_uri ≡ false = search rules in
    let p : c.place_of.result ≡ place l f.libraries = c.place_of.ensures in
    let m : place l f.libraries < 2 ^ 64 = subst (λ n. n < 2 ^ 64) p c.place_of.type_inv in
    subst (λ b. WritesBytes b none c.args.writer.now c.put_number.new.self) (ap (λ n. codes "d" ++ decimal n) p ∙ numbered_library f l h m) (bytes_then (codes "d") (decimal c.place_of.result) c.put-else-eq.ensures c.put_number.ensures)
