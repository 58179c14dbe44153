-- The index of the text.
use Rattle.std.proofs.Common.{◌≡◌, sym, Some}
use Rattle.rn_translate.specs.inside.UriTables.{index_of}
use Rattle.rn_translate.proofs.UriMeanings.{meant_at}
use Rattle.rn_translate.proofs.uris.Uris.uri.Goals as goal

pub returns-in-Some : goal.returns-in-Some
returns-in-Some c = λ are has.
    let is : index_of c.args.self.now c.args.text.now ≡ Some c.in-Some.index.now = sym c.in-Some.ensures.value in
    let there = are.is_there c.args.text.now c.in-Some.index.now is in
    meant_at c.args.self.now (record { index = c.in-Some.index.now }) c.args.text.now there.0 there.1
