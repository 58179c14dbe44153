-- The places are those of the row's components.
use Rattle.std.proofs.Common.{length, refl}
use Rattle.std.proofs.lemmas.Option.{slice_get_read}
use Rattle.rn_assemble.specs.declared.diagnosing.findings.Finding.TheVariants as f
use Rattle.rn_assemble.proofs.diagnosing.findings.plain_twice.Goals as goal

pub returns-clause-places : goal.returns-clause-places
returns-clause-places c =
    let row = c.args.row.now in
    record {
      one = c.index-row-first.result;
      one_at = slice_get_read row (length row) c.args.first.index c.index-row-first.result refl c.requires.first c.index-row-first.is;
      other = c.index-row-second.result;
      other_at = slice_get_read row (length row) c.args.second.index c.index-row-second.result refl c.requires.second c.index-row-second.is;
      parting = c.if-first-second.parting;
      is = λ i. f.PlainTwice c.args.key (c.of.ensures i) (c.of-2.ensures i) c.if-first-second.parting;
    }
