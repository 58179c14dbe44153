use Rattle.std.proofs.Common.{rules, arith, ap, ◌%◌, refl}
use Rattle.std.specs.Fmt.{styled_decimal}
use Rattle.std.proofs.Output.{has_written_append, has_written_of_eq}
use Rattle.rn_outline.proofs.Commas.{few, thousands_more}
use Rattle.rn_outline.proofs.grouped.GroupedDisplay.+fmt.Goals as goal

pub returns-then-number-lt1000-clause-writes : goal.returns-then-number-lt1000-clause-writes
returns-then-number-lt1000-clause-writes g t c plain ok = has_written_of_eq _ _ _ _ _ (few c.args.self.now.0 c.if-number-lt1000.true) (c.write.ensures.writes plain ok)

pub fmt-requires : goal.fmt-requires
fmt-requires g t c κs within = (omega (arith, c.decreases, c.if-number-lt1000.false), search rules)

pub returns-clause-writes : goal.returns-clause-writes
returns-clause-writes g t c plain ok = let front = c.in_ok-fmt.ensures.writes plain refl in
    has_written_of_eq _ _ _ _ _ (thousands_more c.args.self.now.0 _ (ap (λ z. styled_decimal z (c.args.self.now.0 % 1000)) c.laid_out.ensures) c.if-number-lt1000.false (search rules))
    (has_written_append _ _ _ _ _ _ front (c.write-2.ensures.writes front.plain ok))
