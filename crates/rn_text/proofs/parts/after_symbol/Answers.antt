use Rattle.std.proofs.Common.{◌∷◌, [], sym}
use Rattle.std.specs.Str.{chars}
use Rattle.rn_text.proofs.Cutting.FirstParts.{pair_symbol, single_symbol, no_symbol, longest_at}
use Rattle.rn_text.proofs.parts.after_symbol.Goals as goal

pub returns-in-Some-clause-cases : goal.returns-in-Some-clause-cases
returns-in-Some-clause-cases c =
    let (d, split, is) = c.in-Some.ensures.cases in
    (d ∷ [], longest_at c.args.first (chars c.args.rest.now) _ _ _ split (pair_symbol c.args.first d (chars c.in-Some.after.now) is))

pub returns-then-is_symbol_char-clause-cases : goal.returns-then-is_symbol_char-clause-cases
returns-then-is_symbol_char-clause-cases c = (
  [],
  single_symbol c.args.first (chars c.args.rest.now) c.in_default.ensures.cases (sym c.if-is_symbol_char.ensures),
)

pub returns-clause-cases : goal.returns-clause-cases
returns-clause-cases c = no_symbol c.args.first (chars c.args.rest.now) c.in_default.ensures.cases (sym c.if-is_symbol_char.ensures)
