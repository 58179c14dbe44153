use Rattle.std.proofs.Common.{rules, lit<}
use Rattle.std.proofs.lemmas.Iterator.Search.{any_from_yields_List}
use Rattle.std.proofs.lemmas.Iterator.Splits.{YieldsList-from_str_split}
use Rattle.rn_files.specs.Paths.{is_dot_or_two}
use Rattle.rn_files.proofs.references.paths.has_dots.Goals as goal

pub returns : goal.returns
returns c =
    any_from_yields_List is_dot_or_two _ _ _ c.any.ensures.ran
    (YieldsList-from_str_split 47 c.args.path.now (lit< tt) c.split.ensures.text c.split.ensures.has_more c.split.ensures.pattern)
    (λ x b q called. (search rules, search rules))
