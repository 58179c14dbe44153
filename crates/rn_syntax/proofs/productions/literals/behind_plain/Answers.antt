use Rattle.std.proofs.Common.{rules}
use Rattle.rn_text.proofs.Words.CharacterRuns.{trimmed_by}
use Rattle.rn_syntax.specs.inside.Readers.{is_plain}
use Rattle.rn_syntax.proofs.productions.literals.behind_plain.Goals as goal

pub returns : goal.returns
returns c = trimmed_by _ _ is_plain (λ f a r h called. search rules) _ _ c.utf8.text c.trim_start_matches.ensures.matches
