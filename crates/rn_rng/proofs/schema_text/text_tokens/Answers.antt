use Rattle.std.proofs.Common.{rules}
use Rattle.rn_rng.proofs.schema_text.text_tokens.Goals as goal

pub returns-in-Err : goal.returns-in-Err
returns-in-Err c = c.text_fault.ensures c.args.text.now (search rules)
