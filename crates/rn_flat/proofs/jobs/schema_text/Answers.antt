use Rattle.std.specs.Prelude.{string_bytes}
use Rattle.rn_flat.proofs.Schemas.{as_schema}
use Rattle.rn_flat.proofs.jobs.schema_text.Goals as goal

pub returns : goal.returns
returns c = as_schema c.schema.result (λ text. string_bytes text) c.in_ok-lifted.lifted.modules.items (c.schema.ensures c.in_ok-set.ensures)
