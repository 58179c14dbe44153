use Rattle.std.specs.Prelude.{string_bytes}
use Rattle.rn_flat.proofs.jobs.origins.Goals as goal

pub returns : goal.returns
returns c = record {
  schema = string_bytes c.in_ok-schema.schema;
  is_schema = record { modules = c.in_ok-lifted.lifted.modules.items; is_schema = c.in_ok-schema.ensures c.in_ok-set.ensures };
}
