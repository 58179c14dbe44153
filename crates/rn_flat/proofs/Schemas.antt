-- The text that is the schema of given modules is the schema of some set of modules.
use Rattle.std.proofs.Common.{ℕ, List, Result, Ok, Err, IfOk}
use Rattle.rn_lift.specs.declared.lifted.LiftedModule.{LiftedModule}
use Rattle.rn_flat.specs.JobResults.{IsFlatSchema, IsFlatSchemaOf, IsFlatXml}
use Rattle.rn_rng.specs.Written.{IsXmlOf}

pub as_schema : {V E : Type 0} (r : Result V E) (items : V → List ℕ) (modules : List LiftedModule) → IfOk r (λ v. IsFlatSchemaOf modules (items v))
    → IfOk r (λ v. IsFlatSchema (items v))
as_schema (Ok v) items modules h = record { modules = modules; is_schema = h }
as_schema (Err e) items modules h = tt

-- so is the XML of such a text
pub as_xml : {V E : Type 0} (r : Result V E) (items : V → List ℕ) (schema : List ℕ) → IsFlatSchema schema → IfOk r (λ v. IsXmlOf schema (items v))
    → IfOk r (λ v. IsFlatXml (items v))
as_xml (Ok v) items schema is h = record { schema = schema; is_schema = is; is_xml = h }
as_xml (Err e) items schema is h = tt
