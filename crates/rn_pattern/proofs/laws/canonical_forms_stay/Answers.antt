use Rattle.rn_pattern.specs.CanonicalShape.{AnyName}
use Rattle.rn_pattern.specs.Canonical.{settled_within, canonical_within}
use Rattle.rn_pattern.proofs.CanonicalForms.CanonicalForm.{canonical_is}
use Rattle.rn_pattern.proofs.CanonicalForms.Settled.{settled_canonical}
use Rattle.rn_pattern.proofs.CanonicalForms.Fixed.{canonical_itself, opened_itself, canonical_name_again}
use Rattle.rn_pattern.proofs.laws.canonical_forms_stay.Goals as goal

pub returns-clause-patterns : goal.returns-clause-patterns
returns-clause-patterns c = canonical_itself

pub returns-clause-twice : goal.returns-clause-twice
returns-clause-twice c = λ k G p. canonical_itself (canonical_within k G p) (canonical_is AnyName (settled_within k G) (λ x. settled_canonical G AnyName k x (λ _. tt)) p)

pub returns-clause-opened_patterns : goal.returns-clause-opened_patterns
returns-clause-opened_patterns c = opened_itself

pub returns-clause-name_classes : goal.returns-clause-name_classes
returns-clause-name_classes c = canonical_name_again
