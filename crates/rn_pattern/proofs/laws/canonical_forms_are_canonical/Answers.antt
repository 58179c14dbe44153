use Rattle.rn_pattern.specs.CanonicalShape.{AnyName}
use Rattle.rn_pattern.proofs.CanonicalForms.CanonicalForm.{canonical_name_is, canonical_is}
use Rattle.rn_pattern.proofs.CanonicalForms.Settled.{settled_canonical}
use Rattle.rn_pattern.specs.Canonical.{settled_within}
use Rattle.rn_pattern.proofs.laws.canonical_forms_are_canonical.Goals as goal

pub returns-clause-patterns : goal.returns-clause-patterns
returns-clause-patterns c = λ s h p. canonical_is AnyName s h p

pub returns-clause-within_grammars : goal.returns-clause-within_grammars
returns-clause-within_grammars c = λ k G p. canonical_is AnyName (settled_within k G) (λ x. settled_canonical G AnyName k x (λ _. tt)) p

pub returns-clause-name_classes : goal.returns-clause-name_classes
returns-clause-name_classes c = canonical_name_is
