-- What a grammar keeps its canonical grammar keeps, and that grammar opened.
use Rattle.std.proofs.Common.{◌≡◌, Option, Some, None, refl, subst}
use Rattle.std.specs.Prelude.{IfSome}
use Rattle.rn_pattern.specs.Tree.{Tree}
use Rattle.rn_pattern.specs.Matching.{Grammar, definition_of}
use Rattle.rn_pattern.specs.Opened.{opened_grammar}
use Rattle.rn_pattern.specs.Excepts.{HasExcepts}
use Rattle.rn_pattern.specs.Reached.{IsCanonicalOf}
use Rattle.rn_assemble.specs.WellFormed.{IsWellFormed}
use Rattle.rn_simplify.proofs.Simplified.Promises.{normal_defined, normal_loop_free, normal_excepts_start, normal_excepts, normal_names_start, normal_names, opened_defined, opened_loop_free, opened_excepts_start, opened_excepts, opened_names_start, opened_names}

pub if_some_at : (Q : Tree → Type 0) (o : Option Tree) → ((p : Tree) → o ≡ Some p → Q p) → IfSome o Q
if_some_at Q None h = tt
if_some_at Q (Some p) h = h p refl

pub of_some : (Q : Tree → Type 0) (o : Option Tree) (p : Tree) → o ≡ Some p → IfSome o Q → Q p
of_some Q o p e h = subst (λ (d : Option Tree). IfSome d Q) e h

-- the canonical grammar keeps what the grammar does
pub normal_well_formed : (G N : Grammar) → IsCanonicalOf G N → IsWellFormed G → IsWellFormed N
normal_well_formed G N c w = record {
  defined = normal_defined G N c w.defined;
  loop_free = normal_loop_free G N c w.loop_free;
  start_excepts = normal_excepts_start G N c w.start_excepts;
  excepts = λ x. if_some_at HasExcepts (definition_of N x) (λ p e. normal_excepts G N c (λ y q f. of_some HasExcepts (definition_of G y) q f (w.excepts y)) x p e);
  start_names = normal_names_start G N c w.start_names;
  names = λ x. if_some_at _ (definition_of N x) (λ p e. normal_names G N c (λ y q f. of_some _ (definition_of G y) q f (w.names y)) x p e);
}

-- a well-formed grammar, opened, is well formed
pub opened_well_formed : (N : Grammar) → IsWellFormed N → IsWellFormed (opened_grammar N)
opened_well_formed N w = record {
  defined = opened_defined N w.defined;
  loop_free = opened_loop_free N w.loop_free;
  start_excepts = opened_excepts_start N w.start_excepts;
  excepts = λ x. if_some_at HasExcepts (definition_of (opened_grammar N) x) (λ p e. opened_excepts N (λ y q f. of_some HasExcepts (definition_of N y) q f (w.excepts y)) x p e);
  start_names = opened_names_start N w.start_names;
  names = λ x. if_some_at _ (definition_of (opened_grammar N) x) (λ p e. opened_names N (λ y q f. of_some _ (definition_of N y) q f (w.names y)) x p e);
}
