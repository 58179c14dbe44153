-- What stands for a set is what stands for its modules.
use Rattle.std.proofs.Common.{◌≡◌, List, subst}
use Rattle.std.specs.Prelude.{MatchOption, Option, Some, None}
use Rattle.rn_pattern.specs.Matching.{Grammar}
use Rattle.rn_modset.specs.Contributions.{Member}
use Rattle.rn_modset.specs.Modules.{Module}
use Rattle.rn_syntax.proofs.OneReading.OneTree.{one_tree}
use Rattle.rn_assemble.specs.declared.refusal.Refusal as code
use Rattle.rn_assemble.specs.declared.refusal.Refusal.TheVariants as r
use Rattle.rn_assemble.specs.inside.Checked.{IsGrammarOf, IsFirstOfModules, KeepsWellFormed}
use Rattle.rn_assemble.specs.Components.{NamedModule}
use Rattle.rn_assemble.specs.Refusal.{Refusal, conflict, faulty, AreModules, IsAssembled, IsFaulty, IsFirst, IsFirstFor, Stands, StandsFor}
use Rattle.rn_assemble.specs.Refused.{refusal_view, IsFirstRefusal}
use Rattle.rn_assemble.proofs.Refusals.NoRefusal.{no_excepts, stands, well_formed}
use Rattle.rn_assemble.proofs.Refusals.OneSet.{one_effective, one_modules}
use Rattle.rn_assemble.proofs.WellFormed.GoodComponents.{modules_faultless, set_grammar_writable}

module _ (s : List Member) (modules : List NamedModule) (a : AreModules s modules) where
  pub stands_back : (q : Refusal) → Stands s q → StandsFor modules q
  stands_back (conflict x v) h = a.are_effective.agreed x v h.0
  stands_back (faulty f x) h = absurd (a.faultless x (subst (λ (ts : List Module). IsFaulty ts x) (one_effective s h.0 a.texts h.1 a.are_effective) h.2.holds))
  stands_back q h = subst (λ (l : List NamedModule). StandsFor l q) (one_modules one_tree s h.0 modules h.1 a) h.2

  first_at : (o : Option Refusal) (A : Type 0) → MatchOption o A (IsFirstFor modules) → MatchOption o A (IsFirst s)
  first_at None A h = h
  first_at (Some q) A h = (stands s modules a q h.0, λ p l k. h.1 p l (stands_back p k))

  -- the first refusal of the modules is that of the set
  pub first_of_modules : (q : code.Refusal) → IsFirstOfModules modules q → IsFirstRefusal s q
  first_of_modules q h = first_at (refusal_view q) (q ≡ r.Memory) h

  pub assembled_of_modules : (g : Grammar) → IsGrammarOf modules g → IsAssembled s g
  assembled_of_modules g h = (λ q k. h.0 q (stands_back q k), (modules, a, h.1))

  -- where no refusal stands, the grammar is well formed and can be written
  pub set_kept : KeepsWellFormed modules
  set_kept none = (well_formed modules none (no_excepts modules (modules_faultless s modules a)), set_grammar_writable s modules a)
