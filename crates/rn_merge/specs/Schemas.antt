-- What is promised of the schema of a set, and of a refusal in its place.
use Rattle.std.specs.Prelude.{ℕ, ◌≢◌, List, [], ◌∷◌, MatchOption, Some}
use Rattle.rn_text.specs.Texts.{Text}
use Rattle.rn_modset.specs.Contributions.{Member}
use Rattle.rn_modset.specs.Modules.{AreEffective}
use Rattle.rn_assemble.specs.declared.refusal.Refusal as code
use Rattle.rn_assemble.specs.declared.refusal.Refusal.TheVariants as r
use Rattle.rn_assemble.specs.Combine.{IsMixed, IsPlainTwice}
use Rattle.rn_assemble.specs.Components.{Key, NamedModule, set_components}
use Rattle.rn_assemble.specs.Refusal.{AreModules, IsFirst, Refusal, Stands}
use Rattle.rn_assemble.specs.Refused.{refusal_view}
use Rattle.rn_simplify.specs.ReadAgain.{IsReadAgain}
use Rattle.rn_simplify.specs.Verdict.{IsVerdict, prints}

-- no name is defined plainly twice in the modules of the set (RELAX NG 2001, 4.17)
abbrev pub DefinesPlainlyOnce : List Member → Type 0
DefinesPlainlyOnce s = (modules : List NamedModule) → AreModules s modules → (k : Key) → ¬ IsPlainTwice k (set_components modules)

-- no name is combined by both methods in the modules of the set (RELAX NG 2001, 4.17)
abbrev pub CombinesByOneMethod : List Member → Type 0
CombinesByOneMethod s = (modules : List NamedModule) → AreModules s modules → (k : Key) → ¬ IsMixed k (set_components modules)

-- no refusal of modules stands for the set
abbrev pub IsUnrefused : List Member → Type 0
IsUnrefused s = (q : Refusal) → ¬ Stands s q

-- the text is the verdict of each set of which it is the one effective module, under any name
abbrev pub IsPrintedAgain : Text → Type 0
IsPrintedAgain text = (u : List Member) (name : Text) → AreEffective u ((name, text) ∷ []) → IsVerdict u (prints text)

-- the text is the verdict of a contribution of it alone, whatever the name and the revision
abbrev pub IsPrintedAlone : Text → Type 0
IsPrintedAlone text = (name : Text) (revision : ℕ) → IsVerdict (record { name = name; revision = revision; text = Some text } ∷ []) (prints text)

-- the text is the verdict of the set, with all that follows of it
pub record IsSchemaOfSet (s : List Member) (text : Text) : Type 0 where
  pub verdict : IsVerdict s (prints text)
  pub documents : IsReadAgain s text
  pub unrefused : IsUnrefused s
  pub plain_once : DefinesPlainlyOnce s
  pub one_method : CombinesByOneMethod s
  pub again : IsPrintedAgain text
  pub alone : IsPrintedAlone text

-- a refusal of modules is the first that stands; where the text would be too long or too deep, none stands
abbrev pub RefusesFirst : List Member → code.Refusal → Type 0
RefusesFirst s q = MatchOption (refusal_view q) (q ≢ r.Memory → IsUnrefused s) (IsFirst s)
