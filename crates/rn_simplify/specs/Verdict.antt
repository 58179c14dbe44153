-- The verdict of a set: the first refusal that stands, or the text of its canonical grammar.
use Rattle.std.specs.Prelude.{List}
use Rattle.rn_text.specs.Texts.{Text}
use Rattle.rn_pattern.specs.Matching.{Grammar}
use Rattle.rn_pattern.specs.Reached.{IsCanonicalOf}
use Rattle.rn_modset.specs.Contributions.{Member}
use Rattle.rn_assemble.specs.Refusal.{Refusal, IsFirst, IsAssembled}
use Rattle.rn_assemble.specs.declared.refusal.Refusal.TheVariants.{OutputTooLarge, OutputTooDeep}
use Rattle.rn_simplify.specs.Printing.{IsPrinted, IsUnprinted}

-- refused: why there is no grammar; too_large, too_deep: why its text is not printed
pub data Verdict : Type 0 where
  prints : (text : Text) → Verdict
  refused : Refusal → Verdict
  too_large : Verdict
  too_deep : Verdict

-- n is the canonical grammar of the set, for which no refusal stands
abbrev pub IsCanonicalOfSet : List Member → Grammar → Type 0
IsCanonicalOfSet s n = (g : Grammar) × IsAssembled s g × IsCanonicalOf g n

-- the first refusal that stands; else what printing the canonical grammar comes to
abbrev pub IsVerdict : List Member → Verdict → Type 0
IsVerdict s (refused r) = IsFirst s r
IsVerdict s too_large = (n : Grammar) × IsCanonicalOfSet s n × IsUnprinted n OutputTooLarge
IsVerdict s too_deep = (n : Grammar) × IsCanonicalOfSet s n × IsUnprinted n OutputTooDeep
IsVerdict s (prints t) = (n : Grammar) × IsCanonicalOfSet s n × IsPrinted n t
