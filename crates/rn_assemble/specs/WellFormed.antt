-- What a grammar keeps that is put together without a refusal (RELAX NG 2001, 4.16, 4.18, 4.19 and 7.1.4).
use Rattle.std.specs.Prelude.{IfSome, Contains}
use Rattle.rn_pattern.specs.Tree.{Tree}
use Rattle.rn_text.specs.Texts.{Text}
use Rattle.rn_pattern.specs.Matching.{Grammar, definition_of}
use Rattle.rn_pattern.specs.Excepts.{HasExcepts}
use Rattle.rn_pattern.specs.NameRules.{KeepsNameRules}
use Rattle.rn_pattern.specs.References.{IsUndefined, IsRecursive}
use Rattle.rn_assemble.specs.WritableTexts.{IsName, IsWritable}

-- every reference is defined, no name that is reached is a loop, and each pattern keeps the restrictions on excepts and on name classes
pub record IsWellFormed (G : Grammar) : Type 0 where
  pub defined : (x : Text) → ¬ IsUndefined G x
  pub loop_free : (x : Text) → ¬ IsRecursive G x
  pub start_excepts : HasExcepts G.start
  pub excepts : (x : Text) → IfSome (definition_of G x) HasExcepts
  pub start_names : KeepsNameRules G.start
  pub names : (x : Text) → IfSome (definition_of G x) KeepsNameRules

-- all names and texts of the grammar can be written
pub record HasWritableTexts (G : Grammar) : Type 0 where
  pub start : IsWritable G.start
  pub definitions : (x : Text) → IfSome (definition_of G x) IsWritable
  pub names : (x : Text) (p : Tree) → Contains {X = Text × Tree} G.definitions (x, p) → IsName x
