-- What comes of a job.
use Rattle.std.specs.Prelude.{◌≡◌, ◌≢◌, ℕ, List, [], Option, Some, None, Result, Ok, Err, string_bytes}
use Rattle.std.specs.Io.KnownBytes.{Appends}
use Rattle.rn_simplify.specs.Verdict.{prints, IsVerdict}
use Rattle.rn_rng.specs.Written.{IsXmlOf}
use Rattle.rn_files.specs.ReadableFiles.{Gives, IsGiven}
use Rattle.rn_lift.specs.declared.lifted.LiftedModule.{LiftedModule}
use Rattle.rn_assemble.specs.ShortTexts.{ShortTexts, IsShortened}
use Rattle.rn_pattern.specs.Matching.{Grammar}
use Rattle.rn_flat.specs.declared.ending.Ending.{Ending}
use Rattle.rn_flat.specs.declared.ending.Ending.TheVariants.{Clean, Found}
use Rattle.rn_flat.specs.declared.flat_fault.FlatFault.{FlatFault}
use Rattle.rn_flat.specs.declared.words.Product.{Product}
use Rattle.rn_flat.specs.declared.words.Product.TheVariants.{Schema, Bundle, List as Listing, Graph, Unused, Origins}
use Rattle.rn_flat.specs.declared.words.Syntax.{Syntax}
use Rattle.rn_flat.specs.declared.words.Syntax.TheVariants.{Compact, Xml}
use Rattle.rn_flat.specs.declared.words.Task.{Task}
use Rattle.rn_flat.specs.declared.words.Task.TheVariants.{Write, Check, Lint}
use Rattle.rn_flat.specs.ModuleSets.{set_of_modules}

-- the text is the schema of the set of these modules, each in revision 1
abbrev pub IsFlatSchemaOf : List LiftedModule → List ℕ → Type 0
IsFlatSchemaOf modules text = IsVerdict (set_of_modules modules) (prints text)

-- the text is the schema of a set of modules
pub record IsFlatSchema (text : List ℕ) : Type 0 where
  pub modules : List LiftedModule
  pub is_schema : IsFlatSchemaOf modules text

-- the text is the XML of the schema of a set of modules
pub record IsFlatXml (text : List ℕ) : Type 0 where
  pub schema : List ℕ
  pub is_schema : IsFlatSchema schema
  pub is_xml : IsXmlOf schema text

-- the schema of a set of modules, in a syntax
abbrev pub IsSchemaIn : Syntax → List ℕ → Type 0
IsSchemaIn Compact text = IsFlatSchema text
IsSchemaIn Xml text = IsFlatXml text

-- the grammar of the set of these modules, with short texts in the place of long URIs
abbrev pub IsFlatGrammarOf : List LiftedModule → ShortTexts → Grammar → Type 0
IsFlatGrammarOf modules short g = IsShortened (set_of_modules modules) short g

-- the text is one of a set of modules that has a grammar
pub record IsUnusedText (text : List ℕ) : Type 0 where
  pub modules : List LiftedModule
  pub short : ShortTexts
  pub grammar : Grammar
  pub is_grammar : IsFlatGrammarOf modules short grammar

-- some set of modules has a schema
pub record HasFlatSchema : Type 0 where
  pub schema : List ℕ
  pub is_schema : IsFlatSchema schema

-- a fault was found exactly where the text tells of one
abbrev pub TellsByEnding : Ending → List ℕ → Type 0
TellsByEnding Clean text = text ≡ []
TellsByEnding (Found lines) text = text ≢ []

-- a product that is the schema is one in its syntax; what tells where its definitions are is made where there is one; and a fault is
-- found where unused definitions are told, or in a graph
abbrev pub IsProduct : Product → Ending → List ℕ → Type 0
IsProduct (Schema syntax) ending text = IsSchemaIn syntax text × (ending ≡ Clean)
IsProduct Bundle ending text = ending ≡ Clean
IsProduct Listing ending text = ending ≡ Clean
IsProduct Graph ending text = Unit {0}
IsProduct Unused ending text = IsUnusedText text × TellsByEnding ending text
IsProduct Origins ending text = HasFlatSchema × (ending ≡ Clean)

-- what a job that is done did: standard output, or the file, has the product; or the file that is checked is a schema
abbrev pub Delivers : Task → Option (List ℕ) → Option (List ℕ) → (List ℕ → List ℕ → Type 0) → Gives → Result Ending FlatFault → Type 0
Delivers (Write product None) old new holds gives (Ok ending) = (text : List ℕ) × IsProduct product ending text × Appends old new text
Delivers (Write product (Some path)) old new holds gives (Ok ending) = (text : List ℕ) × IsProduct product ending text × holds (string_bytes path) text
Delivers (Check file syntax) old new holds gives (Ok ending) = (text : List ℕ) × IsSchemaIn syntax text × IsGiven gives (string_bytes file) text × (ending ≡ Clean)
Delivers Lint old new holds gives (Ok ending) = ending ≡ Clean
Delivers task old new holds gives (Err fault) = Unit {0}

-- a job that only looks leaves standard output and the files as they were
abbrev pub WritesNothing : Task → Type 0 → Type 0 → Type 0
WritesNothing (Write product output) kept_output kept_files = Unit {0}
WritesNothing (Check file syntax) kept_output kept_files = kept_output × kept_files
WritesNothing Lint kept_output kept_files = kept_output × kept_files
