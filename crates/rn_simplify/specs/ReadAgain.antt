-- What a printed text of a set is read back as.
use Rattle.std.specs.Prelude.{◌≡◌, ◌↔◌, List}
use Rattle.rn_text.specs.Texts.{Text}
use Rattle.rn_pattern.specs.Document.{Item}
use Rattle.rn_pattern.specs.Datatype.{Table}
use Rattle.rn_pattern.specs.Matching.{Grammar, IsValid}
use Rattle.rn_pattern.specs.Reached.{IsCanonicalOf}
use Rattle.rn_modset.specs.Contributions.{Member}
use Rattle.rn_syntax.specs.declared.fault.FaultKind.{FaultKind}
use Rattle.rn_assemble.specs.Components.{NamedModule, set_components}
use Rattle.rn_assemble.specs.Combine.{IsCombination, module_grammar}
use Rattle.rn_assemble.specs.Refusal.{AreModules, HasTextFault, grammar_of}
use Rattle.rn_simplify.specs.Spelling.{spelling}
use Rattle.rn_simplify.specs.ReadBack.{IsReadBack}

-- the text is that of the canonical grammar of the set's modules, has no fault, brackets too deep among them, and is read back; what is
-- read back is valid for exactly the documents of the joined definitions of the set, and of each combination of its components
pub record IsReadAgain (s : List Member) (text : Text) : Type 0 where
  pub modules : List NamedModule
  pub are_modules : AreModules s modules
  pub normal : Grammar
  pub canonical : IsCanonicalOf (grammar_of modules) normal
  pub text_is : text ≡ spelling normal
  pub no_fault : (f : FaultKind) → ¬ HasTextFault text f
  pub read_back : IsReadBack normal
  pub joined_documents : (T : Table) (doc : Item) → IsValid (grammar_of modules) T doc ↔ IsValid (module_grammar read_back.tree) T doc
  pub same_documents : (C : Grammar) → IsCombination (set_components modules) C → (T : Table) (doc : Item) → IsValid C T doc ↔ IsValid (module_grammar read_back.tree) T doc
