-- The XML of the module that a text is has the grammar of the module.
use Rattle.std.proofs.Common.{◌≡◌, ℕ, List, [], Some}
use Rattle.rn_text.specs.Tokens.{Lexeme, HasTokens}
use Rattle.rn_syntax.specs.Tree.{Module, includes}
use Rattle.rn_syntax.specs.TokenTerminals.{terminals}
use Rattle.rn_syntax.specs.Beginnings.{HasTree}
use Rattle.rn_assemble.specs.Combine.{module_grammar}
use Rattle.rn_assemble.proofs.WellFormed.GoodTrees.{module_good}
use Rattle.rn_assemble.proofs.WellFormed.Terminals.{tokens_good}
use Rattle.rn_rng.specs.Translation.{xml_of}
use Rattle.rn_rng.specs.GrammarElement.{grammar_of}
use Rattle.rn_rng.proofs.Meaning.Grammars.{grammar_meaning}
use Rattle.rn_rng.proofs.Meaning.SeveralMembers.{module_plural}

pub module_meaning : (cs : List ℕ) (ts : List Lexeme) (m : Module) → HasTokens cs ts → HasTree (terminals ts) m → includes m.items ≡ [] → grammar_of (xml_of m) ≡ Some (module_grammar m)
module_meaning cs ts m has tree none = grammar_meaning m none (module_good tree (tokens_good cs ts has)).items (module_plural tree)
