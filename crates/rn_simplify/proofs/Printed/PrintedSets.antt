-- The text that is printed for a set is read back.
use Rattle.std.proofs.Common.{List, subst, arith}
use Rattle.rn_text.specs.Texts.{Text}
use Rattle.rn_pattern.specs.Reached.{IsCanonicalOf}
use Rattle.rn_modset.specs.Contributions.{Member}
use Rattle.rn_syntax.proofs.OneReading.OneTree.{one_tree}
use Rattle.rn_assemble.specs.Components.{set_components}
use Rattle.rn_assemble.specs.Refusal.{HasTextFault, grammar_of}
use Rattle.rn_assemble.proofs.WellFormed.ComponentExcepts.{set_excepts}
use Rattle.rn_assemble.proofs.WellFormed.GoodComponents.{modules_faultless, set_grammar_writable}
use Rattle.rn_assemble.proofs.Refusals.NoRefusal.{no_excepts, assembled_well_formed}
use Rattle.rn_simplify.specs.ReadAgain.{IsReadAgain}
use Rattle.rn_simplify.specs.Verdict.{IsVerdict, prints}
use Rattle.rn_simplify.proofs.ReadBack.Binding.{spelling_is_cut, spelling_reads_back}
use Rattle.rn_simplify.proofs.Printed.PrintedAgain.{no_fault}
use Rattle.rn_simplify.proofs.ReadBack.ReadAgain.{combination_read, joined_read}
use Rattle.rn_simplify.proofs.ReadBack.SpellableGrammars.{spellable}

pub printed_read : (s : List Member) (text : Text) → IsVerdict s (prints text) → IsReadAgain s text
printed_read s text (n, (g, (none, (modules, a, e)), c), (short, shallow, is)) =
    let k : IsCanonicalOf (grammar_of modules) n = subst (λ f. IsCanonicalOf f n) e c in
    let spelled = spellable (grammar_of modules) n k (set_grammar_writable s modules a) (omega (arith, short)) in
    let r = spelling_reads_back n spelled in
    let w = assembled_well_formed s modules a none in
    record {
      modules = modules;
      are_modules = a;
      normal = n;
      canonical = k;
      text_is = is;
      no_fault = λ f h. no_fault one_tree n r (spelling_is_cut n spelled) shallow f (subst (λ t. HasTextFault t f) is h);
      read_back = r;
      joined_documents = joined_read n r (grammar_of modules) k w;
      same_documents = λ C h. combination_read n r (set_components modules) C (set_excepts modules (no_excepts modules (modules_faultless s modules a))) h k;
    }
