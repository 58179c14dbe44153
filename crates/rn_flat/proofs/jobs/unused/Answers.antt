use Rattle.rn_assemble.specs.GrammarView.{grammar_view}
use Rattle.rn_assemble.specs.ShortTexts.{short_texts}
use Rattle.rn_flat.proofs.jobs.unused.Goals as goal

pub returns : goal.returns
returns c = record {
  modules = c.in_ok-lifted.lifted.modules.items;
  short = short_texts c.in_ok-grammar.grammar.uris;
  grammar = grammar_view c.in_ok-grammar.grammar.grammar;
  is_grammar = c.in_ok-grammar.ensures c.in_ok-set.ensures;
}
