use Rattle.std.proofs.Common.{arith}
use Rattle.rn_simplify.proofs.ReadBack.Writable.{normal_writable}
use Rattle.rn_simplify.proofs.ReadBack.SpellableGrammars.{spellable}
use Rattle.rn_simplify.proofs.ReadBack.Binding.{spelling_reads_back}
use Rattle.rn_simplify.proofs.laws.canonical_texts_are_read_back.Goals as goal

pub returns-clause-writable : goal.returns-clause-writable
returns-clause-writable c = normal_writable

pub returns-clause-spellable : goal.returns-clause-spellable
returns-clause-spellable c = λ G N k w short. spellable G N k w (omega (arith, short))

pub returns-clause-read_back : goal.returns-clause-read_back
returns-clause-read_back c = λ G N k w short. spelling_reads_back N (spellable G N k w (omega (arith, short)))
