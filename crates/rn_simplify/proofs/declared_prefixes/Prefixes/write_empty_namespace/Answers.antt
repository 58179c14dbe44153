use Rattle.std.proofs.Common.{sym, subst}
use Rattle.std.specs.Prelude.{codes}
use Rattle.rn_simplify.specs.Spelling.{bindings, empty_entries}
use Rattle.rn_simplify.specs.inside.Writes.{Writes}
use Rattle.rn_simplify.proofs.Texts.LineTexts.{empty_written}
use Rattle.rn_simplify.proofs.declared_prefixes.Prefixes.write_empty_namespace.Goals as goal

pub returns-then-self : goal.returns-then-self
returns-then-self c = subst (λ b. Writes (bindings (codes "namespace") (empty_entries b)) c.args.writer.now c.put.new.self) (sym c.if-self.true) (empty_written c.put.ensures)
