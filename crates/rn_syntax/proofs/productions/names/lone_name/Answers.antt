-- A name before `{` is a class.
use Rattle.std.proofs.Common.{ap}
use Rattle.rn_syntax.specs.inside.Follow.{first_terminal}
use Rattle.rn_syntax.proofs.ProductionsRead.Classes.{lone_class}
use Rattle.rn_syntax.proofs.productions.names.lone_name.Goals as goal

pub returns-in-LeftBrace-clause-reads : goal.returns-in-LeftBrace-clause-reads
returns-in-LeftBrace-clause-reads c = lone_class c.in-Ident.ensures.next.1 (ap first_terminal c.in-LeftBrace.ensures.next.1)
