-- The store knows both towers.
use Rattle.std.proofs.Common.{IsTrue}
use Rattle.core_tests.proofs.stores.towers.Given as goal

abbrev pub invariant-loop : goal.invariant-loop
invariant-loop g l = IsTrue (g.P.Patterns.knows l.store l.a) × IsTrue (g.P.Patterns.knows l.store l.b)
