use Rattle.std.proofs.Common.{take}
use Rattle.rn_xml.specs.PrefixScopes.{IsLeft}
use Rattle.rn_xml.proofs.scopes.Scopes.leave.Given as goal

abbrev pub invariant-loop-declaration : goal.invariant-loop-declaration
invariant-loop-declaration l = IsLeft l.fn.self l.self (take l.declaration-index l.declarations)
