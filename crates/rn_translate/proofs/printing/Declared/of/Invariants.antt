-- What the terms so far need is bound.
use Rattle.std.proofs.Common.{take}
use Rattle.rn_translate.specs.inside.NeededPrefixes.{AreBound, each_once, needed_libraries, needed_namespaces}
use Rattle.rn_translate.proofs.printing.Declared.of.Given as goal

abbrev pub invariant-terms : goal.invariant-terms
invariant-terms l = record {
  namespaces : AreBound l.namespaces (each_once (needed_namespaces (take l.placed-index l.terms)));
  libraries : AreBound l.libraries (each_once (needed_libraries (take l.placed-index l.terms)));
}
