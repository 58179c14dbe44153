-- The references of the patterns so far, with those of the patterns left, are the references of all.
use Rattle.std.proofs.Common.{◌≡◌, ◌++◌, drop, map}
use Rattle.rn_syntax.specs.View.{patterns_view}
use Rattle.rn_assemble.specs.inside.Referred.{all_references, reference_view}
use Rattle.rn_assemble.proofs.by_key.references.+refer.Given as goal

abbrev pub invariant-refer_all-patterns : goal.invariant-refer_all-patterns
invariant-refer_all-patterns l = record {
  so_far : map reference_view l.found.items ++ all_references l.reach (patterns_view (drop l.pattern-index l.patterns)) ≡ map reference_view l.fn.found.items ++ all_references l.reach (patterns_view l.patterns);
}
