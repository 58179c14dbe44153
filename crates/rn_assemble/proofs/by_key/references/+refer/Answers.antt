use Rattle.std.proofs.Common.{◌+◌, ◌++◌, drop, map, sym, ap, ◌∙◌, append_assoc}
use Rattle.std.proofs.lemmas.List.{at_drop_more}
use Rattle.rn_syntax.specs.View.{pattern_view, patterns_view}
use Rattle.rn_assemble.specs.inside.Referred.{references, all_references, reference_view}
use Rattle.rn_assemble.proofs.by_key.references.+refer.Goals as goal

pub refer_all-patterns-preserved : goal.refer_all-patterns-preserved
refer_all-patterns-preserved t c =
    let found = map reference_view c.patterns.found.items in
    let i = c.patterns.pattern-index in
    let rest = all_references c.args.reach (patterns_view (drop (i + 1) c.args.patterns.now)) in
    record {
      so_far = ap (λ xs. xs ++ rest) (c.in_ok-refer.ensures ∙ ap (λ p. found ++ references c.args.reach (pattern_view p)) c.pattern-item.is)
          ∙ append_assoc _ _ rest ∙ ap (λ xs. found ++ xs) (sym (at_drop_more (λ ps. all_references c.args.reach (patterns_view ps)) c.args.patterns.now i c.pattern-item.result c.patterns-test.true)) ∙ c.patterns.invariant.so_far;
    }
