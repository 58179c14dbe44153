use Rattle.std.proofs.Common.{◌≡◌, take}
use Rattle.std.specs.Prelude.{count_by}
use Rattle.rn_assemble.specs.Combine.{is_plain}
use Rattle.rn_assemble.specs.declared.reading.key_rows.WrittenComponent as code
use Rattle.rn_assemble.proofs.by_key.checks.count_plain.Given as goal

abbrev pub invariant-loop-component : goal.invariant-loop-component
invariant-loop-component l = record {
  counted : l.count ≡ count_by (λ (w : code.WrittenComponent). is_plain w.method) (take l.component-index l.components);
}
