use Rattle.std.proofs.Common.{◌≡◌, sym, subst, ap, ◌∙◌}
use Rattle.std.specs.Prelude.{string_bytes, IfOk, IfErr}
use Rattle.std.proofs.lemmas.Result.{IfOk-weaker}
use Rattle.rn_pattern.specs.Matching.{Grammar}
use Rattle.rn_assemble.specs.ShortTexts.{ShortTexts, IsKnown, IsTable, long_grammar, short_texts}
use Rattle.rn_assemble.specs.Renamed.{IsOfKnownUris}
use Rattle.rn_assemble.proofs.Renaming.ShortTables.{empty_table, all_known, same_grammar}
use Rattle.rn_simplify.specs.NormalView.{normal_view}
use Rattle.rn_simplify.specs.Printing.{IsPrinted, IsUnprinted}
use Rattle.rn_simplify.proofs.Texts.SourceTexts.{read_back}
use Rattle.rn_simplify.proofs.printing.print.Goals as goal

pub print_long-requires-clause-table : goal.print_long-requires-clause-table
print_long-requires-clause-table c = subst IsTable (sym c.none.ensures) empty_table

pub print_long-requires-clause-known : goal.print_long-requires-clause-known
print_long-requires-clause-known c = subst (λ (es : ShortTexts). IsOfKnownUris (IsKnown es) (normal_view c.args.normal.now)) (sym c.none.ensures) (all_known (normal_view c.args.normal.now))

pub returns : goal.returns
returns c =
    let g = normal_view c.args.normal.now in
    let same : long_grammar (short_texts c.none.result) g ≡ g = ap (λ (es : ShortTexts). long_grammar es g) c.none.ensures ∙ same_grammar g in
    let is = subst (λ (n : Grammar). IfOk c.print_long.result (λ t. IsPrinted n (string_bytes t))) same c.print_long.ensures.ok in
    record {
      ok = is;
      err = subst (λ (n : Grammar). IfErr c.print_long.result (IsUnprinted n)) same c.print_long.ensures.err;
      read_back = IfOk-weaker c.print_long.result _ _ (λ t h. read_back g c.args.normal.now.source h.0) is;
    }
