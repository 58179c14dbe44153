use Rattle.std.proofs.Common.{ap, drop, lit<, sym, ◌∙◌}
use Rattle.std.specs.Prelude.{Some, None}
use Rattle.std.proofs.lemmas.Str.Pattern.{find_char}
use Rattle.rn_files.proofs.SlashPlaces.{all_before, from_start, no_slash, none_behind, slash_at}
use Rattle.rn_files.proofs.references.uris.split_at_slash.Goals as goal

pub returns-in-Some-clause-before : goal.returns-in-Some-clause-before
returns-in-Some-clause-before c =
    let text = c.args.text.now in
    from_start text _ c.in-Some.at _ c.range.ensures.value
    (slash_at text c.in-Some.at (find_char 47 text (Some c.in-Some.at) c.in-Some.ensures.cases (lit< tt)))

pub returns-in-Some-clause-from : goal.returns-in-Some-clause-from
returns-in-Some-clause-from c =
    let text = c.args.text.now in
    c.range_from.ensures.value
    ∙ ap (λ n. drop n text) (sym (slash_at text c.in-Some.at (find_char 47 text (Some c.in-Some.at) c.in-Some.ensures.cases (lit< tt))))

pub returns-in-None-clause-before : goal.returns-in-None-clause-before
returns-in-None-clause-before c =
    let text = c.args.text.now in all_before text (no_slash text (find_char 47 text None c.in-None.ensures.cases (lit< tt)))

pub returns-in-None-clause-from : goal.returns-in-None-clause-from
returns-in-None-clause-from c =
    let text = c.args.text.now in none_behind text (no_slash text (find_char 47 text None c.in-None.ensures.cases (lit< tt)))
