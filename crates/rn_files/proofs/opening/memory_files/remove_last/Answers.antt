use Rattle.std.proofs.Common.{lit<, ◌∙◌}
use Rattle.std.specs.Prelude.{Some, None, string_bytes}
use Rattle.std.proofs.lemmas.Str.Pattern.{rfind_char}
use Rattle.rn_files.proofs.SlashPlaces.{last_at, no_last}
use Rattle.rn_files.proofs.opening.memory_files.remove_last.Goals as goal

pub returns-in-Some : goal.returns-in-Some
returns-in-Some c =
    c.truncate.ensures.bytes
    ∙ last_at (string_bytes c.args.path.now) c.as_str.result.now c.in-Some.at c.as_str.ensures.value
    (rfind_char 47 c.as_str.result.now (Some c.in-Some.at) c.in-Some.ensures.cases (lit< tt))

pub returns-in-None : goal.returns-in-None
returns-in-None c =
    c.clear.ensures.bytes
    ∙ no_last (string_bytes c.args.path.now) c.as_str.result.now c.as_str.ensures.value
    (rfind_char 47 c.as_str.result.now None c.in-None.ensures.cases (lit< tt))
