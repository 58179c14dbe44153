use Rattle.std.proofs.Common.{ℕ, List, subst, ◌∙◌, string_bytes}
use Rattle.std.specs.Prelude.{IfOk}
use Rattle.rn_files.specs.inside.UriReferences.{StandsFor}
use Rattle.rn_files.proofs.walking.meant_uris.uri_beside.Goals as goal

pub returns : goal.returns
returns c =
    let P : List ℕ → Type 0 = λ b. IfOk c.target_uri.result (λ uri. StandsFor b c.args.literal.now (string_bytes uri)) in
    subst P (c.as_str.ensures.value ∙ c.in_ok-base.ensures) c.target_uri.ensures
