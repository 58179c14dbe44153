use Rattle.std.proofs.Common.{inl, inr, subst, string_bytes}
use Rattle.std.specs.Prelude.{IfOk, String}
use Rattle.std.proofs.lemmas.Result.{IfOk-weaker}
use Rattle.std.specs.declared.alloc.Global.{Global}
use Rattle.rn_files.specs.inside.FileUris.{file_uri}
use Rattle.rn_files.specs.inside.UriReferences.{IsKnown, IsMeant, StandsFor}
use Rattle.rn_files.proofs.walking.meant_uris.meant_uri.Goals as goal

pub returns-then-is_known-2 : goal.returns-then-is_known-2
returns-then-is_known-2 c =
    let known : IsKnown c.args.maps.now (string_bytes c.in_ok-written.written) =
    subst (IsKnown c.args.maps.now) c.as_str-2.ensures.value (c.is_known-2.ensures c.if-is_known-2.true) in
    inr (inl (known, c.in_ok-written.ensures))

pub returns-then-not-is_file_uri : goal.returns-then-not-is_file_uri
returns-then-not-is_file_uri c =
    let P : String Global → Type 0 = λ uri. StandsFor (file_uri (string_bytes c.args.from.now.path)) c.args.literal.now (string_bytes uri) in
    let Q : String Global → Type 0 = λ uri.
    IsMeant c.args.maps.now (string_bytes c.args.from.now.uri) (string_bytes c.args.from.now.path) c.args.literal.now (string_bytes uri) in
    let beside : IfOk c.uri_beside.result P =
    subst (λ path. IfOk c.uri_beside.result (λ uri. StandsFor (file_uri path) c.args.literal.now (string_bytes uri)))
    c.as_str-then-not-is_file_uri.ensures.value c.uri_beside.ensures in
    IfOk-weaker c.uri_beside.result P Q (λ uri h. inr (inr h)) beside
