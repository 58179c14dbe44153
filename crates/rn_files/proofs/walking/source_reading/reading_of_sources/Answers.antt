use Rattle.std.proofs.Common.{All, List, [], ◌∷◌, subst, sym}
use Rattle.std.specs.Prelude.{string_bytes}
use Rattle.std.proofs.lemmas.List.Elements.{All-append, All-cons, All-nil}
use Rattle.rn_files.specs.ReadableFiles.{IsKept, IsReadFor}
use Rattle.rn_files.specs.declared.sources.Attempt.{Attempt}
use Rattle.rn_files.proofs.walking.source_reading.reading_of_sources.Goals as goal

pub loop-source-preserved : goal.loop-source-preserved
loop-source-preserved g c =
    let P : Attempt → Type 0 =
    λ a. IsKept (IsReadFor (g.F.Files.leads c.args._files.now) (g.F.Files.gives c.args._files.now) c.args._asked.now) (string_bytes a.text) a.written in
    let Q : List Attempt → Type 0 = λ xs. All P xs in
    let one : All P (c.attempt_of_source-kept.result ∷ []) = All-cons P c.attempt_of_source-kept.result [] c.attempt_of_source-kept.ensures (All-nil P) in
    subst Q (sym c.in_ok-push.ensures.items) (All-append P c.loop-source.attempts.items (c.attempt_of_source-kept.result ∷ []) c.loop-source.invariant one)
