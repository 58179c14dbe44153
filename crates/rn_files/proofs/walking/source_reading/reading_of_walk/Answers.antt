use Rattle.std.proofs.Common.{All, List, [], ◌∷◌, subst, sym}
use Rattle.std.specs.Prelude.{string_bytes}
use Rattle.std.proofs.lemmas.List.Elements.{All-append, All-cons, All-nil}
use Rattle.rn_files.specs.ReadableFiles.{IsKept, IsReadFor}
use Rattle.rn_files.specs.declared.sources.Attempt.{Attempt}
use Rattle.rn_files.proofs.walking.source_reading.reading_of_walk.Goals as goal

pub loop-followed-preserved : goal.loop-followed-preserved
loop-followed-preserved g c =
    let P : Attempt → Type 0 =
    λ a. IsKept (IsReadFor (g.F.Files.leads c.args._files.now) (g.F.Files.gives c.args._files.now) c.args._asked.now) (string_bytes a.text) a.written in
    let Q : List Attempt → Type 0 = λ xs. All P xs in
    let one : All P (c.attempt-kept.result ∷ []) = All-cons P c.attempt-kept.result [] c.attempt-kept.ensures (All-nil P) in
    subst Q (sym c.in_ok-push.ensures.items) (All-append P c.loop-followed.files.items (c.attempt-kept.result ∷ []) c.loop-followed.invariant one)
