use Rattle.std.proofs.Common.{All, List, [], ◌∷◌, subst, sym}
use Rattle.std.proofs.lemmas.List.Elements.{All-append, All-cons, All-nil}
use Rattle.rn_files.specs.ReadableFiles.{IsReadSource, IsReadFor}
use Rattle.rn_files.specs.declared.sources.SourceFile.{SourceFile}
use Rattle.rn_files.proofs.walking.source_reading.sources.Goals as goal

pub loop-followed-preserved-in-Continue-1 : goal.loop-followed-preserved-in-Continue-1
loop-followed-preserved-in-Continue-1 g c =
    let P : SourceFile → Type 0 =
    IsReadSource (IsReadFor (g.F.Files.leads c.args._files.now) (g.F.Files.gives c.args._files.now) c.args._asked.now) in
    let Q : List SourceFile → Type 0 = λ xs. All P xs in
    let one : All P (c.in-Some-source.source ∷ []) = All-cons P c.in-Some-source.source [] c.in-Some-source.ensures (All-nil P) in
    subst Q (sym c.in_ok-push.ensures.items) (All-append P c.loop-followed.sources.items (c.in-Some-source.source ∷ []) c.loop-followed.invariant one)
