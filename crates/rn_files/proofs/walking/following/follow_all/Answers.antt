use Rattle.std.proofs.Common.{All, List, [], ◌∷◌, subst, sym}
use Rattle.std.proofs.lemmas.List.Elements.{All-append, All-cons, All-nil}
use Rattle.rn_files.specs.inside.Following.{IsFollowed, IsReadBy}
use Rattle.rn_files.specs.declared.walking.walk.Followed.{Followed}
use Rattle.rn_files.proofs.walking.following.follow_all.Goals as goal

pub loop-file-preserved : goal.loop-file-preserved
loop-file-preserved g c =
    let P : Followed → Type 0 = IsFollowed (IsReadBy (g.F.Files.leads c.args.files.now) (g.F.Files.gives c.args.files.now) c.args.ways.now) in
    let Q : List Followed → Type 0 = λ xs. All P xs in
    let one : All P (c.in_ok-next.next ∷ []) = All-cons P c.in_ok-next.next [] c.in_ok-next.ensures (All-nil P) in
    subst Q (sym c.in_ok-push.ensures.items) (All-append P c.loop-file.followed.items (c.in_ok-next.next ∷ []) c.loop-file.invariant one)
