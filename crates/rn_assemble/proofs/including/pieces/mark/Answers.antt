use Rattle.std.proofs.Common.{◌≡◌, ℕ, ◌+◌, ◌<◌, List, [], ◌∷◌, ◌++◌, length, get_or, set, map, take, drop, sym, ap, ◌∙◌, arith, append_assoc}
use Rattle.std.proofs.lemmas.List.{drop_more, get_or_at, length-map, length-take-le, map_push, set_at, take_more}
use Rattle.rn_assemble.specs.declared.including.pieces.Piece.{Piece}
use Rattle.rn_assemble.specs.inside.Runs.{marked}
use Rattle.rn_assemble.proofs.including.pieces.mark.Goals as goal

mark_more : (ps xs : List Piece) (i : ℕ) (d : Piece) → xs ≡ map marked (take i ps) ++ drop i ps → i < length ps → set xs i (marked (get_or xs i d)) ≡ map marked (take (i + 1) ps) ++ drop (i + 1) ps
mark_more ps xs i d e l =
    let front = map marked (take i ps) in
    let y = get_or ps i d in
    let behind = drop (i + 1) ps in
    let parts : xs ≡ front ++ y ∷ behind = e ∙ ap (λ ys. front ++ ys) (drop_more ps i d l) in
    let size : length front ≡ i = length-map (take i ps) marked ∙ length-take-le i ps (omega (arith, l)) in
    let read : get_or xs i d ≡ y = ap (λ ys. get_or ys i d) parts ∙ get_or_at front y behind d i size in
    ap (λ ys. set ys i (marked (get_or xs i d))) parts
    ∙ ap (λ p. set (front ++ y ∷ behind) i (marked p)) read
    ∙ set_at front y behind (marked y) i size
    ∙ sym (append_assoc front (marked y ∷ []) behind)
    ∙ ap (λ ys. ys ++ behind) (sym (ap (map marked) (take_more ps i d l) ∙ map_push marked (take i ps) y))

pub loop-piece-preserved : goal.loop-piece-preserved
loop-piece-preserved c = mark_more c.args.pieces.now c.loop-piece.pieces c.loop-piece.piece-index _ c.loop-piece.invariant (omega arith)
