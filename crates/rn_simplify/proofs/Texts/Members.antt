-- The members of lists as they are written.
use Rattle.std.proofs.Common.{◌≡◌, ℕ, zero, suc, List, [], ◌∷◌, map, drop, refl, sym, ap, ◌∙◌}
use Rattle.std.specs.declared.rc.Rc.{Rc}
use Rattle.std.specs.declared.vec.Vec.{Vec}
use Rattle.std.specs.declared.alloc.Global.{Global}
use Rattle.rn_pattern.specs.Tree.{NameTree, Tree, trees_of}
use Rattle.rn_pattern.specs.declared.tree.Pattern.{Pattern}
use Rattle.rn_pattern.specs.declared.tree.Pattern.TheOpen.{Pattern-F}
use Rattle.rn_pattern.specs.declared.tree.Pattern.TheFolds.{fold-roll-Pattern}
use Rattle.rn_pattern.specs.declared.tree.Pattern.TheVariants as p
use Rattle.rn_simplify.specs.Spelling.{Prefixes, node_text, chained, chain, comma, written_tree, written_trees, written_choice, written_interleave}
use Rattle.rn_pattern.specs.View.{named_step, pattern_step, pattern_view}
use Rattle.rn_simplify.specs.inside.Writes.{written_members}

-- each member, shared, with its tree in its place
rows_through : (f : Prefixes) (h : Rc Pattern Global → Rc Tree Global) → ((r : Rc Pattern Global) → (h r).value ≡ pattern_view r.value) → (ps : List (Rc Pattern Global)) → written_trees f (trees_of (map (λ (r : Rc Tree Global). r.value) (map h ps))) ≡ written_members f ps
rows_through f h e [] = refl
rows_through f h e (p ∷ ps) = let a = e p in let r = rows_through f h e ps in λ i. written_tree f (a i) ∷ r i

pub rows_behind : (f : Prefixes) (k : ℕ) (ps : List (Rc Pattern Global)) → written_members f (drop k ps) ≡ drop k (written_members f ps)
rows_behind f zero ps = refl
rows_behind f (suc k) [] = refl
rows_behind f (suc k) (p ∷ ps) = rows_behind f k ps

pub group_rows : (f : Prefixes) (v : Vec (Rc Pattern Global) Global) → written_tree f (pattern_view (p.Group v)) ≡ node_text chained (chain comma (written_members f v.items))
group_rows f v = ap (λ q. written_tree f (pattern_view q)) (sym (p.rolls-Group v)) ∙ ap (written_tree f) (fold-roll-Pattern Tree (NameTree × Tree) pattern_step named_step (Pattern-F.Group v)) ∙ ap (λ ws. node_text chained (chain comma ws)) (rows_through f _ (λ r. refl) v.items)

pub interleave_rows : (f : Prefixes) (v : Vec (Rc Pattern Global) Global) → written_tree f (pattern_view (p.Interleave v)) ≡ written_interleave (written_members f v.items)
interleave_rows f v = ap (λ q. written_tree f (pattern_view q)) (sym (p.rolls-Interleave v)) ∙ ap (written_tree f) (fold-roll-Pattern Tree (NameTree × Tree) pattern_step named_step (Pattern-F.Interleave v)) ∙ ap written_interleave (rows_through f _ (λ r. refl) v.items)

pub choice_rows : (f : Prefixes) (v : Vec (Rc Pattern Global) Global) → written_tree f (pattern_view (p.Choice v)) ≡ written_choice (written_members f v.items)
choice_rows f v = ap (λ q. written_tree f (pattern_view q)) (sym (p.rolls-Choice v)) ∙ ap (written_tree f) (fold-roll-Pattern Tree (NameTree × Tree) pattern_step named_step (Pattern-F.Choice v)) ∙ ap written_choice (rows_through f _ (λ r. refl) v.items)
