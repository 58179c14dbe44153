-- The references of all keys, gathered key by key.
use Rattle.std.proofs.Common.{◌≡◌, ◌⊎◌, inl, inr, ⊎_elim, ℕ, zero, suc, ◌+◌, ◌<◌, Bool, List, [], ◌∷◌, ◌++◌, length, get_or, Option, Some, None, refl, sym, ap, ◌∙◌, subst, arith, Contains, below_more}
use Rattle.std.specs.Prelude.{◌↔◌}
use Rattle.std.specs.Cmp.Lexicographic.{bytes_decides}
use Rattle.std.proofs.lemmas.Bool.{cases_lt}
use Rattle.std.proofs.lemmas.List.Elements.{Contains-append_left, Contains-append_right, Contains-append_cases}
use Rattle.std.proofs.lemmas.Map.Views.{Contains-from_lookup}
use Rattle.rn_pattern.specs.Tree.{Tree}
use Rattle.rn_text.specs.Texts.{Text, text_cmp}
use Rattle.rn_pattern.specs.Matching.{Grammar, definition_of}
use Rattle.rn_pattern.specs.Reached.{RefersTo}
use Rattle.rn_pattern.specs.References.{RefersOutside, IsUndefined}
use Rattle.rn_graph.specs.Graph.{row, rows_of}
use Rattle.rn_pattern.specs.declared.references.ReferenceRows.{ReferenceRows}
use Rattle.rn_graph.proofs.Graphs.FirstLoop.{source_within}
use Rattle.rn_graph.proofs.Graphs.BuiltRows.{row_before, row_behind}
use Rattle.rn_assemble.specs.Components.{name_key, Component}
use Rattle.rn_assemble.specs.Combine.{joined_pattern, joined_grammar, defined_names}
use Rattle.rn_assemble.specs.inside.Keyed.{IsNameNumber, key_at}
use Rattle.rn_assemble.specs.Least.{IsLeast}
use Rattle.rn_assemble.specs.inside.Referred.{AreAllReferences, AreMarksOf, AreNumbers, AreRowsOrLeast, IsLeastUnmarked, IsMarkedName, KeepsLeast}
use Rattle.rn_assemble.specs.inside.ReferenceOrder.{AreDefinedKeys}
use Rattle.rn_assemble.proofs.Referring.DefinedMarks.{defined_marked, marked_defined, number_of}
use Rattle.rn_assemble.proofs.Referring.JoinedReferences.{refers_in_definition, outside_anywhere, some_definition}
use Rattle.rn_assemble.proofs.Referring.KeyNumbers.{numbered_name}
use Rattle.rn_assemble.proofs.Referring.LeastUndefined.{is_none, not_none}
use Rattle.rn_assemble.proofs.Referring.ListMembers.{map_contained}

-- the row of a key has the numbers of the names among those that are referred to
pub record RowOf (R : Text → Tree → Type 0) (names : List Text) (cs : List Component) (k : ℕ) (r : List ℕ) : Type 0 where
  pub only : (m : ℕ) → Contains r m → (x : Text) × IsNameNumber names x m × R x (joined_pattern cs (key_at names k))
  pub all : (x : Text) → R x (joined_pattern cs (key_at names k)) → Contains names x → (m : ℕ) × IsNameNumber names x m × Contains r m

pub row_of : (R : Text → Tree → Type 0) (names texts : List Text) (cs : List Component) (k : ℕ) (r : List ℕ) → AreNumbers names texts r → ((y : Text) → Contains texts y ↔ R y (joined_pattern cs (key_at names k))) → RowOf R names cs k r
row_of R names texts cs k r a h = record {
  only = λ m c. let x = a.only m c in (x.0, x.2, (h x.0).0 x.1);
  all = λ x q n. a.all x ((h x).1 q) n;
}

-- the rows of the first keys, and the least name that they refer to and that has no mark
pub record Gathered (names : List Text) (cs : List Component) (marks : List Bool) (all outer : List (List ℕ)) (count : ℕ) (undefined : Option Text) : Type 0 where
  pub anywhere : (k : ℕ) → k < count → RowOf RefersTo names cs k (row all k)
  pub outside : (k : ℕ) → k < count → RowOf RefersOutside names cs k (row outer k)
  pub before : List Text
  pub are : (y : Text) → Contains before y ↔ ((k : ℕ) × (k < count) × RefersTo y (joined_pattern cs (key_at names k)))
  pub least : IsLeastUnmarked names marks before undefined

pub gathered_begins : (names : List Text) (cs : List Component) (marks : List Bool) → Gathered names cs marks [] [] 0 None
gathered_begins names cs marks = record {
  anywhere = λ k h. absurd (omega arith);
  outside = λ k h. absurd (omega arith);
  before = [];
  are = λ y. ((λ c. absurd (omega (arith, c.1))), (λ k. absurd (omega (arith, k.1))));
  least = λ x c. absurd (omega (arith, c.1));
}

rows_more : (R : Text → Tree → Type 0) (names : List Text) (cs : List Component) (es fs : List (List ℕ)) (v : List ℕ) (count : ℕ) → length es ≡ count → fs ≡ es ++ v ∷ [] → ((k : ℕ) → k < count → RowOf R names cs k (row es k))
    → RowOf R names cs count v → (k : ℕ) → k < count + 1 → RowOf R names cs k (row fs k)
rows_more R names cs es fs v count l e h here =
    below_more (λ k. RowOf R names cs k (row fs k)) count
    (λ k lt. subst (RowOf R names cs k) (sym (row_before es fs v k e (omega (arith, lt, l)))) (h k lt))
    (subst (RowOf R names cs count) (sym (ap (row fs) (sym l) ∙ row_behind es fs v e)) here)

pub gathered_more : (names : List Text) (cs : List Component) (marks : List Bool) (all outer all' outer' : List (List ℕ)) (v w : List ℕ) (count : ℕ) (u u' : Option Text) (texts : List Text)
    → Gathered names cs marks all outer count u → length all ≡ count → length outer ≡ count → all' ≡ all ++ v ∷ [] → outer' ≡ outer ++ w ∷ []
    → RowOf RefersTo names cs count v → RowOf RefersOutside names cs count w
    → ((y : Text) → Contains texts y ↔ RefersTo y (joined_pattern cs (key_at names count)))
    → KeepsLeast names marks texts u u' → Gathered names cs marks all' outer' (count + 1) u'
gathered_more names cs marks all outer all' outer' v w count u u' texts g la lo ea eo rv rw t more = record {
  anywhere = rows_more RefersTo names cs all all' v count la ea g.anywhere rv;
  outside = rows_more RefersOutside names cs outer outer' w count lo eo g.outside rw;
  before = g.before ++ texts;
  are = λ y. (
    (λ c. ⊎_elim (λ b. let k = (g.are y).0 b in (k.0, omega (arith, k.1), k.2)) (λ x. (count, omega arith, (t y).0 x)) (Contains-append_cases g.before texts y c)),
    λ k. elim (cases_lt k.0 count) [
      | inl lt ↦ Contains-append_left g.before texts y ((g.are y).1 (k.0, lt, k.2))
      | inr ge ↦ let same : k.0 ≡ count = omega (arith, ge, k.1) in Contains-append_right g.before texts y ((t y).1 (subst (λ n. RefersTo y (joined_pattern cs (key_at names n))) same k.2))
    ],
  );
  least = more g.before g.least;
}

module _ (names : List Text) (cs : List Component) (keys : List ℕ) (defined : AreDefinedKeys names cs keys) (marks : List Bool) (are : AreMarksOf keys (suc (length names)) marks) where
  abbrev G : Grammar
  G = joined_grammar cs

  abbrev IsReferred : Text → Type 0
  IsReferred x = RefersTo x G.start ⊎ ((y : Text) × (p : Tree) × Contains G.definitions (y, p) × RefersTo x p)

  referred_at : (x : Text) → IsReferred x → (k : ℕ) × (k < suc (length names)) × RefersTo x (joined_pattern cs (key_at names k))
  referred_at x (inl h) = (0, omega arith, h)
  referred_at x (inr (y, p, c, h)) =
      let d = map_contained (λ (z : Text). (z, joined_pattern cs (name_key z))) (defined_names cs) (y, p) c in
      let is : p ≡ joined_pattern cs (name_key d.0) = sym (ap (λ (e : Text × Tree). e.1) d.2) in
      let r : RefersTo x (joined_pattern cs (name_key d.0)) = subst (RefersTo x) is h in
      let k = number_of names cs keys defined d.0 d.1 in
      (k.0, k.2.within, subst (λ j. RefersTo x (joined_pattern cs j)) (sym k.2.is) r)

  at_referred : (x : Text) (k : ℕ) → RefersTo x (joined_pattern cs (key_at names k)) → IsReferred x
  at_referred x zero h = inl h
  at_referred x (suc i) h =
      let y = get_or names i [] in
      let d = some_definition G x y (definition_of G y) refl (refers_in_definition x cs y h) in
      inr (y, d.0, Contains-from_lookup (λ a b k. (bytes_decides a b).0 k) y d.0 G.definitions d.1, d.2)

  unmarked : (x : Text) → definition_of G x ≡ None → ¬ IsMarkedName names marks x
  unmarked x u m = not_none (definition_of G x) (marked_defined names cs keys defined marks are x m) u

  -- a name without a mark that a key refers to is undefined, and each undefined name is one
  pub unmarked_undefined : (x : Text) (k : ℕ) → RefersTo x (joined_pattern cs (key_at names k)) → ¬ IsMarkedName names marks x → IsUndefined G x
  unmarked_undefined x k r never = (at_referred x k r, is_none (definition_of G x) (λ d. never (defined_marked names cs keys defined marks are x d)))

  pub undefined_unmarked : (x : Text) → IsUndefined G x → (k : ℕ) × (k < suc (length names)) × RefersTo x (joined_pattern cs (key_at names k)) × ¬ IsMarkedName names marks x
  undefined_unmarked x u = let k = referred_at x u.0 in (k.0, k.1, k.2, unmarked x u.1)

  module _ (all outer : List (List ℕ)) (size : length all ≡ suc (length names)) (outer_size : length outer ≡ suc (length names)) where
    listed : (u : Option Text) (g : Gathered names cs marks all outer (suc (length names)) u) (x : Text) (k : ℕ) → k < suc (length names) → RefersTo x (joined_pattern cs (key_at names k)) → Contains g.before x
    listed u g x k h r = (g.are x).1 (k, h, r)

    pub gathered_none : Gathered names cs marks all outer (suc (length names)) None → AreAllReferences names cs all outer
    gathered_none g = record {
      anywhere = record {
        size = size;
        only = λ k m c. (g.anywhere k (omega (arith, source_within all k m c, size))).only m c;
        all = λ k x h r. (g.anywhere k h).all x r (named k x h r);
      };
      outside = record {
        size = outer_size;
        only = λ k m c. (g.outside k (omega (arith, source_within outer k m c, outer_size))).only m c;
        all = λ k x h r. (g.outside k h).all x r (named k x h (outside_anywhere x (joined_pattern cs (key_at names k)) r));
      };
      defined = λ x u. let k = referred_at x u.0 in unmarked x u.1 (g.least x (listed None g x k.0 k.1 k.2));
    }
      where
        named : (k : ℕ) (x : Text) → k < suc (length names) → RefersTo x (joined_pattern cs (key_at names k)) → Contains names x
        named k x h r = let m = g.least x (listed None g x k h r) in numbered_name names x m.0 m.1

    pub gathered_some : (x : Text) → Gathered names cs marks all outer (suc (length names)) (Some x) → IsLeast text_cmp (IsUndefined G) x
    gathered_some x g =
        let k = (g.are x).0 g.least.0 in
        record {
          holds = (at_referred x k.0 k.2, is_none (definition_of G x) (λ d. g.least.1 (defined_marked names cs keys defined marks are x d)));
          least = λ y u. let j = referred_at y u.0 in g.least.2 y (listed (Some x) g y j.0 j.1 j.2) (unmarked y u.1);
        }

  -- the references, or the least undefined name, as the code holds them
  pub rows_or_least : (rows : ReferenceRows) → length (rows_of rows.everywhere) ≡ suc (length names) → length (rows_of rows.outside) ≡ suc (length names) → (o : Option Text) → Gathered names cs marks (rows_of rows.everywhere) (rows_of rows.outside) (suc (length names)) o → AreRowsOrLeast names cs rows o
  rows_or_least rows a b None g = gathered_none (rows_of rows.everywhere) (rows_of rows.outside) a b g
  rows_or_least rows a b (Some x) g = gathered_some (rows_of rows.everywhere) (rows_of rows.outside) a b x g
