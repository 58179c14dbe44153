-- What components refer to, by the numbers of keys (RELAX NG 2001, 4.18 and 4.19).
use Rattle.std.specs.Prelude.{ℕ, suc, ◌≡◌, ◌≢◌, ◌<◌, ◌≤◌, ◌↔◌, Bool, true, false, List, [], ◌∷◌, ◌++◌, length, slice_index_or, flat_map, Contains, Option, Some, None, if◌then◌else◌, ⊤}
use Rattle.std.specs.Ordering.{is_lt}
use Rattle.std.specs.declared.cmp.Ordering.TheVariants.{Less}
use Rattle.std.specs.String.{string_bytes}
use Rattle.rn_pattern.specs.Tree.{Tree}
use Rattle.rn_text.specs.Texts.{Text, text_cmp}
use Rattle.rn_pattern.specs.Reached.{RefersTo}
use Rattle.rn_pattern.specs.References.{RefersOutside, IsUndefined, IsRecursive}
use Rattle.rn_syntax.specs.Tree as t
use Rattle.rn_syntax.specs.Tree.{Pattern, Patterns}
use Rattle.rn_graph.specs.Graph.{row, rows_of}
use Rattle.rn_pattern.specs.declared.references.ReferenceRows.{ReferenceRows}
use Rattle.rn_assemble.specs.Components.{Component}
use Rattle.rn_assemble.specs.Combine.{joined_pattern, joined_grammar}
use Rattle.rn_assemble.specs.inside.Keyed.{IsNameNumber, key_at}
use Rattle.rn_assemble.specs.declared.reading.keys.KeyId.{KeyId}
use Rattle.rn_assemble.specs.Least.{IsLeast}
use Rattle.rn_assemble.specs.declared.reading.key_rows.WrittenComponent as code
use Rattle.rn_assemble.specs.declared.including.pieces.Piece.{Piece}
use Rattle.rn_syntax.specs.View.{boxed_view}
use Rattle.rn_pattern.specs.declared.references.Reach.{Reach}
use Rattle.rn_pattern.specs.declared.references.Reach.TheVariants.{Everywhere, OutsideElements}
use Rattle.rn_assemble.specs.declared.by_key.references.Reference.{Reference}
use Rattle.rn_assemble.specs.declared.refusal.Refusal.{Refusal}
use Rattle.rn_assemble.specs.declared.refusal.Refusal.TheVariants as r

-- the references of a written pattern that stands in a reach, in the order of the text: the name of each, and the narrowest reach that takes it in
abbrev mutual
  pub references : Reach → Pattern → List (Text × Reach)
  references r (t.element c p) = references Everywhere p
  references r (t.attribute c p) = references r p
  references r (t.list p) = references r p
  references r (t.mixed p) = references r p
  references r t.empty = []
  references r t.not_allowed = []
  references r t.text = []
  references r (t.ref x) = (x, r) ∷ []
  references r (t.value d s) = []
  references r (t.datum d ps) = []
  references r (t.datum_but d ps i p) = references r p
  references r (t.repeated s p) = references r p
  references r (t.chain o ps) = all_references r ps

  pub all_references : Reach → Patterns → List (Text × Reach)
  all_references r t.no_patterns = []
  all_references r (t.pattern p ps) = references r p ++ all_references r ps

-- what a reference with this narrowest reach brings where those of a reach are meant
abbrev pub within : {X : Type 0} → (meant narrowest : Reach) → X → List X
within Everywhere r x = x ∷ []
within OutsideElements Everywhere x = []
within OutsideElements OutsideElements x = x ∷ []

-- the names of those references that the reach takes in
abbrev pub names_within : Reach → List (Text × Reach) → List Text
names_within meant rs = flat_map (λ (r : Text × Reach). within meant r.1 r.0) rs

-- the row of each key has the numbers of the names to which what is joined under it refers, in the sense of R
pub record AreReferences (R : Text → Tree → Type 0) (names : List Text) (cs : List Component) (rows : List (List ℕ)) : Type 0 where
  pub size : length rows ≡ suc (length names)
  pub only : (k m : ℕ) → Contains (row rows k) m → (x : Text) × IsNameNumber names x m × R x (joined_pattern cs (key_at names k))
  pub all : (k : ℕ) (x : Text) → k < suc (length names) → R x (joined_pattern cs (key_at names k)) → (m : ℕ) × IsNameNumber names x m × Contains (row rows k) m

-- the references anywhere and those outside elements, where each name that is referred to is defined
pub record AreAllReferences (names : List Text) (cs : List Component) (all outer : List (List ℕ)) : Type 0 where
  pub anywhere : AreReferences RefersTo names cs all
  pub outside : AreReferences RefersOutside names cs outer
  pub defined : (x : Text) → ¬ IsUndefined (joined_grammar cs) x

-- the least name that is referred to and not defined, want of memory aside
abbrev pub IsLeastUndefined : List Component → Refusal → Type 0
IsLeastUndefined cs (r.Undefined x) = IsLeast text_cmp (IsUndefined (joined_grammar cs)) (string_bytes x)
IsLeastUndefined cs r.Memory = ⊤
IsLeastUndefined cs _ = ⊥

-- the references of the components, or the least name that is referred to and not defined
abbrev pub AreRowsOrLeast : List Text → List Component → ReferenceRows → Option Text → Type 0
AreRowsOrLeast names cs rows None = AreAllReferences names cs (rows_of rows.everywhere) (rows_of rows.outside)
AreRowsOrLeast names cs rows (Some x) = IsLeast text_cmp (IsUndefined (joined_grammar cs)) x

-- ---- how references are found

abbrev pub reference_view : Reference → Text × Reach
reference_view r = (r.name.now, r.reach)

-- the references of a component of the code
abbrev pub references_at : code.WrittenComponent → List (Text × Reach)
references_at w = references OutsideElements (boxed_view w.body)

-- the references of the components of a row that have a mark
abbrev pub marked_references : List Bool → List code.WrittenComponent → List (Text × Reach)
marked_references (m ∷ ms) (w ∷ ws) = (if m then references_at w else []) ++ marked_references ms ws
marked_references _ _ = []

-- the marks are those of the components that a piece has
pub record AreLiveMarks (pieces : List Piece) (count : ℕ) (marks : List Bool) : Type 0 where
  pub size : length marks ≡ count
  pub marked : (n : ℕ) → n < count → (slice_index_or marks n false ≡ true) ↔ ((p : Piece) × Contains pieces p × (p.from ≤ n) × (n < p.to))

-- the number of a name that is referred to, if it has one and the reach takes the reference in
abbrev pub number_within : (meant narrowest : Reach) → Option KeyId → List ℕ
number_within meant r None = []
number_within meant r (Some k) = within meant r k.0

abbrev pub lesser_text : Option Text → Text → Text
lesser_text None x = x
lesser_text (Some h) x = if is_lt (text_cmp x h) then x else h

-- the numbers of those of the texts that are names
pub record AreNumbers (names texts : List Text) (numbers : List ℕ) : Type 0 where
  pub only : (m : ℕ) → Contains numbers m → (x : Text) × Contains texts x × IsNameNumber names x m
  pub all : (x : Text) → Contains texts x → Contains names x → (m : ℕ) × IsNameNumber names x m × Contains numbers m

-- the text is a name whose number has a mark
abbrev pub IsMarkedName : List Text → List Bool → Text → Type 0
IsMarkedName names marks x = (n : ℕ) × IsNameNumber names x n × (slice_index_or marks n false ≡ true)

-- the least of the texts that are no marked names, if there is one
abbrev pub IsLeastUnmarked : List Text → List Bool → List Text → Option Text → Type 0
IsLeastUnmarked names marks xs None = (x : Text) → Contains xs x → IsMarkedName names marks x
IsLeastUnmarked names marks xs (Some y) = Contains xs y × (¬ IsMarkedName names marks y) × ((x : Text) → Contains xs x → ¬ IsMarkedName names marks x → text_cmp x y ≢ Less)

-- what was the least of some texts becomes the least of these too
abbrev pub KeepsLeast : List Text → List Bool → List Text → (old new : Option Text) → Type 0
KeepsLeast names marks xs old new = (before : List Text) → IsLeastUnmarked names marks before old → IsLeastUnmarked names marks (before ++ xs) new

-- the numbers that have a mark are these
pub record AreMarksOf (numbers : List ℕ) (count : ℕ) (marks : List Bool) : Type 0 where
  pub size : length marks ≡ count
  pub marked : (n : ℕ) → n < count → (slice_index_or marks n false ≡ true) ↔ Contains numbers n

-- ---- what is found

-- the number of the least name that is reached and comes back to itself outside elements, if there is one
abbrev pub IsLeastRecursive : List Text → List Component → Option ℕ → Type 0
IsLeastRecursive names cs None = (x : Text) → ¬ IsRecursive (joined_grammar cs) x
IsLeastRecursive names cs (Some k) = (x : Text) × IsNameNumber names x k × IsLeast text_cmp (IsRecursive (joined_grammar cs)) x
