-- The names that the components of a key refer to, by its pieces.
use Rattle.std.proofs.Common.{◌≡◌, ℕ, zero, suc, Bool, ◌+◌, ◌-◌, ◌<◌, ◌≤◌, List, [], ◌∷◌, length, get_or, drop, Some, refl, sym, ap, ◌∙◌, subst, arith, Contains}
use Rattle.std.specs.Prelude.{◌↔◌, map, slice_get, slice_range}
use Rattle.std.specs.List.{AllByRecursion}
use Rattle.std.specs.Option.{option_map_or}
use Rattle.std.specs.Rc.{rc_str_bytes}
use Rattle.std.proofs.lemmas.List.{get_or-drop, get_or-take, length-drop, length-take-le}
use Rattle.std.proofs.lemmas.Option.{get_or_from_slice_get, slice_get_read, slice_get_within}
use Rattle.rn_pattern.proofs.Ordered.InOrder.{contained_each, each_contained}
use Rattle.rn_pattern.specs.Reached.{RefersTo}
use Rattle.rn_pattern.specs.References.{RefersOutside}
use Rattle.rn_pattern.specs.Tree.{Tree}
use Rattle.rn_pattern.specs.declared.references.Reach.{Reach}
use Rattle.rn_pattern.specs.declared.references.Reach.TheVariants.{Everywhere, OutsideElements}
use Rattle.rn_syntax.specs.Tree.{Declaration, Pattern}
use Rattle.rn_syntax.specs.View.{boxed_view}
use Rattle.rn_text.specs.Texts.{Text}
use Rattle.rn_assemble.specs.Combine.{bodies, joined_pattern, of_key}
use Rattle.rn_assemble.specs.Components.{Component, Key, NamedModule}
use Rattle.rn_assemble.specs.Resolve.{resolved_pattern}
use Rattle.rn_assemble.specs.declared.reading.key_rows.WrittenComponent as code
use Rattle.rn_assemble.specs.declared.including.pieces.Piece.{Piece}
use Rattle.rn_assemble.specs.declared.including.segments.Segment.{Segment}
use Rattle.rn_assemble.specs.inside.ContentsOf.{declarations_at}
use Rattle.rn_assemble.specs.inside.Pieces.{ArePieces, IsPiece, component_in, piece_components}
use Rattle.rn_assemble.specs.inside.Referred.{AreLiveMarks, marked_references, names_within, references}
use Rattle.rn_assemble.proofs.Referring.JoinedReferences.{outside_of_joined, outside_to_joined, refers_of_joined, refers_to_joined}
use Rattle.rn_assemble.proofs.Referring.ListMembers.{flat_contained, flat_contains, map_contained, map_contains}
use Rattle.rn_assemble.proofs.Referring.MarkedReferences.{marked_contained, marked_contains}
use Rattle.rn_assemble.proofs.Referring.WrittenReferences.{referred, referred_outside}

-- ---- elements of a range

module _ {X : Type 0} (xs : List X) (a b : ℕ) (within : b ≤ length xs) where
  size : a ≤ b → length (slice_range xs a b) ≡ b - a
  size o = length-take-le (b - a) (drop a xs) (omega (arith, length-drop a xs, within, o))

  read : (k : ℕ) (x : X) → k < b - a → get_or (slice_range xs a b) k x ≡ get_or xs (a + k) x
  read k x l = get_or-take (b - a) (drop a xs) k x l ∙ get_or-drop a xs k x

  pub range_contains : (n : ℕ) (x : X) → slice_get xs n ≡ Some x → a ≤ n → n < b → Contains (slice_range xs a b) x
  range_contains n x e h l =
      let k = n - a in
      let at : a + k ≡ n = omega (arith, h) in
      (k, omega (arith, size (omega (arith, h, l)), h, l), read k x (omega (arith, h, l)) ∙ ap (λ i. get_or xs i x) at ∙ get_or_from_slice_get xs n x x e)

  pub range_contained : a ≤ b → (x : X) → Contains (slice_range xs a b) x → (n : ℕ) × (a ≤ n) × (n < b) × (slice_get xs n ≡ Some x)
  range_contained o x (k, l, is) =
      let m : k < b - a = omega (arith, l, size o) in
      let n : a + k < b = omega (arith, m, o) in
      (a + k, omega arith, n, slice_get_read xs (length xs) (a + k) x refl (omega (arith, n, within)) (sym is ∙ read k x m))

-- ---- the components of a key

module _ (modules : List NamedModule) (list : List Segment) (k : Key) (row : List code.WrittenComponent) (cs : List Component) (pieces : List Piece) (are : ArePieces modules list k row cs pieces) where
  -- some component of the key is that of the row, with its names resolved
  pub record Resolves (w : code.WrittenComponent) (c : Component) : Type 0 where
    pub inherited : Text
    pub declarations : List Declaration
    pub body_is : c.body ≡ resolved_pattern inherited declarations (boxed_view w.body)

  segment_of : (p : Piece) → p.segment < length list → (s : Segment) × (slice_get list p.segment ≡ Some s)
  segment_of p l = some list p.segment l
    where
      some : (ss : List Segment) (n : ℕ) → n < length ss → (s : Segment) × (slice_get ss n ≡ Some s)
      some [] n h = absurd (omega (arith, h))
      some (s ∷ ss) zero h = (s, refl)
      some (s ∷ ss) (suc n) h = some ss n (omega (arith, h))

  resolves : (s : Segment) (w : code.WrittenComponent) → Resolves w (component_in modules k s w)
  resolves s w = record { inherited = rc_str_bytes s.context.inherited.now; declarations = declarations_at modules s.module.0; body_is = refl }

  of_piece : (p : Piece) (s : Segment) → slice_get list p.segment ≡ Some s → piece_components modules list k row p ≡ map (component_in modules k s) (slice_range row p.from p.to)
  of_piece p s e = ap (λ o. option_map_or (λ (t : Segment). map (component_in modules k t) (slice_range row p.from p.to)) o []) e

  piece : (p : Piece) → Contains pieces p → IsPiece list row p
  piece p c = contained_each (IsPiece list row) pieces are.each p c

  -- what a piece has of the row is a component of the key
  pub component_of : (p : Piece) (n : ℕ) (w : code.WrittenComponent) → Contains pieces p → p.from ≤ n → n < p.to → slice_get row n ≡ Some w → (c : Component) × Contains (of_key k cs) c × Resolves w c
  component_of p n w h f t e =
      let is = piece p h in
      let s = segment_of p is.segment_within in
      let c = component_in modules k s.0 w in
      let there = map_contains (component_in modules k s.0) (slice_range row p.from p.to) w (range_contains row p.from p.to is.within n w e f t) in
      let here = subst (λ ds. Contains ds c) (sym (of_piece p s.0 s.1)) there in
      (c, subst (λ ds. Contains ds c) are.are (flat_contains (piece_components modules list k row) pieces p c h here), resolves s.0 w)

  -- where a component of the key stands in the row
  pub record Written (c : Component) : Type 0 where
    pub piece : Piece
    pub among : Contains pieces piece
    pub index : ℕ
    pub from : piece.from ≤ index
    pub to : index < piece.to
    pub component : code.WrittenComponent
    pub at : slice_get row index ≡ Some component
    pub resolved : Resolves component c

  pub written_of : (c : Component) → Contains (of_key k cs) c → Written c
  written_of c h =
      let p = flat_contained (piece_components modules list k row) pieces c (subst (λ ds. Contains ds c) (sym are.are) h) in
      let is = piece p.0 p.1 in
      let s = segment_of p.0 is.segment_within in
      let w = map_contained (component_in modules k s.0) (slice_range row p.0.from p.0.to) c (subst (λ ds. Contains ds c) (of_piece p.0 s.0 s.1) p.2) in
      let n = range_contained row p.0.from p.0.to is.within (omega (arith, is.ordered)) w.0 w.1 in
      record { piece = p.0; among = p.1; index = n.0; from = n.1; to = n.2; component = w.0; at = n.3; resolved = subst (Resolves w.0) w.2 (resolves s.0 w.0) }

  -- meant: what is written; R: what a resolved pattern refers to
  module _ (meant : Reach) (R : Text → Tree → Type 0) (same : (i : Text) (ds : List Declaration) (y : Text) (p : Pattern) → Contains (names_within meant (references OutsideElements p)) y ↔ R y (resolved_pattern i ds p))
      (of_joined : (y : Text) → R y (joined_pattern cs k) → (p : Tree) × Contains (bodies k cs) p × R y p) (to_joined : (y : Text) (p : Tree) → Contains (bodies k cs) p → R y p → R y (joined_pattern cs k))
      (marks : List Bool) (live : AreLiveMarks pieces (length row) marks) (y : Text) where
    -- the names of the components that have a mark are those to which what is joined refers
    pub names_are : Contains (names_within meant (marked_references marks row)) y ↔ R y (joined_pattern cs k)
    names_are = (into, back)
      where
        into : Contains (names_within meant (marked_references marks row)) y → R y (joined_pattern cs k)
        into c =
            let m = marked_contained meant marks row y c in
            let p = (live.marked m.index (slice_get_within row m.index m.component m.at)).0 m.marked in
            let d = component_of p.0 m.index m.component p.1 p.2 p.3 m.at in
            to_joined y d.0.body (map_contains (λ (e : Component). e.body) (of_key k cs) d.0 d.1)
            (subst (R y) (sym d.2.body_is) ((same d.2.inherited d.2.declarations y (boxed_view m.component.body)).0 m.named))

        back : R y (joined_pattern cs k) → Contains (names_within meant (marked_references marks row)) y
        back r =
            let p = of_joined y r in
            let c = map_contained (λ (e : Component). e.body) (of_key k cs) p.0 p.1 in
            let w = written_of c.0 c.1 in
            let resolved = w.resolved in
            let refers : R y (resolved_pattern resolved.inherited resolved.declarations (boxed_view w.component.body)) = subst (R y) (sym c.2 ∙ resolved.body_is) p.2 in
            marked_contains meant marks row w.index w.component y w.at
            ((live.marked w.index (slice_get_within row w.index w.component w.at)).1 (w.piece, w.among, w.from, w.to))
            ((same resolved.inherited resolved.declarations y (boxed_view w.component.body)).1 refers)

  -- the names that the components of a key refer to anywhere, and outside elements
  module _ (marks : List Bool) (live : AreLiveMarks pieces (length row) marks) (rs : List (Text × Reach)) (is : rs ≡ marked_references marks row) (y : Text) where
    pub names_anywhere : Contains (names_within Everywhere rs) y ↔ RefersTo y (joined_pattern cs k)
    names_anywhere =
        subst (λ ts. Contains (names_within Everywhere ts) y ↔ RefersTo y (joined_pattern cs k)) (sym is)
        (names_are Everywhere RefersTo (λ i ds z p. referred i ds z OutsideElements p) (λ z. refers_of_joined z cs k) (λ z. refers_to_joined z cs k) marks live y)

    pub names_outside : Contains (names_within OutsideElements rs) y ↔ RefersOutside y (joined_pattern cs k)
    names_outside =
        subst (λ ts. Contains (names_within OutsideElements ts) y ↔ RefersOutside y (joined_pattern cs k)) (sym is)
        (names_are OutsideElements RefersOutside referred_outside (λ z. outside_of_joined z cs k) (λ z. outside_to_joined z cs k) marks live y)

  -- each piece is a range of the row
  pub ranges : AllByRecursion (λ (p : Piece). (p.from ≤ p.to) × (p.to ≤ length row)) pieces
  ranges = each_contained (λ (p : Piece). (p.from ≤ p.to) × (p.to ≤ length row)) pieces (λ p c. let h = piece p c in (omega (arith, h.ordered), h.within))
