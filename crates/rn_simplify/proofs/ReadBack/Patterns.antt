-- Patterns as they are written are read back.
use Rattle.std.proofs.Common.{◌≡◌, ℕ, ◌+◌, Bool, true, false, cond, List, [], ◌∷◌, ◌++◌, refl, sym, ap, ◌∙◌, subst, Option, Some, None}
use Rattle.std.specs.Prelude.{codes, not}
use Rattle.std.proofs.lemmas.Bool.{true≢false, and_from}
use Rattle.rn_text.specs.Parts.{Piece}
use Rattle.rn_text.specs.Tokens.{width}
use Rattle.rn_text.proofs.Cutting.SoundPieces.{Sound, free_then, sound_then}
use Rattle.rn_pattern.specs.Tree as r
use Rattle.rn_pattern.specs.Tree.{NameTree, Tree, Trees, no_trees, more_trees}
use Rattle.rn_text.specs.Texts.{Text}
use Rattle.rn_pattern.specs.Excepts.{IsExcept}
use Rattle.rn_pattern.specs.Opened.{opened, opened_all, opened_choice, opened_interleave}
use Rattle.rn_syntax.specs.Terminal as t
use Rattle.rn_syntax.specs.Terminal.{◌#◌}
use Rattle.rn_syntax.specs.Tree as s
use Rattle.rn_syntax.specs.Tree.{Pattern, Patterns, Declaration, patterns_of}
use Rattle.rn_syntax.specs.Grammar as g
use Rattle.rn_syntax.specs.Grammar.{Tokens, IsPattern, IsOperand, IsPrimary, IsCore, AreMore}
use Rattle.rn_syntax.specs.Places.{place_if}
use Rattle.rn_syntax.specs.TokenTerminals.{symbol_rows, keyword_rows}
use Rattle.rn_syntax.specs.declared.tree.Operator.{Operator}
use Rattle.rn_syntax.specs.declared.tree.Operator.TheVariants as o
use Rattle.rn_syntax.specs.declared.tree.Postfix.TheVariants as pf
use Rattle.rn_syntax.proofs.TokenKinds.PieceTokens.{before, terms, behind, terms-append}
use Rattle.rn_syntax.proofs.Lists.EmptyLists.{both_nil}
use Rattle.rn_assemble.specs.Resolve.{default_of, resolved_class}
use Rattle.rn_simplify.specs.Spelling.{space, symbol, keyword, type_piece, infix_of, comma, literal, Prefixes, closed, postfixed, chained, NodeText, node_text, operand, primary, in_parentheses, in_braces, chain, optional_member, optional, mixed_pieces, written_choice, written_interleave, written_name, datum_pieces, value_pieces, written_tree, written_trees}
use Rattle.rn_simplify.specs.Printable as w
use Rattle.rn_simplify.specs.Printable.{IsPrintable, ArePrintable, is_empty, is_text, is_repetition}
use Rattle.rn_assemble.specs.WritableTexts.{string_type, token_type, library_type, needs_context, IsType, IsData, IsXml}
use Rattle.rn_simplify.proofs.ReadBack.NamesAndLiterals.{Reads, space_breaks, space_free, minus_free, parenthesized_sound, braced_sound, identifier_sound, identifier_term, literal_sound, literal_reads}
use Rattle.rn_simplify.proofs.ReadBack.NeededBindings.{FitsClass, Clean, Fits, FitAll}
use Rattle.rn_simplify.proofs.ReadBack.Classes.{Bound, class_reads}
use Rattle.rn_simplify.proofs.ReadBack.Types.{Library, inside_at, braced_terms, type_term, type_sound, DataTerm, data_term, data_sound}
use Rattle.rn_simplify.proofs.ReadBack.PatternParts.{IsSeparator, bar, ampersand, comma_between, element_sound, attribute_sound, list_sound, mixed_sound, empty_sound, not_allowed_sound, text_sound, question_sound, star_sound, plus_sound, plain, inside, marked, question_is, star_is, plus_is}

-- ---- what a node above knows of a pattern

either_way : (P : NodeText → Type 0) (b : Bool) (x y : NodeText) → P x → P y → P (cond b x y)
either_way P true x y h k = h
either_way P false x y h k = k

record NoFlags (w : NodeText) : Type 0 where
  empty : w.is_empty ≡ false
  text : w.is_text ≡ false
  repeated : w.repeated ≡ None

choice_flags : (ws : List NodeText) → NoFlags (written_choice ws)
choice_flags [] = record { empty = refl; text = refl; repeated = refl }
choice_flags (w ∷ ws) = either_way NoFlags w.is_empty _ _ (record { empty = refl; text = refl; repeated = refl }) (record { empty = refl; text = refl; repeated = refl })

interleave_flags : (ws : List NodeText) → NoFlags (written_interleave ws)
interleave_flags [] = record { empty = refl; text = refl; repeated = refl }
interleave_flags (w ∷ ws) = either_way NoFlags w.is_text _ _ (record { empty = refl; text = refl; repeated = refl }) (record { empty = refl; text = refl; repeated = refl })

record Flags (f : Prefixes) (q : Tree) : Type 0 where
  empty : (written_tree f q).is_empty ≡ is_empty q
  text : (written_tree f q).is_text ≡ is_text q
  repeated : is_repetition q ≡ false → (written_tree f q).repeated ≡ None

flags : (f : Prefixes) (q : Tree) → Flags f q
flags f (r.choice ps) = let h = choice_flags (written_trees f ps) in record { empty = h.empty; text = h.text; repeated = λ e. h.repeated }
flags f (r.interleave ps) = let h = interleave_flags (written_trees f ps) in record { empty = h.empty; text = h.text; repeated = λ e. h.repeated }
flags f (r.one_or_more q) = record { empty = refl; text = refl; repeated = λ e. absurd (true≢false e) }
flags f _ = record { empty = refl; text = refl; repeated = λ e. refl }

-- opening makes neither Empty nor Text of another pattern
opened_choice_keeps : (q : Tree) (qs : Trees) → is_empty q ≡ false → opened_choice (more_trees q qs) ≡ r.choice (more_trees q qs)
opened_choice_keeps r.empty qs e = absurd (true≢false e)
opened_choice_keeps _ qs e = refl

opened_interleave_keeps : (q : Tree) (qs : Trees) → is_text q ≡ false → opened_interleave (more_trees q qs) ≡ r.interleave (more_trees q qs)
opened_interleave_keeps r.text qs e = absurd (true≢false e)
opened_interleave_keeps _ qs e = refl

choice_is : (qs : Trees) → (is_empty (opened_choice qs) ≡ false) × (is_text (opened_choice qs) ≡ false)
choice_is (more_trees r.empty (more_trees q qs)) = (refl, refl)
choice_is _ = (refl, refl)

interleave_is : (qs : Trees) → (is_empty (opened_interleave qs) ≡ false) × (is_text (opened_interleave qs) ≡ false)
interleave_is (more_trees r.text (more_trees q qs)) = (refl, refl)
interleave_is _ = (refl, refl)

opened_is : (q : Tree) → (is_empty (opened q) ≡ is_empty q) × (is_text (opened q) ≡ is_text q)
opened_is (r.choice ps) = choice_is (opened_all ps)
opened_is (r.interleave ps) = interleave_is (opened_all ps)
opened_is _ = (refl, refl)

module _ (f : Prefixes) (ds : List Declaration) (no_default : default_of [] ds ≡ []) where
  -- what is written is read as the pattern, in each of the three places where a pattern may stand
  pub record ReadsTree (w : NodeText) (p : Tree) : Type 0 where
    pub sound : Sound w.pieces
    pub operand_sound : Sound (operand w)
    pub primary_sound : Sound (primary w)
    pub as_pattern : Reads IsPattern w.pieces (Fits ds p)
    pub as_operand : Reads IsOperand (operand w) (Fits ds p)
    pub as_primary : Reads IsPrimary (primary w) (Fits ds p)

  closed_tree : (ps : List Piece) (e x : Bool) {p : Tree} → Sound ps → Reads IsCore ps (Fits ds p) → ReadsTree (record { pieces = ps; shape = closed; is_empty = e; is_text = x; repeated = None }) p
  closed_tree ps e x s h = record {
    sound = s;
    operand_sound = s;
    primary_sound = s;
    as_pattern = λ i rest. let a = h i rest in (a.0, g.one (g.plain (plain a.1)), a.2);
    as_operand = λ i rest. let a = h i rest in (a.0, g.plain (plain a.1), a.2);
    as_primary = λ i rest. let a = h i rest in (a.0, plain a.1, a.2);
  }

  postfixed_tree : (ps : List Piece) (o : Option (List Piece)) {p : Tree} → Sound ps → Reads IsOperand ps (Fits ds p) → ReadsTree (record { pieces = ps; shape = postfixed; is_empty = false; is_text = false; repeated = o }) p
  postfixed_tree ps o {p = p} s h =
      let whole : Reads IsPattern ps (Fits ds p) = λ i rest. let a = h i rest in (a.0, g.one a.1, a.2) in
      record {
        sound = s;
        operand_sound = s;
        primary_sound = parenthesized_sound s;
        as_pattern = whole;
        as_operand = h;
        as_primary = inside ps whole;
      }

  chained_tree : (ps : List Piece) {p : Tree} → Sound ps → Reads IsPattern ps (Fits ds p) → ReadsTree (node_text chained ps) p
  chained_tree ps s h = record {
    sound = s;
    operand_sound = parenthesized_sound s;
    primary_sound = parenthesized_sound s;
    as_pattern = h;
    as_operand = λ i rest. let a = inside ps h i rest in (a.0, g.plain a.1, a.2);
    as_primary = inside ps h;
  }

  -- ---- what fits

  four : Clean ds s.empty
  four = (refl, refl, refl, refl)

  -- a chain of patterns that fit the trees
  pub record Chained (op : Operator) (ps : Trees) (q : Pattern) : Type 0 where
    pub members : Patterns
    pub is : q ≡ s.chain op members
    pub fit : FitAll ds ps members

  fits_one : {p : Tree} {q : Pattern} → Fits ds p q → FitAll ds (more_trees p no_trees) (s.pattern q s.no_patterns)
  fits_one h = record {
    resolves = ap (λ x. more_trees x no_trees) h.resolves;
    clean = (both_nil _ _ h.clean.0 refl, both_nil _ _ h.clean.1 refl, both_nil _ _ h.clean.2 refl, both_nil _ _ h.clean.3 refl);
    allowed = λ e. and_from _ _ (h.allowed e.0) refl;
  }

  fits_more : {p : Tree} {ps : Trees} {q : Pattern} {qs : Patterns} → Fits ds p q → FitAll ds ps qs → FitAll ds (more_trees p ps) (s.pattern q qs)
  fits_more h k = record {
    resolves = λ i. more_trees (h.resolves i) (k.resolves i);
    clean = (both_nil _ _ h.clean.0 k.clean.0, both_nil _ _ h.clean.1 k.clean.1, both_nil _ _ h.clean.2 k.clean.2, both_nil _ _ h.clean.3 k.clean.3);
    allowed = λ e. and_from _ _ (h.allowed e.0) (k.allowed e.1);
  }

  fits_group : {ps : Trees} {q : Pattern} → Chained o.Comma ps q → Fits ds (r.group ps) q
  fits_group {ps = ps} h = subst (Fits ds (r.group ps)) (sym h.is) (record { resolves = ap r.group h.fit.resolves; clean = h.fit.clean; allowed = λ e. absurd e })

  fits_interleave : {p : Tree} {ps : Trees} {q : Pattern} → is_text p ≡ false → Chained o.Ampersand (more_trees p ps) q → Fits ds (r.interleave (more_trees p ps)) q
  fits_interleave {p = p} {ps = ps} e h = subst (Fits ds (r.interleave (more_trees p ps))) (sym h.is)
      (record { resolves = ap r.interleave h.fit.resolves ∙ sym (opened_interleave_keeps (opened p) (opened_all ps) ((opened_is p).1 ∙ e)); clean = h.fit.clean; allowed = λ e. absurd e })

  fits_choice : {p : Tree} {ps : Trees} {q : Pattern} → is_empty p ≡ false → Chained o.Bar (more_trees p ps) q → Fits ds (r.choice (more_trees p ps)) q
  fits_choice {p = p} {ps = ps} e h = subst (Fits ds (r.choice (more_trees p ps))) (sym h.is)
      (record { resolves = ap r.choice h.fit.resolves ∙ sym (opened_choice_keeps (opened p) (opened_all ps) ((opened_is p).0 ∙ e)); clean = h.fit.clean; allowed = h.fit.allowed })

  fits_mixed : {p : Tree} {q : Pattern} → Fits ds p q → Fits ds (r.interleave (more_trees r.text (more_trees p no_trees))) (s.mixed q)
  fits_mixed h = record { resolves = ap (λ x. r.interleave (more_trees x (more_trees r.text no_trees))) h.resolves; clean = h.clean; allowed = λ e. absurd e }

  fits_mixed_several : {p p' : Tree} {ps : Trees} {q : Pattern} → Chained o.Ampersand (more_trees p (more_trees p' ps)) q → Fits ds (r.interleave (more_trees r.text (more_trees p (more_trees p' ps)))) (s.mixed q)
  fits_mixed_several {p = p} {p' = p'} {ps = ps} h = subst (λ q. Fits ds (r.interleave (more_trees r.text (more_trees p (more_trees p' ps)))) (s.mixed q)) (sym h.is)
      (record { resolves = ap (λ x. r.interleave (more_trees (r.interleave x) (more_trees r.text no_trees))) h.fit.resolves; clean = h.fit.clean; allowed = λ e. absurd e })

  fits_maybe : {p : Tree} {q : Pattern} → Fits ds p q → Fits ds (r.choice (more_trees r.empty (more_trees p no_trees))) (s.repeated pf.Question q)
  fits_maybe h = record { resolves = ap (λ x. r.choice (more_trees x (more_trees r.empty no_trees))) h.resolves; clean = h.clean; allowed = λ e. absurd e.0 }

  fits_maybe_several : {p p' : Tree} {ps : Trees} {q : Pattern} → Chained o.Bar (more_trees p (more_trees p' ps)) q → Fits ds (r.choice (more_trees r.empty (more_trees p (more_trees p' ps)))) (s.repeated pf.Question q)
  fits_maybe_several {p = p} {p' = p'} {ps = ps} h = subst (λ q. Fits ds (r.choice (more_trees r.empty (more_trees p (more_trees p' ps)))) (s.repeated pf.Question q)) (sym h.is)
      (record { resolves = ap (λ x. r.choice (more_trees (r.choice x) (more_trees r.empty no_trees))) h.fit.resolves; clean = h.fit.clean; allowed = λ e. absurd e.0 })

  fits_any_number : {p : Tree} {q : Pattern} → Fits ds p q → Fits ds (r.choice (more_trees r.empty (more_trees (r.one_or_more p) no_trees))) (s.repeated pf.Star q)
  fits_any_number h = record { resolves = ap (λ x. r.choice (more_trees (r.one_or_more x) (more_trees r.empty no_trees))) h.resolves; clean = h.clean; allowed = λ e. absurd e.0 }

  fits_one_or_more : {p : Tree} {q : Pattern} → Fits ds p q → Fits ds (r.one_or_more p) (s.repeated pf.Plus q)
  fits_one_or_more h = record { resolves = ap r.one_or_more h.resolves; clean = h.clean; allowed = λ e. absurd e }

  fits_list : {p : Tree} {q : Pattern} → Fits ds p q → Fits ds (r.list p) (s.list q)
  fits_list h = record { resolves = ap r.list h.resolves; clean = h.clean; allowed = λ e. absurd e }

  fits_attribute : {n : NameTree} {c : s.NameClass} {p : Tree} {q : Pattern} → FitsClass ds n c → Fits ds p q → Fits ds (r.attribute n p) (s.attribute c q)
  fits_attribute e h = record { resolves = λ i. r.attribute (e.0 i) (h.resolves i); clean = (both_nil _ _ e.1 h.clean.0, h.clean.1, h.clean.2, h.clean.3); allowed = λ e. absurd e }

  fits_element : {n : NameTree} {c : s.NameClass} {p : Tree} {q : Pattern} → FitsClass ds n c → Fits ds p q → Fits ds (r.element n p) (s.element c q)
  fits_element {c = c} e h = record { resolves = λ i. r.element ((ap (λ u. resolved_class [] ds u c) no_default ∙ e.0) i) (h.resolves i); clean = (both_nil _ _ e.1 h.clean.0, h.clean.1, h.clean.2, h.clean.3); allowed = λ e. absurd e }

  fits_datum : {l x : Text} {ps : r.Parameters} {i : ℕ} {rest : Tokens} (d : DataTerm f ds l x ps i rest) → Fits ds (r.datum l x ps) (s.datum d.datatype ps)
  fits_datum {ps = ps} d = record { resolves = λ i. r.datum (d.library i) (d.name i) ps; clean = (d.bound, d.builtin, refl, refl); allowed = λ e. refl }

  fits_datum_but : {l x : Text} {ps : r.Parameters} {i j : ℕ} {rest : Tokens} (d : DataTerm f ds l x ps i rest) {p : Tree} {q : Pattern} → IsExcept p → Fits ds p q → Fits ds (r.datum_but l x ps p) (s.datum_but d.datatype ps j q)
  fits_datum_but {ps = ps} {j = j} d {q = q} e h = record {
    resolves = λ i. r.datum_but (d.library i) (d.name i) ps (h.resolves i);
    clean = (both_nil _ _ (both_nil _ _ d.bound refl) h.clean.0, both_nil _ _ (both_nil _ _ d.builtin refl) h.clean.1, h.clean.2, both_nil _ _ (ap (λ b. place_if (not b) j) (h.allowed e)) h.clean.3);
    allowed = λ e. refl;
  }

  -- ---- nodes

  -- a keyword and a pattern in braces
  braced_reads : (c : List ℕ) (ps : List Piece) (of : Pattern → Pattern) {Q R : Pattern → Type 0}
      → ((i j l : ℕ) (ts rest : Tokens) (q : Pattern) → IsPattern ts q (t.right_brace # l ∷ rest) → IsCore (before (keyword c).part i c (t.left_brace # j ∷ ts)) (of q) rest)
      → ((q : Pattern) → Q q → R (of q)) → Reads IsPattern ps Q → Reads IsCore (keyword c ∷ in_braces ps) R
  braced_reads c ps of core fits h i rest =
      let j = i + width (keyword c) in
      let l = behind (inside_at j) ps + width space in
      let a = h (inside_at j) (t.right_brace # l ∷ rest) in
      (of a.0, subst (λ ts. IsCore (before (keyword c).part i c ts) (of a.0) rest) (sym (braced_terms j ps rest)) (core i (j + width space) l _ rest a.0 a.1), fits a.0 a.2)

  -- a keyword, a name class and a pattern in braces
  named_reads : (c : List ℕ) (ns ps : List Piece) (of : s.NameClass → Pattern → Pattern) {M : s.NameClass → Type 0} {Q R : Pattern → Type 0}
      → ((i j l : ℕ) (ts body rest : Tokens) (n : s.NameClass) (q : Pattern) → g.IsNameClass ts n (t.left_brace # j ∷ body) → IsPattern body q (t.right_brace # l ∷ rest) → IsCore (before (keyword c).part i c ts) (of n q) rest)
      → ((n : s.NameClass) (q : Pattern) → M n → Q q → R (of n q)) → Reads g.IsNameClass ns M → Reads IsPattern ps Q → Reads IsCore (keyword c ∷ space ∷ (ns ++ in_braces ps)) R
  named_reads c ns ps of core fits k h i rest =
      let m = i + width (keyword c) + width space in
      let j = behind m ns in
      let l = behind (inside_at j) ps + width space in
      let a = h (inside_at j) (t.right_brace # l ∷ rest) in
      let b = k m (t.left_brace # (j + width space) ∷ terms (inside_at j) ps (t.right_brace # l ∷ rest)) in
      (of b.0 a.0, subst (λ ts. IsCore (before (keyword c).part i c ts) (of b.0 a.0) rest) (sym (terms-append m ns (in_braces ps) rest ∙ ap (terms m ns) (braced_terms j ps rest))) (core i (j + width space) l _ _ rest b.0 a.0 b.1 a.1), fits b.0 a.0 b.2 a.2)

  named_sound : (c : List ℕ) {ns ps : List Piece} → Sound (keyword c ∷ []) → Sound ns → Sound ps → Sound (keyword c ∷ space ∷ (ns ++ in_braces ps))
  named_sound c k n h = sound_then k (space_breaks _) (free_then space_free (sound_then n (space_breaks _) (braced_sound h)))

  -- operands in a row, behind the first separator
  pub record AreRead (op : Operator) (sep : List Piece) (ps : Trees) : Type 0 where
    pub sound : Sound (chain sep (written_trees f ps))
    pub reads : (i j : ℕ) (rest : Tokens) → (qs : List Pattern) × AreMore op (t.operator op # j ∷ terms i (chain sep (written_trees f ps)) rest) qs rest × FitAll ds ps (patterns_of qs)

  chain_sound : {op : Operator} {sep : List Piece} → IsSeparator op sep → {p q : Tree} {ps : Trees} → ReadsTree (written_tree f p) p → AreRead op sep (more_trees q ps) → Sound (chain sep (written_trees f (more_trees p (more_trees q ps))))
  chain_sound e h k = sound_then h.operand_sound (e.breaks _) (free_then e.free k.sound)

  chain_reads : {op : Operator} {sep : List Piece} → IsSeparator op sep → {p q : Tree} {ps : Trees} → ReadsTree (written_tree f p) p → AreRead op sep (more_trees q ps)
      → Reads IsPattern (chain sep (written_trees f (more_trees p (more_trees q ps)))) (Chained op (more_trees p (more_trees q ps)))
  chain_reads {op = op} {sep = sep} e {p = p} {q = q} {ps = ps} h k i rest =
      let first = operand (written_tree f p) in
      let others = chain sep (written_trees f (more_trees q ps)) in
      let j = behind i first in
      let b = k.reads (e.from j) (e.at j) rest in
      let a = h.as_operand i (t.operator op # e.at j ∷ terms (e.from j) others rest) in (
        s.chain op (patterns_of (a.0 ∷ b.0)),
        subst (λ ts. IsPattern ts (s.chain op (patterns_of (a.0 ∷ b.0))) rest) (sym (terms-append i first (sep ++ others) rest ∙ ap (terms i first) (e.is j others rest))) (g.chain a.1 b.1),
        record { members = patterns_of (a.0 ∷ b.0); is = refl; fit = fits_more a.2 b.2 },
      )

  more_read : {op : Operator} {sep : List Piece} → IsSeparator op sep → {p q : Tree} {ps : Trees} → ReadsTree (written_tree f p) p → AreRead op sep (more_trees q ps) → AreRead op sep (more_trees p (more_trees q ps))
  more_read {op = op} {sep = sep} e {p = p} {q = q} {ps = ps} h k = record {
    sound = chain_sound e h k;
    reads = λ i l rest.
        let first = operand (written_tree f p) in
        let others = chain sep (written_trees f (more_trees q ps)) in
        let j = behind i first in
        let b = k.reads (e.from j) (e.at j) rest in
        let a = h.as_operand i (t.operator op # e.at j ∷ terms (e.from j) others rest) in (
          a.0 ∷ b.0,
          subst (λ ts. AreMore op (t.operator op # l ∷ ts) (a.0 ∷ b.0) rest) (sym (terms-append i first (sep ++ others) rest ∙ ap (terms i first) (e.is j others rest))) (g.more a.1 b.1),
          fits_more a.2 b.2,
        );
  }

  last_read : {op : Operator} {sep : List Piece} → {p : Tree} → ReadsTree (written_tree f p) p → AreRead op sep (more_trees p no_trees)
  last_read h = record { sound = h.operand_sound; reads = λ i l rest. let a = h.as_operand i rest in (a.0 ∷ [], g.last a.1, fits_one a.2) }

  with_fits : (ps : List Piece) {Q R : Pattern → Type 0} → ((q : Pattern) → Q q → R q) → Reads IsPattern ps Q → Reads IsPattern ps R
  with_fits ps fits h i rest = let a = h i rest in (a.0, a.1, fits a.0 a.2)

  -- a value: its literal, behind its datatype but for the built-in token
  value_sound : {l x u : Text} → IsType (Library f ds) l x → IsXml u → Sound (value_pieces f l x u)
  value_sound string_type x = sound_then (type_sound f ds string_type) (space_breaks _) (free_then space_free (literal_sound x))
  value_sound token_type x = literal_sound x
  value_sound (library_type b n) x = sound_then (type_sound f ds (library_type b n)) (space_breaks _) (free_then space_free (literal_sound x))

  typed : {l x u : Text} → IsType (Library f ds) l x → needs_context l x ≡ false → IsXml u → Reads IsCore (type_piece f l x ∷ space ∷ literal u) (Fits ds (r.value l x u))
  typed {l = l} {x = x} {u = u} h c e i rest =
      let y = type_term f ds h i in
      let j = i + width (type_piece f l x) + width space in (
        s.value (Some y.datatype) u,
        subst (λ ts. IsCore ts (s.value (Some y.datatype) u) rest) (sym (y.is (terms j (literal u) rest))) (g.typed_value y.is_datatype (literal_reads e j rest)),
        record { resolves = λ k. r.value (y.library k) (y.name k) u; clean = (y.bound true [], y.builtin true, y.context c, refl); allowed = λ e. refl },
      )

  value_reads : {l x u : Text} → IsType (Library f ds) l x → needs_context l x ≡ false → IsXml u → Reads IsCore (value_pieces f l x u) (Fits ds (r.value l x u))
  value_reads string_type c e = typed string_type c e
  value_reads {u = u} token_type c e = λ i rest. (s.value None u, g.value (literal_reads e i rest), record { resolves = refl; clean = (refl, refl, refl, refl); allowed = λ k. refl })
  value_reads (library_type b n) c e = typed (library_type b n) c e

  but_sound : {l x : Text} {es : r.Parameters} (w' : NodeText) → IsData (Library f ds) l x es → Sound (primary w') → Sound (datum_pieces f l x es ++ (infix_of (codes "-") ++ primary w'))
  but_sound w' d h = sound_then (data_sound f ds d) (space_breaks _) (free_then minus_free h)

  but_reads : {l x : Text} {es : r.Parameters} {p : Tree} → IsData (Library f ds) l x es → IsExcept p → ReadsTree (written_tree f p) p → Reads IsPattern (datum_pieces f l x es ++ (infix_of (codes "-") ++ primary (written_tree f p))) (Fits ds (r.datum_but l x es p))
  unfolding symbol_rows
  but_reads {l = l} {x = x} {es = es} {p = p} d e h i rest =
      let ps = datum_pieces f l x es in
      let j = behind i ps in
      let after = j + width space + width (symbol (codes "-")) + width space in
      let a = h.as_primary after rest in
      let y = data_term f ds d i (t.minus # (j + width space) ∷ terms after (primary (written_tree f p)) rest) in
      let q = s.datum_but y.datatype es (j + width space) a.0 in
      (q, g.one (subst (λ ts. IsOperand ts q rest) (sym (terms-append i ps (infix_of (codes "-") ++ primary (written_tree f p)) rest ∙ y.is)) (g.except g.bare y.is_datatype y.params a.1)), fits_datum_but y e a.2)

  abbrev Printable : Tree → Type 0
  Printable = IsPrintable (Bound f ds) (Bound f ds) (Library f ds)

  abbrev ArePrinted : Trees → Type 0
  ArePrinted = ArePrintable (Bound f ds) (Bound f ds) (Library f ds)

  -- a choice that doesn't begin with Empty, and an interleave that doesn't begin with Text
  choice_plain : (p : Tree) (ws : List NodeText) → is_empty p ≡ false → written_choice (written_tree f p ∷ ws) ≡ node_text chained (chain (infix_of (codes "|")) (written_tree f p ∷ ws))
  choice_plain p ws e = ap (λ b. cond b (node_text postfixed (optional ws)) (node_text chained (chain (infix_of (codes "|")) (written_tree f p ∷ ws)))) ((flags f p).empty ∙ e)

  interleave_plain : (p : Tree) (ws : List NodeText) → is_text p ≡ false → written_interleave (written_tree f p ∷ ws) ≡ node_text chained (chain (infix_of (codes "&")) (written_tree f p ∷ ws))
  interleave_plain p ws e = ap (λ b. cond b (node_text closed (keyword (codes "mixed") ∷ in_braces (mixed_pieces (infix_of (codes "&")) ws))) (node_text chained (chain (infix_of (codes "&")) (written_tree f p ∷ ws)))) ((flags f p).text ∙ e)

  mutual
    unfolding keyword_rows

    pub tree_reads : {p : Tree} → Printable p → ReadsTree (written_tree f p) p
    tree_reads w.not_allowed = closed_tree _ false false not_allowed_sound (λ i rest. (s.not_allowed, g.not_allowed, record { resolves = refl; clean = (refl, refl, refl, refl); allowed = λ e. refl }))
    tree_reads w.empty = closed_tree _ true false empty_sound (λ i rest. (s.empty, g.empty, record { resolves = refl; clean = (refl, refl, refl, refl); allowed = λ e. absurd e }))
    tree_reads w.text = closed_tree _ false true text_sound (λ i rest. (s.text, g.text, record { resolves = refl; clean = (refl, refl, refl, refl); allowed = λ e. absurd e }))
    tree_reads (w.ref {x = x} n) = closed_tree _ false false (identifier_sound n) (λ i rest. (s.ref x, subst (λ ts. IsCore ts (s.ref x) rest) (sym (identifier_term n i rest)) g.ref, record { resolves = refl; clean = (refl, refl, refl, refl); allowed = λ e. absurd e }))
    tree_reads (w.value h c e) = closed_tree _ false false (value_sound h e) (value_reads h c e)
    tree_reads (w.datum {l = l} {x = x} {ps = ps} d) = closed_tree _ false false (data_sound f ds d) (λ i rest. let y = data_term f ds d i rest in (s.datum y.datatype ps, subst (λ ts. IsCore ts (s.datum y.datatype ps) rest) (sym y.is) (g.datum y.is_datatype y.params), fits_datum y))
    tree_reads (w.datum_but {p = p} d e h) = let a = tree_reads h in chained_tree _ (but_sound (written_tree f p) d a.primary_sound) (but_reads d e a)
    tree_reads (w.list {p = p} h) = let a = tree_reads h in closed_tree _ false false (sound_then list_sound (space_breaks _) (braced_sound a.sound)) (braced_reads (codes "list") (written_tree f p).pieces s.list (λ i j l ts rest q e. g.list e) (λ q e. fits_list e) a.as_pattern)
    tree_reads (w.attribute {n = n} {p = p} c h) =
        let a = tree_reads h in
        let b = class_reads f ds c in
        closed_tree _ false false (named_sound (codes "attribute") attribute_sound b.sound a.sound)
        (named_reads (codes "attribute") (written_name f n).pieces (written_tree f p).pieces s.attribute (λ i j l ts body rest m q e k. g.attribute e k) (λ m q e k. fits_attribute e k) b.as_class a.as_pattern)
    tree_reads (w.element {n = n} {p = p} c h) =
        let a = tree_reads h in
        let b = class_reads f ds c in
        closed_tree _ false false (named_sound (codes "element") element_sound b.sound a.sound)
        (named_reads (codes "element") (written_name f n).pieces (written_tree f p).pieces s.element (λ i j l ts body rest m q e k. g.element e k) (λ m q e k. fits_element e k) b.as_class a.as_pattern)
    tree_reads (w.one_or_more {p = p} h) = let a = tree_reads h in postfixed_tree _ (Some (primary (written_tree f p))) (plus_sound a.primary_sound) (marked (primary (written_tree f p)) 43 pf.Plus plus_is (λ q e. fits_one_or_more e) a.as_primary)
    tree_reads (w.group {p = p} {q = q} {ps = ps} h rs) =
        let a = tree_reads h in
        let b = trees_read comma_between rs in
        chained_tree _ (chain_sound comma_between a b) (with_fits (chain comma (written_trees f (more_trees p (more_trees q ps)))) (λ x e. fits_group e) (chain_reads comma_between a b))
    tree_reads (w.interleave {p = p} {q = q} {ps = ps} e h rs) =
        let a = tree_reads h in
        let b = trees_read ampersand rs in
        subst (λ w. ReadsTree w (r.interleave (more_trees p (more_trees q ps)))) (sym (interleave_plain p (written_trees f (more_trees q ps)) e))
        (chained_tree _ (chain_sound ampersand a b) (with_fits (chain (infix_of (codes "&")) (written_trees f (more_trees p (more_trees q ps)))) (λ x k. fits_interleave e k) (chain_reads ampersand a b)))
    tree_reads (w.mixed {p = p} h) = let a = tree_reads h in closed_tree _ false false (sound_then mixed_sound (space_breaks _) (braced_sound a.sound)) (braced_reads (codes "mixed") (written_tree f p).pieces s.mixed (λ i j l ts rest q e. g.mixed e) (λ q e. fits_mixed e) a.as_pattern)
    tree_reads (w.mixed_several {p = p} {q = q} {ps = ps} h rs) =
        let a = tree_reads h in
        let b = trees_read ampersand rs in
        closed_tree _ false false (sound_then mixed_sound (space_breaks _) (braced_sound (chain_sound ampersand a b)))
        (braced_reads (codes "mixed") (chain (infix_of (codes "&")) (written_trees f (more_trees p (more_trees q ps)))) s.mixed (λ i j l ts rest q e. g.mixed e) (λ q e. fits_mixed_several e) (chain_reads ampersand a b))
    tree_reads (w.choice {p = p} {q = q} {ps = ps} e h rs) =
        let a = tree_reads h in
        let b = trees_read bar rs in
        subst (λ w. ReadsTree w (r.choice (more_trees p (more_trees q ps)))) (sym (choice_plain p (written_trees f (more_trees q ps)) e))
        (chained_tree _ (chain_sound bar a b) (with_fits (chain (infix_of (codes "|")) (written_trees f (more_trees p (more_trees q ps)))) (λ x k. fits_choice e k) (chain_reads bar a b)))
    tree_reads (w.maybe {p = p} e h) =
        let a = tree_reads h in
        let single : optional_member (written_tree f p).repeated (written_tree f p) ≡ primary (written_tree f p) ++ symbol (codes "?") ∷ [] = ap (λ o. optional_member o (written_tree f p)) ((flags f p).repeated e) in
        subst (λ ps. ReadsTree (node_text postfixed ps) (r.choice (more_trees r.empty (more_trees p no_trees)))) (sym single)
        (postfixed_tree _ None (question_sound a.primary_sound) (marked (primary (written_tree f p)) 63 pf.Question question_is (λ q e. fits_maybe e) a.as_primary))
    tree_reads (w.any_number {p = p} h) = let a = tree_reads h in postfixed_tree _ None (star_sound a.primary_sound) (marked (primary (written_tree f p)) 42 pf.Star star_is (λ q e. fits_any_number e) a.as_primary)
    tree_reads (w.maybe_several {p = p} {q = q} {ps = ps} h rs) =
        let a = tree_reads h in
        let b = trees_read bar rs in
        let all = chain (infix_of (codes "|")) (written_trees f (more_trees p (more_trees q ps))) in
        postfixed_tree _ None (question_sound (parenthesized_sound (chain_sound bar a b))) (marked (in_parentheses all) 63 pf.Question question_is (λ q e. fits_maybe_several e) (inside all (chain_reads bar a b)))

    pub trees_read : {op : Operator} {sep : List Piece} → IsSeparator op sep → {ps : Trees} → ArePrinted ps → AreRead op sep ps
    trees_read e (w.last h) = last_read (tree_reads h)
    trees_read e (w.more h rs) = more_read e (tree_reads h) (trees_read e rs)
