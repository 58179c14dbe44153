-- Name classes as they are written are read back.
use Rattle.std.proofs.Common.{◌≡◌, ℕ, ◌+◌, List, [], ◌∷◌, ◌++◌, refl, sym, ap, ◌∙◌, subst}
use Rattle.std.specs.Prelude.{codes, not}
use Rattle.std.specs.Str.{chars, encode_utf8_all}
use Rattle.std.proofs.lemmas.Str.{encodes-chars}
use Rattle.rn_text.specs.Characters.{is_xml_char}
use Rattle.rn_text.specs.Parts.{Piece, symbols}
use Rattle.rn_text.specs.Tokens.{width}
use Rattle.rn_text.proofs.Cutting.SoundPieces.{Sound, free_sound, free_then, sound_then, symbol_sound, prefixed_sound, any_free}
use Rattle.rn_pattern.specs.Tree.{NameTree, NameTrees, any_name_but, ns_name, ns_name_but, name, name_choice, no_names, more_names}
use Rattle.rn_text.specs.Texts.{Text}
use Rattle.rn_syntax.specs.Terminal as t
use Rattle.rn_syntax.specs.Terminal.{◌#◌}
use Rattle.rn_syntax.specs.Tree as s
use Rattle.rn_syntax.specs.Tree.{NameClass, Declaration, classes_of}
use Rattle.rn_syntax.specs.Grammar as g
use Rattle.rn_syntax.specs.Grammar.{Tokens, IsNameClass, IsClassOperand, IsClassPrimary, IsClassCore, AreMoreClasses}
use Rattle.rn_syntax.specs.Places.{place_if}
use Rattle.rn_syntax.specs.TokenTerminals.{symbol_rows}
use Rattle.rn_syntax.specs.declared.tree.Operator.TheVariants as o
use Rattle.rn_syntax.proofs.TokenKinds.PieceTokens.{terms, behind, terms-append, prefixed_term, any_term}
use Rattle.rn_syntax.proofs.Lists.EmptyLists.{both_nil}
use Rattle.rn_simplify.specs.Spelling.{space, symbol, any_of, infix_of, Prefixes, namespace_prefix, closed, chained, NodeText, node_text, operand, primary, in_parentheses, chain, written_name, written_names}
use Rattle.rn_simplify.specs.Printable.{IsClass, every, every_but, all_of, all_of_but, local, full, either, AreClasses, last, more}
use Rattle.rn_simplify.proofs.ReadBack.NamesAndLiterals.{Reads, space_breaks, minus_free, bar_free, parenthesized_sound, word_sound, word_term}
use Rattle.rn_simplify.proofs.ReadBack.NeededBindings.{IsBoundTo, FitsClass, FitClasses}

module _ (f : Prefixes) (ds : List Declaration) where
  abbrev pub Bound : Text → Type 0
  Bound u = IsBoundTo ds (namespace_prefix f u) u

  -- what is written is read as the name class, in each of the three places where a class may stand
  pub record ReadsClass (w : NodeText) (n : NameTree) : Type 0 where
    pub sound : Sound w.pieces
    pub operand_sound : Sound (operand w)
    pub primary_sound : Sound (primary w)
    pub as_class : Reads IsNameClass w.pieces (FitsClass ds n)
    pub as_operand : Reads IsClassOperand (operand w) (FitsClass ds n)
    pub as_primary : Reads IsClassPrimary (primary w) (FitsClass ds n)

  plain : {ts rest : Tokens} {c : NameClass} → IsClassCore ts c rest → IsClassPrimary ts c rest
  plain h = g.primary g.bare h g.none

  inside : (ps : List Piece) {Q : NameClass → Type 0} → Reads IsNameClass ps Q → Reads IsClassPrimary (in_parentheses ps) Q
  unfolding symbol_rows
  inside ps h i rest =
      let j = i + width (symbol (codes "(")) in
      let r = h j (terms (behind j ps) (symbol (codes ")") ∷ []) rest) in
      (r.0, plain (subst (λ l. IsClassCore (t.left_paren # i ∷ l) r.0 rest) (sym (terms-append j ps (symbol (codes ")") ∷ []) rest)) (g.parens r.1)), r.2)

  closed_class : {ps : List Piece} {n : NameTree} → Sound ps → Reads IsClassCore ps (FitsClass ds n) → ReadsClass (node_text closed ps) n
  closed_class s h = record {
    sound = s;
    operand_sound = s;
    primary_sound = s;
    as_class = λ i rest. let r = h i rest in (r.0, g.one (g.plain (plain r.1)), r.2);
    as_operand = λ i rest. let r = h i rest in (r.0, g.plain (plain r.1), r.2);
    as_primary = λ i rest. let r = h i rest in (r.0, plain r.1, r.2);
  }

  chained_class : {ps : List Piece} {n : NameTree} → Sound ps → Reads IsNameClass ps (FitsClass ds n) → ReadsClass (node_text chained ps) n
  chained_class {ps = ps} s h = record {
    sound = s;
    operand_sound = parenthesized_sound s;
    primary_sound = parenthesized_sound s;
    as_class = h;
    as_operand = λ i rest. let r = inside ps h i rest in (r.0, g.plain r.1, r.2);
    as_primary = inside ps h;
  }

  star_sound : Sound (symbol (codes "*") ∷ [])
  unfolding is_xml_char symbols
  star_sound = symbol_sound (codes "*") refl refl

  -- `*` or `p:*`, `-`, and a class
  but_reads : (ps : List Piece) (w : NodeText) (n : NameTree) {Q : NameClass → Type 0} (a : ℕ → s.AnyName)
      → ((i : ℕ) (ts : Tokens) → (x : _) × (terms i ps ts ≡ x ∷ ts) × g.IsAnyName x (a i)) → ((i : ℕ) (c : NameClass) → FitsClass ds n c → Q (s.all_but (a i) c)) → ReadsClass w n
      → Reads IsNameClass (ps ++ (infix_of (codes "-") ++ primary w)) Q
  unfolding symbol_rows
  but_reads ps w n {Q = Q} a begins fits h i rest =
      let k = behind i ps in
      let r = h.as_primary (k + width space + width (symbol (codes "-")) + width space) rest in
      let b = begins i (t.minus # (k + width space) ∷ terms (k + width space + width (symbol (codes "-")) + width space) (primary w) rest) in (
        s.all_but (a i) r.0,
        g.one (subst (λ l. IsClassOperand l (s.all_but (a i) r.0) rest) (sym (terms-append i ps (infix_of (codes "-") ++ primary w) rest ∙ b.1)) (g.except g.bare b.2 r.1)),
        fits i r.0 r.2,
      )

  mutual
    unfolding symbol_rows

    pub class_reads : {n : NameTree} → IsClass Bound Bound n → ReadsClass (written_name f n) n
    class_reads every = closed_class star_sound (λ i rest. (s.all s.any, g.any_name g.all, (refl, refl)))
    class_reads (every_but {n = n} h) =
        let r = class_reads h in
        chained_class (sound_then star_sound (space_breaks _) (free_then minus_free r.primary_sound))
        (but_reads (symbol (codes "*") ∷ []) (written_name f n) n (λ i. s.any) (λ i ts. (_, refl, g.all)) (λ i c e. (ap any_name_but e.0, e.1)) r)
    class_reads (all_of {u = u} b) =
        closed_class (free_sound (any_free (namespace_prefix f u) b.name)) (λ i rest. (
          s.all (s.any_of (encode_utf8_all (namespace_prefix f u)) i),
          subst (λ y. IsClassCore (y # i ∷ rest) (s.all (s.any_of (encode_utf8_all (namespace_prefix f u)) i)) rest) (sym (any_term (namespace_prefix f u) b.name)) (g.any_name g.of),
          (ap ns_name b.meaning, ap (λ x. place_if (not x) i) b.bound),
        ))
    class_reads (all_of_but {u = u} {n = n} b h) =
        let r = class_reads h in
        chained_class (sound_then (free_sound (any_free (namespace_prefix f u) b.name)) (space_breaks _) (free_then minus_free r.primary_sound))
        (but_reads (any_of (namespace_prefix f u) ∷ []) (written_name f n) n (λ i. s.any_of (encode_utf8_all (namespace_prefix f u)) i)
        (λ i ts. (_, ap (λ y. y # i ∷ ts) (any_term (namespace_prefix f u) b.name), g.of))
        (λ i c e. (λ j. ns_name_but (b.meaning j) (e.0 j), both_nil _ _ (ap (λ x. place_if (not x) i) b.bound) e.1)) r)
    class_reads (local {l = l} n) =
        closed_class (word_sound n) (λ i rest. let w = word_term n in (s.name (s.local l), subst (λ ts. IsClassCore ts (s.name (s.local l)) rest) (sym (w.is i rest)) (g.word w.is_word), (refl, refl)))
    class_reads (full {c = c} {u = u} {l = l} b n) =
        let p = namespace_prefix f (c ∷ u) in
        closed_class (prefixed_sound p (chars l) b.name n.is) (λ i rest. (
          s.name (s.prefixed (encode_utf8_all p) (encode_utf8_all (chars l)) i),
          subst (λ y. IsClassCore (y # i ∷ rest) (s.name (s.prefixed (encode_utf8_all p) (encode_utf8_all (chars l)) i)) rest) (sym (prefixed_term p (chars l) b.name)) g.prefixed_name,
          (λ j. name (b.meaning j) (encodes-chars l n.utf8 j), ap (λ x. place_if (not x) i) b.bound),
        ))
    class_reads (either {n = n} {m = m} {ns = ns} h r) =
        let first = class_reads h in
        let others = classes_read r in
        chained_class (sound_then first.operand_sound (space_breaks _) (free_then bar_free others.0))
        (λ i rest.
        let p = operand (written_name f n) in
        let k = behind i p in
        let b = others.1 (k + width space + width (symbol (codes "|")) + width space) (k + width space) rest in
        let a = first.as_operand i (t.operator o.Bar # (k + width space) ∷ terms (k + width space + width (symbol (codes "|")) + width space) (chain (infix_of (codes "|")) (written_names f (more_names m ns))) rest) in (
          s.choice (classes_of (a.0 ∷ b.0)),
          subst (λ l. IsNameClass l (s.choice (classes_of (a.0 ∷ b.0))) rest) (sym (terms-append i p (infix_of (codes "|") ++ chain (infix_of (codes "|")) (written_names f (more_names m ns))) rest)) (g.choice a.1 b.1),
          (λ j. name_choice (more_names (a.2.0 j) (b.2.0 j)), both_nil _ _ a.2.1 b.2.1),
        ))

    -- the members behind the first
    pub classes_read : {ns : NameTrees} → AreClasses Bound Bound ns
        → Sound (chain (infix_of (codes "|")) (written_names f ns)) × ((i j : ℕ) (rest : Tokens) → (cs : List NameClass) × AreMoreClasses (t.operator o.Bar # j ∷ terms i (chain (infix_of (codes "|")) (written_names f ns)) rest) cs rest × FitClasses ds ns (classes_of cs))
    classes_read (last h) =
        let r = class_reads h in
        (r.operand_sound, λ i j rest. let a = r.as_operand i rest in (a.0 ∷ [], g.last a.1, (λ k. more_names (a.2.0 k) no_names, both_nil _ _ a.2.1 refl)))
    classes_read (more {n = n} {m = m} {ns = ns} h rs) =
        let first = class_reads h in
        let others = classes_read rs in (
          sound_then first.operand_sound (space_breaks _) (free_then bar_free others.0),
          λ i j rest.
              let p = operand (written_name f n) in
              let k = behind i p in
              let b = others.1 (k + width space + width (symbol (codes "|")) + width space) (k + width space) rest in
              let a = first.as_operand i (t.operator o.Bar # (k + width space) ∷ terms (k + width space + width (symbol (codes "|")) + width space) (chain (infix_of (codes "|")) (written_names f (more_names m ns))) rest) in (
                a.0 ∷ b.0,
                subst (λ l. AreMoreClasses (t.operator o.Bar # j ∷ l) (a.0 ∷ b.0) rest) (sym (terms-append i p (infix_of (codes "|") ++ chain (infix_of (codes "|")) (written_names f (more_names m ns))) rest)) (g.more a.1 b.1),
                (λ x. more_names (a.2.0 x) (b.2.0 x), both_nil _ _ a.2.1 b.2.1),
              ),
        )
