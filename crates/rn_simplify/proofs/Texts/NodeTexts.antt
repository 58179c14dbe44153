-- The texts of patterns, node by node.
use Rattle.std.proofs.Common.{◌≡◌, ℕ, suc, ◌+◌, ◌<◌, List, [], ◌∷◌, ◌++◌, length, drop, get_or, refl, sym, ap, ◌∙◌, subst, cond, nat_eq, true, false, Bool, Option, Some, None, ◌≢◌, ◌-◌, ◌≤◌, arith, rules, take, length-drop, append-nil}
use Rattle.std.proofs.Math.Dec.{eqb-suc-zero}
use Rattle.std.specs.Prelude.{codes, Box, MatchOption}
use Rattle.std.specs.declared.rc.Rc.{Rc}
use Rattle.std.specs.declared.alloc.Global.{Global}
use Rattle.std.specs.Str.{chars, IsUtf8}
use Rattle.std.proofs.lemmas.Str.{encodes-chars}
use Rattle.rn_text.specs.declared.parts.Kind.TheVariants.{Keyword}
use Rattle.rn_text.specs.declared.parts.Part.TheVariants.{Token}
use Rattle.rn_text.specs.Parts.{Piece}
use Rattle.rn_pattern.specs.Tree as tree
use Rattle.rn_pattern.specs.Tree.{NameTree, Tree}
use Rattle.rn_text.specs.Texts.{Text}
use Rattle.rn_pattern.specs.declared.tree.Data.{Data}
use Rattle.rn_pattern.specs.declared.tree.Named.{Named}
use Rattle.rn_pattern.specs.declared.tree.Pattern.{Pattern}
use Rattle.rn_pattern.specs.declared.tree.Pattern.TheOpen.{Pattern-F}
use Rattle.rn_pattern.specs.declared.tree.Pattern.TheViews.{out-Pattern, roll-Pattern, the_lemmas}
use Rattle.rn_pattern.specs.declared.tree.Pattern.TheFolds.{fold-roll-Pattern}
use Rattle.rn_simplify.specs.declared.writer.Writer.{Writer}
use Rattle.rn_simplify.specs.Spelling.{Prefixes, NodeText, symbol, keyword, space, infix_of, in_braces, in_parentheses, primary, operand, chain, mixed_pieces, optional, optional_member, written_name, written_tree, written_choice, written_interleave}
use Rattle.rn_pattern.specs.View.{named_step, pattern_step, pattern_view}
use Rattle.rn_simplify.specs.inside.Writes.{data_text, written_members, begins, none, opening, closing, Writes, WritesBytes}
use Rattle.rn_simplify.proofs.Texts.Writing.{writes_nil, writes_as, writes_then, writes_pieces}
use Rattle.rn_simplify.proofs.Texts.PartTexts.{writes_minus, writes_braced, writes_parenthesized, writes_part}
use Rattle.rn_simplify.proofs.Texts.PatternTexts.{space_written}
use Rattle.rn_simplify.proofs.ReadBack.Chains.{before, before_none, before_some, writes_row_more}
use Rattle.std.proofs.lemmas.List.{take_more, take_all, get_or-drop}
use Rattle.rn_pattern.specs.declared.tree.Pattern.TheVariants as pat

-- ---- words and symbols

pub writes_not_allowed : {a b : Writer} → WritesBytes (codes "notAllowed") none a b → Writes (keyword (codes "notAllowed") ∷ []) a b
unfolding lib.Utf8.encode chars
writes_not_allowed h = writes_pieces _ refl (λ n. refl) h

pub writes_empty : {a b : Writer} → WritesBytes (codes "empty") none a b → Writes (keyword (codes "empty") ∷ []) a b
unfolding lib.Utf8.encode chars
writes_empty h = writes_pieces _ refl (λ n. refl) h

pub writes_text : {a b : Writer} → WritesBytes (codes "text") none a b → Writes (keyword (codes "text") ∷ []) a b
unfolding lib.Utf8.encode chars
writes_text h = writes_pieces _ refl (λ n. refl) h

pub writes_plus : {a b : Writer} → WritesBytes (codes "+") none a b → Writes (symbol (codes "+") ∷ []) a b
unfolding lib.Utf8.encode chars
writes_plus h = writes_pieces _ refl (λ n. refl) h

pub writes_star : {a b : Writer} → WritesBytes (codes "*") none a b → Writes (symbol (codes "*") ∷ []) a b
unfolding lib.Utf8.encode chars
writes_star h = writes_pieces _ refl (λ n. refl) h

pub writes_question : {a b : Writer} → WritesBytes (codes "?") none a b → Writes (symbol (codes "?") ∷ []) a b
unfolding lib.Utf8.encode chars
writes_question h = writes_pieces _ refl (λ n. refl) h

writes_list_word : {a b : Writer} → WritesBytes (codes "list") none a b → Writes (keyword (codes "list") ∷ []) a b
unfolding lib.Utf8.encode chars
writes_list_word h = writes_pieces _ refl (λ n. refl) h

writes_mixed_word : {a b : Writer} → WritesBytes (codes "mixed") none a b → Writes (keyword (codes "mixed") ∷ []) a b
unfolding lib.Utf8.encode chars
writes_mixed_word h = writes_pieces _ refl (λ n. refl) h

-- ---- nodes of one pattern

pub writes_except : (f : Prefixes) (p : Tree) {a b c : Writer} → WritesBytes (codes " - ") none a b → Writes (primary (written_tree f p)) b c → Writes (infix_of (codes "-") ++ primary (written_tree f p)) a c
writes_except f p h k = writes_then (infix_of (codes "-")) (primary (written_tree f p)) (writes_minus h) k

-- with what is excepted, if anything is
pub writes_datum : (f : Prefixes) (d : Box Data Global) (o : Option (Box Pattern Global)) {a b c : Writer} → Writes (data_text f d.value) a b → MatchOption o (Writes [] b c) (λ p. Writes (infix_of (codes "-") ++ primary (written_tree f (pattern_view p.value))) b c) → Writes (written_tree f (pattern_view (pat.Datum d o))).pieces a c
writes_datum f d None {a} {b} {c} h k =
    let e = ap pattern_view (sym (pat.rolls-Datum d None)) ∙ fold-roll-Pattern Tree (NameTree × Tree) pattern_step named_step (Pattern-F.Datum d None) in
    subst (λ t. Writes (written_tree f t).pieces a c) (sym e) (writes_as (append-nil _) (writes_then (data_text f d.value) [] h k))
writes_datum f d (Some p) {a} {b} {c} h k =
    let e = ap pattern_view (sym (pat.rolls-Datum d (Some p))) ∙ fold-roll-Pattern Tree (NameTree × Tree) pattern_step named_step (Pattern-F.Datum d (Some p)) in
    subst (λ t. Writes (written_tree f t).pieces a c) (sym e) (writes_then (data_text f d.value) (infix_of (codes "-") ++ primary (written_tree f (pattern_view p.value))) h k)

pub writes_list : (f : Prefixes) (p : Tree) {a b c : Writer} → WritesBytes (codes "list") none a b → Writes (in_braces (written_tree f p).pieces) b c → Writes (written_tree f (tree.list p)).pieces a c
writes_list f p h k = writes_then (keyword (codes "list") ∷ []) (in_braces (written_tree f p).pieces) (writes_list_word h) k

-- the keyword and the name class of an element or an attribute
pub writes_head : (f : Prefixes) (k : Text) (n : NameTree) {a b c d : Writer} → IsUtf8 k → WritesBytes k none a b → WritesBytes (32 ∷ []) none b c → Writes (written_name f n).pieces c d → Writes (keyword (chars k) ∷ space ∷ (written_name f n).pieces) a d
writes_head f k n u h j l =
    writes_then (keyword (chars k) ∷ []) (space ∷ (written_name f n).pieces) (writes_part (Token Keyword) (chars k) k refl (encodes-chars k u) h)
    (writes_then (space ∷ []) (written_name f n).pieces (space_written j) l)

pub writes_attribute : (f : Prefixes) (n : NameTree) (p : Tree) {a b c : Writer} → Writes (keyword (chars (codes "attribute")) ∷ space ∷ (written_name f n).pieces) a b → Writes (in_braces (written_tree f p).pieces) b c → Writes (written_tree f (tree.attribute n p)).pieces a c
unfolding lib.Utf8.encode chars
writes_attribute f n p h k = writes_then (keyword (codes "attribute") ∷ space ∷ (written_name f n).pieces) (in_braces (written_tree f p).pieces) h k

pub writes_element : (f : Prefixes) (n : NameTree) (p : Tree) {a b c : Writer} → Writes (keyword (chars (codes "element")) ∷ space ∷ (written_name f n).pieces) a b → Writes (in_braces (written_tree f p).pieces) b c → Writes (written_tree f (tree.element n p)).pieces a c
unfolding lib.Utf8.encode chars
writes_element f n p h k = writes_then (keyword (codes "element") ∷ space ∷ (written_name f n).pieces) (in_braces (written_tree f p).pieces) h k

pub writes_one_or_more : (f : Prefixes) (p : Tree) {a b c : Writer} → Writes (primary (written_tree f p)) a b → WritesBytes (codes "+") none b c → Writes (written_tree f (tree.one_or_more p)).pieces a c
writes_one_or_more f p h k = writes_then (primary (written_tree f p)) (symbol (codes "+") ∷ []) h (writes_plus k)

-- ---- a choice with empty

pub writes_repeated : (f : Prefixes) (p : Tree) {a b c : Writer} → Writes (primary (written_tree f p)) a b → WritesBytes (codes "*") none b c → Writes (optional_member (written_tree f (tree.one_or_more p)).repeated (written_tree f (tree.one_or_more p))) a c
writes_repeated f p h k = writes_then (primary (written_tree f p)) (symbol (codes "*") ∷ []) h (writes_star k)

pub writes_maybe : (w : NodeText) {a b c : Writer} → w.repeated ≡ None → Writes (primary w) a b → WritesBytes (codes "?") none b c → Writes (optional_member w.repeated w) a c
writes_maybe w {a = a} {c = c} e h k = subst (λ r. Writes (optional_member r w) a c) (sym e) (writes_then (primary w) (symbol (codes "?") ∷ []) h (writes_question k))

pub writes_no_other : (f : Prefixes) (ps : List (Rc Pattern Global)) {a b : Writer} → length ps ≡ 1 → WritesBytes (codes "empty") none a b → Writes (optional (written_members f (drop 1 ps))) a b
writes_no_other f [] e h = absurd (omega (arith, e))
writes_no_other f (p ∷ []) e h = writes_empty h
writes_no_other f (p ∷ q ∷ ps) e h = absurd (omega (arith, e))

pub writes_one_other : (f : Prefixes) (ps : List (Rc Pattern Global)) (p : Rc Pattern Global) {a b : Writer} → length ps ≡ 2 → p ≡ get_or ps 1 p → Writes (optional_member (written_tree f (pattern_view p.value)).repeated (written_tree f (pattern_view p.value))) a b → Writes (optional (written_members f (drop 1 ps))) a b
writes_one_other f [] p e i h = absurd (omega (arith, e))
writes_one_other f (q ∷ []) p e i h = absurd (omega (arith, e))
writes_one_other f (q ∷ r ∷ []) p {a} {b} e i h = subst (λ (x : Rc Pattern Global). Writes (optional_member (written_tree f (pattern_view x.value)).repeated (written_tree f (pattern_view x.value))) a b) i h
writes_one_other f (q ∷ r ∷ t ∷ ps) p e i h = absurd (omega (arith, e))

pub writes_others : (f : Prefixes) (ps : List (Rc Pattern Global)) {a b c d e : Writer} → 0 < length ps → length ps ≢ 1 → length ps ≢ 2 → WritesBytes (codes "(") opening a b → Writes (chain (infix_of (codes "|")) (written_members f (drop 1 ps))) b c → WritesBytes (codes ")") closing c d → WritesBytes (codes "?") none d e → Writes (optional (written_members f (drop 1 ps))) a e
writes_others f [] g i j h k l m = absurd (omega (arith, g))
writes_others f (w ∷ []) g i j h k l m = absurd (i refl)
writes_others f (w ∷ v ∷ []) g i j h k l m = absurd (j refl)
writes_others f (w ∷ v ∷ u ∷ ws) g i j h k l m = writes_then (in_parentheses (chain (infix_of (codes "|")) (written_members f (v ∷ u ∷ ws)))) (symbol (codes "?") ∷ []) (writes_parenthesized _ h k l) (writes_question m)

-- ---- choices and interleaves, by their first members

pub writes_no_choice : (ws : List NodeText) {a b : Writer} → nat_eq (length ws) 0 ≡ true → WritesBytes (codes "notAllowed") none a b → Writes (written_choice ws).pieces a b
writes_no_choice [] e h = writes_not_allowed h
writes_no_choice (w ∷ ws) e h = absurd (let y = eqb-suc-zero (length ws) in cc)

choice_of_empty : (b : Bool) (v w : NodeText) {a c : Writer} → b ≡ true → Writes v.pieces a c → Writes (cond b v w).pieces a c
choice_of_empty true v w e h = h
choice_of_empty false v w e h = absurd cc

choice_of_none : (b : Bool) (v w : NodeText) {a c : Writer} → b ≡ false → Writes w.pieces a c → Writes (cond b v w).pieces a c
choice_of_none true v w e h = absurd cc
choice_of_none false v w e h = h

pub writes_optional : (f : Prefixes) (ps : List (Rc Pattern Global)) {a b : Writer} → begins (λ w. w.is_empty) (written_members f ps) ≡ true → Writes (optional (written_members f (drop 1 ps))) a b → Writes (written_choice (written_members f ps)).pieces a b
writes_optional f [] e h = absurd cc
writes_optional f (p ∷ ps) e h = choice_of_empty (written_tree f (pattern_view p.value)).is_empty _ _ e h

pub writes_choice : (ws : List NodeText) {a b : Writer} → nat_eq (length ws) 0 ≡ false → begins (λ w. w.is_empty) ws ≡ false → Writes (chain (infix_of (codes "|")) ws) a b → Writes (written_choice ws).pieces a b
writes_choice [] i e h = absurd cc
writes_choice (w ∷ ws) i e h = choice_of_none w.is_empty _ _ e h

pub writes_no_interleave : (ws : List NodeText) {a b : Writer} → nat_eq (length ws) 0 ≡ true → WritesBytes (codes "empty") none a b → Writes (written_interleave ws).pieces a b
writes_no_interleave [] e h = writes_empty h
writes_no_interleave (w ∷ ws) e h = absurd (let y = eqb-suc-zero (length ws) in cc)

pub writes_mixed : (f : Prefixes) (ps : List (Rc Pattern Global)) {a b c d e : Writer} → begins (λ w. w.is_text) (written_members f ps) ≡ true → WritesBytes (codes "mixed") none a b → WritesBytes (codes " { ") opening b c → Writes (mixed_pieces (infix_of (codes "&")) (written_members f (drop 1 ps))) c d → WritesBytes (codes " }") closing d e → Writes (written_interleave (written_members f ps)).pieces a e
writes_mixed f [] i h j k l = absurd cc
writes_mixed f (p ∷ ps) i h j k l = choice_of_empty (written_tree f (pattern_view p.value)).is_text _ _ i (writes_then (keyword (codes "mixed") ∷ []) (in_braces (mixed_pieces (infix_of (codes "&")) (written_members f ps))) (writes_mixed_word h) (writes_braced _ j k l))

pub writes_interleave : (ws : List NodeText) {a b : Writer} → nat_eq (length ws) 0 ≡ false → begins (λ w. w.is_text) ws ≡ false → Writes (chain (infix_of (codes "&")) ws) a b → Writes (written_interleave ws).pieces a b
writes_interleave [] i e h = absurd cc
writes_interleave (w ∷ ws) i e h = choice_of_none w.is_text _ _ e h

pub writes_one_mixed : (f : Prefixes) (ps : List (Rc Pattern Global)) (p : Rc Pattern Global) {a b : Writer} → length ps ≡ 2 → p ≡ get_or ps 1 p → Writes (written_tree f (pattern_view p.value)).pieces a b → Writes (mixed_pieces (infix_of (codes "&")) (written_members f (drop 1 ps))) a b
writes_one_mixed f [] p e i h = absurd (omega (arith, e))
writes_one_mixed f (q ∷ []) p e i h = absurd (omega (arith, e))
writes_one_mixed f (q ∷ r ∷ []) p {a} {b} e i h = subst (λ (x : Rc Pattern Global). Writes (written_tree f (pattern_view x.value)).pieces a b) i h
writes_one_mixed f (q ∷ r ∷ t ∷ ps) p e i h = absurd (omega (arith, e))

pub writes_several_mixed : (f : Prefixes) (ps : List (Rc Pattern Global)) {a b : Writer} → length ps ≢ 2 → Writes (chain (infix_of (codes "&")) (written_members f (drop 1 ps))) a b → Writes (mixed_pieces (infix_of (codes "&")) (written_members f (drop 1 ps))) a b
writes_several_mixed f [] e h = h
writes_several_mixed f (p ∷ []) e h = h
writes_several_mixed f (p ∷ q ∷ []) e h = absurd (e refl)
writes_several_mixed f (p ∷ q ∷ r ∷ ps) e h = h

-- ---- chains

pub rows_more : (f : Prefixes) (s : List Piece) (ps : List (Rc Pattern Global)) (i : ℕ) (p : Rc Pattern Global) {a b c d : Writer} → i < length ps → p ≡ get_or ps i p → Writes (chain s (written_members f (take i ps))) a b → Writes (before (take i ps) s) b c → Writes (operand (written_tree f (pattern_view p.value))) c d → Writes (chain s (written_members f (take (i + 1) ps))) a d
rows_more f s ps i p {a} {b} {c} {d} l e h j k =
    let t : take (i + 1) ps ≡ take i ps ++ p ∷ [] = take_more ps i p l ∙ ap (λ y. take i ps ++ y ∷ []) (sym e) in
    subst (λ y. Writes (chain s (written_members f y)) a d) (sym t) (writes_row_more (λ (q : Rc Pattern Global). written_tree f (pattern_view q.value)) s (take i ps) p h j k)

pub chain_begins : (f : Prefixes) (s : List Piece) (ps : List (Rc Pattern Global)) (k : ℕ) {a : Writer} → Writes (chain s (written_members f (take (k - k) (drop k ps)))) a a
chain_begins f s ps k {a} =
    let e : k - k ≡ 0 = omega arith in
    subst (λ n. Writes (chain s (written_members f (take n (drop k ps)))) a a) (sym e) (writes_nil a)

behind : (ps : List (Rc Pattern Global)) (k i : ℕ) → k ≤ i → i < length ps → i - k < length (drop k ps)
behind ps k i l h = omega (arith, length-drop k ps)

pub chain_more : (f : Prefixes) (s : List Piece) (ps : List (Rc Pattern Global)) (k i : ℕ) (p : Rc Pattern Global) {a b c d : Writer} → k ≤ i → i < length ps → p ≡ get_or ps i p → Writes (chain s (written_members f (take (i - k) (drop k ps)))) a b → Writes (before (take (i - k) (drop k ps)) s) b c → Writes (operand (written_tree f (pattern_view p.value))) c d → Writes (chain s (written_members f (take (i + 1 - k) (drop k ps)))) a d
chain_more f s ps k i p {a} {b} {c} {d} l h e x y z =
    let n : (i - k) + 1 ≡ i + 1 - k = omega arith in
    let m : i ≡ k + (i - k) = omega arith in
    let q : p ≡ get_or (drop k ps) (i - k) p = e ∙ ap (λ j. get_or ps j p) m ∙ sym (get_or-drop k ps (i - k) p) in
    subst (λ j. Writes (chain s (written_members f (take j (drop k ps)))) a d) n (rows_more f s (drop k ps) (i - k) p (behind ps k i l h) q x y z)

pub chain_no_connector : (s : List Piece) (ps : List (Rc Pattern Global)) (k i : ℕ) {a : Writer} → i ≤ k → Writes (before (take (i - k) (drop k ps)) s) a a
chain_no_connector s ps k i l = before_none (drop k ps) (i - k) s (omega arith)

pub chain_connector : (s : List Piece) (ps : List (Rc Pattern Global)) (k i : ℕ) {a b : Writer} → k < i → i < length ps → Writes s a b → Writes (before (take (i - k) (drop k ps)) s) a b
chain_connector s ps k i l h w = before_some (drop k ps) (i - k) s (omega arith) (behind ps k i (omega arith) h) w

pub chain_ends : (f : Prefixes) (s : List Piece) (ps : List (Rc Pattern Global)) (k i : ℕ) {a b : Writer} → length ps ≤ i → Writes (chain s (written_members f (take (i - k) (drop k ps)))) a b → Writes (chain s (written_members f (drop k ps))) a b
chain_ends f s ps k i {a} {b} l h = subst (λ y. Writes (chain s (written_members f y)) a b) (take_all (i - k) (drop k ps) (omega (arith, length-drop k ps))) h

-- ---- what is no repetition

by_cond : (b : Bool) (v w : NodeText) → v.repeated ≡ None → w.repeated ≡ None → (cond b v w).repeated ≡ None
by_cond true v w e h = e
by_cond false v w e h = h

choice_not_repeated : (ws : List NodeText) → (written_choice ws).repeated ≡ None
choice_not_repeated [] = refl
choice_not_repeated (w ∷ ws) = by_cond w.is_empty _ _ refl refl

interleave_not_repeated : (ws : List NodeText) → (written_interleave ws).repeated ≡ None
interleave_not_repeated [] = refl
interleave_not_repeated (w ∷ ws) = by_cond w.is_text _ _ refl refl

abbrev repeated_of : Prefixes → Pattern → Option (List Piece)
repeated_of f p = (written_tree f (pattern_view p)).repeated

rolled : (f : Prefixes) (p : Pattern) (x : Pattern-F Pattern Named) → p ≡ roll-Pattern x → repeated_of f p ≡ repeated_of f (roll-Pattern x)
rolled f p x e = ap (repeated_of f) e

not_repeated_at : (f : Prefixes) (p : Pattern) (x : Pattern-F Pattern Named) → p ≡ roll-Pattern x → ((b : Box Pattern Global) → p ≡ pat.OneOrMore b → ⊥) → repeated_of f p ≡ None
not_repeated_at f p (Pattern-F.OneOrMore b) e h = absurd (h b (e ∙ pat.rolls-OneOrMore b))
not_repeated_at f p Pattern-F.NotAllowed e h = rolled f p _ e ∙ ap (λ t. (written_tree f t).repeated) (fold-roll-Pattern Tree (NameTree × Tree) pattern_step named_step Pattern-F.NotAllowed)
not_repeated_at f p Pattern-F.Empty e h = rolled f p _ e ∙ ap (λ t. (written_tree f t).repeated) (fold-roll-Pattern Tree (NameTree × Tree) pattern_step named_step Pattern-F.Empty)
not_repeated_at f p Pattern-F.Text e h = rolled f p _ e ∙ ap (λ t. (written_tree f t).repeated) (fold-roll-Pattern Tree (NameTree × Tree) pattern_step named_step Pattern-F.Text)
not_repeated_at f p (Pattern-F.Ref x) e h = rolled f p _ e ∙ ap (λ t. (written_tree f t).repeated) (fold-roll-Pattern Tree (NameTree × Tree) pattern_step named_step (Pattern-F.Ref x))
not_repeated_at f p (Pattern-F.Value v) e h = rolled f p _ e ∙ ap (λ t. (written_tree f t).repeated) (fold-roll-Pattern Tree (NameTree × Tree) pattern_step named_step (Pattern-F.Value v))
not_repeated_at f p (Pattern-F.Datum d None) e h = rolled f p _ e ∙ ap (λ t. (written_tree f t).repeated) (fold-roll-Pattern Tree (NameTree × Tree) pattern_step named_step (Pattern-F.Datum d None))
not_repeated_at f p (Pattern-F.Datum d (Some b)) e h = rolled f p _ e ∙ ap (λ t. (written_tree f t).repeated) (fold-roll-Pattern Tree (NameTree × Tree) pattern_step named_step (Pattern-F.Datum d (Some b)))
not_repeated_at f p (Pattern-F.List b) e h = rolled f p _ e ∙ ap (λ t. (written_tree f t).repeated) (fold-roll-Pattern Tree (NameTree × Tree) pattern_step named_step (Pattern-F.List b))
not_repeated_at f p (Pattern-F.Attribute n) e h = rolled f p _ e ∙ ap (λ t. (written_tree f t).repeated) (fold-roll-Pattern Tree (NameTree × Tree) pattern_step named_step (Pattern-F.Attribute n))
not_repeated_at f p (Pattern-F.Element n) e h = rolled f p _ e ∙ ap (λ t. (written_tree f t).repeated) (fold-roll-Pattern Tree (NameTree × Tree) pattern_step named_step (Pattern-F.Element n))
not_repeated_at f p (Pattern-F.Group v) e h = rolled f p _ e ∙ ap (λ t. (written_tree f t).repeated) (fold-roll-Pattern Tree (NameTree × Tree) pattern_step named_step (Pattern-F.Group v))
not_repeated_at f p (Pattern-F.Interleave v) e h = rolled f p _ e ∙ ap (λ t. (written_tree f t).repeated) (fold-roll-Pattern Tree (NameTree × Tree) pattern_step named_step (Pattern-F.Interleave v)) ∙ interleave_not_repeated _
not_repeated_at f p (Pattern-F.Choice v) e h = rolled f p _ e ∙ ap (λ t. (written_tree f t).repeated) (fold-roll-Pattern Tree (NameTree × Tree) pattern_step named_step (Pattern-F.Choice v)) ∙ choice_not_repeated _

pub not_repeated : (f : Prefixes) (p : Pattern) → ((b : Box Pattern Global) → p ≡ pat.OneOrMore b → ⊥) → (written_tree f (pattern_view p)).repeated ≡ None
not_repeated f p h = not_repeated_at f p (out-Pattern p) (search (rules, the_lemmas)) h

pub row_count : (f : Prefixes) (ps : List (Rc Pattern Global)) (k : ℕ) (b : Bool) → nat_eq (length ps) k ≡ b → nat_eq (length (written_members f ps)) k ≡ b
row_count f ps k b e = ap (λ n. nat_eq n k) (count ps) ∙ e
  where
    count : (ps : List (Rc Pattern Global)) → length (written_members f ps) ≡ length ps
    count [] = refl
    count (p ∷ ps) = ap suc (count ps)
