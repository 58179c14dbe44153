-- Tokens are one pattern at most.
use Rattle.std.proofs.Common.{◌≡◌, ◌<◌, ◌⊎◌, inl, inr, ⊎_elim, ℕ, arith, true, List, [], ◌∷◌, Some, None, refl, sym, ap, ◌∙◌, subst}
use Rattle.std.proofs.lemmas.Bool.{false≢true}
use Rattle.rn_text.specs.declared.keywords.Keyword.TheVariants as k
use Rattle.rn_syntax.specs.declared.tree.Operator.{Operator}
use Rattle.rn_syntax.specs.declared.tree.Postfix.{Postfix}
use Rattle.rn_syntax.specs.Terminal.{Terminal, Placed, ◌#◌, ident, keyword, prefixed, segment, operator, postfix, minus, tilde, follow, left_brace, right_brace, left_paren, left_bracket}
use Rattle.rn_syntax.specs.Tree as t
use Rattle.rn_syntax.specs.Tree.{Datatype, Params, Pattern, patterns_of}
use Rattle.rn_syntax.specs.Grammar as g
use Rattle.rn_syntax.specs.inside.Follow.{Starts, no_bracket, no_follow, no_tilde, behind_primary, behind_operand, behind_pattern, first_terminal, no_brace, behind_core}
use Rattle.rn_syntax.specs.Grammar.{Tokens, IsLiteral, MayHaveAnnotation, AreFollows, IsDatatype, MayHaveParams, IsPattern, AreMore, IsOperand, IsPrimary, IsCore}
use Rattle.rn_syntax.proofs.OneReading.OneClass.{literal_one, may_one, follows_one, datatype_one, starts_to, first_placed, tail, place_of, may_params_one, minus_stays, class_one}

pub to_operand : (x : Terminal) → behind_pattern x ≡ true → behind_operand x ≡ true
to_operand (operator o) e = absurd (false≢true e)
to_operand x e = e

pub to_primary : (x : Terminal) → behind_operand x ≡ true → behind_primary x ≡ true
to_primary (postfix s) e = absurd (false≢true e)
to_primary x e = e

pub primary_to_follow : (x : Terminal) → behind_primary x ≡ true → no_follow x ≡ true
primary_to_follow follow e = absurd (false≢true e)
primary_to_follow x e = refl

pub primary_to_core : (x : Terminal) → behind_primary x ≡ true → behind_core x ≡ true
primary_to_core tilde e = absurd (false≢true e)
primary_to_core (segment s) e = absurd (false≢true e)
primary_to_core left_brace e = absurd (false≢true e)
primary_to_core x e = refl

pub core_to_tilde : (x : Terminal) → behind_core x ≡ true → no_tilde x ≡ true
core_to_tilde tilde e = absurd (false≢true e)
core_to_tilde x e = refl

pub core_to_brace : (x : Terminal) → behind_core x ≡ true → no_brace x ≡ true
core_to_brace left_brace e = absurd (false≢true e)
core_to_brace x e = refl

pub follows_core : {ts r : Tokens} → AreFollows ts r → Starts behind_primary r → Starts behind_core ts
follows_core {ts = ts} g.none a = starts_to behind_primary behind_core primary_to_core ts a
follows_core (g.more n c f) a = refl

-- which core begins with the terminal
abbrev pub kind_of : Terminal → ℕ
kind_of (keyword k.Element) = 0
kind_of (keyword k.Attribute) = 1
kind_of (keyword k.List) = 2
kind_of (keyword k.Mixed) = 3
kind_of (keyword k.Empty) = 4
kind_of (keyword k.NotAllowed) = 5
kind_of (keyword k.Text) = 6
kind_of (ident n) = 7
kind_of (segment s) = 8
kind_of (keyword k.String) = 9
kind_of (keyword k.Token) = 9
kind_of (prefixed n l) = 9
kind_of left_paren = 10
kind_of x = 11

pub tag : {ts r : Tokens} {p : Pattern} → IsCore ts p r → ℕ
tag (g.element c p) = 0
tag (g.attribute c p) = 1
tag (g.list p) = 2
tag (g.mixed p) = 3
tag g.empty = 4
tag g.not_allowed = 5
tag g.text = 6
tag g.ref = 7
tag (g.value l) = 8
tag (g.typed_value d l) = 9
tag (g.datum d m) = 9
tag (g.parens p) = 10

pub datatype_kind : {x : Placed} {d : Datatype} (us : Tokens) → IsDatatype x d → kind_of (first_terminal (x ∷ us)) ≡ 9
datatype_kind us g.string = refl
datatype_kind us g.token = refl
datatype_kind us g.named = refl

pub literal_kind : {ts r : Tokens} {s : List ℕ} → IsLiteral ts s r → kind_of (first_terminal ts) ≡ 8
literal_kind g.one = refl
literal_kind (g.joined l) = refl

pub core_kind : {ts r : Tokens} {p : Pattern} (c : IsCore ts p r) → kind_of (first_terminal ts) ≡ tag c
unfolding tag
core_kind (g.element c p) = refl
core_kind (g.attribute c p) = refl
core_kind (g.list p) = refl
core_kind (g.mixed p) = refl
core_kind g.empty = refl
core_kind g.not_allowed = refl
core_kind g.text = refl
core_kind g.ref = refl
core_kind (g.value l) = literal_kind l
core_kind (g.typed_value {ts = ts} d l) = datatype_kind ts d
core_kind (g.datum {ts = ts} d m) = datatype_kind ts d
core_kind (g.parens p) = refl

pub other_core : {ts r r' : Tokens} {p q : Pattern} (c : IsCore ts p r) (d : IsCore ts q r') → (tag c ≡ tag d → ⊥) → ⊥
other_core c d n = n (sym (core_kind c) ∙ core_kind d)

pub kind_no_bracket : (ts : Tokens) (n : ℕ) → n < 11 → kind_of (first_terminal ts) ≡ n → Starts no_bracket ts
kind_no_bracket [] n l e = tt
kind_no_bracket (left_bracket # i ∷ ts) n l e = absurd (omega (arith, l, e))
kind_no_bracket (x # i ∷ ts) n l e = refl

pub tag_small : {ts r : Tokens} {p : Pattern} (c : IsCore ts p r) → tag c < 11
unfolding tag
tag_small (g.element c p) = omega arith
tag_small (g.attribute c p) = omega arith
tag_small (g.list p) = omega arith
tag_small (g.mixed p) = omega arith
tag_small g.empty = omega arith
tag_small g.not_allowed = omega arith
tag_small g.text = omega arith
tag_small g.ref = omega arith
tag_small (g.value l) = omega arith
tag_small (g.typed_value d l) = omega arith
tag_small (g.datum d m) = omega arith
tag_small (g.parens p) = omega arith

pub core_front : {ts r : Tokens} {p : Pattern} → IsCore ts p r → Starts no_bracket ts
core_front {ts = ts} c = kind_no_bracket ts (tag c) (tag_small c) (core_kind c)

pub datatype_front : {x : Placed} {d : Datatype} (us : Tokens) → IsDatatype x d → Starts no_bracket (x ∷ us)
datatype_front us n = kind_no_bracket (_ ∷ us) 9 (omega arith) (datatype_kind us n)

pub datum_core : {x : Placed} {us r : Tokens} {p : Pattern} {d : Datatype} → IsCore (x ∷ us) p r → IsDatatype x d → (kind_of (first_terminal us) ≡ 8) ⊎ ((ps : Params) × MayHaveParams us ps r)
datum_core (g.typed_value y l) n = inl (literal_kind l)
datum_core (g.datum {ps = ps} y m) n = inr (ps, m)
datum_core {us = us} (g.value l) n = absurd (omega (arith, literal_kind l, datatype_kind us n))
datum_core (g.element c p) n = elim n [ ]
datum_core (g.attribute c p) n = elim n [ ]
datum_core (g.list p) n = elim n [ ]
datum_core (g.mixed p) n = elim n [ ]
datum_core g.empty n = elim n [ ]
datum_core g.not_allowed n = elim n [ ]
datum_core g.text n = elim n [ ]
datum_core g.ref n = elim n [ ]
datum_core (g.parens p) n = elim n [ ]

pub params_kind : {mid after : Tokens} {ps : Params} {i : ℕ} → MayHaveParams mid ps (minus # i ∷ after) → kind_of (first_terminal mid) ≡ 11
params_kind g.none = refl
params_kind (g.braces k) = refl

pub except_not : {x : Placed} {i : ℕ} {ts mid after r : Tokens} {d : Datatype} {ps : Params} {p : Pattern} → IsPrimary ts p r → MayHaveAnnotation ts (x ∷ mid) → IsDatatype x d → MayHaveParams mid ps (minus # i ∷ after) → Starts behind_primary r → ⊥
except_not {x = x} {i = i} {mid = mid} {after = after} {r = r} {p = p} (g.primary {after = aft} m c f) a n k s =
    let e = may_one m a (core_front c) (datatype_front mid n) in
    ⊎_elim (λ seg. absurd (omega (arith, seg, params_kind k)))
    (λ (qs, l). let same = may_params_one l k (starts_to behind_core no_brace core_to_brace aft (follows_core f s)) refl in
    let stays = minus_stays (subst (λ y. AreFollows y r) same.1 f) in
    false≢true (subst (Starts behind_primary) stays s))
    (datum_core (subst (λ y. IsCore y p aft) e c) n)

pub literal_not : {ts r : Tokens} {s : List ℕ} → IsLiteral ts s r → Starts behind_core ts → ⊥
literal_not g.one e = false≢true e
literal_not (g.joined l) e = false≢true e

pub typed_not : {ts r r' : Tokens} {s : List ℕ} {ps : Params} → IsLiteral ts s r → MayHaveParams ts ps r' → Starts behind_core r' → ⊥
typed_not l g.none e = literal_not l e
typed_not l (g.braces k) e = absurd (omega (arith, literal_kind l))

pub more_front : {op : Operator} {ts r : Tokens} {ps : List Pattern} → AreMore op ts ps r → Starts behind_operand ts
more_front (g.last o) = refl
more_front (g.more o m) = refl

pub more_not : {op : Operator} {ts r : Tokens} {ps : List Pattern} → AreMore op ts ps r → Starts behind_pattern ts → ⊥
more_not (g.last o) e = false≢true e
more_not (g.more o m) e = false≢true e

pub more_op : {op : Operator} {ts r : Tokens} {ps : List Pattern} → AreMore op ts ps r → first_terminal ts ≡ operator op
more_op (g.last o) = refl
more_op (g.more o m) = refl

pub same_op : (a b : Operator) → operator a ≡ operator b → a ≡ b
same_op a b e = cc

pub same_postfix : (a b : Postfix) → postfix a ≡ postfix b → a ≡ b
same_postfix a b e = cc

mutual
  unfolding tag

  pub pattern_one : {ts r r' : Tokens} {p q : Pattern} → IsPattern ts p r → IsPattern ts q r' → Starts behind_pattern r → Starts behind_pattern r' → (p ≡ q) × (r ≡ r')
  pattern_one {r = r} {r' = r'} (g.one k) (g.one l) a b = operand_one k l (starts_to behind_pattern behind_operand to_operand r a) (starts_to behind_pattern behind_operand to_operand r' b)
  pattern_one {r = r} (g.one k) (g.chain l m) a b = let e = operand_one k l (starts_to behind_pattern behind_operand to_operand r a) (more_front m) in absurd (more_not m (subst (Starts behind_pattern) e.1 a))
  pattern_one {r' = r'} (g.chain k m) (g.one l) a b = let e = operand_one k l (more_front m) (starts_to behind_pattern behind_operand to_operand r' b) in absurd (more_not m (subst (Starts behind_pattern) (sym e.1) b))
  pattern_one {r' = r'} (g.chain {op = op} {mid = mid} k m) (g.chain {op = op'} {ps = qs} l n) a b =
      let e = operand_one k l (more_front m) (more_front n) in
      let n' = subst (λ y. AreMore op' y qs r') (sym e.1) n in
      let eo : op ≡ op' = same_op op op' (sym (more_op m) ∙ more_op n') in
      let f = more_one m n' a b in
      ((λ i. t.chain (eo i) (patterns_of (e.0 i ∷ f.0 i))), f.1)

  pub more_one : {op op' : Operator} {ts r r' : Tokens} {ps qs : List Pattern} → AreMore op ts ps r → AreMore op' ts qs r' → Starts behind_pattern r → Starts behind_pattern r' → (ps ≡ qs) × (r ≡ r')
  more_one {r = r} {r' = r'} (g.last k) (g.last l) a b = let e = operand_one k l (starts_to behind_pattern behind_operand to_operand r a) (starts_to behind_pattern behind_operand to_operand r' b) in ((λ i. e.0 i ∷ []), e.1)
  more_one {r = r} (g.last k) (g.more l m) a b = let e = operand_one k l (starts_to behind_pattern behind_operand to_operand r a) (more_front m) in absurd (more_not m (subst (Starts behind_pattern) e.1 a))
  more_one {r' = r'} (g.more k m) (g.last l) a b = let e = operand_one k l (more_front m) (starts_to behind_pattern behind_operand to_operand r' b) in absurd (more_not m (subst (Starts behind_pattern) (sym e.1) b))
  more_one {op = op} {r' = r'} (g.more k m) (g.more {ps = qs} l n) a b =
      let e = operand_one k l (more_front m) (more_front n) in
      let f = more_one m (subst (λ y. AreMore op y qs r') (sym e.1) n) a b in
      ((λ i. e.0 i ∷ f.0 i), f.1)

  pub operand_one : {ts r r' : Tokens} {p q : Pattern} → IsOperand ts p r → IsOperand ts q r' → Starts behind_operand r → Starts behind_operand r' → (p ≡ q) × (r ≡ r')
  operand_one {r = r} {r' = r'} (g.plain p) (g.plain q) a b = primary_one p q (starts_to behind_operand behind_primary to_primary r a) (starts_to behind_operand behind_primary to_primary r' b)
  operand_one {r = r} (g.plain p) (g.repeated q f) a b = let e = primary_one p q (starts_to behind_operand behind_primary to_primary r a) refl in absurd (false≢true (subst (Starts behind_operand) e.1 a))
  operand_one {r = r} (g.plain p) (g.except m n k q) a b = absurd (except_not p m n k (starts_to behind_operand behind_primary to_primary r a))
  operand_one {r' = r'} (g.repeated p f) (g.plain q) a b = let e = primary_one p q refl (starts_to behind_operand behind_primary to_primary r' b) in absurd (false≢true (subst (Starts behind_operand) (sym e.1) b))
  operand_one {r = r} {r' = r'} (g.repeated {s = s} p f) (g.repeated {s = s'} q f') a b =
      let e = primary_one p q refl refl in
      let es : s ≡ s' = same_postfix s s' (ap first_terminal e.1) in
      let to : (x : Tokens) → Starts behind_operand x → Starts no_follow x = λ x h. starts_to behind_primary no_follow primary_to_follow x (starts_to behind_operand behind_primary to_primary x h) in
      ((λ i. t.repeated (es i) (e.0 i)), follows_one f (subst (λ y. AreFollows y r') (sym (ap tail e.1)) f') (to r a) (to r' b))
  operand_one (g.repeated p f) (g.except m n k q) a b = absurd (except_not p m n k refl)
  operand_one {r' = r'} (g.except m n k p) (g.plain q) a b = absurd (except_not q m n k (starts_to behind_operand behind_primary to_primary r' b))
  operand_one (g.except m n k p) (g.repeated q f) a b = absurd (except_not q m n k refl)
  operand_one {r = r} {r' = r'} (g.except {x = x} {i = i} {mid = mid} {d = d} m n k p) (g.except {x = x'} {i = i'} {mid = mid'} {after = after'} {d = d'} {ps = qs} {p = q'} m' n' k' q) a b =
      let e = may_one m m' (datatype_front mid n) (datatype_front mid' n') in
      let ex : x ≡ x' = ap (first_placed x) e in
      let ed : d ≡ d' = datatype_one n (subst (λ y. IsDatatype y d') (sym ex) n') in
      let ek = may_params_one k (subst (λ y. MayHaveParams y qs (minus # i' ∷ after')) (sym (ap tail e)) k') refl refl in
      let ei : i ≡ i' = ap place_of ek.1 in
      let f = primary_one p (subst (λ y. IsPrimary y q' r') (sym (ap tail ek.1)) q) (starts_to behind_operand behind_primary to_primary r a) (starts_to behind_operand behind_primary to_primary r' b) in
      ((λ j. t.datum_but (ed j) (ek.0 j) (ei j) (f.0 j)), f.1)

  pub primary_one : {ts r r' : Tokens} {p q : Pattern} → IsPrimary ts p r → IsPrimary ts q r' → Starts behind_primary r → Starts behind_primary r' → (p ≡ q) × (r ≡ r')
  primary_one {r = r} {r' = r'} {q = q} (g.primary m c f) (g.primary {after = after'} m' c' f') a b =
      let e = may_one m m' (core_front c) (core_front c') in
      let h = core_one c (subst (λ y. IsCore y q after') (sym e) c') (follows_core f a) (follows_core f' b) in
      (h.0, follows_one f (subst (λ y. AreFollows y r') (sym h.1) f') (starts_to behind_primary no_follow primary_to_follow r a) (starts_to behind_primary no_follow primary_to_follow r' b))

  pub core_one : {ts r r' : Tokens} {p q : Pattern} → IsCore ts p r → IsCore ts q r' → Starts behind_core r → Starts behind_core r' → (p ≡ q) × (r ≡ r')
  core_one {r' = r'} (g.element c p) (g.element {l = l'} {p = q} c' p') a b =
      let n = class_one c c' refl refl in
      let e = pattern_one p (subst (λ y. IsPattern y q (right_brace # l' ∷ r')) (sym (ap tail n.1)) p') refl refl in
      ((λ i. t.element (n.0 i) (e.0 i)), ap tail e.1)
  core_one {r' = r'} (g.attribute c p) (g.attribute {l = l'} {p = q} c' p') a b =
      let n = class_one c c' refl refl in
      let e = pattern_one p (subst (λ y. IsPattern y q (right_brace # l' ∷ r')) (sym (ap tail n.1)) p') refl refl in
      ((λ i. t.attribute (n.0 i) (e.0 i)), ap tail e.1)
  core_one (g.list p) (g.list p') a b = let e = pattern_one p p' refl refl in (ap t.list e.0, ap tail e.1)
  core_one (g.mixed p) (g.mixed p') a b = let e = pattern_one p p' refl refl in (ap t.mixed e.0, ap tail e.1)
  core_one g.empty g.empty a b = (refl, refl)
  core_one g.not_allowed g.not_allowed a b = (refl, refl)
  core_one g.text g.text a b = (refl, refl)
  core_one g.ref g.ref a b = (refl, refl)
  core_one {r = r} {r' = r'} (g.value l) (g.value l') a b = let e = literal_one l l' (starts_to behind_core no_tilde core_to_tilde r a) (starts_to behind_core no_tilde core_to_tilde r' b) in (ap (t.value None) e.0, e.1)
  core_one {r = r} {r' = r'} (g.typed_value d l) (g.typed_value d' l') a b =
      let ed = datatype_one d d' in
      let e = literal_one l l' (starts_to behind_core no_tilde core_to_tilde r a) (starts_to behind_core no_tilde core_to_tilde r' b) in
      ((λ i. t.value (Some (ed i)) (e.0 i)), e.1)
  core_one (g.typed_value d l) (g.datum d' m) a b = absurd (typed_not l m b)
  core_one (g.datum d m) (g.typed_value d' l) a b = absurd (typed_not l m a)
  core_one {r = r} {r' = r'} (g.datum d m) (g.datum d' m') a b =
      let ed = datatype_one d d' in
      let e = may_params_one m m' (starts_to behind_core no_brace core_to_brace r a) (starts_to behind_core no_brace core_to_brace r' b) in
      ((λ i. t.datum (ed i) (e.0 i)), e.1)
  core_one (g.parens p) (g.parens p') a b = let e = pattern_one p p' refl refl in (e.0, ap tail e.1)
  core_one c d a b = absurd (other_core c d (λ e. omega (arith, e)))
