-- Tokens are one name class at most, and what stands in it.
use Rattle.std.proofs.Common.{◌≡◌, ℕ, Bool, true, false, List, [], ◌∷◌, ◌++◌, refl, sym, ap, subst}
use Rattle.std.proofs.lemmas.Bool.{false≢true}
use Rattle.rn_syntax.specs.Terminal.{Terminal, Placed, ◌#◌, ident, keyword, operator, minus, tilde, follow, left_bracket}
use Rattle.rn_syntax.specs.Tree as t
use Rattle.rn_syntax.specs.Tree.{Datatype, Params, AnyName, NameClass, classes_of}
use Rattle.rn_syntax.specs.Grammar as g
use Rattle.rn_syntax.specs.inside.Follow.{Starts, no_bracket, no_follow, no_tilde, first_terminal, no_brace, behind_name, behind_class}
use Rattle.rn_syntax.specs.Grammar.{Tokens, IsWord, IsLiteral, Closed, IsAnnotation, MayHaveAnnotation, AreFollows, IsDatatype, AreParams, MayHaveParams, IsAnyName, IsNameClass, AreMoreClasses, IsClassOperand, IsClassPrimary, IsClassCore}

pub literal_one : {ts r r' : Tokens} {s u : List ℕ} → IsLiteral ts s r → IsLiteral ts u r' → Starts no_tilde r → Starts no_tilde r' → (s ≡ u) × (r ≡ r')
literal_one g.one g.one a b = (refl, refl)
literal_one g.one (g.joined l) a b = absurd (false≢true a)
literal_one (g.joined l) g.one a b = absurd (false≢true b)
literal_one (g.joined {s = s} l) (g.joined l') a b = let rest = literal_one l l' a b in (ap (λ x. s ++ x) rest.0, rest.1)

pub closed_one : {ts r r' : Tokens} → Closed ts r → Closed ts r' → r ≡ r'
closed_one g.close g.close = refl
closed_one g.close (g.other e c) = absurd (false≢true (sym e))
closed_one (g.other e c) g.close = absurd (false≢true (sym e))
closed_one (g.other e c) (g.other e' c') = closed_one c c'
closed_one (g.other e c) (g.nested c' d') = absurd (false≢true (sym e))
closed_one (g.nested c d) (g.other e c') = absurd (false≢true (sym e))
closed_one {r' = r'} (g.nested c d) (g.nested c' d') = closed_one d (subst (λ l. Closed l r') (sym (closed_one c c')) d')

pub annotation_one : {ts r r' : Tokens} → IsAnnotation ts r → IsAnnotation ts r' → r ≡ r'
annotation_one (g.bracketed c) (g.bracketed d) = closed_one c d

pub may_one : {ts r r' : Tokens} → MayHaveAnnotation ts r → MayHaveAnnotation ts r' → Starts no_bracket r → Starts no_bracket r' → r ≡ r'
may_one g.bare g.bare a b = refl
may_one g.bare (g.annotated (g.bracketed c)) a b = absurd (false≢true a)
may_one (g.annotated (g.bracketed c)) g.bare a b = absurd (false≢true b)
may_one (g.annotated c) (g.annotated d) a b = annotation_one c d

pub follows_one : {ts r r' : Tokens} → AreFollows ts r → AreFollows ts r' → Starts no_follow r → Starts no_follow r' → r ≡ r'
follows_one g.none g.none a b = refl
follows_one g.none (g.more n c f) a b = absurd (false≢true a)
follows_one (g.more n c f) g.none a b = absurd (false≢true b)
follows_one {r' = r'} (g.more n c f) (g.more n' c' f') a b = follows_one f (subst (λ l. AreFollows l r') (sym (annotation_one c c')) f') a b

pub word_one : {x : Terminal} {n l : List ℕ} → IsWord x n → IsWord x l → n ≡ l
word_one g.by_name g.by_name = refl
word_one g.by_keyword g.by_keyword = refl

pub datatype_one : {x : Placed} {d e : Datatype} → IsDatatype x d → IsDatatype x e → d ≡ e
datatype_one g.string g.string = refl
datatype_one g.token g.token = refl
datatype_one g.named g.named = refl

pub any_one : {x : Placed} {d e : AnyName} → IsAnyName x d → IsAnyName x e → d ≡ e
any_one g.all g.all = refl
any_one g.of g.of = refl

-- ---- fronts

pub starts_to : (p q : Terminal → Bool) → ((x : Terminal) → p x ≡ true → q x ≡ true) → (ts : Tokens) → Starts p ts → Starts q ts
starts_to p q to [] h = tt
starts_to p q to (x # i ∷ ts) h = to x h

abbrev pub first_placed : Placed → Tokens → Placed
first_placed d [] = d
first_placed d (x ∷ ts) = x

abbrev pub tail : Tokens → Tokens
tail [] = []
tail (x ∷ ts) = ts

abbrev pub place_of : Tokens → ℕ
place_of [] = 0
place_of (x # i ∷ ts) = i

abbrev pub is_word : Terminal → Bool
is_word (ident n) = true
is_word (keyword w) = true
is_word x = false

pub word_is : {x : Terminal} {n : List ℕ} → IsWord x n → is_word x ≡ true
word_is g.by_name = refl
word_is g.by_keyword = refl

pub word_no_bracket : {x : Terminal} {n : List ℕ} → IsWord x n → no_bracket x ≡ true
word_no_bracket g.by_name = refl
word_no_bracket g.by_keyword = refl

abbrev pub begins_param : Terminal → Bool
begins_param (ident n) = true
begins_param (keyword w) = true
begins_param left_bracket = true
begins_param x = false

pub word_param : {x : Terminal} {n : List ℕ} → IsWord x n → begins_param x ≡ true
word_param g.by_name = refl
word_param g.by_keyword = refl

pub param_front : {x : Terminal} {n : List ℕ} {i : ℕ} {ts us : Tokens} → MayHaveAnnotation ts (x # i ∷ us) → IsWord x n → Starts begins_param ts
param_front g.bare w = word_param w
param_front (g.annotated (g.bracketed c)) w = refl

pub param_no_tilde : (x : Terminal) → begins_param x ≡ true → no_tilde x ≡ true
param_no_tilde tilde e = absurd (false≢true e)
param_no_tilde x e = refl

pub params_no_tilde : {ts r : Tokens} {ps : Params} → AreParams ts ps r → Starts no_tilde ts
params_no_tilde g.close = refl
params_no_tilde {ts = ts} (g.param a w l ps) = starts_to begins_param no_tilde param_no_tilde ts (param_front a w)

pub params_one : {ts r r' : Tokens} {ps qs : Params} → AreParams ts ps r → AreParams ts qs r' → (ps ≡ qs) × (r ≡ r')
params_one g.close g.close = (refl, refl)
params_one g.close (g.param a w l ps) = absurd (false≢true (param_front a w))
params_one (g.param a w l ps) g.close = absurd (false≢true (param_front a w))
params_one {r' = r'} (g.param {x = x} {n = n} {s = s} {value = v} {mid = mid} {ps = ps} a w l k) (g.param {x = x'} {n = n'} {s = s'} {value = v'} {mid = mid'} {ps = ps'} a' w' l' k') =
    let e = may_one a a' (word_no_bracket w) (word_no_bracket w') in
    let ex : x ≡ x' = ap first_terminal e in
    let ev : v ≡ v' = ap (λ l. tail (tail l)) e in
    let en : n ≡ n' = word_one w (subst (λ y. IsWord y n') (sym ex) w') in
    let el = literal_one l (subst (λ y. IsLiteral y s' mid') (sym ev) l') (params_no_tilde k) (params_no_tilde k') in
    let rest = params_one k (subst (λ y. AreParams y ps' r') (sym el.1) k') in
    ((λ i. (en i, el.0 i) ∷ rest.0 i), rest.1)

pub may_params_one : {ts r r' : Tokens} {ps qs : Params} → MayHaveParams ts ps r → MayHaveParams ts qs r' → Starts no_brace r → Starts no_brace r' → (ps ≡ qs) × (r ≡ r')
may_params_one g.none g.none a b = (refl, refl)
may_params_one g.none (g.braces k) a b = absurd (false≢true a)
may_params_one (g.braces k) g.none a b = absurd (false≢true b)
may_params_one (g.braces k) (g.braces k') a b = params_one k k'

-- ---- name classes

pub class_to_name : (x : Terminal) → behind_class x ≡ true → behind_name x ≡ true
class_to_name (operator o) e = refl
class_to_name x e = e

pub name_to_follow : (x : Terminal) → behind_name x ≡ true → no_follow x ≡ true
name_to_follow follow e = absurd (false≢true e)
name_to_follow x e = refl

pub bar_front : {ts r : Tokens} {cs : List NameClass} → AreMoreClasses ts cs r → Starts behind_name ts
bar_front (g.last o) = refl
bar_front (g.more o m) = refl

pub bar_not : {ts r : Tokens} {cs : List NameClass} → AreMoreClasses ts cs r → Starts behind_class ts → ⊥
bar_not (g.last o) e = false≢true e
bar_not (g.more o m) e = false≢true e

pub any_no_bracket : {x : Placed} {a : AnyName} (us : Tokens) → IsAnyName x a → Starts no_bracket (x ∷ us)
any_no_bracket us g.all = refl
any_no_bracket us g.of = refl

pub class_core_front : {ts r : Tokens} {c : NameClass} → IsClassCore ts c r → Starts no_bracket ts
class_core_front (g.word w) = word_no_bracket w
class_core_front g.prefixed_name = refl
class_core_front (g.any_name {rest = rest} n) = any_no_bracket rest n
class_core_front (g.parens c) = refl

pub any_word : {x : Terminal} {n : List ℕ} {i : ℕ} {a : AnyName} → IsWord x n → IsAnyName (x # i) a → ⊥
any_word w g.all = false≢true (word_is w)
any_word w g.of = false≢true (word_is w)

pub any_core : {x : Placed} {us r : Tokens} {c : NameClass} {a : AnyName} → IsClassCore (x ∷ us) c r → IsAnyName x a → r ≡ us
any_core (g.word w) n = absurd (any_word w n)
any_core (g.any_name m) n = refl
any_core g.prefixed_name n = elim n [ ]
any_core (g.parens c) n = elim n [ ]

pub minus_stays : {i : ℕ} {us r : Tokens} → AreFollows (minus # i ∷ us) r → r ≡ minus # i ∷ us
minus_stays g.none = refl

pub except_class_not : {x : Placed} {i : ℕ} {ts mid r : Tokens} {a : AnyName} {c : NameClass} → IsClassPrimary ts c r → MayHaveAnnotation ts (x ∷ minus # i ∷ mid) → IsAnyName x a → Starts behind_name r → ⊥
except_class_not {x = x} {i = i} {mid = mid} {r = r} {c = c} (g.primary {after = after} m k f) a n s =
    let e = may_one m a (class_core_front k) (any_no_bracket (minus # i ∷ mid) n) in
    let is = any_core (subst (λ l. IsClassCore l c after) e k) n in
    let stays = minus_stays (subst (λ l. AreFollows l r) is f) in
    false≢true (subst (Starts behind_name) stays s)

mutual
  pub class_one : {ts r r' : Tokens} {c d : NameClass} → IsNameClass ts c r → IsNameClass ts d r' → Starts behind_class r → Starts behind_class r' → (c ≡ d) × (r ≡ r')
  class_one {r = r} {r' = r'} (g.one k) (g.one l) a b = class_operand_one k l (starts_to behind_class behind_name class_to_name r a) (starts_to behind_class behind_name class_to_name r' b)
  class_one {r = r} (g.one k) (g.choice l m) a b = let e = class_operand_one k l (starts_to behind_class behind_name class_to_name r a) (bar_front m) in absurd (bar_not m (subst (Starts behind_class) e.1 a))
  class_one {r' = r'} (g.choice k m) (g.one l) a b = let e = class_operand_one k l (bar_front m) (starts_to behind_class behind_name class_to_name r' b) in absurd (bar_not m (subst (Starts behind_class) (sym e.1) b))
  class_one {r' = r'} (g.choice k m) (g.choice {cs = ds} l n) a b =
      let e = class_operand_one k l (bar_front m) (bar_front n) in
      let f = more_classes_one m (subst (λ y. AreMoreClasses y ds r') (sym e.1) n) a b in
      ((λ i. t.choice (classes_of (e.0 i ∷ f.0 i))), f.1)

  pub more_classes_one : {ts r r' : Tokens} {cs ds : List NameClass} → AreMoreClasses ts cs r → AreMoreClasses ts ds r' → Starts behind_class r → Starts behind_class r' → (cs ≡ ds) × (r ≡ r')
  more_classes_one {r = r} {r' = r'} (g.last k) (g.last l) a b = let e = class_operand_one k l (starts_to behind_class behind_name class_to_name r a) (starts_to behind_class behind_name class_to_name r' b) in ((λ i. e.0 i ∷ []), e.1)
  more_classes_one {r = r} (g.last k) (g.more l m) a b = let e = class_operand_one k l (starts_to behind_class behind_name class_to_name r a) (bar_front m) in absurd (bar_not m (subst (Starts behind_class) e.1 a))
  more_classes_one {r' = r'} (g.more k m) (g.last l) a b = let e = class_operand_one k l (bar_front m) (starts_to behind_class behind_name class_to_name r' b) in absurd (bar_not m (subst (Starts behind_class) (sym e.1) b))
  more_classes_one {r' = r'} (g.more k m) (g.more {cs = ds} l n) a b =
      let e = class_operand_one k l (bar_front m) (bar_front n) in
      let f = more_classes_one m (subst (λ y. AreMoreClasses y ds r') (sym e.1) n) a b in
      ((λ i. e.0 i ∷ f.0 i), f.1)

  pub class_operand_one : {ts r r' : Tokens} {c d : NameClass} → IsClassOperand ts c r → IsClassOperand ts d r' → Starts behind_name r → Starts behind_name r' → (c ≡ d) × (r ≡ r')
  class_operand_one (g.plain p) (g.plain q) a b = class_primary_one p q a b
  class_operand_one (g.plain p) (g.except m n q) a b = absurd (except_class_not p m n a)
  class_operand_one (g.except m n p) (g.plain q) a b = absurd (except_class_not q m n b)
  class_operand_one {r' = r'} (g.except {x = x} {i = i} {mid = mid} {a = y} m n p) (g.except {x = x'} {i = i'} {mid = mid'} {a = y'} {c = c'} m' n' q) a b =
      let e = may_one m m' (any_no_bracket (minus # i ∷ mid) n) (any_no_bracket (minus # i' ∷ mid') n') in
      let ex : x ≡ x' = ap (first_placed x) e in
      let ey : y ≡ y' = any_one n (subst (λ z. IsAnyName z y') (sym ex) n') in
      let f = class_primary_one p (subst (λ l. IsClassPrimary l c' r') (sym (ap (λ l. tail (tail l)) e)) q) a b in
      ((λ i. t.all_but (ey i) (f.0 i)), f.1)

  pub class_primary_one : {ts r r' : Tokens} {c d : NameClass} → IsClassPrimary ts c r → IsClassPrimary ts d r' → Starts behind_name r → Starts behind_name r' → (c ≡ d) × (r ≡ r')
  class_primary_one {r = r} {r' = r'} {d = d} (g.primary m k f) (g.primary {after = after'} m' k' f') a b =
      let e = may_one m m' (class_core_front k) (class_core_front k') in
      let c = class_core_one k (subst (λ l. IsClassCore l d after') (sym e) k') in
      (c.0, follows_one f (subst (λ l. AreFollows l r') (sym c.1) f') (starts_to behind_name no_follow name_to_follow r a) (starts_to behind_name no_follow name_to_follow r' b))

  pub class_core_one : {ts r r' : Tokens} {c d : NameClass} → IsClassCore ts c r → IsClassCore ts d r' → (c ≡ d) × (r ≡ r')
  class_core_one (g.word w) (g.word v) = (ap (λ n. t.name (t.local n)) (word_one w v), refl)
  class_core_one (g.word w) g.prefixed_name = absurd (false≢true (word_is w))
  class_core_one (g.word w) (g.any_name n) = absurd (any_word w n)
  class_core_one (g.word w) (g.parens c) = absurd (false≢true (word_is w))
  class_core_one g.prefixed_name (g.word w) = absurd (false≢true (word_is w))
  class_core_one g.prefixed_name g.prefixed_name = (refl, refl)
  class_core_one g.prefixed_name (g.any_name n) = elim n [ ]
  class_core_one (g.any_name n) g.prefixed_name = elim n [ ]
  class_core_one (g.any_name n) (g.parens c) = elim n [ ]
  class_core_one (g.parens c) (g.any_name n) = elim n [ ]
  class_core_one (g.any_name n) (g.word w) = absurd (any_word w n)
  class_core_one (g.any_name n) (g.any_name m) = (ap t.all (any_one n m), refl)
  class_core_one (g.parens c) (g.word w) = absurd (false≢true (word_is w))
  class_core_one (g.parens c) (g.parens d) = let e = class_one c d refl refl in (e.0, ap tail e.1)
