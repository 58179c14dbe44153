-- Tokens are one module at most.
use Rattle.std.proofs.Common.{◌≡◌, ℕ, arith, Bool, true, false, List, [], ◌∷◌, Option, Some, None, refl, sym, ap, subst}
use Rattle.std.proofs.lemmas.Bool.{false≢true}
use Rattle.rn_text.specs.declared.keywords.Keyword.TheVariants as k
use Rattle.rn_syntax.specs.Terminal.{Terminal, ◌#◌, ident, keyword, prefixed, tilde, left_brace, right_brace, left_bracket}
use Rattle.rn_syntax.specs.Tree as t
use Rattle.rn_syntax.specs.Tree.{Uri, Declaration, Item, Module, items_of}
use Rattle.rn_syntax.specs.Grammar as g
use Rattle.rn_syntax.specs.inside.Follow.{Starts, no_bracket, no_tilde, behind_pattern, first_terminal, no_brace, behind_item, is_end, no_inherit, no_declaration}
use Rattle.rn_syntax.specs.Grammar.{Tokens, IsLiteral, MayHaveAnnotation, IsUri, IsDeclaration, AreDeclarations, IsComponent, IsNote, AreInnerItems, MayInherit, MayHaveOverrides, AreItems}
use Rattle.rn_syntax.specs.Beginnings.{HasTree}
use Rattle.rn_syntax.proofs.OneReading.OneClass.{literal_one, annotation_one, may_one, word_one, starts_to, tail, word_is}
use Rattle.rn_syntax.proofs.OneReading.OnePattern.{literal_kind, pattern_one}

abbrev pub is_include : Terminal → Bool
is_include (keyword k.Include) = true
is_include x = false

abbrev pub is_grammar : Terminal → Bool
is_grammar (keyword k.Grammar) = true
is_grammar x = false

pub item_to_pattern : (x : Terminal) → behind_item x ≡ true → behind_pattern x ≡ true
item_to_pattern (ident n) e = refl
item_to_pattern (prefixed n l) e = refl
item_to_pattern (keyword w) e = refl
item_to_pattern left_bracket e = refl
item_to_pattern right_brace e = refl
item_to_pattern x e = absurd (false≢true e)

pub item_to_tilde : (x : Terminal) → behind_item x ≡ true → no_tilde x ≡ true
item_to_tilde tilde e = absurd (false≢true e)
item_to_tilde x e = refl

pub item_to_brace : (x : Terminal) → behind_item x ≡ true → no_brace x ≡ true
item_to_brace left_brace e = absurd (false≢true e)
item_to_brace x e = refl

pub item_to_inherit : (x : Terminal) → behind_item x ≡ true → no_inherit x ≡ true
item_to_inherit (keyword k.Inherit) e = absurd (false≢true e)
item_to_inherit x e = refl

pub item_to_declaration : (x : Terminal) → behind_item x ≡ true → no_declaration x ≡ true
item_to_declaration (keyword k.Namespace) e = absurd (false≢true e)
item_to_declaration (keyword k.Default) e = absurd (false≢true e)
item_to_declaration (keyword k.Datatypes) e = absurd (false≢true e)
item_to_declaration x e = refl

pub end_to_item : (x : Terminal) → is_end x ≡ true → behind_item x ≡ true
end_to_item right_brace e = refl
end_to_item x e = absurd (false≢true e)

pub uri_one : {ts r r' : Tokens} {u v : Uri} → IsUri ts u r → IsUri ts v r' → Starts no_tilde r → Starts no_tilde r' → (u ≡ v) × (r ≡ r')
uri_one (g.literal l) (g.literal l') a b = let e = literal_one l l' a b in (ap t.literal e.0, e.1)
uri_one (g.literal l) g.inherited a b = absurd (omega (arith, literal_kind l))
uri_one g.inherited (g.literal l) a b = absurd (omega (arith, literal_kind l))
uri_one g.inherited g.inherited a b = (refl, refl)

pub declarations_tilde : {ts r : Tokens} {ds : List Declaration} → AreDeclarations ts ds r → Starts no_tilde r → Starts no_tilde ts
declarations_tilde g.none a = a
declarations_tilde (g.more (g.namespace w u) m) a = refl
declarations_tilde (g.more (g.default u) m) a = refl
declarations_tilde (g.more (g.default_prefix w u) m) a = refl
declarations_tilde (g.more (g.datatypes w l) m) a = refl

pub declaration_one : {ts r r' : Tokens} {d e : Declaration} → IsDeclaration ts d r → IsDeclaration ts e r' → Starts no_tilde r → Starts no_tilde r' → (d ≡ e) × (r ≡ r')
declaration_one (g.namespace {j = j} w u) (g.namespace w' u') a b = let en = word_one w w' in let eu = uri_one u u' a b in ((λ i. t.namespace (en i) j (eu.0 i)), eu.1)
declaration_one (g.default {i = i} u) (g.default u') a b = let eu = uri_one u u' a b in (ap (t.default i None) eu.0, eu.1)
declaration_one (g.default u) (g.default_prefix w u') a b = absurd (false≢true (word_is w))
declaration_one (g.default_prefix w u) (g.default u') a b = absurd (false≢true (word_is w))
declaration_one (g.default_prefix {i = p} {h = h} w u) (g.default_prefix w' u') a b = let en = word_one w w' in let eu = uri_one u u' a b in ((λ i. t.default p (Some (en i, h)) (eu.0 i)), eu.1)
declaration_one (g.datatypes {j = j} w l) (g.datatypes w' l') a b = let en = word_one w w' in let el = literal_one l l' a b in ((λ i. t.datatypes (en i) j (el.0 i)), el.1)

pub declaration_front : {ts r : Tokens} {d : Declaration} → IsDeclaration ts d r → Starts no_declaration ts → ⊥
declaration_front (g.namespace w u) e = false≢true e
declaration_front (g.default u) e = false≢true e
declaration_front (g.default_prefix w u) e = false≢true e
declaration_front (g.datatypes w l) e = false≢true e

pub declarations_one : {ts r r' : Tokens} {ds es : List Declaration} → AreDeclarations ts ds r → AreDeclarations ts es r' → Starts behind_item r → Starts behind_item r' → (ds ≡ es) × (r ≡ r')
declarations_one g.none g.none a b = (refl, refl)
declarations_one {r = r} g.none (g.more d m) a b = absurd (declaration_front d (starts_to behind_item no_declaration item_to_declaration r a))
declarations_one {r' = r'} (g.more d m) g.none a b = absurd (declaration_front d (starts_to behind_item no_declaration item_to_declaration r' b))
declarations_one {r = r} {r' = r'} (g.more d m) (g.more {ds = es} d' m') a b =
    let e = declaration_one d d' (declarations_tilde m (starts_to behind_item no_tilde item_to_tilde r a)) (declarations_tilde m' (starts_to behind_item no_tilde item_to_tilde r' b)) in
    let f = declarations_one m (subst (λ y. AreDeclarations y es r') (sym e.1) m') a b in
    ((λ i. e.0 i ∷ f.0 i), f.1)

pub component_one : {ts r r' : Tokens} {x y : Item} → IsComponent ts x r → IsComponent ts y r' → Starts behind_pattern r → Starts behind_pattern r' → (x ≡ y) × (r ≡ r')
component_one (g.define {n = n} {w = w} p) (g.define q) a b = let e = pattern_one p q a b in (ap (t.define n w) e.0, e.1)
component_one (g.start {w = w} p) (g.start q) a b = let e = pattern_one p q a b in (ap (t.start w) e.0, e.1)

pub component_front : {ts r : Tokens} {x : Item} → IsComponent ts x r → Starts behind_item ts × Starts no_bracket ts
component_front (g.define p) = (refl, refl)
component_front (g.start p) = (refl, refl)

pub component_end : {ts r : Tokens} {x : Item} → IsComponent ts x r → Starts is_end ts → ⊥
component_end (g.define p) e = false≢true e
component_end (g.start p) e = false≢true e

pub component_keyword : {i : ℕ} {ts r : Tokens} {x : Item} → IsComponent (keyword k.Div # i ∷ ts) x r → ⊥
component_keyword c = elim c [ ]

pub component_include : {i : ℕ} {ts r : Tokens} {x : Item} → IsComponent (keyword k.Include # i ∷ ts) x r → ⊥
component_include c = elim c [ ]

pub component_grammar : {i : ℕ} {ts r : Tokens} {x : Item} → IsComponent (keyword k.Grammar # i ∷ ts) x r → ⊥
component_grammar c = elim c [ ]

-- an annotation or not, before what begins an item
pub may_item : {ts mid : Tokens} → MayHaveAnnotation ts mid → Starts behind_item mid → Starts behind_item ts
may_item g.bare h = h
may_item (g.annotated (g.bracketed c)) h = refl

pub may_end : {ts mid : Tokens} → MayHaveAnnotation ts mid → (Starts is_end mid → ⊥) → Starts is_end ts → ⊥
may_end g.bare h = h
may_end (g.annotated (g.bracketed c)) h = λ e. false≢true e

pub note_one : {ts r r' : Tokens} → IsNote ts r → IsNote ts r' → r ≡ r'
note_one (g.by_name n) (g.by_name l) = annotation_one n l
note_one (g.by_prefixed n) (g.by_prefixed l) = annotation_one n l

pub note_front : {ts r : Tokens} → IsNote ts r → Starts behind_item ts
note_front (g.by_name n) = refl
note_front (g.by_prefixed n) = refl

pub note_end : {ts r : Tokens} → IsNote ts r → Starts is_end ts → ⊥
note_end (g.by_name n) e = false≢true e
note_end (g.by_prefixed n) e = false≢true e

pub component_note : {ts mid after r : Tokens} {x : Item} → MayHaveAnnotation ts mid → IsComponent mid x after → IsNote ts r → ⊥
component_note g.bare (g.define p) (g.by_name n) = elim n [ ]
component_note g.bare (g.start p) n = elim n [ ]
component_note (g.annotated (g.bracketed c)) k n = elim n [ ]

pub keyword_note : {w : _} {i : ℕ} {ts us r : Tokens} → MayHaveAnnotation ts (keyword w # i ∷ us) → IsNote ts r → ⊥
keyword_note g.bare n = elim n [ ]
keyword_note (g.annotated (g.bracketed c)) n = elim n [ ]

pub inner_front : {ts r : Tokens} {xs : List Item} → AreInnerItems ts xs r → Starts is_end r → Starts behind_item ts
inner_front {ts = ts} g.none a = starts_to is_end behind_item end_to_item ts a
inner_front (g.component m c n) a = may_item m (component_front c).0
inner_front (g.div m n o) a = may_item m refl
inner_front (g.note n m) a = note_front n

pub inner_one : {ts r r' : Tokens} {xs ys : List Item} → AreInnerItems ts xs r → AreInnerItems ts ys r' → Starts is_end r → Starts is_end r' → (xs ≡ ys) × (r ≡ r')
inner_one g.none g.none a b = (refl, refl)
inner_one g.none (g.component m c n) a b = absurd (may_end m (component_end c) a)
inner_one g.none (g.div m n o) a b = absurd (may_end m (λ e. false≢true e) a)
inner_one g.none (g.note n m) a b = absurd (note_end n a)
inner_one (g.component m c n) g.none a b = absurd (may_end m (component_end c) b)
inner_one {r' = r'} (g.component {after = after} m c n) (g.component {after = after'} {x = y} {xs = ys} m' c' n') a b =
    let e = may_one m m' (component_front c).1 (component_front c').1 in
    let f = component_one c (subst (λ z. IsComponent z y after') (sym e) c') (starts_to behind_item behind_pattern item_to_pattern after (inner_front n a)) (starts_to behind_item behind_pattern item_to_pattern after' (inner_front n' b)) in
    let h = inner_one n (subst (λ z. AreInnerItems z ys r') (sym f.1) n') a b in
    ((λ i. f.0 i ∷ h.0 i), h.1)
inner_one (g.component {after = after} {x = x} m c n) (g.div m' n' o) a b = let e = may_one m m' (component_front c).1 refl in absurd (component_keyword (subst (λ z. IsComponent z x after) e c))
inner_one (g.component m c n) (g.note k l) a b = absurd (component_note m c k)
inner_one (g.div m n o) g.none a b = absurd (may_end m (λ e. false≢true e) b)
inner_one (g.div m n o) (g.component {after = after} {x = x} m' c n') a b = let e = may_one m' m (component_front c).1 refl in absurd (component_keyword (subst (λ z. IsComponent z x after) e c))
inner_one {r' = r'} (g.div m n o) (g.div {l = l'} {after = after'} {ys = zs} {xs = ys} m' n' o') a b =
    let e = may_one m m' refl refl in
    let f = inner_one n (subst (λ z. AreInnerItems z zs (right_brace # l' ∷ after')) (sym (ap (λ z. tail (tail z)) e)) n') refl refl in
    let h = inner_one o (subst (λ z. AreInnerItems z ys r') (sym (ap tail f.1)) o') a b in
    ((λ i. t.div (items_of (f.0 i)) ∷ h.0 i), h.1)
inner_one (g.div m n o) (g.note k l) a b = absurd (keyword_note m k)
inner_one (g.note n m) g.none a b = absurd (note_end n b)
inner_one (g.note n m) (g.component m' c k) a b = absurd (component_note m' c n)
inner_one (g.note n m) (g.div m' k l) a b = absurd (keyword_note m' n)
inner_one {r' = r'} {ys = ys} (g.note n m) (g.note n' m') a b = inner_one m (subst (λ z. AreInnerItems z ys r') (sym (note_one n n')) m') a b

pub inherit_one : {ts r r' : Tokens} {h h' : Option (List ℕ × ℕ)} → MayInherit ts h r → MayInherit ts h' r' → Starts no_inherit r → Starts no_inherit r' → (h ≡ h') × (r ≡ r')
inherit_one g.none g.none a b = (refl, refl)
inherit_one g.none (g.inherit w) a b = absurd (false≢true a)
inherit_one (g.inherit w) g.none a b = absurd (false≢true b)
inherit_one (g.inherit {l = l} w) (g.inherit v) a b = (ap (λ (n : List ℕ). Some (n, l)) (word_one w v), refl)

pub override_one : {ts r r' : Tokens} {xs ys : List Item} → MayHaveOverrides ts xs r → MayHaveOverrides ts ys r' → Starts no_brace r → Starts no_brace r' → (xs ≡ ys) × (r ≡ r')
override_one g.none g.none a b = (refl, refl)
override_one g.none (g.braces n) a b = absurd (false≢true a)
override_one (g.braces n) g.none a b = absurd (false≢true b)
override_one (g.braces n) (g.braces n') a b = let e = inner_one n n' refl refl in (e.0, ap tail e.1)

pub override_inherit : {ts r : Tokens} {xs : List Item} → MayHaveOverrides ts xs r → Starts behind_item r → Starts no_inherit ts
override_inherit {ts = ts} g.none a = starts_to behind_item no_inherit item_to_inherit ts a
override_inherit (g.braces n) a = refl

pub override_tilde : {ts r : Tokens} {xs : List Item} → MayHaveOverrides ts xs r → Starts behind_item r → Starts no_tilde ts
override_tilde {ts = ts} g.none a = starts_to behind_item no_tilde item_to_tilde ts a
override_tilde (g.braces n) a = refl

pub inherit_tilde : {ts r : Tokens} {h : Option (List ℕ × ℕ)} → MayInherit ts h r → Starts no_tilde r → Starts no_tilde ts
inherit_tilde g.none a = a
inherit_tilde (g.inherit w) a = refl

pub items_front : {ts r : Tokens} {xs : List Item} → AreItems ts xs r → Starts is_end r → Starts behind_item ts
items_front {ts = ts} g.none a = starts_to is_end behind_item end_to_item ts a
items_front (g.component m c n) a = may_item m (component_front c).0
items_front (g.div m n o) a = may_item m refl
items_front (g.include m l h o n) a = may_item m refl
items_front (g.note n m) a = note_front n

pub items_one : {ts r r' : Tokens} {xs ys : List Item} → AreItems ts xs r → AreItems ts ys r' → Starts is_end r → Starts is_end r' → (xs ≡ ys) × (r ≡ r')
items_one g.none g.none a b = (refl, refl)
items_one g.none (g.component m c n) a b = absurd (may_end m (component_end c) a)
items_one g.none (g.div m n o) a b = absurd (may_end m (λ e. false≢true e) a)
items_one g.none (g.include m l h o n) a b = absurd (may_end m (λ e. false≢true e) a)
items_one g.none (g.note n m) a b = absurd (note_end n a)
items_one (g.component m c n) g.none a b = absurd (may_end m (component_end c) b)
items_one {r' = r'} (g.component {after = after} m c n) (g.component {after = after'} {x = y} {xs = ys} m' c' n') a b =
    let e = may_one m m' (component_front c).1 (component_front c').1 in
    let f = component_one c (subst (λ z. IsComponent z y after') (sym e) c') (starts_to behind_item behind_pattern item_to_pattern after (items_front n a)) (starts_to behind_item behind_pattern item_to_pattern after' (items_front n' b)) in
    let h = items_one n (subst (λ z. AreItems z ys r') (sym f.1) n') a b in
    ((λ i. f.0 i ∷ h.0 i), h.1)
items_one (g.component {after = after} {x = x} m c n) (g.div m' n' o) a b = let e = may_one m m' (component_front c).1 refl in absurd (component_keyword (subst (λ z. IsComponent z x after) e c))
items_one (g.component {after = after} {x = x} m c n) (g.include m' l h o n') a b = let e = may_one m m' (component_front c).1 refl in absurd (component_include (subst (λ z. IsComponent z x after) e c))
items_one (g.component m c n) (g.note k l) a b = absurd (component_note m c k)
items_one (g.div m n o) g.none a b = absurd (may_end m (λ e. false≢true e) b)
items_one (g.div m n o) (g.component {after = after} {x = x} m' c n') a b = let e = may_one m' m (component_front c).1 refl in absurd (component_keyword (subst (λ z. IsComponent z x after) e c))
items_one {r' = r'} (g.div m n o) (g.div {l = l'} {after = after'} {ys = zs} {xs = ys} m' n' o') a b =
    let e = may_one m m' refl refl in
    let f = items_one n (subst (λ z. AreItems z zs (right_brace # l' ∷ after')) (sym (ap (λ z. tail (tail z)) e)) n') refl refl in
    let h = items_one o (subst (λ z. AreItems z ys r') (sym (ap tail f.1)) o') a b in
    ((λ i. t.div (items_of (f.0 i)) ∷ h.0 i), h.1)
items_one (g.div m n o) (g.include m' l h o' n') a b = let e = ap (λ z. is_include (first_terminal z)) (may_one m m' refl refl) in absurd (false≢true e)
items_one (g.div m n o) (g.note k l) a b = absurd (keyword_note m k)
items_one (g.include m l h o n) g.none a b = absurd (may_end m (λ e. false≢true e) b)
items_one (g.include m l h o n) (g.component {after = after} {x = x} m' c n') a b = let e = may_one m' m (component_front c).1 refl in absurd (component_include (subst (λ z. IsComponent z x after) e c))
items_one (g.include m l h o n) (g.div m' n' o') a b = let e = ap (λ z. is_include (first_terminal z)) (may_one m' m refl refl) in absurd (false≢true e)
items_one {r' = r'} (g.include {own = own} {after = after} m l h o n) (g.include {s = s'} {h = i'} {behind = behind'} {own = own'} {after = after'} {ys = zs} {xs = ys} m' l' h' o' n') a b =
    let e = ap tail (may_one m m' refl refl) in
    let f = items_front n a in
    let f' = items_front n' b in
    let el = literal_one l (subst (λ z. IsLiteral z s' behind') (sym e) l') (inherit_tilde h (override_tilde o f)) (inherit_tilde h' (override_tilde o' f')) in
    let eh = inherit_one h (subst (λ z. MayInherit z i' own') (sym el.1) h') (override_inherit o f) (override_inherit o' f') in
    let eo = override_one o (subst (λ z. MayHaveOverrides z zs after') (sym eh.1) o') (starts_to behind_item no_brace item_to_brace after f) (starts_to behind_item no_brace item_to_brace after' f') in
    let en = items_one n (subst (λ z. AreItems z ys r') (sym eo.1) n') a b in
    ((λ i. t.include (el.0 i) (eh.0 i) (items_of (eo.0 i)) ∷ en.0 i), en.1)
items_one (g.include m l h o n) (g.note k j) a b = absurd (keyword_note m k)
items_one (g.note n m) g.none a b = absurd (note_end n b)
items_one (g.note n m) (g.component m' c k) a b = absurd (component_note m' c n)
items_one (g.note n m) (g.div m' k l) a b = absurd (keyword_note m' n)
items_one (g.note n m) (g.include m' l h o k) a b = absurd (keyword_note m' n)
items_one {r' = r'} {ys = ys} (g.note n m) (g.note n' m') a b = items_one m (subst (λ z. AreItems z ys r') (sym (note_one n n')) m') a b

pub items_grammar : {ts us : Tokens} {i : ℕ} {xs : List Item} → AreItems ts xs [] → MayHaveAnnotation ts (keyword k.Grammar # i ∷ us) → ⊥
items_grammar g.none (g.annotated b) = elim b [ ]
items_grammar (g.component {after = after} {x = x} m c n) a = let e = may_one m a (component_front c).1 refl in component_grammar (subst (λ z. IsComponent z x after) e c)
items_grammar (g.div m n o) a = let e = ap (λ z. is_grammar (first_terminal z)) (may_one m a refl refl) in false≢true e
items_grammar (g.include m l h o n) a = let e = ap (λ z. is_grammar (first_terminal z)) (may_one m a refl refl) in false≢true e
items_grammar (g.note n m) a = keyword_note a n

-- tokens are one module
pub one_tree : (ts : Tokens) (m n : Module) → HasTree ts m → HasTree ts n → m ≡ n
one_tree ts m n (g.items d i) (g.items {xs = ys} d' i') =
    let e = declarations_one d d' (items_front i tt) (items_front i' tt) in
    let f = items_one i (subst (λ z. AreItems z ys []) (sym e.1) i') tt tt in
    λ j. record { declarations = e.0 j; items = items_of (f.0 j) }
one_tree ts m n (g.items {xs = xs} d i) (g.grammar d' a' i' f') = let e = declarations_one d d' (items_front i tt) (may_item a' refl) in absurd (items_grammar (subst (λ z. AreItems z xs []) e.1 i) a')
one_tree ts m n (g.grammar d a i f) (g.items {xs = ys} d' i') = let e = declarations_one d d' (may_item a refl) (items_front i' tt) in absurd (items_grammar (subst (λ z. AreItems z ys []) (sym e.1) i') a)
one_tree ts m n (g.grammar d a i f) (g.grammar {i = p'} {j = q'} {l = l'} {body = body'} {after = after'} {xs = ys} d' a' i' f') =
    let e = declarations_one d d' (may_item a refl) (may_item a' refl) in
    let u = may_one a (subst (λ z. MayHaveAnnotation z (keyword k.Grammar # p' ∷ left_brace # q' ∷ body')) (sym e.1) a') refl refl in
    let h = items_one i (subst (λ z. AreItems z ys (right_brace # l' ∷ after')) (sym (ap (λ z. tail (tail z)) u)) i') refl refl in
    λ j. record { declarations = e.0 j; items = items_of (h.0 j) }
