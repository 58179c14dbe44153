-- The places of faults stand among those of the tokens, in the same order, so they rise as these do.
use Rattle.std.proofs.Common.{◌≡◌, ℕ, suc, ◌<◌, ◌≤◌, Bool, true, false, List, [], ◌∷◌, ◌++◌, map, Option, Some, None, arith, refl, sym, subst, append-nil, append_assoc, not}
use Rattle.std.specs.Prelude.{◌&&◌, ◌||◌, is_some, codes}
use Rattle.std.specs.List.{AllByRecursion}
use Rattle.std.specs.Str.{IsUtf8, bytes_eq, chars}
use Rattle.rn_text.specs.declared.source.Token.{Token}
use Rattle.rn_text.specs.Tokens.{Lexeme, HasTokens, StandInOrder, lexeme_of}
use Rattle.rn_text.proofs.TokenLists.CutLexemes.{tokens_in_order}
use Rattle.rn_syntax.specs.declared.fault.FaultKind.{FaultKind}
use Rattle.rn_syntax.specs.declared.fault.FaultKind.TheVariants as kind
use Rattle.rn_text.specs.Texts.{Text}
use Rattle.rn_syntax.specs.declared.tree.Operator.{Operator}
use Rattle.rn_syntax.specs.Terminal.{Terminal, Placed, ◌#◌}
use Rattle.rn_syntax.specs.Tree as t
use Rattle.rn_syntax.specs.Tree.{Datatype, Params, AnyName, NameClass, Pattern, Patterns, Uri, Declaration, Item, Module, patterns_of, classes_of, items_of}
use Rattle.rn_syntax.specs.Grammar as g
use Rattle.rn_syntax.specs.Grammar.{Tokens, IsLiteral, Closed, IsAnnotation, MayHaveAnnotation, AreFollows, IsDatatype, AreParams, MayHaveParams, IsAnyName, IsNameClass, AreMoreClasses, IsClassOperand, IsClassPrimary, IsClassCore, IsPattern, AreMore, IsOperand, IsPrimary, IsCore, IsUri, IsDeclaration, AreDeclarations, IsComponent, IsNote, AreInnerItems, MayInherit, MayHaveOverrides, AreItems}
use Rattle.rn_syntax.specs.TokenTerminals.{terminals, terminals_of}
use Rattle.rn_syntax.specs.Beginnings.{HasTree}
use Rattle.rn_syntax.specs.Faults.{kind_places}
use Rattle.rn_syntax.specs.TextOrder.{Rise}
use Rattle.rn_syntax.specs.Places as places

-- ---- lists of which one stands among another, in order

data Among : List ℕ → List ℕ → Type 0 where
  none : {ys : List ℕ} → Among [] ys
  past : {y : ℕ} {xs ys : List ℕ} → Among xs ys → Among xs (y ∷ ys)
  here : {x : ℕ} {xs ys : List ℕ} → Among xs ys → Among (x ∷ xs) (x ∷ ys)

behind_all : (us : List ℕ) {ys vs : List ℕ} → Among ys vs → Among ys (us ++ vs)
behind_all [] h = h
behind_all (u ∷ us) h = past (behind_all us h)

both_among : {xs us ys vs : List ℕ} → Among xs us → Among ys vs → Among (xs ++ ys) (us ++ vs)
both_among {us = us} none h = behind_all us h
both_among (past a) h = past (both_among a h)
both_among (here a) h = here (both_among a h)

all_among : (P : ℕ → Type 0) {xs ys : List ℕ} → Among xs ys → AllByRecursion P ys → AllByRecursion P xs
all_among P none h = tt
all_among P (past a) h = all_among P a h.1
all_among P (here a) h = (h.0, all_among P a h.1)

rise_among : {xs ys : List ℕ} → Among xs ys → Rise ys → Rise xs
rise_among none h = tt
rise_among (past a) h = rise_among a h.1
rise_among (here {x = x} a) h = (all_among (λ j. x < j) a h.0, rise_among a h.1)

-- ---- places among those of tokens

abbrev place_of : Placed → ℕ
place_of (x # i) = i

abbrev places_of : Tokens → List ℕ
places_of ts = map place_of ts

-- these places, and then some of the rest, stand among those of the tokens
record Found (is : List ℕ) (ts rest : Tokens) : Type 0 where
  among : (js : List ℕ) → Among js (places_of rest) → Among (is ++ js) (places_of ts)

nothing : {ts : Tokens} → Found [] ts ts
nothing = record { among = λ js a. a }

skip : {x : Terminal} {i : ℕ} {is : List ℕ} {ts rest : Tokens} → Found is ts rest → Found is (x # i ∷ ts) rest
skip f = record { among = λ js a. past (f.among js a) }

one : {x : Terminal} {i : ℕ} {ts : Tokens} → Found [] (x # i ∷ ts) ts
one = record { among = λ js a. past a }

from : {is : List ℕ} {ts mid rest : Tokens} → Found [] ts mid → Found is mid rest → Found is ts rest
from {is = is} f h = record { among = λ js a. f.among (is ++ js) (h.among js a) }

upto : {is : List ℕ} {ts mid rest : Tokens} → Found is ts mid → Found [] mid rest → Found is ts rest
upto f h = record { among = λ js a. f.among js (h.among js a) }

then : {is ks : List ℕ} {ts mid rest : Tokens} → Found is ts mid → Found ks mid rest → Found (is ++ ks) ts rest
then {is = is} {ks = ks} {ts = ts} f h = record { among = λ js a. subst (λ l. Among l (places_of ts)) (sym (append_assoc is ks js)) (f.among (ks ++ js) (h.among js a)) }

-- what is found at the place of the next token, if it is
at : {x : Terminal} {i : ℕ} {is ks : List ℕ} {ts rest : Tokens} → Among is (i ∷ []) → Found ks ts rest → Found (is ++ ks) (x # i ∷ ts) rest
at {i = i} {is = is} {ks = ks} {ts = ts} a f = record { among = λ js b. subst (λ l. Among l (i ∷ places_of ts)) (sym (append_assoc is ks js)) (both_among a (f.among js b)) }

-- no more behind what is found
alone : {is : List ℕ} {ts rest : Tokens} → Found is ts rest → Found (is ++ []) ts rest
alone f = then f nothing

bare : {is : List ℕ} {ts rest : Tokens} → Found (is ++ []) ts rest → Found is ts rest
bare {is = is} {ts = ts} {rest = rest} f = subst (λ l. Found l ts rest) (append-nil is) f

fewer_among : {x : ℕ} {xs ys : List ℕ} → Among (x ∷ xs) ys → Among xs ys
fewer_among (past a) = past (fewer_among a)
fewer_among (here a) = past a

rest_among : (is js ys : List ℕ) → Among (is ++ js) ys → Among js ys
rest_among [] js ys a = a
rest_among (i ∷ is) js ys a = rest_among is js ys (fewer_among a)

-- without what is found
passed : {is : List ℕ} {ts rest : Tokens} → Found is ts rest → Found [] ts rest
passed {is = is} {ts = ts} f = record { among = λ js a. rest_among is js (places_of ts) (f.among js a) }

none_left : {js : List ℕ} (ys : List ℕ) → Among js [] → Among js ys
none_left ys none = none

nowhere : {ts : Tokens} → Found [] ts []
nowhere {ts = ts} = record { among = λ js a. none_left (places_of ts) a }

maybe : {i : ℕ} (b : Bool) → Among (places.place_if b i) (i ∷ [])
maybe true = here none
maybe false = none

-- ---- productions that have no places of faults

literal_found : {s : List ℕ} {ts rest : Tokens} → IsLiteral ts s rest → Found [] ts rest
literal_found g.one = one
literal_found (g.joined l) = skip (skip (literal_found l))

closed_found : {ts rest : Tokens} → Closed ts rest → Found [] ts rest
closed_found g.close = one
closed_found (g.other e c) = skip (closed_found c)
closed_found (g.nested c d) = skip (from (closed_found c) (closed_found d))

annotation_found : {ts rest : Tokens} → IsAnnotation ts rest → Found [] ts rest
annotation_found (g.bracketed c) = skip (closed_found c)

may_found : {ts rest : Tokens} → MayHaveAnnotation ts rest → Found [] ts rest
may_found g.bare = nothing
may_found (g.annotated a) = annotation_found a

follows_found : {ts rest : Tokens} → AreFollows ts rest → Found [] ts rest
follows_found g.none = nothing
follows_found (g.more n a f) = skip (skip (from (annotation_found a) (follows_found f)))

params_found : {ps : Params} {ts rest : Tokens} → AreParams ts ps rest → Found [] ts rest
params_found g.close = one
params_found (g.param m w l ps) = from (may_found m) (skip (skip (from (literal_found l) (params_found ps))))

may_params_found : {ps : Params} {ts rest : Tokens} → MayHaveParams ts ps rest → Found [] ts rest
may_params_found g.none = nothing
may_params_found (g.braces ps) = skip (params_found ps)

note_found : {ts rest : Tokens} → IsNote ts rest → Found [] ts rest
note_found (g.by_name a) = skip (annotation_found a)
note_found (g.by_prefixed a) = skip (annotation_found a)

uri_found : {u : Uri} {ts rest : Tokens} → IsUri ts u rest → Found [] ts rest
uri_found (g.literal l) = literal_found l
uri_found g.inherited = one

-- ---- name classes

module _ (ds : List Declaration) where
  any_found : {x : Placed} {a : AnyName} {ks : List ℕ} {ts rest : Tokens} → IsAnyName x a → Found ks ts rest → Found (places.any_places ds a ++ ks) (x ∷ ts) rest
  any_found g.all f = skip f
  any_found (g.of {n = n}) f = at (maybe (not (places.is_bound ds n))) f

  mutual
    class_found : {c : NameClass} {ts rest : Tokens} → IsNameClass ts c rest → Found (places.class_places ds c) ts rest
    class_found (g.one o) = class_operand_found o
    class_found (g.choice o m) = then (class_operand_found o) (more_classes_found m)

    more_classes_found : {cs : List NameClass} {ts rest : Tokens} → AreMoreClasses ts cs rest → Found (places.classes_places ds (classes_of cs)) ts rest
    more_classes_found (g.last o) = skip (alone (class_operand_found o))
    more_classes_found (g.more o m) = skip (then (class_operand_found o) (more_classes_found m))

    class_operand_found : {c : NameClass} {ts rest : Tokens} → IsClassOperand ts c rest → Found (places.class_places ds c) ts rest
    class_operand_found (g.plain p) = class_primary_found p
    class_operand_found (g.except m n p) = from (may_found m) (any_found n (skip (class_primary_found p)))

    class_primary_found : {c : NameClass} {ts rest : Tokens} → IsClassPrimary ts c rest → Found (places.class_places ds c) ts rest
    class_primary_found (g.primary m c f) = from (may_found m) (upto (class_core_found c) (follows_found f))

    class_core_found : {c : NameClass} {ts rest : Tokens} → IsClassCore ts c rest → Found (places.class_places ds c) ts rest
    class_core_found (g.word w) = one
    class_core_found (g.prefixed_name {n = n}) = bare (at (maybe (not (places.is_bound ds n))) nothing)
    class_core_found (g.any_name n) = bare (any_found n nothing)
    class_core_found (g.parens c) = skip (upto (class_found c) one)

-- ---- patterns and items

-- the place of a datatype
abbrev type_place : Datatype → ℕ
type_place (t.string i) = i
type_place (t.token i) = i
type_place (t.named n l i) = i

-- places of rules on name classes, datatypes, excepts and inherited prefixes, each of which finds nothing or the place that it looks at
module _ (c : NameClass → List ℕ) (d : Bool → Datatype → Params → List ℕ) (e : ℕ → Pattern → List ℕ) (h : Option (Text × ℕ) → List ℕ)
    (in_class : (n : NameClass) (ts rest : Tokens) → IsNameClass ts n rest → Found (c n) ts rest)
    (in_type : (v : Bool) (x : Datatype) (ps : Params) → Among (d v x ps) (type_place x ∷ []))
    (in_except : (i : ℕ) (p : Pattern) → Among (e i p) (i ∷ []))
    (in_none : h None ≡ []) (in_inherit : (n : Text) (i : ℕ) → Among (h (Some (n, i))) (i ∷ [])) where
  type_found : {x : Placed} {y : Datatype} {ks : List ℕ} {ts rest : Tokens} (v : Bool) (ps : Params) → IsDatatype x y → Found ks ts rest → Found (d v y ps ++ ks) (x ∷ ts) rest
  type_found v ps (g.string {i = i}) f = at (in_type v (t.string i) ps) f
  type_found v ps (g.token {i = i}) f = at (in_type v (t.token i) ps) f
  type_found v ps (g.named {n = n} {l = l} {i = i}) f = at (in_type v (t.named n l i) ps) f

  mutual
    pattern_found : {p : Pattern} {ts rest : Tokens} → IsPattern ts p rest → Found (places.pattern_places c d e p) ts rest
    pattern_found (g.one o) = operand_found o
    pattern_found (g.chain o m) = then (operand_found o) (more_found m)

    more_found : {op : Operator} {ps : List Pattern} {ts rest : Tokens} → AreMore op ts ps rest → Found (places.patterns_places c d e (patterns_of ps)) ts rest
    more_found (g.last o) = skip (alone (operand_found o))
    more_found (g.more o m) = skip (then (operand_found o) (more_found m))

    operand_found : {p : Pattern} {ts rest : Tokens} → IsOperand ts p rest → Found (places.pattern_places c d e p) ts rest
    operand_found (g.plain p) = primary_found p
    operand_found (g.repeated p f) = upto (primary_found p) (skip (follows_found f))
    operand_found {rest = rest} (g.except {x = x} {i = i} {mid = mid} {d = y} {ps = ps} {p = p} m n a q) =
        from (may_found m) (subst (λ l. Found l (x ∷ mid) rest) (sym (append_assoc (d false y ps) (e i p) (places.pattern_places c d e p))) (type_found false ps n (from (may_params_found a) (at (in_except i p) (primary_found q)))))

    primary_found : {p : Pattern} {ts rest : Tokens} → IsPrimary ts p rest → Found (places.pattern_places c d e p) ts rest
    primary_found (g.primary m k f) = from (may_found m) (upto (core_found k) (follows_found f))

    core_found : {p : Pattern} {ts rest : Tokens} → IsCore ts p rest → Found (places.pattern_places c d e p) ts rest
    core_found (g.element n p) = skip (then (in_class _ _ _ n) (skip (upto (pattern_found p) one)))
    core_found (g.attribute n p) = skip (then (in_class _ _ _ n) (skip (upto (pattern_found p) one)))
    core_found (g.list p) = skip (skip (upto (pattern_found p) one))
    core_found (g.mixed p) = skip (skip (upto (pattern_found p) one))
    core_found g.empty = one
    core_found g.not_allowed = one
    core_found g.text = one
    core_found g.ref = one
    core_found (g.value l) = literal_found l
    core_found (g.typed_value n l) = bare (type_found true [] n (literal_found l))
    core_found (g.datum {ps = ps} n a) = bare (type_found false ps n (may_params_found a))
    core_found (g.parens p) = skip (upto (pattern_found p) one)

  component_found : {x : Item} {ts rest : Tokens} → IsComponent ts x rest → Found (places.item_places c d e h x) ts rest
  component_found (g.define p) = skip (skip (pattern_found p))
  component_found (g.start p) = skip (skip (pattern_found p))

  inner_found : {xs : List Item} {ts rest : Tokens} → AreInnerItems ts xs rest → Found (places.items_places c d e h (items_of xs)) ts rest
  inner_found g.none = nothing
  inner_found (g.component m k n) = from (may_found m) (then (component_found k) (inner_found n))
  inner_found (g.div m k n) = from (may_found m) (skip (skip (then (inner_found k) (skip (inner_found n)))))
  inner_found (g.note k n) = from (note_found k) (inner_found n)

  inherit_found : {o : Option (Text × ℕ)} {ts rest : Tokens} → MayInherit ts o rest → Found (h o) ts rest
  inherit_found {ts = ts} g.none = subst (λ l. Found l ts ts) (sym in_none) nothing
  inherit_found (g.inherit {n = n} {l = l} w) = skip (skip (bare (at (in_inherit n l) nothing)))

  overrides_found : {xs : List Item} {ts rest : Tokens} → MayHaveOverrides ts xs rest → Found (places.items_places c d e h (items_of xs)) ts rest
  overrides_found g.none = nothing
  overrides_found (g.braces n) = skip (upto (inner_found n) one)

  items_found : {xs : List Item} {ts rest : Tokens} → AreItems ts xs rest → Found (places.items_places c d e h (items_of xs)) ts rest
  items_found g.none = nothing
  items_found (g.component m k n) = from (may_found m) (then (component_found k) (items_found n))
  items_found (g.div m k n) = from (may_found m) (skip (skip (then (items_found k) (skip (items_found n)))))
  items_found (g.include m l o v n) = from (may_found m) (skip (from (literal_found l) (then (then (inherit_found o) (overrides_found v)) (items_found n))))
  items_found (g.note k n) = from (note_found k) (items_found n)

  module_found : (m : Module) (ts : Tokens) (is : List ℕ) → ((mid : Tokens) → AreDeclarations ts m.declarations mid → Found is ts mid) → HasTree ts m → Found (is ++ places.items_places c d e h m.items) ts []
  module_found m ts is front (g.items k n) = then (front _ k) (items_found n)
  module_found m ts is front (g.grammar k a n f) = then (front _ k) (from (may_found a) (skip (skip (upto (items_found n) (skip (follows_found f))))))

-- ---- declarations

declaration_found : (before : List Declaration) {x : Declaration} {ts rest : Tokens} → IsDeclaration ts x rest → Found (places.declaration_places before x) ts rest
declaration_found before (g.namespace {n = n} {u = v} w u) = skip (bare (at (maybe (places.is_wrong_namespace before n v)) (skip (uri_found u))))
declaration_found before (g.default u) = bare (at (maybe (places.has_default before)) (skip (skip (uri_found u))))
declaration_found before (g.default_prefix {n = n} {u = v} w u) = at (maybe (places.has_default before)) (skip (bare (at (maybe (places.is_wrong_namespace before n v)) (skip (uri_found u)))))
declaration_found before (g.datatypes {n = n} {s = s} w l) = skip (bare (at (maybe (places.is_wrong_library before n s)) (skip (literal_found l))))

declarations_found : (before : List Declaration) {xs : List Declaration} {ts rest : Tokens} → AreDeclarations ts xs rest → Found (places.declarations_places before xs) ts rest
declarations_found before g.none = nothing
declarations_found before (g.more {d = d} k n) = then (declaration_found before k) (declarations_found (before ++ d ∷ []) n)

-- ---- each kind of fault

unbound_among : (ds : List Declaration) (v : Bool) (x : Datatype) (ps : Params) → Among (places.unbound_type ds v x ps) (type_place x ∷ [])
unbound_among ds v (t.string i) ps = none
unbound_among ds v (t.token i) ps = none
unbound_among ds v (t.named n l i) ps = maybe (not (is_some (places.library_of ds n)))

builtin_among : (ds : List Declaration) (v : Bool) (x : Datatype) (ps : Params) → Among (places.wrong_builtin ds v x ps) (type_place x ∷ [])
builtin_among ds v (t.string i) ps = maybe (places.has_any ps)
builtin_among ds v (t.token i) ps = maybe (places.has_any ps)
builtin_among ds v (t.named n l i) ps =
    maybe (places.is_library (places.library_of ds n) [] && (places.has_any ps || not (bytes_eq l (codes "string") || bytes_eq l (codes "token"))))

context_among : (ds : List Declaration) (v : Bool) (x : Datatype) (ps : Params) → Among (places.context_value ds v x ps) (type_place x ∷ [])
context_among ds true (t.string i) ps = none
context_among ds true (t.token i) ps = none
context_among ds true (t.named n l i) ps = maybe (places.is_library (places.library_of ds n) places.xsd_uri && places.is_context_type l)
context_among ds false x ps = none

-- where a tree is at fault stands among the tokens, in their order
places_found : (k : FaultKind) (m : Module) (ts : Tokens) → HasTree ts m → Found (kind_places k m) ts []
places_found kind.Encoding m ts tree = nowhere
places_found kind.Lexical m ts tree = nowhere
places_found kind.Deep m ts tree = nowhere
places_found kind.Syntax m ts tree = nowhere
places_found kind.Prefix m ts tree =
    let ds = m.declarations in
    module_found (places.class_places ds) (places.unbound_type ds) (λ _ _. []) (places.inherit_places ds) (λ n us rest k. class_found ds k) (unbound_among ds) (λ i p. none) refl (λ n i. maybe (not (places.is_bound ds n))) m ts (places.declarations_places [] ds) (λ mid k. declarations_found [] k) tree
places_found kind.Builtin m ts tree =
    let ds = m.declarations in
    module_found (λ _. []) (places.wrong_builtin ds) (λ _ _. []) (λ _. []) (λ n us rest k. passed (class_found ds k)) (builtin_among ds) (λ i p. none) refl (λ n i. none) m ts [] (λ mid k. passed (declarations_found [] k)) tree
places_found kind.ContextValue m ts tree =
    let ds = m.declarations in
    module_found (λ _. []) (places.context_value ds) (λ _ _. []) (λ _. []) (λ n us rest k. passed (class_found ds k)) (context_among ds) (λ i p. none) refl (λ n i. none) m ts [] (λ mid k. passed (declarations_found [] k)) tree
places_found kind.Except m ts tree =
    let ds = m.declarations in
    module_found (λ _. []) (λ _ _ _. []) (λ i p. places.place_if (not (places.is_allowed p)) i) (λ _. []) (λ n us rest k. passed (class_found ds k)) (λ v x ps. none) (λ i p. maybe (not (places.is_allowed p))) refl (λ n i. none) m ts [] (λ mid k. passed (declarations_found [] k)) tree

-- ---- the tokens of a text rise

above : (low more : ℕ) (xs : List ℕ) → low ≤ more → AllByRecursion (λ i. more ≤ i) xs → AllByRecursion (λ i. low ≤ i) xs
above low more [] l h = tt
above low more (x ∷ xs) l h = (omega (arith, l, h.0), above low more xs l h.1)

lexemes_rise : (src : List ℕ) (from : ℕ) (xs : List Lexeme) → StandInOrder src from xs → AllByRecursion (λ i. from ≤ i) (places_of (terminals xs)) × Rise (places_of (terminals xs))
lexemes_rise src from [] h = (tt, tt)
lexemes_rise src from (x ∷ xs) (after, wide, within, bytes, more) =
    let behind = lexemes_rise src x.end xs more in
    ((after, above from x.end (places_of (terminals xs)) (omega (arith, after, wide)) behind.0), (above (suc x.start) x.end (places_of (terminals xs)) wide behind.0, behind.1))

pub places_rise : (src : List ℕ) (xs : List Token) (m : Module) (k : FaultKind) → IsUtf8 src → HasTokens (chars src) (map lexeme_of xs) → HasTree (terminals_of xs) m → Rise (kind_places k m)
places_rise src xs m k utf8 tokens tree =
    let found = (places_found k m (terminals_of xs) tree).among [] none in
    rise_among (subst (λ l. Among l (places_of (terminals_of xs))) (append-nil (kind_places k m)) found) (lexemes_rise src 0 (map lexeme_of xs) (tokens_in_order src _ utf8 tokens)).1
