-- A start and definitions of distinct names, each plain, joined are the grammar of these.
use Rattle.std.proofs.Common.{◌≡◌, ◌<◌, ◌⊎◌, inl, inr, Bool, true, false, ◌&&◌, cond, List, [], ◌∷◌, refl, sym, ap, ◌∙◌, subst, map, filter, arith, Less, Equal}
use Rattle.std.specs.Prelude.{not, bytes_eq, count_by}
use Rattle.std.specs.List.{AllByRecursion, list_any}
use Rattle.std.proofs.lemmas.Slice.Eq.{bytes_eq-Decides}
use Rattle.rn_pattern.specs.Tree.{Tree}
use Rattle.rn_text.specs.Texts.{Text, text_cmp}
use Rattle.rn_syntax.specs.declared.tree.Method.TheVariants as m
use Rattle.rn_assemble.specs.Components.{Component, start_key, name_key, Key}
use Rattle.rn_assemble.specs.Combine.{of_key, IsPlainTwice, IsMixed, uses, is_plain, is_choice, is_interleave, joined_pattern, method_node, joined_tree, defined_names, joined_grammar, plain_start, plain_definition, components_of, Differ, AreDistinct}
use Rattle.std.specs.List.Sorted.{IsStrictlySortedBy}
use Rattle.std.proofs.lemmas.Bool.{false≢true}
use Rattle.std.proofs.lemmas.Cmp.{nat_list_cmp_total, tied_itself}
use Rattle.rn_pattern.specs.Matching.{Grammar}

same : (x : Text) → bytes_eq x x ≡ true
same x = (bytes_eq-Decides x x).1 refl

no_start : (ds : List (Text × Tree)) → of_key start_key (map plain_definition ds) ≡ []
no_start [] = refl
no_start (d ∷ ds) = no_start ds

none_named : (d : Text × Tree) (ds : List (Text × Tree)) → AllByRecursion (Differ d) ds → of_key (name_key d.0) (map plain_definition ds) ≡ []
none_named d [] h = refl
none_named d (e ∷ ds) h = ap (λ b. cond b (plain_definition e ∷ of_key (name_key d.0) (map plain_definition ds)) (of_key (name_key d.0) (map plain_definition ds))) h.0.0 ∙ none_named d ds h.1

kept_names : (d : Text × Tree) (ds : List (Text × Tree)) → AllByRecursion (Differ d) ds → filter (λ y. not (bytes_eq d.0 y)) (map (λ e. e.0) ds) ≡ map (λ e. e.0) ds
kept_names d [] h = refl
kept_names d (e ∷ ds) h = ap (λ b. cond (not b) (e.0 ∷ filter (λ y. not (bytes_eq d.0 y)) (map (λ e. e.0) ds)) (filter (λ y. not (bytes_eq d.0 y)) (map (λ e. e.0) ds))) h.0.0 ∙ ap (λ l. e.0 ∷ l) (kept_names d ds h.1)

defined : (ds : List (Text × Tree)) → AreDistinct ds → defined_names (map plain_definition ds) ≡ map (λ e. e.0) ds
defined [] h = refl
defined (d ∷ ds) h = ap (λ l. d.0 ∷ filter (λ y. not (bytes_eq d.0 y)) l) (defined ds h.1) ∙ ap (λ l. d.0 ∷ l) (kept_names d ds h.0)

-- each definition is the one plain_definition of its name
IsOnly : List (Text × Tree) → Text × Tree → Type 0
IsOnly ds d = of_key (name_key d.0) (map plain_definition ds) ≡ plain_definition d ∷ []

pub mapped : {A : Type 0} (P Q : A → Type 0) → ((a : A) → P a → Q a) → (xs : List A) → AllByRecursion P xs → AllByRecursion Q xs
mapped P Q h [] a = tt
mapped P Q h (x ∷ xs) a = (h x a.0, mapped P Q h xs a.1)

pub zipped : {A : Type 0} (P Q : A → Type 0) (xs : List A) → AllByRecursion P xs → AllByRecursion Q xs → AllByRecursion (λ x. P x × Q x) xs
zipped P Q [] a b = tt
zipped P Q (x ∷ xs) a b = ((a.0, b.0), zipped P Q xs a.1 b.1)

each_only : (ds : List (Text × Tree)) → AreDistinct ds → AllByRecursion (IsOnly ds) ds
unfolding IsOnly
each_only [] h = tt
each_only (d ∷ ds) h = (
  ap (λ b. cond b (plain_definition d ∷ of_key (name_key d.0) (map plain_definition ds)) (of_key (name_key d.0) (map plain_definition ds))) (same d.0) ∙ ap (λ l. plain_definition d ∷ l) (none_named d ds h.0),
  mapped (λ e. Differ d e × IsOnly ds e) (IsOnly (d ∷ ds))
      (λ e k. ap (λ b. cond b (plain_definition d ∷ of_key (name_key e.0) (map plain_definition ds)) (of_key (name_key e.0) (map plain_definition ds))) k.0.1 ∙ k.1)
      ds (zipped (Differ d) (IsOnly ds) ds h.0 (each_only ds h.1)),
)

map_same : {A B : Type 0} (f g : A → B) (xs : List A) → AllByRecursion (λ a. f a ≡ g a) xs → map f xs ≡ map g xs
map_same f g [] h = refl
map_same f g (x ∷ xs) h = λ i. h.0 i ∷ map_same f g xs h.1 i

map_map : (g : Text → Text × Tree) (ds : List (Text × Tree)) → map g (map (λ d. d.0) ds) ≡ map (λ d. g d.0) ds
map_map g [] = refl
map_map g (d ∷ ds) = ap (λ l. g d.0 ∷ l) (map_map g ds)

map_id : (ds : List (Text × Tree)) → map (λ d. d) ds ≡ ds
map_id [] = refl
map_id (d ∷ ds) = ap (λ l. d ∷ l) (map_id ds)

-- a grammar of distinct names is what its components are joined to
pub joined_is : (G : Grammar) → AreDistinct G.definitions → joined_grammar (components_of G) ≡ G
unfolding IsOnly
joined_is G h =
    let p = G.start in
    let ds = G.definitions in
    let all = components_of G in
    let start : joined_pattern all start_key ≡ p = ap (λ l. joined_tree (method_node start_key all) (map (λ (c : Component). c.body) (plain_start p ∷ l))) (no_start ds) in
    let definitions : map (λ (x : Text). (x, joined_pattern all (name_key x))) (defined_names all) ≡ ds =
    ap (map (λ (x : Text). (x, joined_pattern all (name_key x)))) (defined ds h) ∙ map_map (λ x. (x, joined_pattern all (name_key x))) ds
    ∙ map_same (λ d. (d.0, joined_pattern all (name_key d.0))) (λ d. d) ds
    (mapped (IsOnly ds) (λ d. (d.0, joined_pattern all (name_key d.0)) ≡ d) (λ d k. ap (λ l. (d.0, joined_tree (method_node (name_key d.0) all) (map (λ (c : Component). c.body) l))) k) ds (each_only ds h))
    ∙ map_id ds in
    λ i. record { start = start i; definitions = definitions i }

-- none or one plain component
abbrev AtMostOne : List Component → Type 0
AtMostOne cs = (cs ≡ []) ⊎ ((k : Key) × (p : Tree) × (cs ≡ record { key = k; method = m.Plain; body = p } ∷ []))

one_named_at : (b : Bool) (x : Text) (d : Text × Tree) (ds : List (Text × Tree)) → bytes_eq x d.0 ≡ b → AllByRecursion (Differ d) ds → AtMostOne (of_key (name_key x) (map plain_definition ds))
    → AtMostOne (cond b (plain_definition d ∷ of_key (name_key x) (map plain_definition ds)) (of_key (name_key x) (map plain_definition ds)))
one_named_at true x d ds e h k = inr (name_key d.0, d.1, ap (λ l. plain_definition d ∷ l) (ap (λ y. of_key (name_key y) (map plain_definition ds)) ((bytes_eq-Decides x d.0).0 e) ∙ none_named d ds h))
one_named_at false x d ds e h k = k

one_named : (x : Text) (ds : List (Text × Tree)) → AreDistinct ds → AtMostOne (of_key (name_key x) (map plain_definition ds))
one_named x [] h = inl refl
one_named x (d ∷ ds) h = one_named_at (bytes_eq x d.0) x d ds refl h.0 (one_named x ds h.1)

one_of_key : (k : Key) (G : Grammar) → AreDistinct G.definitions → AtMostOne (of_key k (components_of G))
one_of_key start_key G h = inr (start_key, G.start, ap (λ l. plain_start G.start ∷ l) (no_start G.definitions))
one_of_key (name_key x) G h = one_named x G.definitions h

one_plain : (parts : List Component) → AtMostOne parts → ¬ (1 < count_by (λ (c : Component). is_plain c.method) parts)
one_plain parts (inl e) l = let n : 1 < count_by (λ (c : Component). is_plain c.method) [] = subst (λ ds. 1 < count_by (λ (c : Component). is_plain c.method) ds) e l in absurd (omega (arith, n))
one_plain parts (inr (k, p, e)) l =
    let n : 1 < count_by (λ (c : Component). is_plain c.method) (record { key = k; method = m.Plain; body = p } ∷ []) = subst (λ ds. 1 < count_by (λ (c : Component). is_plain c.method) ds) e l in
    absurd (omega (arith, n))

no_choice : (parts : List Component) → AtMostOne parts → list_any (λ (c : Component). is_choice c.method) parts ≡ false
no_choice parts (inl e) = ap (list_any (λ (c : Component). is_choice c.method)) e
no_choice parts (inr (k, p, e)) = ap (list_any (λ (c : Component). is_choice c.method)) e

-- no key of them has two plain components, or both methods
pub plain_once : (G : Grammar) → AreDistinct G.definitions → (k : Key) → ¬ IsPlainTwice k (components_of G)
plain_once G h k = one_plain (of_key k (components_of G)) (one_of_key k G h)

pub not_mixed : (G : Grammar) → AreDistinct G.definitions → (k : Key) → ¬ IsMixed k (components_of G)
not_mixed G h k e = let none : false ≡ true = ap (λ b. b && uses is_interleave k (components_of G)) (sym (no_choice (of_key k (components_of G)) (one_of_key k G h))) ∙ e in false≢true none

differ_at : (b : Bool) (x y : Text) → bytes_eq x y ≡ b → ¬ (x ≡ y) → bytes_eq x y ≡ false
differ_at true x y e n = absurd (n ((bytes_eq-Decides x y).0 e))
differ_at false x y e n = e

not_same : (x y : Text) → text_cmp x y ≡ Less → ¬ (x ≡ y)
not_same x y h e = let k : Equal ≡ Less = sym (tied_itself nat_list_cmp_total x) ∙ ap (text_cmp x) e ∙ h in cc

pub differ : (x y : Text) → ¬ (x ≡ y) → bytes_eq x y ≡ false
differ x y n = differ_at (bytes_eq x y) x y refl n

differ_above : (d : Text × Tree) (ds : List (Text × Tree)) → AllByRecursion (λ y. text_cmp d.0 y ≡ Less) (map (λ e. e.0) ds) → AllByRecursion (Differ d) ds
differ_above d [] h = tt
differ_above d (e ∷ ds) h = ((differ d.0 e.0 (not_same d.0 e.0 h.0), differ e.0 d.0 (λ k. not_same d.0 e.0 h.0 (sym k))), differ_above d ds h.1)

-- names in order are distinct
pub sorted_distinct : (ds : List (Text × Tree)) → IsStrictlySortedBy text_cmp (map (λ d. d.0) ds) → AreDistinct ds
unfolding IsStrictlySortedBy
sorted_distinct [] h = tt
sorted_distinct (d ∷ ds) h = (differ_above d ds h.0, sorted_distinct ds h.1)

mapped_all_distinct : (f : Tree → Tree) (d : Text × Tree) (es : List (Text × Tree)) → AllByRecursion (Differ d) es → AllByRecursion (Differ (d.0, f d.1)) (map (λ e. (e.0, f e.1)) es)
mapped_all_distinct f d [] h = tt
mapped_all_distinct f d (e ∷ es) h = (h.0, mapped_all_distinct f d es h.1)

-- a change of the bodies leaves the names distinct
pub mapped_distinct : (f : Tree → Tree) (ds : List (Text × Tree)) → AreDistinct ds → AreDistinct (map (λ e. (e.0, f e.1)) ds)
mapped_distinct f [] h = tt
mapped_distinct f (d ∷ ds) h = (mapped_all_distinct f d ds h.0, mapped_distinct f ds h.1)
