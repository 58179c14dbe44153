-- The definitions with their forms: each keeps its name, and those in the settling order get their forms one after the other.
use Rattle.std.proofs.Common.{◌≡◌, ◌≢◌, ◌⊎◌, inl, inr, ⊎_elim, ◌+◌, ◌<◌, ℕ, Bool, true, false, nat_eq, List, [], ◌∷◌, ◌++◌, length, map, take, get_or, set, Some, position, refl, sym, ap, ◌∙◌, subst, arith}
use Rattle.std.specs.Prelude.{Contains, String, string_bytes, bytes_eq}
use Rattle.std.specs.String.{string_eq}
use Rattle.std.specs.List.{AllByRecursion, IsDistinct}
use Rattle.std.specs.declared.alloc.Global.{Global}
use Rattle.std.proofs.Math.Seq.{map-set_same}
use Rattle.std.proofs.lemmas.Bool.{false≢true}
use Rattle.std.proofs.lemmas.Bool.Decides.{Decides-eqb}
use Rattle.std.proofs.lemmas.List.{take_more, map-append, map-set, get_or-map, get_or-set_same, get_or-set_other, length-map, length-take-le}
use Rattle.std.proofs.lemmas.List.Elements.{Contains-push_cases}
use Rattle.rn_pattern.specs.Canonical.{canonical}
use Rattle.rn_pattern.specs.Matching.{Grammar}
use Rattle.rn_pattern.specs.Tree.{Tree}
use Rattle.rn_text.specs.Texts.{Text}
use Rattle.rn_pattern.specs.View.{pattern_view}
use Rattle.rn_pattern.specs.declared.tree.Pattern.{Pattern}
use Rattle.rn_assemble.specs.GrammarView.{definitions_view}
use Rattle.rn_assemble.specs.SettlingOrder.{IsSettlingOrder, number_of}
use Rattle.rn_simplify.specs.inside.DefinitionForms.{HaveForms}
use Rattle.rn_simplify.proofs.Simplified.ReferenceGraph.{nothing, is_at, body_is, number_some}
use Rattle.rn_simplify.proofs.Simplified.SettlingOrder.{listed}

abbrev pub names : List (Text × Tree) → List Text
names ds = map (λ (d : Text × Tree). d.0) ds

abbrev viewed : String Global × Pattern → Text × Tree
viewed e = (string_bytes e.0, pattern_view e.1)

pub same_size : (fs ds : List (Text × Tree)) → names fs ≡ names ds → length fs ≡ length ds
same_size fs ds h = sym (length-map fs (λ (d : Text × Tree). d.0)) ∙ ap length h ∙ length-map ds (λ (d : Text × Tree). d.0)

-- ---- the names, one after the other

pub named_more : (ds : List (Text × Tree)) (n : ℕ) (old new : List (String Global × Pattern)) (e : String Global × Pattern) → n < length ds
    → names (definitions_view old) ≡ take n (names ds) → new ≡ old ++ e ∷ [] → string_bytes e.0 ≡ (get_or ds n nothing).0 → names (definitions_view new) ≡ take (n + 1) (names ds)
named_more ds n old new e within h is same =
    let last : string_bytes e.0 ≡ get_or (names ds) n [] = same ∙ sym (get_or-map (λ (d : Text × Tree). d.0) ds n nothing [] within) in
    ap (λ es. names (definitions_view es)) is ∙ ap names (map-append viewed old (e ∷ [])) ∙ map-append (λ (d : Text × Tree). d.0) (definitions_view old) (viewed e ∷ [])
    ∙ (λ i. h i ++ last i ∷ []) ∙ sym (take_more (names ds) n [] (omega (arith, within, length-map ds (λ (d : Text × Tree). d.0))))

-- ---- a form in the place of another

pub entry_put : (es : List (String Global × Pattern)) (n : ℕ) (e : String Global × Pattern) (q : Pattern) → definitions_view (set es n (e.0, q)) ≡ set (definitions_view es) n (string_bytes e.0, pattern_view q)
entry_put es n e q = map-set viewed es n (e.0, q)

pub names_stay : (es : List (String Global × Pattern)) (n : ℕ) (e : String Global × Pattern) (q : Pattern) → n < length es → e ≡ get_or es n e → names (definitions_view (set es n (e.0, q))) ≡ names (definitions_view es)
names_stay es n e q within is =
    ap names (entry_put es n e q) ∙ map-set_same (λ (d : Text × Tree). d.0) (definitions_view es) n (string_bytes e.0, pattern_view q) nothing
    (ap (λ (f : String Global × Pattern). string_bytes f.0) is ∙ sym (ap (λ (d : Text × Tree). d.0) (get_or-map viewed es n e nothing within)))

-- each definition whose number is in the list has its form
abbrev pub AreFormed : (Tree → Tree) → List (Text × Tree) → List ℕ → List (Text × Tree) → Type 0
AreFormed form ds numbers fs = (k : ℕ) → Contains numbers k → (get_or fs k nothing).1 ≡ form (get_or ds k nothing).1

pub none_formed : (form : Tree → Tree) (ds : List (Text × Tree)) (order : List ℕ) (fs : List (Text × Tree)) → AreFormed form ds (take 0 order) fs
none_formed form ds order fs k (j, l, is) = absurd (omega (arith, l, length-take-le 0 order (omega arith)))

-- the one that was put, or another
abbrev PutOrNot : List (Text × Tree) → ℕ → Text × Tree → ℕ → Type 0
PutOrNot fs n e k = ((k ≡ n) × (get_or (set fs n e) k nothing ≡ e)) ⊎ ((k ≢ n) × (get_or (set fs n e) k nothing ≡ get_or fs k nothing))

put_or_not : (b : Bool) (fs : List (Text × Tree)) (n : ℕ) (e : Text × Tree) (k : ℕ) → nat_eq k n ≡ b → n < length fs → PutOrNot fs n e k
put_or_not true fs n e k h l = let same : k ≡ n = (Decides-eqb k n).0 h in inl (same, ap (λ j. get_or (set fs n e) j nothing) same ∙ get_or-set_same fs n e nothing l)
put_or_not false fs n e k h l = let other : k ≢ n = λ s. false≢true (sym h ∙ (Decides-eqb k n).1 s) in inr (other, get_or-set_other fs n k e nothing other)

pub formed_next : (form : Tree → Tree) (ds fs fs' : List (Text × Tree)) (order : List ℕ) (i : ℕ) (e : Text × Tree) → i < length order → get_or order i 0 < length fs → fs' ≡ set fs (get_or order i 0) e
    → e.1 ≡ form (get_or ds (get_or order i 0) nothing).1 → AreFormed form ds (take i order) fs → AreFormed form ds (take (i + 1) order) fs'
formed_next form ds fs fs' order i e l within put made before k c =
    let n = get_or order i 0 in
    let at = λ (q : Text × Tree) (h : get_or (set fs n e) k nothing ≡ q). ap (λ (xs : List (Text × Tree)). (get_or xs k nothing).1) put ∙ ap (λ (d : Text × Tree). d.1) h in
    ⊎_elim
    (λ s. at e s.1 ∙ made ∙ ap (λ j. form (get_or ds j nothing).1) (sym s.0))
    (λ s. at (get_or fs k nothing) s.1 ∙ ⊎_elim (λ b. before k b) (λ same. absurd (s.0 (sym same))) (Contains-push_cases (take i order) n k (subst (λ (ns : List ℕ). Contains ns k) (take_more order i 0 l) c)))
    (put_or_not (nat_eq k n) fs n e k refl within)

-- the settling order has each definition that is reached
pub have_forms : (G : Grammar) (t : Text → Tree) (order : List ℕ) (o : IsSettlingOrder G order) (ds fs : List (Text × Tree)) → ds ≡ G.definitions → names fs ≡ names ds → AreFormed (canonical t) ds order fs → HaveForms G t fs
have_forms G t order o ds fs is named made = λ x p r e.
    let (k, n) = number_some G.definitions x p e in
    let there : number_of fs x ≡ Some k = ap (position (bytes_eq x)) (named ∙ ap names is) ∙ n in
    (is_at fs x k there).found
    ∙ ap (λ q. Some q) (made k (listed G order o x k r n) ∙ ap (λ (es : List (Text × Tree)). canonical t (get_or es k nothing).1) is ∙ ap (canonical t) (body_is G.definitions x k p n e))

-- ---- names that differ

apart_names : (x : String Global) (es : List (String Global × Pattern)) → AllByRecursion (λ y. string_eq x y ≡ false) (map (λ (e : String Global × Pattern). e.0) es) → AllByRecursion (λ y. bytes_eq (string_bytes x) y ≡ false) (names (definitions_view es))
apart_names x [] h = tt
apart_names x (e ∷ es) h = (h.0, apart_names x es h.1)

-- keys that differ are names that do
pub distinct_names : (es : List (String Global × Pattern)) → IsDistinct string_eq (map (λ (e : String Global × Pattern). e.0) es) → IsDistinct bytes_eq (names (definitions_view es))
unfolding IsDistinct
distinct_names [] h = tt
distinct_names (e ∷ es) h = (apart_names e.0 es h.0, distinct_names es h.1)
