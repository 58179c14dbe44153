-- Marks of the definitions that are reached, and the names without a mark.
use Rattle.std.proofs.Common.{◌≡◌, ◌≢◌, ℕ, zero, suc, ◌+◌, ◌<◌, Bool, true, false, nat_eq, List, [], ◌∷◌, ◌++◌, length, get_or, set, take, Some, refl, sym, ap, ◌∙◌, arith, map, Result, Ok, Err, IfOk, String, string_bytes, slice_get, Global}
use Rattle.std.specs.Prelude.{◌||◌, Contains, if◌then◌else◌}
use Rattle.std.specs.Option.{option_map}
use Rattle.std.proofs.lemmas.Bool.{eq-eqb, eqb-true, false≢true}
use Rattle.std.proofs.lemmas.Cmp.{nat_eq_equiv}
use Rattle.std.proofs.lemmas.Grind.{get_or-set_at}
use Rattle.std.proofs.lemmas.List.{get_or-set_other, map-append}
use Rattle.std.proofs.lemmas.List.Folds.{list_any_more}
use Rattle.std.proofs.lemmas.Map.Views.{list_any-from_Contains}
use Rattle.std.proofs.lemmas.Option.{get_or_from_slice_get, slice_get-map}
use Rattle.rn_text.specs.Texts.{Text}
use Rattle.rn_graph.specs.Graph.{is_marked}
use Rattle.rn_pattern.specs.Matching.{Grammar}
use Rattle.rn_pattern.specs.Tree.{Tree}
use Rattle.rn_pattern.specs.View.{pattern_view}
use Rattle.rn_pattern.specs.declared.tree.Pattern.{Pattern}
use Rattle.rn_assemble.specs.DefinitionsView.{definitions_view}
use Rattle.rn_assemble.specs.SettlingOrder.{IsSettlingOrder, holds}
use Rattle.rn_flat.specs.UnreachedNames.{AreUnreached, TellReached, names_of_definitions, unmarked}

or_last : (a b : Bool) → (a || (b || true)) ≡ true
or_last true b = refl
or_last false true = refl
or_last false false = refl

or_more : (a b : Bool) → (a || b) ≡ (a || (b || false))
or_more true b = refl
or_more false true = refl
or_more false false = refl

-- the mark of one number more is set
marked_by : (t b : Bool) (seen : List Bool) (n x : ℕ) (a : Bool) → nat_eq x n ≡ t → n < length seen → is_marked seen x ≡ (b || a) → is_marked (set seen n true) x ≡ (b || (a || t))
marked_by true b seen n x a e l h = get_or-set_at seen n x true false (eqb-true x n e) l ∙ sym (or_last b a)
marked_by false b seen n x a e l h =
    let other : x ≢ n = λ is. false≢true (sym e ∙ eq-eqb x n is) in
    get_or-set_other seen n x true false other ∙ h ∙ or_more b a

pub next_mark : (seen new : List Bool) (order : List ℕ) (i x : ℕ) (b : Bool) → i < length order → get_or order i 0 < length seen → new ≡ set seen (get_or order i 0) true → is_marked seen x ≡ (b || holds (take i order) x)
    → is_marked new x ≡ (b || holds (take (i + 1) order) x)
next_mark seen new order i x b l below e h =
    ap (λ s. is_marked s x) e
    ∙ marked_by (nat_eq x (get_or order i 0)) b seen (get_or order i 0) x (holds (take i order) x) refl below h
    ∙ sym (ap (λ a. b || a) (list_any_more (nat_eq x) order i 0 l))

pub no_mark : (b : Bool) → b ≡ (b || false)
no_mark true = refl
no_mark false = refl

-- where a number stands among others
record StandsAt (ns : List ℕ) (k i : ℕ) : Type 0 where
  within : i < length ns
  is : get_or ns i 0 ≡ k

stands_first : (b : Bool) (n k : ℕ) (ns : List ℕ) → nat_eq k n ≡ b → (b || holds ns k) ≡ true → (holds ns k ≡ true → (i : ℕ) × StandsAt ns k i) → (i : ℕ) × StandsAt (n ∷ ns) k i
stands_first true n k ns e h f = (0, record { within = omega arith; is = sym (eqb-true k n e) })
stands_first false n k ns e h f = let p = f h in let l = p.1.within in (suc p.0, record { within = omega (arith, l); is = p.1.is })

stands : (ns : List ℕ) (k : ℕ) → holds ns k ≡ true → (i : ℕ) × StandsAt ns k i
stands [] k h = absurd (false≢true h)
stands (n ∷ ns) k h = stands_first (nat_eq k n) n k ns refl h (λ g. stands ns k g)

pub all_below : (G : Grammar) (order : List ℕ) (n : ℕ) → IsSettlingOrder G order → n ≡ length G.definitions → (y : ℕ) → Contains order y → y < n
all_below G order n o e y h =
    let p = stands order y (list_any-from_Contains nat_eq_equiv y order h) in
    let l = o.within p.0 p.1.within in
    let is = p.1.is in
    omega (arith, l, is, e)

pub tells : (G : Grammar) (order : List ℕ) (marks : List Bool) → IsSettlingOrder G order → length marks ≡ length G.definitions → ((x : ℕ) → is_marked marks x ≡ holds order x) → TellReached G marks
tells G order marks o s m = record {
  size = s;
  listed = λ x k r e. m k ∙ o.listed x k r e;
  reached = λ x k e t. let p = stands order k (sym (m k) ∙ t) in o.reached p.0 x p.1.within (e ∙ ap Some (sym p.1.is));
}

-- ---- names without a mark

abbrev pub kept : Bool → Text → List Text
kept has_mark x = if has_mark then [] else x ∷ []

one_more : (ms : List Bool) (xs : List Text) (n : ℕ) → n < length xs → length ms ≡ length xs
    → unmarked (take (suc n) ms) (take (suc n) xs) ≡ unmarked (take n ms) (take n xs) ++ kept (is_marked ms n) (get_or xs n [])
one_more ms [] n l s = absurd (omega (arith, l))
one_more [] (x ∷ xs) n l s = absurd (omega (arith, s))
one_more (true ∷ ms) (x ∷ xs) zero l s = refl
one_more (false ∷ ms) (x ∷ xs) zero l s = refl
one_more (true ∷ ms) (x ∷ xs) (suc n) l s = one_more ms xs n (omega (arith, l)) (omega (arith, s))
one_more (false ∷ ms) (x ∷ xs) (suc n) l s = ap (λ ys. x ∷ ys) (one_more ms xs n (omega (arith, l)) (omega (arith, s)))

pub next_name : (ms : List Bool) (xs : List Text) (n : ℕ) (old new : List Text) → n < length xs → length ms ≡ length xs → new ≡ old ++ kept (is_marked ms n) (get_or xs n []) → old ≡ unmarked (take n ms) (take n xs)
    → new ≡ unmarked (take (n + 1) ms) (take (n + 1) xs)
next_name ms xs n old new l s e h =
    let one : n + 1 ≡ suc n = omega arith in
    e ∙ ap (λ ys. ys ++ kept (is_marked ms n) (get_or xs n [])) h ∙ sym (ap (λ k. unmarked (take k ms) (take k xs)) one ∙ one_more ms xs n l s)

-- the name of a definition
pub name_at : (es : List (String Global × Pattern)) (n : ℕ) (name : String Global) (p : Pattern) → Some (name, p) ≡ slice_get es n → get_or (names_of_definitions (definitions_view es)) n [] ≡ string_bytes name
name_at es n name p e =
    let view : String Global × Pattern → Text × Tree = λ d. (string_bytes d.0, pattern_view d.1) in
    let first : Text × Tree → Text = λ d. d.0 in
    get_or_from_slice_get (names_of_definitions (definitions_view es)) n (string_bytes name) []
    (slice_get-map first (definitions_view es) n ∙ ap (option_map first) (slice_get-map view es n ∙ sym (ap (option_map view) e)))

pub with_name : (old new : List (String Global)) (one : String Global) (x : Text) (b : Bool) → b ≡ false → new ≡ old ++ one ∷ [] → string_bytes one ≡ x → map string_bytes new ≡ map string_bytes old ++ kept b x
with_name old new one x b f e h =
    ap (map string_bytes) e ∙ map-append string_bytes old (one ∷ []) ∙ ap (λ y. map string_bytes old ++ y ∷ []) h ∙ sym (ap (λ c. map string_bytes old ++ kept c x) f)

pub as_unreached : {V E : Type 0} (r : Result V E) (texts : V → List Text) (G : Grammar) (marks : List Bool) (names : List Text) → TellReached G marks → names ≡ names_of_definitions G.definitions → IfOk r (λ v. texts v ≡ unmarked marks names)
    → IfOk r (λ v. AreUnreached G (texts v))
as_unreached (Ok v) texts G marks names t e h = record { marks = marks; tell = t; are = h ∙ ap (unmarked marks) e }
as_unreached (Err x) texts G marks names t e h = tt
