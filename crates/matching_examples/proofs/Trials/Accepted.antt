-- Trying each split decides whether a pattern matches.
use Rattle.std.proofs.Common.{◌≡◌, ◌+◌, ◌<◌, ◌≤◌, ℕ, zero, suc, Bool, true, false, not, ◌&&◌, List, [], ◌∷◌, map, length, replicate, Option, Some, None, refl, sym, ap, ◌∙◌, subst, arith, ◌⊎◌, inl, inr}
use Rattle.std.specs.Prelude.{IsSomeAnd}
use Rattle.std.specs.Bool.{Decides}
use Rattle.std.specs.Option.{option_map_or}
use Rattle.std.proofs.lemmas.Bool.Decides.{Decides-like, Decides-not, Decides-and, not_from_Decides}
use Rattle.std.proofs.Math.ListN.{length-append}
use Rattle.rn_pattern.specs.Tree.{Tree, Trees, not_allowed, empty, text, ref, value, datum, datum_but, list, attribute, element, one_or_more, group, interleave, choice, no_trees, more_trees, list_of}
use Rattle.rn_text.specs.Texts.{Text}
use Rattle.rn_pattern.specs.Document.{Attribute, Item, string}
use Rattle.rn_pattern.specs.Datatype.{Table, words, Allows, TakesAsEqual}
use Rattle.rn_pattern.specs.Matching.{Meaning, Matches, SomeMatches, Grammar, definition_of, MatchesWithin, IsValid}
use Rattle.rn_pattern.proofs.Matches.Weaving.{Weave, woven, first, second}
use Rattle.rn_pattern.proofs.Matches.Products.{Product, product_one}
use Rattle.rn_pattern.proofs.Matches.Compositions.{Content, nothing, InTurn, Mixed, in_turn as turns, Matching, group_product, product_group, interleave_product, product_interleave, one_or_more_product, product_one_or_more}
use Rattle.matching_examples.proofs.Trials.Accepting.{both, is_empty, some_weave, some_cut, times, are_strings, allows, takes_as_equal, accepts, in_turn, in_any_order, some_accepts, accepts_within, is_valid_within}
use Rattle.matching_examples.proofs.Trials.AcceptedParts.{never, both_decides, either_decides, is_empty_decides, SomeWeave, some_weave_decides, SomeCut, some_cut_decides, are_strings_decides, only_string_decides, attribute_decides, element_decides, allows_decides, takes_as_equal_decides}

-- parts in turn, and parts in any order
module _ (P Q : List Attribute → List Item → Type 0) where
  abbrev Turns : List Attribute → List Item → Type 0
  Turns a m = (b : Content) × (c : Content) × InTurn (a, m) b c × P b.0 b.1 × Q c.0 c.1

  abbrev Mixes : List Attribute → List Item → Type 0
  Mixes a m = (b : Content) × (c : Content) × Mixed (a, m) b c × P b.0 b.1 × Q c.0 c.1

module _ (P Q : List Attribute → List Item → Type 0) (f g : List Attribute → List Item → Bool) (first_decides : (a : List Attribute) (m : List Item) → Decides (f a m) (P a m)) (rest_decides : (a : List Attribute) (m : List Item) → Decides (g a m) (Q a m)) where
  parts_decide : (b c : List Attribute) (k l : List Item) → Decides (both (f b k) (λ _. g c l)) (P b k × Q c l)
  parts_decide b c k l = both_decides (f b k) (λ _. g c l) (first_decides b k) (rest_decides c l)

  pub turns_decide : (a : List Attribute) (m : List Item) → Decides (some_weave (λ b c. some_cut (λ k l. both (f b k) (λ _. g c l)) m) a) (Turns P Q a m)
  turns_decide a m = Decides-like (some_weave (λ b c. some_cut (λ k l. both (f b k) (λ _. g c l)) m) a) to from
      (some_weave_decides (λ b c. some_cut (λ k l. both (f b k) (λ _. g c l)) m) (λ b c. SomeCut (λ k l. P b k × Q c l) m) (λ b c. some_cut_decides (λ k l. both (f b k) (λ _. g c l)) (λ k l. P b k × Q c l) (λ k l. parts_decide b c k l) m) a)
    where
      to : SomeWeave (λ b c. SomeCut (λ k l. P b k × Q c l) m) a → Turns P Q a m
      to (b, c, w, (k, l, is, (here, more))) = ((b, k), (c, l), (w, is), here, more)

      from : Turns P Q a m → SomeWeave (λ b c. SomeCut (λ k l. P b k × Q c l) m) a
      from (b, c, (w, is), here, more) = (b.0, c.0, w, (b.1, c.1, is, (here, more)))

  pub mixes_decide : (a : List Attribute) (m : List Item) → Decides (some_weave (λ b c. some_weave (λ k l. both (f b k) (λ _. g c l)) m) a) (Mixes P Q a m)
  mixes_decide a m = Decides-like (some_weave (λ b c. some_weave (λ k l. both (f b k) (λ _. g c l)) m) a) to from
      (some_weave_decides (λ b c. some_weave (λ k l. both (f b k) (λ _. g c l)) m) (λ b c. SomeWeave (λ k l. P b k × Q c l) m) (λ b c. some_weave_decides (λ k l. both (f b k) (λ _. g c l)) (λ k l. P b k × Q c l) (λ k l. parts_decide b c k l) m) a)
    where
      to : SomeWeave (λ b c. SomeWeave (λ k l. P b k × Q c l) m) a → Mixes P Q a m
      to (b, c, w, (k, l, v, (here, more))) = ((b, k), (c, l), (w, v), here, more)

      from : Mixes P Q a m → SomeWeave (λ b c. SomeWeave (λ k l. P b k × Q c l) m) a
      from (b, c, (w, v), here, more) = (b.0, c.0, w, (b.1, c.1, v, (here, more)))

length-weave : {X : Type 0} {xs ys zs : List X} → Weave X xs ys zs → length xs ≡ length ys + length zs
length-weave woven = refl
length-weave (first w) = let e = length-weave w in omega arith
length-weave (second w) = let e = length-weave w in omega arith

-- repetitions: at most n + 1 parts, where no more have content
module _ (P : List Attribute → List Item → Type 0) (f : List Attribute → List Item → Bool) (each : (a : List Attribute) (m : List Item) → Decides (f a m) (P a m)) where
  abbrev Times : ℕ → List Attribute → List Item → Type 0
  Times zero a m = P a m
  Times (suc n) a m = P a m ⊎ Turns P (Times n) a m

  times_decide : (n : ℕ) (a : List Attribute) (m : List Item) → Decides (times f n a m) (Times n a m)
  times_decide zero a m = each a m
  times_decide (suc n) a m = either_decides (f a m) (λ _. some_weave (λ b c. some_cut (λ k l. both (f b k) (λ _. times f n c l)) m) a) (each a m) (turns_decide P (Times n) f (times f n) each (λ c l. times_decide n c l) a m)

  module _ (p : Tree) (L : Tree → Content → Type 0) (is : (s : Content) → L p s → P s.0 s.1) (of : (s : Content) → P s.0 s.1 → L p s) where
    abbrev Repeated : ℕ → Content → Type 0
    Repeated k s = Product InTurn nothing L (replicate (suc k) p) s

    times_to : (n : ℕ) (s : Content) → Times n s.0 s.1 → (k : ℕ) × Repeated k s
    times_to zero s h = (0, (product_one InTurn nothing turns L p s).0 (of s h))
    times_to (suc n) s (inl h) = (0, (product_one InTurn nothing turns L p s).0 (of s h))
    times_to (suc n) s (inr (b, c, w, here, more)) =
        let (k, rest) = times_to n c more in
        (suc k, (b, c, w, of b here, rest))

    enough : (n : ℕ) (s : Content) → P s.0 s.1 → Times n s.0 s.1
    enough zero s h = h
    enough (suc n) s h = inl h

    -- a part with content leaves less; one without leaves all, and can go
    times_from_parts : (n : ℕ) (s : Content) (a : List Attribute) (m : List Item) (rest : Content) → InTurn s (a, m) rest → P a m → length s.0 + length s.1 ≤ n → ((i : ℕ) → length rest.0 + length rest.1 ≤ i → Times i rest.0 rest.1) → Times n s.0 s.1
    times_from_parts n s [] [] rest c here within more =
        let same : s ≡ rest = turns.only_behind s rest c in
        subst (λ (t : Content). Times n t.0 t.1) (sym same) (more n (subst (λ (t : Content). length t.0 + length t.1 ≤ n) same within))
    times_from_parts zero s (x ∷ a) m rest c here within more = let e = length-weave c.0 in absurd (omega arith)
    times_from_parts (suc n) s (x ∷ a) m rest c here within more =
        let e = length-weave c.0 in
        let d : length s.1 ≡ length m + length rest.1 = ap length c.1 ∙ length-append m rest.1 in
        inr ((x ∷ a, m), rest, c, here, more n (omega arith))
    times_from_parts zero s [] (x ∷ m) rest c here within more =
        let d : length s.1 ≡ suc (length m) + length rest.1 = ap length c.1 ∙ length-append (x ∷ m) rest.1 in
        absurd (omega arith)
    times_from_parts (suc n) s [] (x ∷ m) rest c here within more =
        let e = length-weave c.0 in
        let d : length s.1 ≡ suc (length m) + length rest.1 = ap length c.1 ∙ length-append (x ∷ m) rest.1 in
        inr (([], x ∷ m), rest, c, here, more n (omega arith))

    times_from : (k n : ℕ) (s : Content) → length s.0 + length s.1 ≤ n → Repeated k s → Times n s.0 s.1
    times_from zero n s within h = enough n s (is s ((product_one InTurn nothing turns L p s).1 h))
    times_from (suc k) n s within (part, rest, c, here, more) =
        times_from_parts n s part.0 part.1 rest c (is part here) within (λ i inside. times_from k i rest inside more)

module _ (T : Table) (means : Text → List Attribute → List Item → Bool) (meaning : Meaning) (same : (x : Text) (a : List Attribute) (m : List Item) → Decides (means x a m) (meaning x a m)) where
  nothing_decides : (a : List Attribute) (m : List Item) → Decides (is_empty a && is_empty m) ((a ≡ []) × (m ≡ []))
  nothing_decides a m = Decides-and (is_empty a) (is_empty m) (is_empty_decides a) (is_empty_decides m)

  none_decides : (a : List Attribute) (m : List Item) → Decides (is_empty a && is_empty m) (Path Content (a, m) nothing)
  none_decides a m = Decides-like (is_empty a && is_empty m) (λ h. λ i. (h.0 i, h.1 i)) (λ e. (ap (λ s. s.0) e, ap (λ s. s.1) e)) (nothing_decides a m)

  repeated_decides : (p : Tree) → ((a : List Attribute) (m : List Item) → Decides (accepts T means p a m) (Matches T meaning a m p)) → (a : List Attribute) (m : List Item) → Decides (times (λ b k. accepts T means p b k) (length a + length m) a m) (Matches T meaning a m (one_or_more p))
  repeated_decides p each a m = Decides-like _ to from (times_decide (λ b k. Matches T meaning b k p) (λ b k. accepts T means p b k) each (length a + length m) a m)
    where
      to : Times (λ b k. Matches T meaning b k p) (λ b k. accepts T means p b k) each (length a + length m) a m → Matches T meaning a m (one_or_more p)
      to h =
          let (k, parts) = times_to (λ b k. Matches T meaning b k p) (λ b k. accepts T means p b k) each p (Matching T meaning) (λ s x. x) (λ s x. x) (length a + length m) (a, m) h in
          product_one_or_more T meaning p (a, m) (suc k) (omega arith) parts

      from : Matches T meaning a m (one_or_more p) → Times (λ b k. Matches T meaning b k p) (λ b k. accepts T means p b k) each (length a + length m) a m
      from h = some (one_or_more_product T meaning p (a, m) h)
        where
          some : (n : ℕ) × (0 < n) × Product InTurn nothing (Matching T meaning) (replicate n p) (a, m) → Times (λ b k. Matches T meaning b k p) (λ b k. accepts T means p b k) each (length a + length m) a m
          some (zero, lt, parts) = absurd (omega arith)
          some (suc n, lt, parts) = times_from (λ b k. Matches T meaning b k p) (λ b k. accepts T means p b k) each p (Matching T meaning) (λ s x. x) (λ s x. x) n (length a + length m) (a, m) (omega arith) parts

  mutual
    accepts_decides : (p : Tree) (a : List Attribute) (m : List Item) → Decides (accepts T means p a m) (Matches T meaning a m p)
    accepts_decides not_allowed a m = never (λ h. h)
    accepts_decides empty a m = nothing_decides a m
    accepts_decides text a m = Decides-and (is_empty a) (are_strings m) (is_empty_decides a) (are_strings_decides m)
    accepts_decides (ref x) a m = same x a m
    accepts_decides (value library type t) a m = only_string_decides (λ s. takes_as_equal T library type t s) (λ s. TakesAsEqual T library type t s) (λ s. takes_as_equal_decides T library type t s) a m
    accepts_decides (datum library type params) a m = only_string_decides (λ s. allows T library type params s) (λ s. Allows T library type params s) (λ s. allows_decides T library type params s) a m
    accepts_decides (datum_but library type params p) a m =
        let apart = Decides-not (accepts T means p a m) (accepts_decides p a m) in
        let each = λ (s : Text). both_decides (allows T library type params s) (λ _. not (accepts T means p a m)) (allows_decides T library type params s) apart in
        Decides-like _ (λ h. (h.0, h.1, h.2, h.3.0, h.3.1)) (λ h. (h.0, h.1, h.2, (h.3, h.4))) (only_string_decides (λ s. both (allows T library type params s) (λ _. not (accepts T means p a m))) (λ s. Allows T library type params s × ¬ Matches T meaning a m p) each a m)
    accepts_decides (list p) a m = only_string_decides (λ s. accepts T means p [] (map string (words s))) (λ s. Matches T meaning [] (map string (words s)) p) (λ s. accepts_decides p [] (map string (words s))) a m
    accepts_decides (attribute c p) a m = attribute_decides c (λ b k. accepts T means p b k) (λ b k. Matches T meaning b k p) (λ b k. accepts_decides p b k) a m
    accepts_decides (element c p) a m = element_decides c (λ b k. accepts T means p b k) (λ b k. Matches T meaning b k p) (λ b k. accepts_decides p b k) a m
    accepts_decides (one_or_more p) a m = repeated_decides p (λ b k. accepts_decides p b k) a m
    accepts_decides (group ps) a m = Decides-like _ (product_group T meaning ps (a, m)) (group_product T meaning ps (a, m)) (in_turn_decides ps a m)
    accepts_decides (interleave ps) a m = Decides-like _ (product_interleave T meaning ps (a, m)) (interleave_product T meaning ps (a, m)) (in_any_order_decides ps a m)
    accepts_decides (choice ps) a m = some_accepts_decides ps a m

    in_turn_decides : (ps : Trees) (a : List Attribute) (m : List Item) → Decides (in_turn T means ps a m) (Product InTurn nothing (Matching T meaning) (list_of ps) (a, m))
    in_turn_decides no_trees a m = none_decides a m
    in_turn_decides (more_trees p ps) a m = turns_decide (λ b k. Matches T meaning b k p) (λ c l. Product InTurn nothing (Matching T meaning) (list_of ps) (c, l)) (λ b k. accepts T means p b k) (λ c l. in_turn T means ps c l) (λ b k. accepts_decides p b k) (λ c l. in_turn_decides ps c l) a m

    in_any_order_decides : (ps : Trees) (a : List Attribute) (m : List Item) → Decides (in_any_order T means ps a m) (Product Mixed nothing (Matching T meaning) (list_of ps) (a, m))
    in_any_order_decides no_trees a m = none_decides a m
    in_any_order_decides (more_trees p ps) a m = mixes_decide (λ b k. Matches T meaning b k p) (λ c l. Product Mixed nothing (Matching T meaning) (list_of ps) (c, l)) (λ b k. accepts T means p b k) (λ c l. in_any_order T means ps c l) (λ b k. accepts_decides p b k) (λ c l. in_any_order_decides ps c l) a m

    some_accepts_decides : (ps : Trees) (a : List Attribute) (m : List Item) → Decides (some_accepts T means ps a m) (SomeMatches T meaning a m ps)
    some_accepts_decides no_trees a m = never (λ h. h)
    some_accepts_decides (more_trees p ps) a m = either_decides (accepts T means p a m) (λ _. some_accepts T means ps a m) (accepts_decides p a m) (some_accepts_decides ps a m)

option_decides : {X : Type 0} (f : X → Bool) (P : X → Type 0) → ((x : X) → Decides (f x) (P x)) → (o : Option X) → Decides (option_map_or f o false) (IsSomeAnd o P)
option_decides f P each None = never (λ h. h)
option_decides f P each (Some x) = each x

module _ (G : Grammar) (T : Table) where
  within_decides : (n : ℕ) (x : Text) (a : List Attribute) (m : List Item) → Decides (accepts_within n G T x a m) (MatchesWithin n G T x a m)
  within_decides zero x a m = never (λ h. h)
  within_decides (suc n) x a m = option_decides (λ p. accepts T (accepts_within n G T) p a m) (λ p. Matches T (MatchesWithin n G T) a m p) (λ p. accepts_decides T (accepts_within n G T) (MatchesWithin n G T) (within_decides n) p a m) (definition_of G x)

  start_decides : (n : ℕ) (doc : Item) → Decides (is_valid_within n G T doc) (Matches T (MatchesWithin n G T) [] (doc ∷ []) G.start)
  start_decides n doc = accepts_decides T (accepts_within n G T) (MatchesWithin n G T) (within_decides n) G.start [] (doc ∷ [])

  -- valid where some depth of references finds it so
  pub valid_within : (n : ℕ) (doc : Item) → is_valid_within n G T doc ≡ true → IsValid G T doc
  valid_within n doc e = (n, (start_decides n doc).0 e)

  -- not valid where none does
  pub not_valid_within : (doc : Item) → ((n : ℕ) → is_valid_within n G T doc ≡ false) → ¬ IsValid G T doc
  not_valid_within doc e h = not_from_Decides (is_valid_within h.0 G T doc) (start_decides h.0 doc) (e h.0) h.1
