-- What trying each split decides of the parts of a document: strings, attributes, elements, names and datatypes.
use Rattle.std.proofs.Common.{◌≡◌, Bool, true, false, not, ◌&&◌, List, [], ◌∷◌, ◌++◌, refl, sym, ap, subst, ◌⊎◌, inl, inr}
use Rattle.std.specs.Prelude.{bytes_eq, codes, All, Contains}
use Rattle.std.specs.Bool.{Decides}
use Rattle.std.proofs.lemmas.Bool.{false≢true}
use Rattle.std.proofs.lemmas.Bool.Decides.{Decides-like, Decides-not, Decides-and, Decides-or, Decides-by_and, Decides-by_or}
use Rattle.std.proofs.lemmas.List.Elements.{Decides-contains}
use Rattle.std.proofs.lemmas.Slice.Eq.{bytes_eq-Decides}
use Rattle.rn_pattern.specs.Tree.{Parameters, NameTree, NameTrees, any_name, any_name_but, ns_name, ns_name_but, name, name_choice, no_names, more_names}
use Rattle.rn_text.specs.Texts.{Text, is_white}
use Rattle.rn_pattern.specs.Document.{Attribute, Item, Items, node, string, items_of}
use Rattle.rn_pattern.specs.HeldNames.{HoldsName, SomeHoldsName}
use Rattle.rn_pattern.specs.Datatype.{Table, IsBlank, collapsed, Allows, TakesAsEqual}
use Rattle.rn_pattern.specs.Matching.{IsString, IsPadding, Weakly}
use Rattle.rn_pattern.proofs.Matches.Weaving.{Weave, woven, first, second}
use Rattle.matching_examples.proofs.Trials.Accepting.{both, either, is_empty, some_weave, some_cut, are_strings, is_blank, is_padding, is_string_with, is_attribute_with, is_element_with, weakly, holds_name, some_holds_name, same_parameters, is_allowed, is_equal, allows, takes_as_equal}

pub never : {P : Type 0} → ¬ P → Decides false P
never h = (λ e. absurd (false≢true e), λ p. absurd (h p))

module _ {P Q : Type 0} where
  pub both_decides : (x : Bool) (f : Unit {0} → Bool) → Decides x P → Decides (f tt) Q → Decides (both x f) (P × Q)
  both_decides true f d k = (λ e. (d.0 refl, k.0 e), λ h. k.1 h.1)
  both_decides false f d k = (λ e. absurd (false≢true e), λ h. d.1 h.0)

  pub either_decides : (x : Bool) (f : Unit {0} → Bool) → Decides x P → Decides (f tt) Q → Decides (either x f) (P ⊎ Q)
  either_decides true f d k = (λ _. inl (d.0 refl), λ _. refl)
  either_decides false f d k = (λ e. inr (k.0 e), back)
    where
      back : P ⊎ Q → f tt ≡ true
      back (inl p) = absurd (false≢true (d.1 p))
      back (inr q) = k.1 q

module _ {X : Type 0} where
  pub is_empty_decides : (xs : List X) → Decides (is_empty xs) (xs ≡ [])
  is_empty_decides [] = (λ _. refl, λ _. refl)
  is_empty_decides (x ∷ xs) = never (λ e. cc)

  -- two lists that xs is woven of, and for which P holds
  abbrev pub SomeWeave : (List X → List X → Type 0) → List X → Type 0
  SomeWeave P xs = (y : List X) × (z : List X) × Weave X xs y z × P y z

  weave_none : (P : List X → List X → Type 0) → SomeWeave P [] → P [] []
  weave_none P (y, z, woven, h) = h

  weave_apart : (P : List X → List X → Type 0) (x : X) (xs : List X) → SomeWeave P (x ∷ xs) → SomeWeave (λ y z. P (x ∷ y) z) xs ⊎ SomeWeave (λ y z. P y (x ∷ z)) xs
  weave_apart P x xs (y, z, first w, h) = inl (_, _, w, h)
  weave_apart P x xs (y, z, second w, h) = inr (_, _, w, h)

  weave_again : (P : List X → List X → Type 0) (x : X) (xs : List X) → SomeWeave (λ y z. P (x ∷ y) z) xs ⊎ SomeWeave (λ y z. P y (x ∷ z)) xs → SomeWeave P (x ∷ xs)
  weave_again P x xs (inl (y, z, w, h)) = (x ∷ y, z, first w, h)
  weave_again P x xs (inr (y, z, w, h)) = (y, x ∷ z, second w, h)

  pub some_weave_decides : (f : List X → List X → Bool) (P : List X → List X → Type 0) → ((y z : List X) → Decides (f y z) (P y z)) → (xs : List X) → Decides (some_weave f xs) (SomeWeave P xs)
  some_weave_decides f P each [] = (λ e. ([], [], woven, (each [] []).0 e), λ h. (each [] []).1 (weave_none P h))
  some_weave_decides f P each (x ∷ xs) =
      let with_first = some_weave_decides (λ y z. f (x ∷ y) z) (λ y z. P (x ∷ y) z) (λ y z. each (x ∷ y) z) xs in
      let with_second = some_weave_decides (λ y z. f y (x ∷ z)) (λ y z. P y (x ∷ z)) (λ y z. each y (x ∷ z)) xs in
      Decides-like (some_weave f (x ∷ xs)) (weave_again P x xs) (weave_apart P x xs) (either_decides (some_weave (λ y z. f (x ∷ y) z) xs) (λ _. some_weave (λ y z. f y (x ∷ z)) xs) with_first with_second)

  abbrev pub SomeCut : (List X → List X → Type 0) → List X → Type 0
  SomeCut P xs = (y : List X) × (z : List X) × (xs ≡ y ++ z) × P y z

  cut_none : (P : List X → List X → Type 0) → SomeCut P [] → P [] []
  cut_none P ([], z, is, h) = subst (λ (t : List X). P [] t) (sym is) h
  cut_none P (y ∷ ys, z, is, h) = absurd (cc)

  cut_apart : (P : List X → List X → Type 0) (x : X) (xs : List X) → SomeCut P (x ∷ xs) → P [] (x ∷ xs) ⊎ SomeCut (λ y z. P (x ∷ y) z) xs
  cut_apart P x xs ([], z, is, h) = inl (subst (λ (t : List X). P [] t) (sym is) h)
  cut_apart P x xs (y ∷ ys, z, is, h) =
      let same : y ≡ x = (cc) in
      let rest : xs ≡ ys ++ z = (cc) in
      inr (ys, z, rest, subst (λ (t : X). P (t ∷ ys) z) same h)

  cut_again : (P : List X → List X → Type 0) (x : X) (xs : List X) → P [] (x ∷ xs) ⊎ SomeCut (λ y z. P (x ∷ y) z) xs → SomeCut P (x ∷ xs)
  cut_again P x xs (inl h) = ([], x ∷ xs, refl, h)
  cut_again P x xs (inr (y, z, is, h)) = (x ∷ y, z, ap (λ t. x ∷ t) is, h)

  pub some_cut_decides : (f : List X → List X → Bool) (P : List X → List X → Type 0) → ((y z : List X) → Decides (f y z) (P y z)) → (xs : List X) → Decides (some_cut f xs) (SomeCut P xs)
  some_cut_decides f P each [] = (λ e. ([], [], refl, (each [] []).0 e), λ h. (each [] []).1 (cut_none P h))
  some_cut_decides f P each (x ∷ xs) =
      let behind = some_cut_decides (λ y z. f (x ∷ y) z) (λ y z. P (x ∷ y) z) (λ y z. each (x ∷ y) z) xs in
      Decides-like (some_cut f (x ∷ xs)) (cut_again P x xs) (cut_apart P x xs) (either_decides (f [] (x ∷ xs)) (λ _. some_cut (λ y z. f (x ∷ y) z) xs) (each [] (x ∷ xs)) behind)

abbrev is_string : Item → Bool
is_string (node u l a k) = false
is_string (string s) = true

is_string_decides : (i : Item) → Decides (is_string i) (IsString i)
is_string_decides (node u l a k) = never (λ h. h)
is_string_decides (string s) = (λ _. tt, λ _. refl)

are_strings-cons : (i : Item) (m : List Item) → are_strings (i ∷ m) ≡ (is_string i && are_strings m)
are_strings-cons (node u l a k) m = refl
are_strings-cons (string s) m = refl

pub are_strings_decides : (m : List Item) → Decides (are_strings m) (All IsString m)
are_strings_decides = Decides-by_and is_string IsString are_strings is_string_decides refl are_strings-cons

is_blank_decides : (s : Text) → Decides (is_blank s) (IsBlank s)
is_blank_decides = Decides-by_and is_white (λ c. is_white c ≡ true) is_blank (λ c. (λ e. e, λ e. e)) refl (λ c s. refl)

is_padding_decides : (m : List Item) → Decides (is_padding m) (IsPadding m)
is_padding_decides [] = (λ _. tt, λ _. refl)
is_padding_decides (node u l a k ∷ m) = never (λ h. h)
is_padding_decides (string s ∷ []) = is_blank_decides s
is_padding_decides (string s ∷ i ∷ m) = never (λ h. h)

module _ (f : Text → Bool) (P : Text → Type 0) (each : (s : Text) → Decides (f s) (P s)) where
  abbrev IsStringWith : List Item → Type 0
  IsStringWith m = (s : Text) × (m ≡ string s ∷ []) × P s

  string_to : (m : List Item) → is_string_with f m ≡ true → IsStringWith m
  string_to [] e = absurd (false≢true e)
  string_to (node u l a k ∷ m) e = absurd (false≢true e)
  string_to (string s ∷ []) e = (s, refl, (each s).0 e)
  string_to (string s ∷ i ∷ m) e = absurd (false≢true e)

  is_string_with_decides : (m : List Item) → Decides (is_string_with f m) (IsStringWith m)
  is_string_with_decides m = (string_to m, λ h. subst (λ (t : List Item). is_string_with f t ≡ true) (sym h.1) ((each h.0).1 h.2))

  -- no attribute, and one string
  pub only_string_decides : (a : List Attribute) (m : List Item) → Decides (both (is_empty a) (λ _. is_string_with f m)) ((s : Text) × (a ≡ []) × (m ≡ string s ∷ []) × P s)
  only_string_decides a m = Decides-like (both (is_empty a) (λ _. is_string_with f m)) (λ h. (h.1.0, h.0, h.1.1, h.1.2)) (λ h. (h.1, (h.0, h.2, h.3))) (both_decides (is_empty a) (λ _. is_string_with f m) (is_empty_decides a) (is_string_with_decides m))

module _ (f : Attribute → Bool) (P : Attribute → Type 0) (each : (x : Attribute) → Decides (f x) (P x)) where
  attribute_to : (a : List Attribute) → is_attribute_with f a ≡ true → (x : Attribute) × (a ≡ x ∷ []) × P x
  attribute_to [] e = absurd (false≢true e)
  attribute_to (x ∷ []) e = (x, refl, (each x).0 e)
  attribute_to (x ∷ y ∷ a) e = absurd (false≢true e)

  is_attribute_with_decides : (a : List Attribute) → Decides (is_attribute_with f a) ((x : Attribute) × (a ≡ x ∷ []) × P x)
  is_attribute_with_decides a = (attribute_to a, λ h. subst (λ (t : List Attribute). is_attribute_with f t ≡ true) (sym h.1) ((each h.0).1 h.2))

module _ (f : Text → Text → List Attribute → Items → Bool) (P : Text → Text → List Attribute → Items → Type 0) (each : (u l : Text) (b : List Attribute) (k : Items) → Decides (f u l b k) (P u l b k)) where
  abbrev IsElementWith : List Item → Type 0
  IsElementWith m = (before : List Item) × (u : Text) × (l : Text) × (b : List Attribute) × (k : Items) × (behind : List Item) × (m ≡ before ++ node u l b k ∷ behind) × IsPadding before × IsPadding behind × P u l b k

  padded : (m : List Item) (u l : Text) (b : List Attribute) (k : Items) → Decides (both (is_padding m) (λ _. f u l b k)) (IsPadding m × P u l b k)
  padded m u l b k = both_decides (is_padding m) (λ _. f u l b k) (is_padding_decides m) (each u l b k)

  padded_twice : (s : Text) (m : List Item) (u l : Text) (b : List Attribute) (k : Items) → Decides (both (is_blank s) (λ _. both (is_padding m) (λ _. f u l b k))) (IsBlank s × (IsPadding m × P u l b k))
  padded_twice s m u l b k = both_decides (is_blank s) (λ _. both (is_padding m) (λ _. f u l b k)) (is_blank_decides s) (padded m u l b k)

  element_to : (m : List Item) → is_element_with f m ≡ true → IsElementWith m
  element_to [] e = absurd (false≢true e)
  element_to (node u l b k ∷ m) e = let h = (padded m u l b k).0 e in ([], u, l, b, k, m, refl, tt, h.0, h.1)
  element_to (string s ∷ []) e = absurd (false≢true e)
  element_to (string s ∷ string t ∷ m) e = absurd (false≢true e)
  element_to (string s ∷ node u l b k ∷ m) e = let h = (padded_twice s m u l b k).0 e in (string s ∷ [], u, l, b, k, m, refl, h.0, h.1.0, h.1.1)

  element_from_parts : (before : List Item) (u l : Text) (b : List Attribute) (k : Items) (behind : List Item) → IsPadding before → IsPadding behind → P u l b k → is_element_with f (before ++ node u l b k ∷ behind) ≡ true
  element_from_parts [] u l b k behind pre post h = (padded behind u l b k).1 (post, h)
  element_from_parts (node v n c j ∷ m) u l b k behind pre post h = absurd pre
  element_from_parts (string s ∷ []) u l b k behind pre post h = (padded_twice s behind u l b k).1 (pre, (post, h))
  element_from_parts (string s ∷ i ∷ m) u l b k behind pre post h = absurd pre

  is_element_with_decides : (m : List Item) → Decides (is_element_with f m) (IsElementWith m)
  is_element_with_decides m = (element_to m, from)
    where
      from : IsElementWith m → is_element_with f m ≡ true
      from (before, u, l, b, k, behind, is, pre, post, h) = subst (λ (t : List Item). is_element_with f t ≡ true) (sym is) (element_from_parts before u l b k behind pre post h)

weakly_decides : (f : List Attribute → List Item → Bool) (P : List Attribute → List Item → Type 0) → ((a : List Attribute) (m : List Item) → Decides (f a m) (P a m)) → (a : List Attribute) (m : List Item) → Decides (weakly f a m) (Weakly P a m)
weakly_decides f P each a m =
    let blank = is_string_with_decides (λ s. both (is_blank s) (λ _. f a [])) (λ s. IsBlank s × P a []) (λ s. both_decides (is_blank s) (λ _. f a []) (is_blank_decides s) (each a [])) m in
    let none = both_decides (is_empty m) (λ _. f a (string [] ∷ [])) (is_empty_decides m) (each a (string [] ∷ [])) in
    let padded = Decides-like (is_string_with (λ s. both (is_blank s) (λ _. f a [])) m) (λ (h : (s : Text) × (m ≡ string s ∷ []) × (IsBlank s × P a [])). (h.0, h.1, h.2.0, h.2.1)) (λ (h : (s : Text) × (m ≡ string s ∷ []) × IsBlank s × P a []). (h.0, h.1, (h.2, h.3))) blank in
    either_decides (f a m) _ (each a m) (either_decides (is_string_with (λ s. both (is_blank s) (λ _. f a [])) m) _ padded none)

mutual
  holds_name_decides : (u l : Text) (c : NameTree) → Decides (holds_name u l c) (HoldsName u l c)
  holds_name_decides u l any_name = (λ _. tt, λ _. refl)
  holds_name_decides u l (any_name_but c) = Decides-not (holds_name u l c) (holds_name_decides u l c)
  holds_name_decides u l (ns_name v) = bytes_eq-Decides u v
  holds_name_decides u l (ns_name_but v c) = Decides-and (bytes_eq u v) (not (holds_name u l c)) (bytes_eq-Decides u v) (Decides-not (holds_name u l c) (holds_name_decides u l c))
  holds_name_decides u l (name v m) = Decides-and (bytes_eq u v) (bytes_eq l m) (bytes_eq-Decides u v) (bytes_eq-Decides l m)
  holds_name_decides u l (name_choice cs) = some_holds_name_decides u l cs

  some_holds_name_decides : (u l : Text) (cs : NameTrees) → Decides (some_holds_name u l cs) (SomeHoldsName u l cs)
  some_holds_name_decides u l no_names = never (λ h. h)
  some_holds_name_decides u l (more_names c cs) = Decides-or (holds_name u l c) (some_holds_name u l cs) (holds_name_decides u l c) (some_holds_name_decides u l cs)

four_decide : (x y z w : Bool) {P Q R S : Type 0} → Decides x P → Decides y Q → Decides z R → Decides w S → Decides (x && (y && (z && w))) (P × (Q × (R × S)))
four_decide x y z w d e f g = Decides-and x (y && (z && w)) d (Decides-and y (z && w) e (Decides-and z w f g))

same_parameters_decides : (ps qs : Parameters) → Decides (same_parameters ps qs) (ps ≡ qs)
same_parameters_decides [] [] = (λ _. refl, λ _. refl)
same_parameters_decides [] (q ∷ qs) = never (λ e. cc)
same_parameters_decides (p ∷ ps) [] = never (λ e. cc)
same_parameters_decides (p ∷ ps) (q ∷ qs) =
    Decides-like (same_parameters (p ∷ ps) (q ∷ qs)) together apart
    (Decides-and (bytes_eq p.0 q.0) (bytes_eq p.1 q.1 && same_parameters ps qs) (bytes_eq-Decides p.0 q.0) (Decides-and (bytes_eq p.1 q.1) (same_parameters ps qs) (bytes_eq-Decides p.1 q.1) (same_parameters_decides ps qs)))
  where
    together : (p.0 ≡ q.0) × ((p.1 ≡ q.1) × (ps ≡ qs)) → p ∷ ps ≡ q ∷ qs
    together h = λ i. (h.0 i, h.1.0 i) ∷ h.1.1 i

    apart : p ∷ ps ≡ q ∷ qs → (p.0 ≡ q.0) × ((p.1 ≡ q.1) × (ps ≡ qs))
    apart e =
        let here : p ≡ q = (cc) in
        let behind : ps ≡ qs = (cc) in
        (ap (λ t. t.0) here, (ap (λ t. t.1) here, behind))

module _ (library type : Text) (params : Parameters) (s : Text) where
  abbrev is_answer : Text × Text × Parameters × Text → Bool
  is_answer x = bytes_eq x.0 library && (bytes_eq x.1 type && (same_parameters x.2 params && bytes_eq x.3 s))

  is_answer_decides : (x : Text × Text × Parameters × Text) → Decides (is_answer x) (x ≡ (library, type, params, s))
  is_answer_decides x = Decides-like (is_answer x) (λ h. λ i. (h.0 i, h.1.0 i, h.1.1.0 i, h.1.1.1 i)) (λ e. (ap (λ t. t.0) e, (ap (λ t. t.1) e, (ap (λ t. t.2) e, ap (λ t. t.3) e))))
      (four_decide (bytes_eq x.0 library) (bytes_eq x.1 type) (same_parameters x.2 params) (bytes_eq x.3 s) (bytes_eq-Decides x.0 library) (bytes_eq-Decides x.1 type) (same_parameters_decides x.2 params) (bytes_eq-Decides x.3 s))

  is_allowed_decides : (xs : List (Text × Text × Parameters × Text)) → Decides (is_allowed xs library type params s) (Contains xs (library, type, params, s))
  is_allowed_decides xs = Decides-contains xs (library, type, params, s) (is_allowed xs library type params s) (Decides-by_or is_answer (λ x. x ≡ (library, type, params, s)) (λ ys. is_allowed ys library type params s) is_answer_decides refl (λ x ys. refl) xs)

module _ (library type s t : Text) where
  abbrev is_pair : Text × Text × Text × Text → Bool
  is_pair x = bytes_eq x.0 library && (bytes_eq x.1 type && (bytes_eq x.2 s && bytes_eq x.3 t))

  is_pair_decides : (x : Text × Text × Text × Text) → Decides (is_pair x) (x ≡ (library, type, s, t))
  is_pair_decides x = Decides-like (is_pair x) (λ h. λ i. (h.0 i, h.1.0 i, h.1.1.0 i, h.1.1.1 i)) (λ e. (ap (λ t. t.0) e, (ap (λ t. t.1) e, (ap (λ t. t.2) e, ap (λ t. t.3) e))))
      (four_decide (bytes_eq x.0 library) (bytes_eq x.1 type) (bytes_eq x.2 s) (bytes_eq x.3 t) (bytes_eq-Decides x.0 library) (bytes_eq-Decides x.1 type) (bytes_eq-Decides x.2 s) (bytes_eq-Decides x.3 t))

  is_equal_decides : (xs : List (Text × Text × Text × Text)) → Decides (is_equal xs library type s t) (Contains xs (library, type, s, t))
  is_equal_decides xs = Decides-contains xs (library, type, s, t) (is_equal xs library type s t) (Decides-by_or is_pair (λ x. x ≡ (library, type, s, t)) (λ ys. is_equal ys library type s t) is_pair_decides refl (λ x ys. refl) xs)

module _ (T : Table) where
  pub allows_decides : (library type : Text) (params : Parameters) (s : Text) → Decides (allows T library type params s) (Allows T library type params s)
  allows_decides [] type params s = Decides-or (bytes_eq type (codes "string")) (bytes_eq type (codes "token")) (bytes_eq-Decides type (codes "string")) (bytes_eq-Decides type (codes "token"))
  allows_decides (c ∷ library) type params s = is_allowed_decides (c ∷ library) type params s T.allowed

  pub takes_as_equal_decides : (library type s t : Text) → Decides (takes_as_equal T library type s t) (TakesAsEqual T library type s t)
  takes_as_equal_decides [] type s t =
      let string_is = Decides-and (bytes_eq type (codes "string")) (bytes_eq s t) (bytes_eq-Decides type (codes "string")) (bytes_eq-Decides s t) in
      let token_is = Decides-and (bytes_eq type (codes "token")) (bytes_eq (collapsed s) (collapsed t)) (bytes_eq-Decides type (codes "token")) (bytes_eq-Decides (collapsed s) (collapsed t)) in
      Decides-or (bytes_eq type (codes "string") && bytes_eq s t) (bytes_eq type (codes "token") && bytes_eq (collapsed s) (collapsed t)) string_is token_is
  takes_as_equal_decides (c ∷ library) type s t = is_equal_decides (c ∷ library) type s t T.equal

pub attribute_decides : (c : NameTree) (f : List Attribute → List Item → Bool) (P : List Attribute → List Item → Type 0) → ((a : List Attribute) (m : List Item) → Decides (f a m) (P a m)) → (a : List Attribute) (m : List Item)
    → Decides (both (is_empty m) (λ _. is_attribute_with (λ x. both (holds_name x.uri x.local c) (λ _. weakly f [] (string x.content ∷ []))) a)) ((x : Attribute) × (a ≡ x ∷ []) × (m ≡ []) × HoldsName x.uri x.local c × Weakly P [] (string x.content ∷ []))
attribute_decides c f P each a m =
    let one = λ (x : Attribute). both_decides (holds_name x.uri x.local c) (λ _. weakly f [] (string x.content ∷ [])) (holds_name_decides x.uri x.local c) (weakly_decides f P each [] (string x.content ∷ [])) in
    let some = is_attribute_with_decides (λ x. both (holds_name x.uri x.local c) (λ _. weakly f [] (string x.content ∷ []))) (λ x. HoldsName x.uri x.local c × Weakly P [] (string x.content ∷ [])) one a in
    Decides-like _ (λ h. (h.1.0, h.1.1, h.0, h.1.2.0, h.1.2.1)) (λ h. (h.2, (h.0, h.1, (h.3, h.4)))) (both_decides (is_empty m) (λ _. is_attribute_with (λ x. both (holds_name x.uri x.local c) (λ _. weakly f [] (string x.content ∷ []))) a) (is_empty_decides m) some)

pub element_decides : (c : NameTree) (f : List Attribute → List Item → Bool) (P : List Attribute → List Item → Type 0) → ((a : List Attribute) (m : List Item) → Decides (f a m) (P a m)) → (a : List Attribute) (m : List Item)
    → Decides (both (is_empty a) (λ _. is_element_with (λ u l b k. both (holds_name u l c) (λ _. weakly f b (items_of k))) m))
    ((before : List Item) × (u : Text) × (l : Text) × (b : List Attribute) × (k : Items) × (behind : List Item) × (a ≡ []) × (m ≡ before ++ node u l b k ∷ behind) × IsPadding before × IsPadding behind × HoldsName u l c × Weakly P b (items_of k))
element_decides c f P each a m =
    let one = λ (u : Text) (l : Text) (b : List Attribute) (k : Items). both_decides (holds_name u l c) (λ _. weakly f b (items_of k)) (holds_name_decides u l c) (weakly_decides f P each b (items_of k)) in
    let some = is_element_with_decides (λ u l b k. both (holds_name u l c) (λ _. weakly f b (items_of k))) (λ u l b k. HoldsName u l c × Weakly P b (items_of k)) one m in
    Decides-like _ (λ h. (h.1.0, h.1.1, h.1.2, h.1.3, h.1.4, h.1.5, h.0, h.1.6, h.1.7, h.1.8, h.1.9.0, h.1.9.1)) (λ h. (h.6, (h.0, h.1, h.2, h.3, h.4, h.5, h.7, h.8, h.9, (h.10, h.11))))
    (both_decides (is_empty a) (λ _. is_element_with (λ u l b k. both (holds_name u l c) (λ _. weakly f b (items_of k))) m) (is_empty_decides a) some)
