-- The literals of includes: the least of which something holds, and the numbers of the modules that they name.
use Rattle.std.proofs.Common.{◌≡◌, ⊎_elim, ℕ, ◌+◌, ◌<◌, List, [], ◌∷◌, ◌++◌, length, take, get_or, map, Option, Some, None, refl, sym, ap, ◌∙◌, subst, arith, append-nil, true, false, Ordering, Less, Equal, Greater}
use Rattle.std.specs.Prelude.{if◌then◌else◌, is_some}
use Rattle.std.specs.Borrow.{Bor}
use Rattle.std.specs.List.{cons_option, filter_map}
use Rattle.std.specs.List.Sorted.{IsStrictlySortedBy}
use Rattle.std.specs.Ordering.{is_lt}
use Rattle.std.proofs.lemmas.Bool.{false≢true}
use Rattle.std.proofs.lemmas.Cmp.{nat_list_cmp_total}
use Rattle.std.proofs.lemmas.List.Elements.{Contains-append_left, Contains-push, Contains-push_cases, filter_map-append}
use Rattle.rn_text.specs.Texts.{Text, text_cmp}
use Rattle.rn_graph.specs.Graph.{AllBelow}
use Rattle.rn_pattern.proofs.Ordered.InOrder.{contains_behind, contains_cases, contains_front}
use Rattle.rn_graph.proofs.Graphs.BuiltRows.{none_below}
use Rattle.rn_syntax.specs.Tree as t
use Rattle.rn_syntax.specs.Tree.{Item, Items, includes, item_includes}
use Rattle.rn_assemble.specs.Components.{NamedModule}
use Rattle.rn_assemble.specs.inside.Contained.{place_in}
use Rattle.rn_assemble.specs.inside.ContentsOf.{name_at}
use Rattle.rn_assemble.specs.inside.Inclusions.{IsLeastAmong, IsMissing}
use Rattle.rn_assemble.specs.inside.Referred.{lesser_text}
use Rattle.rn_assemble.specs.inside.Views.{module_names, module_number, modules_view, texts_of}
use Rattle.rn_assemble.specs.declared.reading.named_modules.NamedModule as code
use Rattle.rn_assemble.specs.declared.reading.named_modules.ModuleId.{ModuleId}
use Rattle.rn_assemble.proofs.Referring.LeastUndefined.{no_text, texts_more}
use Rattle.rn_assemble.proofs.Expansion.Inclusions.{not_missing}
use Rattle.rn_assemble.proofs.Expansion.ModuleLookups.{none_named, place_name, place_within}
use Rattle.rn_assemble.proofs.Referring.KeyNumbers.{not_itself}

-- the literals of includes, in the words of the syntax
mutual
  item_literals : (x : Item) → t.item_includes x ≡ item_includes x
  item_literals (t.define x m p) = refl
  item_literals (t.start m p) = refl
  item_literals (t.div xs) = literals xs
  item_literals (t.include wanted inherit xs) = ap (λ l. wanted ∷ l) (literals xs)

  pub literals : (xs : Items) → t.includes xs ≡ includes xs
  literals t.no_items = refl
  literals (t.item x xs) = let first = item_literals x in let rest = literals xs in λ i. first i ++ rest i

-- ---- the least of some texts, one more after the other

module _ (P : Text → Type 0) where
  pub among_none : IsLeastAmong P [] None
  among_none x (k, l, e) p = absurd (omega (arith, l))

  pub among_still : (xs : List Text) (o : Option Text) (x : Text) → ¬ P x → IsLeastAmong P xs o → IsLeastAmong P (xs ++ x ∷ []) o
  among_still xs None x n h = λ y c. ⊎_elim (λ k. h y k) (λ e p. n (subst P (sym e) p)) (Contains-push_cases xs x y c)
  among_still xs (Some z) x n h = record {
    holds = (Contains-append_left xs (x ∷ []) z h.holds.0, h.holds.1);
    least = λ y q. ⊎_elim (λ k. h.least y (k, q.1)) (λ e. absurd (n (subst P (sym e) q.1))) (Contains-push_cases xs x y q.0);
  }

  lesser_at : (xs : List Text) (z x : Text) (r : Ordering) → text_cmp x z ≡ r → P x → IsLeastAmong P xs (Some z) → IsLeastAmong P (xs ++ x ∷ []) (Some (if is_lt r then x else z))
  lesser_at xs z x Less e p h = record {
    holds = (Contains-push xs x, p);
    least = λ y q. ⊎_elim (λ k l. h.least y (k, q.1) (nat_list_cmp_total.trans y x z l e)) (λ is l. not_itself x (subst (λ w. text_cmp w x ≡ Less) (sym is) l)) (Contains-push_cases xs x y q.0);
  }
  lesser_at xs z x Equal e p h = record {
    holds = (Contains-append_left xs (x ∷ []) z h.holds.0, h.holds.1);
    least = λ y q. ⊎_elim (λ k. h.least y (k, q.1)) (λ is l. let no : Less ≡ Equal = sym (subst (λ w. text_cmp w z ≡ Less) (sym is) l) ∙ e in cc) (Contains-push_cases xs x y q.0);
  }
  lesser_at xs z x Greater e p h = record {
    holds = (Contains-append_left xs (x ∷ []) z h.holds.0, h.holds.1);
    least = λ y q. ⊎_elim (λ k. h.least y (k, q.1)) (λ is l. let no : Less ≡ Greater = sym (subst (λ w. text_cmp w z ≡ Less) (sym is) l) ∙ e in cc) (Contains-push_cases xs x y q.0);
  }

  pub among_more : (xs : List Text) (o : Option Text) (x : Text) → P x → IsLeastAmong P xs o → IsLeastAmong P (xs ++ x ∷ []) (Some (lesser_text o x))
  among_more xs None x p h = record {
    holds = (Contains-push xs x, p);
    least = λ y q. ⊎_elim (λ k. absurd (h y k q.1)) (λ is l. not_itself x (subst (λ w. text_cmp w x ≡ Less) (sym is) l)) (Contains-push_cases xs x y q.0);
  }
  among_more xs (Some z) x p h = lesser_at xs z x (text_cmp x z) refl p h

-- ---- the numbers of modules

module _ (ms : List NamedModule) where
  abbrev pub numbers : List Text → List ℕ
  numbers xs = filter_map (place_in ms) xs

  -- a text without a place is missing
  no_place : (x : Text) → place_in ms x ≡ None → IsMissing ms x
  no_place x e = none_named x 0 ms e

  numbers_with : (names : List (Bor (List ℕ))) (i : ℕ) (row : List ℕ) (o : Option ℕ) → i < length names → o ≡ place_in ms (get_or names i no_text).now → row ≡ numbers (texts_of (take i names))
      → row ++ cons_option o [] ≡ numbers (texts_of (take (i + 1) names))
  numbers_with names i row o l p e =
      let x = (get_or names i no_text).now in
      (λ j. e j ++ cons_option (p j) [])
      ∙ sym (ap numbers (texts_more names i l) ∙ filter_map-append (place_in ms) (texts_of (take i names)) (x ∷ []))

  pub numbers_more : (names : List (Bor (List ℕ))) (i k : ℕ) (row : List ℕ) → i < length names → Some k ≡ place_in ms (get_or names i no_text).now → row ≡ numbers (texts_of (take i names)) → row ++ k ∷ [] ≡ numbers (texts_of (take (i + 1) names))
  numbers_more names i k row l p e = numbers_with names i row (Some k) l p e

  pub numbers_still : (names : List (Bor (List ℕ))) (i : ℕ) (row : List ℕ) → i < length names → None ≡ place_in ms (get_or names i no_text).now → row ≡ numbers (texts_of (take i names)) → row ≡ numbers (texts_of (take (i + 1) names))
  numbers_still names i row l p e = sym (append-nil row) ∙ numbers_with names i row None l p e

  below_front : (n k : ℕ) (ns : List ℕ) → k < n → AllBelow n ns → AllBelow n (k ∷ ns)
  below_front n k ns l h y c = ⊎_elim (λ e. subst (λ z. z < n) e l) (λ d. h y d) (contains_cases k y ns c)

  found_at : (x : Text) (xs : List Text) (o : Option ℕ) → place_in ms x ≡ o → ¬ IsMissing ms x → AllBelow (length ms) (numbers xs) × (map (name_at ms) (numbers xs) ≡ xs)
      → AllBelow (length ms) (cons_option o (numbers xs)) × (map (name_at ms) (cons_option o (numbers xs)) ≡ x ∷ xs)
  found_at x xs None e n h = absurd (n (no_place x e))
  found_at x xs (Some k) e n h =
      let name = place_name x k ms e in
      (below_front (length ms) k (numbers xs) (place_within x k ms e) h.0, λ i. name i ∷ h.1 i)

  -- where none is missing, the numbers are those of all
  pub found_all : (xs : List Text) → IsLeastAmong (IsMissing ms) xs None → AllBelow (length ms) (numbers xs) × (map (name_at ms) (numbers xs) ≡ xs)
  found_all [] h = (none_below (length ms), refl)
  found_all (x ∷ xs) h = found_at x xs (place_in ms x) refl (h x (contains_front x xs)) (found_all xs (λ y c. h y (contains_behind x y xs c)))

  -- a text is missing where it has no place
  pub missing_where : (x : Text) (o : Option ModuleId) → module_number o ≡ place_in ms x → is_some o ≡ false → IsMissing ms x
  missing_where x None e s = no_place x (sym e)
  missing_where x (Some k) e s = absurd (false≢true (sym s))

  pub there_where : IsStrictlySortedBy text_cmp (map (λ (m : NamedModule). m.name) ms) → (x : Text) (o : Option ModuleId) → module_number o ≡ place_in ms x → is_some o ≡ true → ¬ IsMissing ms x
  there_where order x None e s = absurd (false≢true s)
  there_where order x (Some k) e s = not_missing ms order k.0 x (place_within x k.0 ms (sym e)) (place_name x k.0 ms (sym e))

-- names in the order of modules
pub names_seen : (xs : List code.NamedModule) → map (λ (m : NamedModule). m.name) (modules_view xs) ≡ module_names xs
names_seen [] = refl
names_seen (x ∷ xs) = ap (λ l. x.name.now ∷ l) (names_seen xs)

pub names_rise : (xs : List code.NamedModule) → IsStrictlySortedBy text_cmp (module_names xs) → IsStrictlySortedBy text_cmp (map (λ (m : NamedModule). m.name) (modules_view xs))
names_rise xs h = subst (IsStrictlySortedBy text_cmp) (sym (names_seen xs)) h
