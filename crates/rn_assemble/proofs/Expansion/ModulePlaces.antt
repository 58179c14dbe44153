-- The place of the module of a name, by a search and by definition.
use Rattle.std.proofs.Common.{◌≡◌, ℕ, zero, suc, ◌+◌, ◌<◌, Bool, true, false, cond, List, [], ◌∷◌, length, get_or, Result, Ok, Err, Some, None, refl, sym, ap, ◌∙◌, subst, arith, Contains, Less, Equal}
use Rattle.std.specs.Prelude.{bytes_eq}
use Rattle.std.specs.Result.{result_ok}
use Rattle.std.specs.List.{position_from}
use Rattle.std.specs.List.Sorted.{IsBinarySearchResult, IsSearchInRange, IsStrictlySortedBy}
use Rattle.std.proofs.lemmas.List.Elements.{Contains-get_or}
use Rattle.std.proofs.lemmas.Slice.Eq.{bytes_eq-Decides}
use Rattle.std.proofs.lemmas.Cmp.{nat_list_cmp_total, tied_itself}
use Rattle.rn_text.specs.Texts.{Text, text_cmp}
use Rattle.rn_assemble.specs.declared.reading.named_modules.NamedModule.{NamedModule}
use Rattle.rn_assemble.specs.Components as s
use Rattle.rn_assemble.specs.inside.Contained.{place_in}
use Rattle.rn_assemble.specs.inside.Views.{module_names, modules_view}
pub use Rattle.rn_assemble.proofs.Combined.PlainComponents.{differ as differs}
use Rattle.rn_assemble.proofs.Referring.NamedLists.{place_of, mapped, rise_at}

none_from : (p : NamedModule → Bool) (n : ℕ) (ys : List NamedModule) → ((k : ℕ) (d : NamedModule) → k < length ys → p (get_or ys k d) ≡ false) → position_from p n ys ≡ None
none_from p n [] h = refl
none_from p n (y ∷ ys) h = ap (λ b. cond b (Some n) (position_from p (n + 1) ys)) (h 0 y (omega arith)) ∙ none_from p (n + 1) ys (λ k d l. h (suc k) d (omega (arith, l)))

found_from : (p : NamedModule → Bool) (n i : ℕ) (ys : List NamedModule) → i < length ys → ((d : NamedModule) → p (get_or ys i d) ≡ true) → ((k : ℕ) (d : NamedModule) → k < i → p (get_or ys k d) ≡ false) → position_from p n ys ≡ Some (n + i)
found_from p n i [] l h k = absurd (omega (arith, l))
found_from p n zero (y ∷ ys) l h k = ap (λ b. cond b (Some n) (position_from p (n + 1) ys)) (h y) ∙ (let e : n ≡ n + zero = omega arith in ap (λ m. Some m) e)
found_from p n (suc i) (y ∷ ys) l h k =
    let e : n + 1 + i ≡ n + suc i = omega arith in
    ap (λ b. cond b (Some n) (position_from p (n + 1) ys)) (k 0 y (omega arith)) ∙ found_from p (n + 1) i ys (omega (arith, l)) (λ d. h d) (λ j d m. k (suc j) d (omega (arith, m))) ∙ ap (λ m. Some m) e

found_at : (p : NamedModule → Bool) (i : ℕ) (ys : List NamedModule) → i < length ys → ((d : NamedModule) → p (get_or ys i d) ≡ true) → ((k : ℕ) (d : NamedModule) → k < i → p (get_or ys k d) ≡ false) → position_from p 0 ys ≡ Some i
found_at p i ys l h k = found_from p 0 i ys l h k ∙ (let e : 0 + i ≡ i = omega arith in ap (λ m. Some m) e)

seen_from : (t : Text) (n : ℕ) (xs : List NamedModule) → position_from (λ (m : s.NamedModule). bytes_eq t m.name) n (modules_view xs) ≡ position_from (λ (m : NamedModule). bytes_eq t m.name.now) n xs
seen_from t n [] = refl
seen_from t n (x ∷ xs) = ap (λ o. cond (bytes_eq t x.name.now) (Some n) o) (seen_from t (n + 1) xs)

pub place_found : (xs : List NamedModule) (t : Text) (r : Result ℕ ℕ) → IsStrictlySortedBy text_cmp (module_names xs) → IsBinarySearchResult (λ (y : NamedModule). text_cmp y.name.now t) xs r → IsSearchInRange r (length xs) → result_ok r ≡ place_in (modules_view xs) t
place_found xs t (Ok i) o h l =
    let at = place_of (λ (m : NamedModule). m.name.now) xs t (Ok i) o h l in
    sym (seen_from t 0 xs ∙ found_at (λ (m : NamedModule). bytes_eq t m.name.now) i xs at.0 (λ d. (bytes_eq-Decides t (get_or xs i d).name.now).1 (sym (at.1 d)))
    (λ k d m. differs t (get_or xs k d).name.now (λ e. let less : Less ≡ Equal = sym (rise_at (λ (m : NamedModule). m.name.now) xs k i d o m at.0) ∙ ap (λ u. text_cmp u (get_or xs i d).name.now) (sym e ∙ sym (at.1 d)) ∙ tied_itself nat_list_cmp_total (get_or xs i d).name.now in cc)))
place_found xs t (Err i) o h l =
    let none = place_of (λ (m : NamedModule). m.name.now) xs t (Err i) o h l in
    sym (seen_from t 0 xs ∙ none_from (λ (m : NamedModule). bytes_eq t m.name.now) 0 xs
    (λ k d m. differs t (get_or xs k d).name.now (λ e. none (subst (λ (u : Text). Contains (module_names xs) u) (sym e) (mapped (λ (m : NamedModule). m.name.now) xs (get_or xs k d) (Contains-get_or xs k d m))))))
