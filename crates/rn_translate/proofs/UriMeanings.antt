-- What URIs of a table mean.
use Rattle.std.proofs.Common.{◌≡◌, ℕ, ◌<◌, false, [], refl, sym, ap, ◌∙◌, subst, arith, ⊎_elim, ne_eqb, Bor, Some, None}
use Rattle.std.specs.Prelude.{Option, option_map, slice_get, bytes_eq, ◌==◌}
use Rattle.std.proofs.lemmas.Bool.{cases_Bool, cond-true, cond-false}
use Rattle.std.proofs.lemmas.Bool.Decides.{nat_tests}
use Rattle.std.proofs.lemmas.Option.{none-some, same_Some}
use Rattle.rn_text.specs.Texts.{Text}
use Rattle.rn_xml.proofs.ScopeMeans.{equal_bytes, other_bytes}
use Rattle.rn_translate.specs.Terms.{Namespace, inherited, uri}
use Rattle.rn_translate.specs.Layouts.{is_same}
use Rattle.rn_translate.specs.inside.Meanings.{uri_meant}
use Rattle.rn_translate.specs.inside.UriTables.{AreIndexed, IsTable, empty_uri, text_at}
use Rattle.rn_translate.specs.declared.uris.Uri.{Uri}
use Rattle.rn_translate.specs.declared.uris.Uris.{Uris}

zero_or : (k : ℕ) → 0 < k → (k == 0) ≡ false
zero_or k some = ne_eqb k 0 (λ e. absurd (omega arith))

-- ---- from a text to what it means, and back

pub meant_at : (uris : Uris) (u : Uri) (q : Text) → 0 < u.index → text_at uris u.index ≡ Some q → uri_meant uris u ≡ Some (uri q)
meant_at uris u q some is = cond-false (u.index == 0) (Some inherited) (option_map (λ (t : Bor Text). uri t.now) (slice_get uris.texts.items u.index)) (zero_or u.index some) ∙ at (slice_get uris.texts.items u.index) is
  where
    at : (o : Option (Bor Text)) → option_map (λ (t : Bor Text). t.now) o ≡ Some q → option_map (λ (t : Bor Text). uri t.now) o ≡ Some (uri q)
    at None e = absurd (none-some q e)
    at (Some t) e = ap (λ x. Some (uri x)) (same_Some t.now q e)

pub empty_meant : {uris : Uris} → IsTable uris → uri_meant uris empty_uri ≡ Some (uri [])
empty_meant {uris = uris} table = meant_at uris empty_uri [] (omega arith) table.empty

-- what an index means, as it is the first one or not
pub data Means (uris : Uris) (u : Uri) : Namespace → Type 0 where
  first : u.index ≡ 0 → Means uris u inherited
  other : {q : Text} → 0 < u.index → text_at uris u.index ≡ Some q → Means uris u (uri q)

pub meaning : (uris : Uris) (u : Uri) (n : Namespace) → uri_meant uris u ≡ Some n → Means uris u n
meaning uris u n is = ⊎_elim
    (λ zero.
    let none : u.index ≡ 0 = grind (arith, nat_tests) in
    let same : inherited ≡ n = same_Some inherited n (sym (cond-true (u.index == 0) (Some inherited) (option_map (λ (t : Bor Text). uri t.now) (slice_get uris.texts.items u.index)) zero) ∙ is) in
    subst (Means uris u) same (Means.first none))
    (λ some.
    let positive : 0 < u.index = grind (arith, nat_tests) in
    at positive (slice_get uris.texts.items u.index) refl (sym (cond-false (u.index == 0) (Some inherited) (option_map (λ (t : Bor Text). uri t.now) (slice_get uris.texts.items u.index)) some) ∙ is))
    (cases_Bool (u.index == 0))
  where
    at : 0 < u.index → (o : Option (Bor Text)) → slice_get uris.texts.items u.index ≡ o → option_map (λ (t : Bor Text). uri t.now) o ≡ Some n → Means uris u n
    at some None e h = absurd (none-some n h)
    at some (Some t) e h = subst (Means uris u) (same_Some (uri t.now) n h) (Means.other some (ap (option_map (λ (x : Bor Text). x.now)) e))

-- ---- two of one table mean the same if they are the same

same_indices : (uris : Uris) → AreIndexed uris → (u v : Uri) (x y : Text) → 0 < u.index → text_at uris u.index ≡ Some x → 0 < v.index → text_at uris v.index ≡ Some y → bytes_eq x y ≡ (u.index == v.index)
same_indices uris are u v x y some is positive isn = ⊎_elim
    (λ equal.
    let same : u.index ≡ v.index = grind (arith, nat_tests) in
    let texts : x ≡ y = same_Some x y (sym is ∙ ap (text_at uris) same ∙ isn) in
    equal_bytes x y texts ∙ sym equal)
    (λ unequal. other_bytes x y (λ same.
    let indices : u.index ≡ v.index = same_Some u.index v.index (sym (are.is_known y u.index some (is ∙ ap (λ t. Some t) same)) ∙ are.is_known y v.index positive isn) in
    absurd (grind (arith, nat_tests))) ∙ sym unequal)
    (cases_Bool (u.index == v.index))

both : (uris : Uris) → AreIndexed uris → (u v : Uri) (n m : Namespace) → Means uris u n → Means uris v m → is_same n m ≡ (u.index == v.index)
both uris are u v inherited inherited (Means.first a) (Means.first b) = grind (arith, nat_tests)
both uris are u v inherited (uri y) (Means.first a) (Means.other some b) = grind (arith, nat_tests)
both uris are u v (uri x) inherited (Means.other some a) (Means.first b) = grind (arith, nat_tests)
both uris are u v (uri x) (uri y) (Means.other some a) (Means.other positive b) = same_indices uris are u v x y some a positive b

pub same_meant : (uris : Uris) → IsTable uris → (u v : Uri) (n m : Namespace) → uri_meant uris u ≡ Some n → uri_meant uris v ≡ Some m → is_same n m ≡ (u.index == v.index)
same_meant uris table u v n m is isn = both uris table.indexed u v n m (meaning uris u n is) (meaning uris v m isn)
