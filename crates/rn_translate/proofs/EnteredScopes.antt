-- What prefixes mean in an element, as its declarations are entered one after the other.
use Rattle.std.proofs.Common.{◌≡◌, ℕ, zero, suc, ◌+◌, ◌-◌, ◌<◌, List, [], ◌∷◌, ◌++◌, length, take, drop, get_or, refl, sym, ap, ◌∙◌, subst, arith, ⊎_elim, Some, None}
use Rattle.std.specs.Prelude.{◌≢◌, Option, option_map, slice_get, map, ◌&&◌, nat_le, bytes_eq}
use Rattle.std.proofs.lemmas.Bool.{cases_Bool, cond-true, cond-false}
use Rattle.std.proofs.lemmas.List.{length-take, map-append, take_more}
use Rattle.std.proofs.lemmas.Option.{none-some, same_Some, slice_get-map, slice_get_within, slice_get-get_or, get_or_from_slice_get}
use Rattle.rn_text.specs.Texts.{Text}
use Rattle.rn_xml.specs.Infoset.{Binding}
use Rattle.rn_xml.specs.TableRows.{rows_of}
use Rattle.rn_xml.specs.XmlTags.{Scope, AreDistinct}
use Rattle.rn_xml.specs.PrefixScopes.{around, IsEntered}
use Rattle.rn_xml.specs.DocumentTrees.{binding_of}
use Rattle.rn_xml.specs.declared.document.Rows.{Rows}
use Rattle.rn_xml.specs.declared.document.XmlDeclaration.{XmlDeclaration}
use Rattle.rn_xml.specs.declared.document.XmlDocument.{XmlDocument}
use Rattle.rn_xml.specs.declared.scopes.Scopes.{Scopes}
use Rattle.rn_xml.specs.inside.OpenTables.{binding_at, Denotes}
use Rattle.rn_translate.specs.inside.ElementsMeant.{IsInScope}
use Rattle.rn_translate.specs.declared.translator.Translator.{Translator}
use Rattle.rn_xml.proofs.ScopeMeans.{other_bytes, enters_same, enters_other}
use Rattle.rn_xml.proofs.ScopeSteps.{same_bytes}

-- ---- rows of a table

module _ {X : Type 0} where
  got_take : (xs : List X) (n i : ℕ) (x : X) → slice_get (take n xs) i ≡ Some x → slice_get xs i ≡ Some x
  got_take xs zero i x h = absurd (none-some x h)
  got_take [] (suc n) i x h = h
  got_take (y ∷ ys) (suc n) zero x h = h
  got_take (y ∷ ys) (suc n) (suc i) x h = got_take ys n i x h

  got_drop : (xs : List X) (n i : ℕ) → slice_get (drop n xs) i ≡ slice_get xs (n + i)
  got_drop xs zero i = let e : i ≡ 0 + i = omega arith in ap (slice_get xs) e
  got_drop [] (suc n) i = refl
  got_drop (y ∷ ys) (suc n) i = let e : suc (n + i) ≡ suc n + i = omega arith in got_drop ys n i ∙ ap (slice_get (y ∷ ys)) e

  pub row_at : (rows : Rows) (table : List X) (i : ℕ) (x : X) → slice_get (rows_of rows table) i ≡ Some x → slice_get table (rows.from + i) ≡ Some x
  row_at rows table i x h = ⊎_elim
      (λ within.
      let taken = cond-true (nat_le rows.from rows.to && nat_le rows.to (length table)) (take (rows.to - rows.from) (drop rows.from table)) [] within in
      sym (got_drop table rows.from i) ∙ got_take (drop rows.from table) (rows.to - rows.from) i x (ap (λ xs. slice_get xs i) (sym taken) ∙ h))
      (λ beyond.
      let none = cond-false (nat_le rows.from rows.to && nat_le rows.to (length table)) (take (rows.to - rows.from) (drop rows.from table)) [] beyond in
      absurd (none-some x (ap (λ xs. slice_get xs i) (sym none) ∙ h)))
      (cases_Bool (nat_le rows.from rows.to && nat_le rows.to (length table)))

-- ---- declarations of other prefixes

found : {X : Type 0} (f : X → Binding) (o : Option X) (c : Binding) → option_map f o ≡ Some c → (x : X) × (o ≡ Some x) × (f x ≡ c)
found f None c h = absurd (none-some c h)
found f (Some x) c h = (x, refl, same_Some (f x) c h)

-- what is declared before the one of this index has another prefix
pub others_before : {X : Type 0} (f : X → Binding) (rows : List X) (i : ℕ) (r : X) → AreDistinct (map f rows) → slice_get rows i ≡ Some r
    → (k : ℕ) (c : Binding) → slice_get (map f (take i rows)) k ≡ Some c → c.prefix ≢ (f r).prefix
others_before f rows i r distinct here k c there =
    let hit = found f (slice_get (take i rows) k) c (sym (slice_get-map f (take i rows) k) ∙ there) in
    let first : slice_get (map f rows) k ≡ Some c = slice_get-map f rows k ∙ ap (option_map f) (got_take rows i k hit.0 hit.1) ∙ ap (λ b. Some b) hit.2 in
    let second : slice_get (map f rows) i ≡ Some (f r) = slice_get-map f rows i ∙ ap (option_map f) here in
    let before : k < i = omega (arith, slice_get_within (take i rows) k hit.0 hit.1, length-take i rows) in
    let apart = distinct k i c before (slice_get_within (map f rows) i (f r) second) in
    λ same. apart (ap (λ (b : Binding). b.prefix) (get_or_from_slice_get (map f rows) k c c first) ∙ same ∙ ap (λ (b : Binding). b.prefix) (sym (get_or_from_slice_get (map f rows) i (f r) c second)))

-- ---- one more declaration

pub enters : (d : XmlDocument) (old new : Scopes) (s : Scope) (bs : List Binding) (r : XmlDeclaration) (n : ℕ) → IsEntered old new r.prefix.now n → slice_get d.declarations.items n ≡ Some r
    → ((k : ℕ) (c : Binding) → slice_get bs k ≡ Some c → c.prefix ≢ r.prefix.now) → ((q : Text) → Denotes (binding_at d) q (bs ++ s) (around old q))
    → (q : Text) → Denotes (binding_at d) q (bs ++ binding_of d r ∷ [] ++ s) (around new q)
enters d old new s bs r n entered there others kept q = ⊎_elim
    (λ hit. subst (Denotes (binding_at d) q (bs ++ binding_of d r ∷ [] ++ s)) (sym (entered q ∙ cond-true (bytes_eq r.prefix.now q) (around old q ++ n ∷ []) (around old q) hit))
    (enters_same s bs (binding_of d r) n (λ k c h. other_bytes c.prefix q (λ e. others k c h (e ∙ sym (same_bytes r.prefix.now q hit)))) hit (ap (option_map (binding_of d)) there) (kept q)))
    (λ miss. subst (Denotes (binding_at d) q (bs ++ binding_of d r ∷ [] ++ s)) (sym (entered q ∙ cond-false (bytes_eq r.prefix.now q) (around old q ++ n ∷ []) (around old q) miss))
    (enters_other s bs (binding_of d r) miss (kept q)))
    (cases_Bool (bytes_eq r.prefix.now q))

pub entered : (a : Translator) (old new : Scopes) (rows : List XmlDeclaration) (i n : ℕ) (r none : XmlDeclaration) → IsEntered old new r.prefix.now n → i < length rows → r ≡ get_or rows i none
    → slice_get a.document.now.declarations.items n ≡ Some r → (s : Scope) → AreDistinct (map (binding_of a.document.now) rows)
    → IsInScope (record a { scopes = old }) (map (binding_of a.document.now) (take i rows) ++ s)
    → IsInScope (record a { scopes = new }) (map (binding_of a.document.now) (take (i + 1) rows) ++ s)
entered a old new rows i n r none is_entered within is there s distinct before =
    let d = a.document.now in
    let here : slice_get rows i ≡ Some r = slice_get-get_or rows i none within ∙ ap (λ x. Some x) (sym is) in
    let more : map (binding_of d) (take (i + 1) rows) ≡ map (binding_of d) (take i rows) ++ binding_of d r ∷ [] =
    ap (map (binding_of d)) (take_more rows i none within ∙ ap (λ x. take i rows ++ x ∷ []) (sym is)) ∙ map-append (binding_of d) (take i rows) (r ∷ []) in
    record {
      knows = record { table = before.knows.table; has = before.knows.has; known = before.knows.known };
      declared = λ q. subst (λ bs. Denotes (binding_at d) q (bs ++ s) (around new q)) (sym more)
          (enters d old new s (map (binding_of d) (take i rows)) r n is_entered there (others_before (binding_of d) rows i r distinct here) before.declared q);
    }
