-- The namespace that a prefix means is one of the table.
use Rattle.std.proofs.Common.{◌≡◌, ℕ, ◌<◌, ◌≤◌, List, length, get_or, refl, subst, sym, ◌∙◌, arith, ⊎_elim, Some, None}
use Rattle.std.proofs.lemmas.Bool.{cases_Bool, cond-true, cond-false}
use Rattle.std.proofs.lemmas.Option.{get_or_from_slice_get, slice_get_within}
use Rattle.std.specs.Prelude.{◌==◌, Option, All, slice_get, codes, bytes_eq}
use Rattle.std.specs.Option.{option_map}
use Rattle.rn_text.specs.Texts.{Text}
use Rattle.rn_xml.specs.declared.document.XmlDeclaration.{XmlDeclaration}
use Rattle.rn_xml.specs.declared.scopes.Scopes.{Scopes}
use Rattle.rn_xml.specs.PrefixScopes.{around, innermost, uri_found, uri_at}

declared_within : (ds : List XmlDeclaration) (i n u : ℕ) → All (λ (d : XmlDeclaration). d.uri < n) ds → (o : Option XmlDeclaration) → slice_get ds i ≡ o → option_map (λ (d : XmlDeclaration). d.uri) o ≡ Some u → u < n
declared_within ds i n u all None e h = let no : None ≡ Some u = h in cc
declared_within ds i n u all (Some d) e h =
    let at : get_or ds i d ≡ d = get_or_from_slice_get ds i d d e in
    let same : d.uri ≡ u = cc in
    subst (λ m. m < n) same (subst (λ (y : XmlDeclaration). y.uri < n) at (all i d (slice_get_within ds i d e)))

found_within : (ds : List XmlDeclaration) (prefix : Text) (n u : ℕ) → 2 ≤ n → All (λ (d : XmlDeclaration). d.uri < n) ds → (o : Option ℕ) → uri_found ds prefix o ≡ Some u → u < n
found_within ds prefix n u two all (Some i) h = declared_within ds i n u all (slice_get ds i) refl h
found_within ds prefix n u two all None h = ⊎_elim
    (λ empty. let is : Some 0 ≡ Some u = sym (cond-true (length prefix == 0) (Some 0) None empty) ∙ h in let zero_is : 0 ≡ u = cc in omega arith)
    (λ some. let no : None ≡ Some u = sym (cond-false (length prefix == 0) (Some 0) None some) ∙ h in cc)
    (cases_Bool (length prefix == 0))

pub uri_within : (ds : List XmlDeclaration) (scopes : Scopes) (prefix : Text) (n u : ℕ) → 2 ≤ n → All (λ (d : XmlDeclaration). d.uri < n) ds → uri_at ds scopes prefix ≡ Some u → u < n
uri_within ds scopes prefix n u two all h = ⊎_elim
    (λ is_xml. let is : Some 1 ≡ Some u = sym (cond-true (bytes_eq prefix (codes "xml")) (Some 1) (uri_found ds prefix (innermost (around scopes prefix))) is_xml) ∙ h in
    let one_is : 1 ≡ u = cc in omega arith)
    (λ other. found_within ds prefix n u two all (innermost (around scopes prefix))
    (sym (cond-false (bytes_eq prefix (codes "xml")) (Some 1) (uri_found ds prefix (innermost (around scopes prefix))) other) ∙ h))
    (cases_Bool (bytes_eq prefix (codes "xml")))
