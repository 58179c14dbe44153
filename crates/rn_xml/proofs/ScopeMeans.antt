-- What prefixes mean by the declarations that are around.
use Rattle.std.proofs.Common.{◌≡◌, ℕ, suc, ◌+◌, ◌-◌, List, [], ◌∷◌, ◌++◌, length, take, refl, sym, ap, ◌∙◌, subst, arith, ⊎_elim, length-append, true, false, Some, None}
use Rattle.std.specs.Prelude.{◌≢◌, ◌==◌, Option, All, slice_get, map, bytes_eq, codes, if◌then◌else◌}
use Rattle.std.specs.Option.{option_map}
use Rattle.std.proofs.lemmas.Bool.{cases_Bool, cond-true, cond-false}
use Rattle.std.proofs.lemmas.Bool.Decides.{nat_tests}
use Rattle.std.proofs.lemmas.Option.{none-some}
use Rattle.std.proofs.lemmas.Slice.Eq.{bytes_eq-Decides}
use Rattle.std.proofs.lemmas.List.{take-append-le, take_all, nil_from_length}
use Rattle.std.proofs.lemmas.List.Recursion.{is_count_by}
use Rattle.rn_text.specs.Texts.{Text}
use Rattle.rn_xml.specs.Infoset.{Binding}
use Rattle.rn_xml.specs.PrefixScopes.{around, innermost, uri_found, uri_at, count_of}
use Rattle.rn_xml.specs.XmlTags.{Scope, uri_in, xml_uri, MayBind}
use Rattle.rn_xml.specs.DocumentTrees.{binding_of, uri_at_index}
use Rattle.rn_xml.specs.declared.document.XmlDeclaration.{XmlDeclaration}
use Rattle.rn_xml.specs.declared.document.XmlDocument.{XmlDocument}
use Rattle.rn_xml.specs.declared.scopes.Scopes.{Scopes}
use Rattle.rn_xml.specs.inside.OpenTables.{binding_at, Denotes}
use Rattle.rn_xml.proofs.RowReads.{got_last}
use Rattle.rn_xml.proofs.ScopeSteps.{same_bytes}

pub equal_bytes : (xs ys : List ℕ) → xs ≡ ys → bytes_eq xs ys ≡ true
equal_bytes xs ys e = grind (arith, bytes_eq-Decides)

pub other_bytes : (xs ys : List ℕ) → xs ≢ ys → bytes_eq xs ys ≡ false
other_bytes xs ys e = grind (arith, bytes_eq-Decides)

pub unequal_bytes : (xs ys : List ℕ) → bytes_eq xs ys ≡ false → xs ≢ ys
unequal_bytes xs ys e = λ same. let hit : bytes_eq xs ys ≡ true = equal_bytes xs ys same in let miss : true ≡ false = sym hit ∙ e in cc

all_head : {X : Type 0} (P : X → Type 0) (x : X) (xs : List X) → All P (x ∷ xs) → P x
all_head P x xs all = all 0 x (omega arith)

all_tail : {X : Type 0} (P : X → Type 0) (x : X) (xs : List X) → All P (x ∷ xs) → All P xs
all_tail P x xs all = λ k d h. all (suc k) d (omega arith)

-- the indices mean the same declarations
pub denotes_grow : {means other : ℕ → Option Binding} {q : Text} {s : Scope} {ns : List ℕ} → ((n : ℕ) (b : Binding) → means n ≡ Some b → other n ≡ Some b) → Denotes means q s ns → Denotes other q s ns
denotes_grow same Denotes.nothing = Denotes.nothing
denotes_grow same (Denotes.other miss more) = Denotes.other miss (denotes_grow same more)
denotes_grow same (Denotes.this {b = b} n hit is more) = Denotes.this n hit (same n b is) (denotes_grow same more)

-- a declaration behind those of one element
pub enters_same : {means : ℕ → Option Binding} {q : Text} {ns : List ℕ} (s : Scope) (bs : List Binding) (b : Binding) (n : ℕ) → ((k : ℕ) (c : Binding) → slice_get bs k ≡ Some c → bytes_eq c.prefix q ≡ false)
    → bytes_eq b.prefix q ≡ true → means n ≡ Some b → Denotes means q (bs ++ s) ns → Denotes means q (bs ++ b ∷ [] ++ s) (ns ++ n ∷ [])
enters_same s [] b n others hit is more = Denotes.this n hit is more
enters_same s (c ∷ bs) b n others hit is (Denotes.other miss more) = Denotes.other miss (enters_same s bs b n (λ k x h. others (suc k) x h) hit is more)
enters_same s (c ∷ bs) b n others hit is (Denotes.this m here isn more) = absurd (let miss : true ≡ false = sym here ∙ others 0 c refl in cc)

pub enters_other : {means : ℕ → Option Binding} {q : Text} {ns : List ℕ} (s : Scope) (bs : List Binding) (b : Binding) → bytes_eq b.prefix q ≡ false → Denotes means q (bs ++ s) ns → Denotes means q (bs ++ b ∷ [] ++ s) ns
enters_other s [] b miss more = Denotes.other miss more
enters_other s (c ∷ bs) b miss (Denotes.other none more) = Denotes.other none (enters_other s bs b miss more)
enters_other s (c ∷ bs) b miss (Denotes.this m here is more) = Denotes.this m here is (enters_other s bs b miss more)

fewer : (ms : List ℕ) (n c : ℕ) → take (length (ms ++ n ∷ []) - suc c) (ms ++ n ∷ []) ≡ take (length ms - c) ms
fewer ms n c =
    let count : length (ms ++ n ∷ []) - suc c ≡ length ms - c = omega (arith, length-append ms (n ∷ [])) in
    ap (λ k. take k (ms ++ n ∷ [])) count ∙ take-append-le (length ms - c) ms (n ∷ []) (omega arith)

counted : Text → List XmlDeclaration → ℕ
counted q [] = 0
counted q (r ∷ ds) = if bytes_eq r.prefix.now q then 1 + counted q ds else counted q ds

are_counted : (q : Text) (ds : List XmlDeclaration) → counted q ds ≡ count_of q ds
unfolding counted
are_counted q ds = is_count_by (counted q) (λ (r : XmlDeclaration). bytes_eq r.prefix.now q) refl (λ r rs. refl) ds

count_more : (q : Text) (r : XmlDeclaration) (ds : List XmlDeclaration) → count_of q (r ∷ ds) ≡ (if bytes_eq r.prefix.now q then 1 + count_of q ds else count_of q ds)
unfolding counted
count_more q r ds = sym (are_counted q (r ∷ ds)) ∙ ap (λ n. if bytes_eq r.prefix.now q then 1 + n else n) (are_counted q ds)

count_yes : (q : Text) (r : XmlDeclaration) (ds : List XmlDeclaration) → bytes_eq r.prefix.now q ≡ true → count_of q (r ∷ ds) ≡ suc (count_of q ds)
count_yes q r ds hit =
    let more : count_of q (r ∷ ds) ≡ 1 + count_of q ds = count_more q r ds ∙ cond-true (bytes_eq r.prefix.now q) (1 + count_of q ds) (count_of q ds) hit in
    omega (arith, more)

count_no : (q : Text) (r : XmlDeclaration) (ds : List XmlDeclaration) → bytes_eq r.prefix.now q ≡ false → count_of q (r ∷ ds) ≡ count_of q ds
count_no q r ds miss = count_more q r ds ∙ cond-false (bytes_eq r.prefix.now q) (1 + count_of q ds) (count_of q ds) miss

-- the declarations of an element go
pub leaves : {means : ℕ → Option Binding} {q : Text} {s : Scope} {ns : List ℕ} (d : XmlDocument) (ds : List XmlDeclaration) → Denotes means q (map (binding_of d) ds ++ s) ns
    → Denotes means q s (take (length ns - count_of q ds) ns)
leaves {means = means} {q = q} {s = s} {ns = ns} d [] more =
    let all : take (length ns - 0) ns ≡ ns = take_all (length ns - 0) ns (omega arith) in subst (Denotes means q s) (sym all) more
leaves {means = means} {q = q} {s = s} {ns = ns} d (r ∷ ds) (Denotes.other miss more) =
    subst (λ c. Denotes means q s (take (length ns - c) ns)) (sym (count_no q r ds miss)) (leaves d ds more)
leaves {means = means} {q = q} {s = s} d (r ∷ ds) (Denotes.this {ns = ms} n hit is more) =
    subst (λ c. Denotes means q s (take (length (ms ++ n ∷ []) - c) (ms ++ n ∷ []))) (sym (count_yes q r ds hit))
    (subst (Denotes means q s) (sym (fewer ms n (count_of q ds))) (leaves d ds more))

-- `xml` always means its namespace
pub xml_means : (s : Scope) (q : Text) → All MayBind s → q ≡ codes "xml" → uri_in s q ≡ Some xml_uri
xml_means [] q may is = cond-true (bytes_eq q (codes "xml")) (Some xml_uri) (if bytes_eq q [] then Some [] else None) (equal_bytes q (codes "xml") is)
xml_means (b ∷ s) q may is = ⊎_elim
    (λ hit. cond-true (bytes_eq b.prefix q) (Some b.uri) (uri_in s q) hit ∙ ap (λ u. Some u) ((all_head MayBind b s may).xml (same_bytes b.prefix q hit ∙ is)))
    (λ miss. cond-false (bytes_eq b.prefix q) (Some b.uri) (uri_in s q) miss ∙ xml_means s q (all_tail MayBind b s may) is)
    (cases_Bool (bytes_eq b.prefix q))

pub innermost_last : (ns : List ℕ) (n : ℕ) → innermost (ns ++ n ∷ []) ≡ Some n
innermost_last ns n =
    let count : length (ns ++ n ∷ []) - 1 ≡ length ns = omega (arith, length-append ns (n ∷ [])) in
    ap (λ k. slice_get (ns ++ n ∷ []) k) count ∙ got_last ns n

declared_uri : (d : XmlDocument) (n u : ℕ) (b : Binding) (o : Option XmlDeclaration) → option_map (binding_of d) o ≡ Some b → option_map (λ (r : XmlDeclaration). r.uri) o ≡ Some u → b.uri ≡ uri_at_index d u
declared_uri d n u b None is found = absurd (none-some b is)
declared_uri d n u b (Some r) is found =
    let binding : binding_of d r ≡ b = let h : Some (binding_of d r) ≡ Some b = is in cc in
    let uri : r.uri ≡ u = let h : Some (r.uri) ≡ Some u = found in cc in
    sym (ap (λ (x : Binding). x.uri) binding) ∙ ap (uri_at_index d) uri

-- a prefix that isn't `xml`
pub found_means : (d : XmlDocument) (u : ℕ) {q : Text} {s : Scope} {ns : List ℕ} → q ≢ codes "xml" → uri_at_index d 0 ≡ [] → Denotes (binding_at d) q s ns
    → uri_found d.declarations.items q (innermost ns) ≡ Some u → uri_in s q ≡ Some (uri_at_index d u)
found_means d u {q = q} other none Denotes.nothing found = ⊎_elim
    (λ empty.
    let zero_is : 0 ≡ u = let h : Some 0 ≡ Some u = sym (cond-true (length q == 0) (Some 0) None empty) ∙ found in cc in
    let is : q ≡ [] = nil_from_length q (grind (arith, nat_tests)) in
    cond-false (bytes_eq q (codes "xml")) (Some xml_uri) (if bytes_eq q [] then Some [] else None) (other_bytes q (codes "xml") other)
    ∙ cond-true (bytes_eq q []) (Some []) None (equal_bytes q [] is) ∙ ap (λ t. Some t) (sym none) ∙ ap (λ k. Some (uri_at_index d k)) zero_is)
    (λ some. absurd (none-some u (sym (cond-false (length q == 0) (Some 0) None some) ∙ found)))
    (cases_Bool (length q == 0))
found_means d u {q = q} other none (Denotes.other {b = b} {scope = s} miss more) found =
    cond-false (bytes_eq b.prefix q) (Some b.uri) (uri_in s q) miss ∙ found_means d u other none more found
found_means d u {q = q} other none (Denotes.this {b = b} {scope = s} {ns = ms} n hit is more) found =
    let at : option_map (λ (r : XmlDeclaration). r.uri) (slice_get d.declarations.items n) ≡ Some u =
    ap (uri_found d.declarations.items q) (sym (innermost_last ms n)) ∙ found in
    cond-true (bytes_eq b.prefix q) (Some b.uri) (uri_in s q) hit ∙ ap (λ t. Some t) (declared_uri d n u b (slice_get d.declarations.items n) is at)

-- what a prefix means is what the scope says
pub prefix_means : (d : XmlDocument) (scopes : Scopes) (q : Text) (s : Scope) (u : ℕ) → All MayBind s → uri_at_index d 0 ≡ [] → uri_at_index d 1 ≡ xml_uri
    → Denotes (binding_at d) q s (around scopes q) → uri_at d.declarations.items scopes q ≡ Some u → uri_in s q ≡ Some (uri_at_index d u)
prefix_means d scopes q s u may none xml denotes found = ⊎_elim
    (λ hit.
    let one : 1 ≡ u = let h : Some 1 ≡ Some u = sym (cond-true (bytes_eq q (codes "xml")) (Some 1) (uri_found d.declarations.items q (innermost (around scopes q))) hit) ∙ found in cc in
    xml_means s q may (same_bytes q (codes "xml") hit) ∙ ap (λ t. Some t) (sym xml) ∙ ap (λ k. Some (uri_at_index d k)) one)
    (λ miss. found_means d u (unequal_bytes q (codes "xml") miss) none denotes (sym (cond-false (bytes_eq q (codes "xml")) (Some 1) (uri_found d.declarations.items q (innermost (around scopes q))) miss) ∙ found))
    (cases_Bool (bytes_eq q (codes "xml")))
