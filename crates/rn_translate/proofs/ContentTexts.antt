-- The text that an element begins with.
use Rattle.std.proofs.Common.{◌≡◌, ℕ, ◌≤◌, true, [], refl, ap, ◌∙◌, arith, ne_eqb, Some, None}
use Rattle.std.specs.Prelude.{Option, ◌≢◌, ◌==◌, if◌then◌else◌, slice_get, string_bytes}
use Rattle.std.specs.Option.{option_map_or}
use Rattle.std.proofs.lemmas.Bool.{cond-true, cond-false}
use Rattle.std.proofs.lemmas.Bool.Decides.{nat_tests}
use Rattle.rn_text.specs.Texts.{Text}
use Rattle.rn_xml.specs.Infoset.{Nodes}
use Rattle.rn_xml.specs.DocumentTrees.{AreChildren}
use Rattle.rn_xml.specs.declared.document.XmlText.{XmlText}
use Rattle.rn_xml.specs.declared.document.XmlDocument.{XmlDocument}
use Rattle.rn_translate.specs.SchemaElements.{text_of}
use Rattle.rn_translate.specs.inside.Walks.{AreNested, IsContent, content_at}
use Rattle.rn_translate.proofs.Walking.TreeSteps.{no_end_before}

-- the text, if it is in the element of this index
abbrev content_in : ℕ → Option XmlText → Text
content_in p o = option_map_or (λ (row : XmlText). if row.parent == p then string_bytes row.content else []) o []

same_index : (n : ℕ) → (n == n) ≡ true
same_index n = grind (arith, nat_tests)

no_text : (p : ℕ) (o : Option XmlText) → ((row : XmlText) → o ≡ Some row → row.parent ≢ p) → content_in p o ≡ []
no_text p None other = refl
no_text p (Some row) other = cond-false (row.parent == p) (string_bytes row.content) [] (ne_eqb row.parent p (other row refl))

first_text : {d : XmlDocument} {p e t behind after : ℕ} {k : Nodes} → AreNested d → AreChildren d p e t k behind after → behind ≤ e
    → ((row : XmlText) → slice_get d.texts.items after ≡ Some row → row.parent ≢ p) → content_at d t p ≡ text_of k
first_text {d = d} {p = p} {t = t} nested AreChildren.none end other = no_text p (slice_get d.texts.items t) other
first_text {d = d} {p = p} nested (AreChildren.text {row = row} there is before rest) end other =
    ap (content_in p) there ∙ cond-true (row.parent == p) (string_bytes row.content) [] (ap (λ n. n == p) is ∙ same_index p)
first_text {e = e} nested (AreChildren.child {row = row} there is before inner rest) end other = absurd (omega (arith, nested e row there, no_end_before nested rest))

pub content_text : {d : XmlDocument} {e t after : ℕ} {k : Nodes} → AreNested d → IsContent d e t k after → content_at d t e ≡ text_of k
content_text {e = e} nested c = first_text nested c.children (omega arith) c.ends

-- ---- the text of this index is the element's, or it isn't

pub this_content : (d : XmlDocument) (t e : ℕ) (row : XmlText) → slice_get d.texts.items t ≡ Some row → row.parent ≡ e → content_at d t e ≡ string_bytes row.content
this_content d t e row there is = ap (content_in e) there ∙ cond-true (row.parent == e) (string_bytes row.content) [] (ap (λ n. n == e) is ∙ same_index e)

pub other_content : (d : XmlDocument) (t e : ℕ) (row : XmlText) → slice_get d.texts.items t ≡ Some row → row.parent ≢ e → content_at d t e ≡ []
other_content d t e row there other = ap (content_in e) there ∙ cond-false (row.parent == e) (string_bytes row.content) [] (ne_eqb row.parent e other)

pub no_content : (d : XmlDocument) (t e : ℕ) → slice_get d.texts.items t ≡ None → content_at d t e ≡ []
no_content d t e none = ap (content_in e) none
