-- Attributes that are looked for by their names.
use Rattle.std.proofs.Common.{◌≡◌, ℕ, suc, ◌-◌, Bool, true, false, cond, List, [], ◌∷◌, length, take, drop, refl, sym, ◌∙◌, subst, arith, ⊎_elim, ne_eqb, Bor, Some, None}
use Rattle.std.specs.Prelude.{Option, All, option_map, map, bytes_eq, string_bytes, ◌==◌, ◌&&◌, nat_le}
use Rattle.std.specs.List.{find}
use Rattle.std.proofs.lemmas.Bool.{and_parts, cases_Bool, cond-true, cond-false}
use Rattle.std.proofs.lemmas.Option.{none-some, same_Some}
use Rattle.std.proofs.lemmas.List.Elements.{All-drop, All-take}
use Rattle.rn_text.specs.Texts.{Text}
use Rattle.rn_xml.specs.DocumentTrees.{attribute_of, uri_at_index}
use Rattle.rn_xml.specs.TableRows.{rows_of}
use Rattle.rn_xml.specs.declared.document.Rows.{Rows}
use Rattle.rn_xml.specs.declared.document.XmlAttribute.{XmlAttribute}
use Rattle.rn_xml.specs.declared.document.XmlDocument.{XmlDocument}
use Rattle.rn_xml.proofs.ScopeSteps.{same_bytes}
use Rattle.rn_translate.specs.SchemaElements.{value_of}

pub empty_bytes : (l : List ℕ) → (length l == 0) ≡ bytes_eq l []
empty_bytes [] = refl
empty_bytes (c ∷ cs) = ne_eqb (length (c ∷ cs)) 0 (λ e. absurd (omega arith))

-- whether the attribute has this name and no namespace
abbrev pub is_named : XmlDocument → Text → XmlAttribute → Bool
is_named d x a = bytes_eq a.name.local.now x && bytes_eq (uri_at_index d a.name.uri) []

-- the first of this name
pub found_value : (d : XmlDocument) (x : Text) (rows : List XmlAttribute) → option_map (λ (a : XmlAttribute). string_bytes a.value) (find (is_named d x) rows) ≡ value_of x (map (attribute_of d) rows)
found_value d x [] = refl
found_value d x (a ∷ rows) = elim (is_named d x a) as (λ b. option_map (λ (r : XmlAttribute). string_bytes r.value) (cond b (Some a) (find (is_named d x) rows)) ≡ cond b (Some (string_bytes a.value)) (value_of x (map (attribute_of d) rows)))
    [ true ↦ refl | false ↦ found_value d x rows ]

pub value_behind : (o : Option (Bor XmlAttribute)) → option_map (λ (f : Bor XmlAttribute). string_bytes f.now.value) o ≡ option_map (λ (a : XmlAttribute). string_bytes a.value) (option_map (λ (f : Bor XmlAttribute). f.now) o)
value_behind None = refl
value_behind (Some f) = refl

-- what holds of the values that attributes of this name have holds of the one that is found
pub value_holds : (P : Text → Type 0) (d : XmlDocument) (x v : Text) (rows : List XmlAttribute) → All (λ (a : XmlAttribute). a.name.local.now ≡ x → P (string_bytes a.value)) rows
    → value_of x (map (attribute_of d) rows) ≡ Some v → P v
value_holds P d x v [] all is = absurd (none-some v is)
value_holds P d x v (a ∷ rows) all is = ⊎_elim
    (λ hit.
    let value : string_bytes a.value ≡ v = same_Some (string_bytes a.value) v (sym (cond-true (is_named d x a) (Some (string_bytes a.value)) (value_of x (map (attribute_of d) rows)) hit) ∙ is) in
    subst P value (all 0 a (omega arith) (same_bytes a.name.local.now x (and_parts _ _ hit).0)))
    (λ miss. value_holds P d x v rows (λ k r h. all (suc k) r (omega (arith, h))) (sym (cond-false (is_named d x a) (Some (string_bytes a.value)) (value_of x (map (attribute_of d) rows)) miss) ∙ is))
    (cases_Bool (is_named d x a))

pub all_rows : {A : Type 0} (P : A → Type 0) (rows : Rows) (table : List A) → All P table → All P (rows_of rows table)
all_rows P rows table all = elim (nat_le rows.from rows.to && nat_le rows.to (length table)) as (λ b. All P (cond b (take (rows.to - rows.from) (drop rows.from table)) []))
    [ true ↦ All-take P (rows.to - rows.from) (drop rows.from table) (All-drop P rows.from table all) | false ↦ λ k d h. absurd (omega (arith, h)) ]
