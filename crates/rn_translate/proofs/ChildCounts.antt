-- The children of an element, as they are counted one after the other.
use Rattle.std.proofs.Common.{◌≡◌, ℕ, ◌+◌, ◌<◌, ◌≤◌, Bool, true, false, cond, List, [], ◌∷◌, refl, sym, ap, ◌∙◌, subst, arith, ⊎_elim, Some, None}
use Rattle.std.specs.Prelude.{Option, not, ◌||◌, if◌then◌else◌, nat_lt, slice_get, bytes_eq}
use Rattle.std.specs.List.{list_all}
use Rattle.std.proofs.lemmas.Bool.{and_parts, cases_Bool, cond-true}
use Rattle.std.proofs.lemmas.Bool.Decides.{nat_tests}
use Rattle.std.proofs.lemmas.Option.{none-some, same_Some}
use Rattle.rn_text.specs.Texts.{Text}
use Rattle.rn_xml.specs.Infoset.{Name, Nodes}
use Rattle.rn_xml.specs.DocumentTrees.{AreChildren, name_of}
use Rattle.rn_xml.specs.declared.document.XmlElement.{XmlElement}
use Rattle.rn_xml.specs.declared.document.XmlDocument.{XmlDocument}
use Rattle.rn_translate.specs.SchemaElements.{count_of, has_except, is_except_kind, is_foreign, kind_in, kind_name, kind_of, kinds, rng_uri}
use Rattle.rn_translate.specs.inside.Walks.{AreNested}
use Rattle.rn_translate.specs.declared.kinds.Kind.{Kind}
use Rattle.rn_translate.proofs.Walking.TreeSteps.{next_child, no_end_before, skips_count, skips_except}

-- ---- a child is a part of the schema, or is of another vocabulary

known_kind : (ks : List Kind) (local : Text) → list_all (λ k. not (is_foreign (Some k))) ks ≡ true → is_foreign (kind_in ks local) ≡ false
known_kind [] local all = refl
known_kind (k ∷ ks) local all =
    let both = and_parts (not (is_foreign (Some k))) (list_all (λ k. not (is_foreign (Some k))) ks) all in
    elim (bytes_eq (kind_name k) local) as (λ b. is_foreign (cond b (Some k) (kind_in ks local)) ≡ false) [ true ↦ negated (is_foreign (Some k)) both.0 | false ↦ known_kind ks local both.1 ]
  where
    negated : (b : Bool) → not b ≡ true → b ≡ false
    negated true e = sym e
    negated false e = refl

pub foreign_name : (n : Name) → is_foreign (kind_of n) ≡ not (bytes_eq n.uri rng_uri)
foreign_name n = elim (bytes_eq n.uri rng_uri) as (λ b. is_foreign (cond b (kind_in kinds n.local) (Some Kind.Foreign)) ≡ not b) [ true ↦ known_kind kinds n.local refl | false ↦ refl ]

turned : (b : Bool) (x y : ℕ) → cond b (1 + x) x ≡ cond (not b) x (1 + x)
turned true x y = refl
turned false x y = refl

-- ---- what is left behind those that are counted

-- so many of the children are parts before the element `next`, and an except is among them or not
pub record Counted (d : XmlDocument) (parent next behind after : ℕ) (k : Nodes) (count : ℕ) (except : Bool) : Type 0 where
  pub text : ℕ
  pub rest : Nodes
  pub children : AreChildren d parent next text rest behind after
  pub count_is : count_of k ≡ count + count_of rest
  pub except_is : has_except k ≡ (except || has_except rest)

pub none_counted : {d : XmlDocument} {parent next text behind after : ℕ} {k : Nodes} → AreChildren d parent next text k behind after → Counted d parent next behind after k 0 false
none_counted {text = text} {k = k} are = record { text = text; rest = k; children = are; count_is = omega arith; except_is = refl }

or_assoc : (a b c : Bool) → (a || (b || c)) ≡ ((a || b) || c)
or_assoc true b c = refl
or_assoc false b c = refl

more : (b : Bool) (count rest : ℕ) → count + cond b rest (1 + rest) ≡ cond b count (count + 1) + rest
more true count rest = refl
more false count rest = omega arith

pub one_counted : {d : XmlDocument} {parent next behind after : ℕ} {k : Nodes} {count : ℕ} {except : Bool} (row : XmlElement) → AreNested d → next < behind → slice_get d.elements.items next ≡ Some row
    → Counted d parent next behind after k count except
    → Counted d parent row.end behind after k (if is_foreign (kind_of (name_of d row.name)) then count else count + 1) (except || is_except_kind (kind_of (name_of d row.name)))
one_counted {d = d} {parent = parent} {behind = behind} {after = after} {count = count} {except = except} row nested within there c =
    let n = next_child c.children within in
    let same : n.row ≡ row = same_Some n.row row (sym n.there ∙ there) in
    let foreign = is_foreign (kind_of (name_of d row.name)) in
    let counted : count_of c.rest ≡ cond foreign (count_of n.rest) (1 + count_of n.rest) =
    skips_count n.skips ∙ turned (bytes_eq (name_of d n.row.name).uri rng_uri) (count_of n.rest) 0
    ∙ ap (λ b. cond b (count_of n.rest) (1 + count_of n.rest)) (sym (foreign_name (name_of d n.row.name)) ∙ ap (λ (r : XmlElement). is_foreign (kind_of (name_of d r.name))) same) in
    let excepts : has_except c.rest ≡ (is_except_kind (kind_of (name_of d row.name)) || has_except n.rest) =
    skips_except n.skips ∙ ap (λ (r : XmlElement). is_except_kind (kind_of (name_of d r.name)) || has_except n.rest) same in
    record {
      text = n.mid;
      rest = n.rest;
      children = subst (λ (r : XmlElement). AreChildren d parent r.end n.mid n.rest behind after) same n.outer;
      count_is = c.count_is ∙ ap (λ m. count + m) counted ∙ more foreign count (count_of n.rest);
      except_is = c.except_is ∙ ap (λ b. except || b) excepts ∙ or_assoc except (is_except_kind (kind_of (name_of d row.name))) (has_except n.rest);
    }

-- behind the last child no part is left
no_part : {d : XmlDocument} {p e t behind after : ℕ} {k : Nodes} → AreNested d → AreChildren d p e t k behind after → behind ≤ e → (count_of k ≡ 0) × (has_except k ≡ false)
no_part nested AreChildren.none end = (refl, refl)
no_part nested (AreChildren.text there is before rest) end = no_part nested rest end
no_part {e = e} nested (AreChildren.child {row = row} there is before inner rest) end = absurd (omega (arith, nested e row there, no_end_before nested rest))

or_false : (b : Bool) → (b || false) ≡ b
or_false true = refl
or_false false = refl

pub all_counted : {d : XmlDocument} {parent next behind after : ℕ} {k : Nodes} {count : ℕ} {except : Bool} → AreNested d → behind ≤ next → Counted d parent next behind after k count except
    → (count ≡ count_of k) × (except ≡ has_except k)
all_counted {count = count} {except = except} nested end c =
    let none = no_part nested c.children end in
    (omega (arith, c.count_is, none.0), sym (c.except_is ∙ ap (λ b. except || b) none.1 ∙ or_false except))

-- ---- the steps of the loop

pub child_there : (b : Bool) (o : Option XmlElement) (x : XmlElement) → Some x ≡ (if b then o else None) → (b ≡ true) × (o ≡ Some x)
child_there true o x e = (refl, sym e)
child_there false o x e = absurd (none-some x (sym e))

pub at_most_one : (b : Bool) (n : ℕ) → (if b then n else n + 1) ≤ n + 1
at_most_one true n = omega arith
at_most_one false n = omega arith

pub none_left : {d : XmlDocument} {parent next behind after : ℕ} {k : Nodes} {count : ℕ} {except : Bool} → Counted d parent next behind after k count except
    → None ≡ (if nat_lt next behind then slice_get d.elements.items next else None) → behind ≤ next
none_left {d = d} {next = next} {behind = behind} c none = ⊎_elim
    (λ below.
    let within : next < behind = grind (arith, nat_tests) in
    let n = next_child c.children within in
    absurd (none-some n.row (none ∙ cond-true (nat_lt next behind) (slice_get d.elements.items next) None below ∙ n.there)))
    (λ other. grind (arith, nat_tests))
    (cases_Bool (nat_lt next behind))
