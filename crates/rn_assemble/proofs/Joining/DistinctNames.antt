-- Names that are defined once each, and their definitions in a map.
use Rattle.std.proofs.Common.{◌≡◌, Bool, true, false, ◌||◌, cond, List, [], ◌∷◌, ◌++◌, map, filter, not, refl, sym, ap, ◌∙◌}
use Rattle.std.specs.Prelude.{bytes_eq, String, string_bytes}
use Rattle.std.specs.List.{AllByRecursion, list_any}
use Rattle.std.specs.String.{string_eq}
use Rattle.std.specs.declared.alloc.Global.{Global}
use Rattle.std.proofs.lemmas.Bool.{false≢true, or_parts}
use Rattle.indexmap.specs.IndexMap.{insert_entry}
use Rattle.rn_pattern.specs.Tree.{Tree}
use Rattle.rn_text.specs.Texts.{Text}
use Rattle.rn_pattern.specs.View.{pattern_view}
use Rattle.rn_pattern.specs.declared.tree.Pattern.{Pattern}
use Rattle.rn_assemble.specs.Combine.{AreDistinct, Differ, defined_names, first_of, joined_grammar, joined_pattern}
use Rattle.rn_assemble.specs.Components.{Component, Key, name_key, start_key}
use Rattle.rn_assemble.specs.DefinitionsView.{definitions_view}
use Rattle.rn_assemble.proofs.Joining.DefinedNames.{differs}

-- ---- the definitions of a joined grammar

module _ (f : Text → Tree) where
  abbrev definition : Text → Text × Tree
  definition x = (x, f x)

  abbrev Once : List Text → Type 0
  Once xs = AreDistinct (map definition xs)

  -- what differs from a name goes on to differ from those that are left
  kept_at : (P : Text × Tree → Type 0) (b : Bool) (y : Text) (ys : List Text) → P (definition y) → AllByRecursion P (map definition ys) → AllByRecursion P (map definition (cond b (y ∷ ys) ys))
  kept_at P true y ys h each = (h, each)
  kept_at P false y ys h each = each

  kept : (P : Text × Tree → Type 0) (p : Text → Bool) (xs : List Text) → AllByRecursion P (map definition xs) → AllByRecursion P (map definition (filter p xs))
  kept P p [] each = each
  kept P p (x ∷ xs) each = kept_at P (p x) x (filter p xs) each.0 (kept P p xs each.1)

  once_at : (b : Bool) (y : Text) (ys : List Text) → AllByRecursion (Differ (definition y)) (map definition ys) → Once ys → Once (cond b (y ∷ ys) ys)
  once_at true y ys each h = (each, h)
  once_at false y ys each h = h

  once_filtered : (p : Text → Bool) (xs : List Text) → Once xs → Once (filter p xs)
  once_filtered p [] h = h
  once_filtered p (x ∷ xs) h = once_at (p x) x (filter p xs) (kept (Differ (definition x)) p xs h.0) (once_filtered p xs h.1)

  other_at : (b : Bool) (x y : Text) (ys : List Text) → bytes_eq x y ≡ b → AllByRecursion (Differ (definition x)) (map definition ys) → AllByRecursion (Differ (definition x)) (map definition (cond (not b) (y ∷ ys) ys))
  other_at true x y ys e each = each
  other_at false x y ys e each = ((e, differs x y e), each)

  others : (x : Text) (ys : List Text) → AllByRecursion (Differ (definition x)) (map definition (filter (λ y. not (bytes_eq x y)) ys))
  others x [] = tt
  others x (y ∷ ys) = other_at (bytes_eq x y) x y (filter (λ z. not (bytes_eq x z)) ys) refl (others x ys)

  once_first : (k : Key) (xs : List Text) → Once xs → Once (first_of k xs)
  once_first start_key xs h = h
  once_first (name_key x) xs h = (others x xs, once_filtered (λ y. not (bytes_eq x y)) xs h)

  once_defined : (cs : List Component) → Once (defined_names cs)
  once_defined [] = tt
  once_defined (c ∷ cs) = once_first c.key (defined_names cs) (once_defined cs)

pub joined_distinct : (cs : List Component) → AreDistinct (joined_grammar cs).definitions
joined_distinct cs = once_defined (λ x. joined_pattern cs (name_key x)) cs

-- ---- a name that is new in a map

inserted_at : (b : Bool) (d : String Global × Pattern) (es fs : List (String Global × Pattern)) (s : String Global) (p : Pattern) → b ≡ false → definitions_view fs ≡ definitions_view es ++ (string_bytes s, pattern_view p) ∷ []
    → definitions_view (cond b ((d.0, p) ∷ es) (d ∷ fs)) ≡ definitions_view (d ∷ es) ++ (string_bytes s, pattern_view p) ∷ []
inserted_at true d es fs s p e h = absurd (false≢true (sym e))
inserted_at false d es fs s p e h = ap (λ ds. (string_bytes d.0, pattern_view d.1) ∷ ds) h

pub inserted : (es : List (String Global × Pattern)) (s : String Global) (p : Pattern) → list_any (bytes_eq (string_bytes s)) (map (λ (d : Text × Tree). d.0) (definitions_view es)) ≡ false
    → definitions_view (insert_entry string_eq es s p) ≡ definitions_view es ++ (string_bytes s, pattern_view p) ∷ []
inserted [] s p n = refl
inserted (d ∷ es) s p n =
    let other = or_parts (bytes_eq (string_bytes s) (string_bytes d.0)) (list_any (bytes_eq (string_bytes s)) (map (λ (e : Text × Tree). e.0) (definitions_view es))) n in
    inserted_at (bytes_eq (string_bytes s) (string_bytes d.0)) d es (insert_entry string_eq es s p) s p other.0 (inserted es s p other.1)

-- the name of a definition behind others is none of theirs
differ_there : (x : Text × Tree) (xs : List (Text × Tree)) (d : Text × Tree) (ys : List (Text × Tree)) → AllByRecursion (Differ x) (xs ++ d ∷ ys) → bytes_eq d.0 x.0 ≡ false
differ_there x [] d ys each = each.0.1
differ_there x (y ∷ xs) d ys each = differ_there x xs d ys each.1

pub new_name : (xs : List (Text × Tree)) (d : Text × Tree) (ys : List (Text × Tree)) → AreDistinct (xs ++ d ∷ ys) → list_any (bytes_eq d.0) (map (λ (e : Text × Tree). e.0) xs) ≡ false
new_name [] d ys h = refl
new_name (x ∷ xs) d ys h = ap (λ b. b || list_any (bytes_eq d.0) (map (λ (e : Text × Tree). e.0) xs)) (differ_there x xs d ys h.0) ∙ new_name xs d ys h.1
