-- Items that are gathered one after the other, and what modules with their items apart consist of.
use Rattle.std.proofs.Common.{◌≡◌, ℕ, ◌+◌, ◌<◌, cond, inl, inr, Some, List, ◌∷◌, ◌++◌, length, get_or, map, flat_map, refl, sym, ap, ◌∙◌, subst, [], append_assoc, Contains, arith}
use Rattle.std.specs.Prelude.{bytes_eq, slice_get, Vec}
use Rattle.std.specs.declared.alloc.Global.{Global}
use Rattle.std.specs.List.{AllZip, position_from}
use Rattle.std.proofs.lemmas.List.Elements.{Contains-append_left, Contains-append_right}
use Rattle.std.proofs.lemmas.Option.{slice_get_cases}
use Rattle.rn_text.specs.Texts.{Text}
use Rattle.rn_pattern.proofs.Ordered.Ascending.{each_front, each_behind}
use Rattle.rn_pattern.proofs.Ordered.InOrder.{each_contained}
use Rattle.rn_syntax.specs.declared.tree.Item.{Item}
use Rattle.rn_syntax.specs.View.{item_view, items_view}
use Rattle.rn_assemble.specs.Components.{NamedModule}
use Rattle.rn_assemble.specs.declared.reading.named_modules.NamedModule as code_module
use Rattle.rn_assemble.specs.inside.Contained.{Inclusion, inclusions, item_inclusions, written_components, item_written_components, place_in}
use Rattle.rn_assemble.specs.inside.Keyed.{AreAmong, AreNames, defines, item_defines}
use Rattle.rn_assemble.specs.inside.Rows.{Placed, placed_from}
use Rattle.rn_assemble.specs.inside.Views.{AreNamed, module_names, module_with, modules_view, with_items}
use Rattle.rn_assemble.proofs.Gathering.AddedRows.{placed_parted}

pub nothing_left : {X : Type 0} (l : List X) → length l ≡ 0 → l ≡ []
nothing_left [] h = refl
nothing_left (x ∷ xs) h = absurd (omega arith)

-- ---- one item and those behind it

pub defined_first : (names : List Text) (left rest : List Item) (x : Item) → left ≡ x ∷ rest → AreAmong names (defines (items_view left)) → AreAmong names (item_defines (item_view x))
defined_first names left rest x e h = each_front (Contains names) _ (defines (items_view rest)) (subst (λ (ys : List Item). AreAmong names (defines (items_view ys))) e h)

pub defined_rest : (names : List Text) (left rest : List Item) (x : Item) → left ≡ x ∷ rest → AreAmong names (defines (items_view left)) → AreAmong names (defines (items_view rest))
defined_rest names left rest x e h = each_behind (Contains names) (item_defines (item_view x)) _ (subst (λ (ys : List Item). AreAmong names (defines (items_view ys))) e h)

pub written_parted : (left rest : List Item) (x : Item) → left ≡ x ∷ rest → written_components (items_view left) ≡ item_written_components (item_view x) ++ written_components (items_view rest)
written_parted left rest x e = ap (λ (ys : List Item). written_components (items_view ys)) e

pub placed_more : (left rest : List Item) (x : Item) → left ≡ x ∷ rest → (i m n : ℕ) → n ≡ m + length (item_written_components (item_view x)) → (us vs : List Placed)
    → us ++ placed_from i m (written_components (items_view left)) ≡ vs → (us ++ placed_from i m (item_written_components (item_view x))) ++ placed_from i n (written_components (items_view rest)) ≡ vs
placed_more left rest x e i m n s us vs h =
    let first = item_written_components (item_view x) in
    let others = written_components (items_view rest) in
    append_assoc us (placed_from i m first) (placed_from i n others) ∙ ap (λ q. us ++ (placed_from i m first ++ placed_from i q others)) s
    ∙ ap (λ l. us ++ l) (sym (placed_parted i m first others) ∙ ap (placed_from i m) (sym (written_parted left rest x e))) ∙ h

pub inclusions_more : (ms : List NamedModule) (left rest : List Item) (x : Item) → left ≡ x ∷ rest → (m n : ℕ) → n ≡ m + length (item_written_components (item_view x)) → (us vs ws : List Inclusion)
    → us ++ inclusions ms m (items_view left) ≡ ws → vs ≡ us ++ item_inclusions ms m (item_view x) → vs ++ inclusions ms n (items_view rest) ≡ ws
inclusions_more ms left rest x e m n s us vs ws h k =
    ap (λ a. a ++ inclusions ms n (items_view rest)) k ∙ append_assoc us (item_inclusions ms m (item_view x)) (inclusions ms n (items_view rest))
    ∙ ap (λ q. us ++ (item_inclusions ms m (item_view x) ++ inclusions ms q (items_view rest))) s
    ∙ sym (ap (λ (ys : List Item). us ++ inclusions ms m (items_view ys)) e) ∙ h

-- an include after its own items' includes
pub includes_more : (olds mids own : List Inclusion) (i j : Inclusion) → mids ≡ olds ++ own → i ≡ j → mids ++ i ∷ [] ≡ olds ++ (own ++ j ∷ [])
includes_more olds mids own i j h e = ap (λ l. l ++ i ∷ []) h ∙ append_assoc olds own (i ∷ []) ∙ ap (λ k. olds ++ (own ++ k ∷ [])) e

-- ---- places of modules, which their names alone decide

places_by_name : (x : Text) (i : ℕ) (ms : List NamedModule) → position_from (λ (m : NamedModule). bytes_eq x m.name) i ms ≡ position_from (bytes_eq x) i (map (λ (m : NamedModule). m.name) ms)
places_by_name x i [] = refl
places_by_name x i (m ∷ ms) = ap (cond (bytes_eq x m.name) (Some i)) (places_by_name x (i + 1) ms)

viewed_names : (modules : List code_module.NamedModule) → map (λ (m : NamedModule). m.name) (modules_view modules) ≡ module_names modules
viewed_names [] = refl
viewed_names (m ∷ ms) = ap (λ l. m.name.now ∷ l) (viewed_names ms)

pub named_places : (ms : List NamedModule) (modules : List code_module.NamedModule) (x : Text) → AreNamed ms modules → place_in (modules_view modules) x ≡ place_in ms x
named_places ms modules x named =
    places_by_name x 0 (modules_view modules) ∙ ap (λ (ns : List Text). position_from (bytes_eq x) 0 ns) (viewed_names modules ∙ sym named) ∙ sym (places_by_name x 0 ms)

-- ---- modules with items in the place of their own

pub names_with : (ms : List code_module.NamedModule) (xss : List (Vec Item Global)) → length xss ≡ length ms → AreNamed (with_items ms xss) ms
names_with [] [] h = refl
names_with [] (xs ∷ xss) h = refl
names_with (m ∷ ms) [] h = absurd (omega arith)
names_with (m ∷ ms) (xs ∷ xss) h = ap (λ l. m.name.now ∷ l) (names_with ms xss (omega arith))

-- the module at a place
pub module_there : (ms : List code_module.NamedModule) (i : ℕ) → i < length ms → (m : code_module.NamedModule) × (slice_get ms i ≡ Some m) × (get_or ms i m ≡ m)
module_there ms i l = elim (slice_get_cases ms i).1 [
  | inl (m, within, some, at) ↦ (m, some, at)
  | inr (out, none) ↦ absurd (omega (arith, l, out))
]

pub with_none : (ms : List code_module.NamedModule) → with_items ms [] ≡ []
with_none [] = refl
with_none (m ∷ ms) = refl

pub with_both_more : (ms : List code_module.NamedModule) (xss : List (Vec Item Global)) (m : code_module.NamedModule) (xs : Vec Item Global) → length xss ≡ length ms
    → with_items (ms ++ m ∷ []) (xss ++ xs ∷ []) ≡ with_items ms xss ++ module_with m xs ∷ []
with_both_more [] [] m xs h = refl
with_both_more [] (ys ∷ xss) m xs h = absurd (omega arith)
with_both_more (n ∷ ms) [] m xs h = absurd (omega arith)
with_both_more (n ∷ ms) (ys ∷ xss) m xs h = ap (λ l. module_with n ys ∷ l) (with_both_more ms xss m xs (omega arith))

pub with_more : (ms : List code_module.NamedModule) (xss : List (Vec Item Global)) (m : code_module.NamedModule) (xs : Vec Item Global) → length xss < length ms → m ≡ get_or ms (length xss) m
    → with_items ms (xss ++ xs ∷ []) ≡ with_items ms xss ++ module_with m xs ∷ []
with_more [] xss m xs l e = absurd (omega arith)
with_more (n ∷ ms) [] m xs l e = ap (λ r. module_with n xs ∷ r) (with_none ms) ∙ ap (λ k. module_with k xs ∷ []) (sym e)
with_more (n ∷ ms) (ys ∷ xss) m xs l e = ap (λ r. module_with n ys ∷ r) (with_more ms xss m xs (omega arith) e)

flat_defined : (ms : List code_module.NamedModule) (before after : List (Vec Item Global)) (xs : Vec Item Global) (x : Text) → length before < length ms
    → Contains (defines (items_view xs.items)) x → Contains (flat_map (λ (m : NamedModule). defines m.tree.items) (with_items ms (before ++ xs ∷ after))) x
flat_defined [] before after xs x l k = absurd (omega arith)
flat_defined (n ∷ ms) [] after xs x l k = Contains-append_left (defines (items_view xs.items)) _ x k
flat_defined (n ∷ ms) (ys ∷ before) after xs x l k = Contains-append_right (defines (items_view ys.items)) _ x (flat_defined ms before after xs x (omega arith) k)

-- what the items of one of the modules define is among the names
pub defined_each : (ms : List code_module.NamedModule) (names : List Text) (before after : List (Vec Item Global)) (xs : Vec Item Global) → AreNames (with_items ms (before ++ xs ∷ after)) names → length before < length ms
    → AreAmong names (defines (items_view xs.items))
defined_each ms names before after xs a l = each_contained (Contains names) (defines (items_view xs.items)) (λ x k. (a.defined x).1 (flat_defined ms before after xs x l k))

-- ---- one module's contents more

pub zip_push : {X C : Type 0} (R : X → C → Type 0) (xs : List X) (cs : List C) (x : X) (c : C) → AllZip R xs cs → R x c → AllZip R (xs ++ x ∷ []) (cs ++ c ∷ [])
zip_push R [] [] x c h r = (r, tt)
zip_push R [] (d ∷ cs) x c h r = absurd h
zip_push R (y ∷ xs) [] x c h r = absurd h
zip_push R (y ∷ xs) (d ∷ cs) x c h r = (h.0, zip_push R xs cs x c h.1 r)
