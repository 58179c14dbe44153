-- What is appended one after the other.
use Rattle.std.proofs.Common.{◌≡◌, ◌≢◌, ℕ, zero, suc, ◌+◌, ◌<◌, ◌≤◌, inl, inr, ◌⊎◌, List, [], ◌∷◌, ◌++◌, length, take, get_or, Bool, true, false, Option, Some, None, refl, sym, ap, ◌∙◌, subst, append_assoc, append-nil, length-append, arith}
use Rattle.std.specs.Prelude.{codes, cond, flat_map, string_bytes, bytes_eq, ◌&&◌}
use Rattle.std.proofs.lemmas.List.{take_more, take_all}
use Rattle.rn_text.specs.Texts.{Text}
use Rattle.rn_pattern.specs.Document.{Attribute, Item, node, string, Items, no_items, more_items}
use Rattle.rn_syntax.specs.declared.tree.Operator.{Operator}
use Rattle.rn_syntax.specs.declared.tree.Operator.TheVariants as o
use Rattle.rn_rng.specs.declared.lines.Writer.{Writer}
use Rattle.rn_rng.specs.declared.lines.XmlStop.{XmlStop}
use Rattle.rn_rng.specs.declared.lines.XmlStop.TheVariants.{TooLarge}
use Rattle.rn_rng.specs.Layout.{Holder, deeper, end_tag, escaped, held_text, holds_text, in_element, indent, item_text, items_text, max_xml, one_line, reference, rest_text, tag_front}
use Rattle.rn_rng.specs.Translation.{element, has_items, items_then, one_item, operator_local, text_items, unwrapped}
use Rattle.rn_rng.specs.inside.Views.{placed}
use Rattle.rn_rng.specs.inside.Writes.{Writes}

longer : (a b c : List ℕ) → max_xml < length (a ++ b) → max_xml < length (a ++ (b ++ c))
longer a b c h = omega (arith, length-append a b, length-append a (b ++ c), length-append b c)

pub writes_nil : (w : Writer) → Writes [] w w
writes_nil w = record {
  stays = λ s h. h;
  text = λ h. sym (append-nil (string_bytes w.text));
  within = λ h i. i;
  too_large = λ h e. absurd cc;
}

stopped_or : (o : Option XmlStop) → (o ≡ None) ⊎ ((s : XmlStop) × (o ≡ Some s))
stopped_or None = inl refl
stopped_or (Some s) = inr (s, refl)

going : {bs : Text} {b c : Writer} → Writes bs b c → c.stopped ≡ None → (b.stopped ≡ None) ⊎ ((s : XmlStop) × (b.stopped ≡ Some s)) → b.stopped ≡ None
going k e (inl m) = m
going k e (inr m) = absurd (let x = k.stays m.0 m.1 in cc)

too_large_then : (xs ys : Text) {a b c : Writer} → Writes xs a b → Writes ys b c → a.stopped ≡ None → c.stopped ≡ Some TooLarge → (b.stopped ≡ None) ⊎ ((s : XmlStop) × (b.stopped ≡ Some s)) → max_xml < length (string_bytes a.text ++ (xs ++ ys))
too_large_then xs ys {a} {b} {c} h k n e (inl m) = subst (λ t. max_xml < length t) (ap (λ t. t ++ ys) (h.text m) ∙ append_assoc (string_bytes a.text) xs ys) (k.too_large m e)
too_large_then xs ys {a} {b} {c} h k n e (inr m) =
    let same : Some m.0 ≡ Some TooLarge = sym (k.stays m.0 m.1) ∙ e in
    longer (string_bytes a.text) xs ys (h.too_large n (m.1 ∙ same))

-- one after the other
pub writes_then : {xs ys : Text} {a b c : Writer} → Writes xs a b → Writes ys b c → Writes (xs ++ ys) a c
writes_then {xs} {ys} {a} {b} {c} h k = record {
  stays = λ s e. k.stays s (h.stays s e);
  text = λ e. let m = going k e (stopped_or b.stopped) in k.text e ∙ ap (λ t. t ++ ys) (h.text m) ∙ append_assoc (string_bytes a.text) xs ys;
  within = λ e i. k.within e (h.within (going k e (stopped_or b.stopped)) i);
  too_large = λ n e. too_large_then xs ys h k n e (stopped_or b.stopped);
}

-- what is written, put together otherwise
pub writes_as : {xs ys : Text} {a b : Writer} → xs ≡ ys → Writes xs a b → Writes ys a b
writes_as {a = a} {b = b} e h = subst (λ x. Writes x a b) e h

-- ---- lists

pub flat_map-append : {A : Type 0} (f : A → Text) (xs ys : List A) → flat_map f (xs ++ ys) ≡ flat_map f xs ++ flat_map f ys
flat_map-append f [] ys = refl
flat_map-append f (x ∷ xs) ys = ap (λ t. f x ++ t) (flat_map-append f xs ys) ∙ sym (append_assoc (f x) (flat_map f xs) (flat_map f ys))

-- what is written of one element more
pub writes_more : {A : Type 0} (f : A → Text) (xs : List A) (i : ℕ) (x : A) {a b c : Writer} → i < length xs → x ≡ get_or xs i x → Writes (flat_map f (take i xs)) a b → Writes (f x) b c → Writes (flat_map f (take (i + 1) xs)) a c
writes_more f xs i x h e before here =
    let more : take (i + 1) xs ≡ take i xs ++ x ∷ [] = take_more xs i x h ∙ ap (λ y. take i xs ++ y ∷ []) (sym e) in
    writes_as (ap (λ t. flat_map f (take i xs) ++ t) (sym (append-nil (f x))) ∙ sym (flat_map-append f (take i xs) (x ∷ [])) ∙ ap (flat_map f) (sym more)) (writes_then before here)

pub writes_all : {A : Type 0} (f : A → Text) (xs : List A) (i : ℕ) {a b : Writer} → length xs ≤ i → Writes (flat_map f (take i xs)) a b → Writes (flat_map f xs) a b
writes_all f xs i h w = writes_as (ap (flat_map f) (take_all i xs h)) w

-- ---- items

pub items_text-then : (n : ℕ) (is js : Items) → items_text n (items_then is js) ≡ items_text n is ++ items_text n js
items_text-then n no_items js = refl
items_text-then n (more_items i is) js = ap (λ t. item_text n i ++ t) (items_text-then n is js) ∙ sym (append_assoc (item_text n i) (items_text n is) (items_text n js))

pub has_items-behind : (is js : Items) → has_items js ≡ true → has_items (items_then is js) ≡ true
has_items-behind no_items js h = h
has_items-behind (more_items i is) js h = refl

pub items_then-none : (is : Items) → items_then is no_items ≡ is
items_then-none no_items = refl
items_then-none (more_items i is) = ap (more_items i) (items_then-none is)

pub writes_one : (n : ℕ) (i : Item) {a b : Writer} → Writes (item_text n i) a b → Writes (items_text n (one_item i)) a b
writes_one n i h = writes_as (sym (append-nil (item_text n i))) h

-- ---- what is in a group or a choice anyhow

has_chosen : (b : Bool) (k : Items) (i : Item) → has_items (cond (b && has_items k) k (one_item i)) ≡ true
has_chosen true no_items i = refl
has_chosen true (more_items j js) i = refl
has_chosen false k i = refl

pub has_items-unwrapped : (w : Text) (i : Item) → has_items (unwrapped w i) ≡ true
has_items-unwrapped w (string s) = refl
has_items-unwrapped w (node u l attrs k) = has_chosen (bytes_eq l w) k (node u l attrs k)

-- what is no group, interleave or choice is itself everywhere
pub alone : (w : Option Operator) (l : Text) (attrs : List Attribute) (k : Items) → bytes_eq l (codes "group") ≡ false → bytes_eq l (codes "interleave") ≡ false → bytes_eq l (codes "choice") ≡ false → placed w (element l attrs k) ≡ one_item (element l attrs k)
alone None l attrs k g i c = refl
alone (Some o.Comma) l attrs k g i c = ap (λ b. cond (b && has_items k) k (one_item (element l attrs k))) g
alone (Some o.Ampersand) l attrs k g i c = ap (λ b. cond (b && has_items k) k (one_item (element l attrs k))) i
alone (Some o.Bar) l attrs k g i c = ap (λ b. cond (b && has_items k) k (one_item (element l attrs k))) c

pub writes_alone : (w : Option Operator) (n : ℕ) (l : Text) (attrs : List Attribute) (k : Items) {a b : Writer} → bytes_eq l (codes "group") ≡ false → bytes_eq l (codes "interleave") ≡ false → bytes_eq l (codes "choice") ≡ false → Writes (item_text n (element l attrs k)) a b → Writes (items_text n (placed w (element l attrs k))) a b
writes_alone w n l attrs k {a} {b} g i c h = subst (λ is. Writes (items_text n is) a b) (sym (alone w l attrs k g i c)) (writes_one n (element l attrs k) h)

-- members of an operator that has some, in an element of it anyhow, are written alone
pub spliced : (op : Operator) (k : Items) → has_items k ≡ true → placed (Some op) (element (operator_local op) [] k) ≡ k
spliced op no_items h = absurd cc
spliced o.Comma (more_items i is) h = refl
spliced o.Ampersand (more_items i is) h = refl
spliced o.Bar (more_items i is) h = refl

-- in an element of another operator, or of none, there is an element round them
pub kept : (w : Option Operator) (op : Operator) (k : Items) → w ≢ Some op → placed w (element (operator_local op) [] k) ≡ one_item (element (operator_local op) [] k)
kept None op k n = refl
kept (Some o.Comma) o.Comma k n = absurd (n refl)
kept (Some o.Comma) o.Ampersand k n = refl
kept (Some o.Comma) o.Bar k n = refl
kept (Some o.Ampersand) o.Comma k n = refl
kept (Some o.Ampersand) o.Ampersand k n = absurd (n refl)
kept (Some o.Ampersand) o.Bar k n = refl
kept (Some o.Bar) o.Comma k n = refl
kept (Some o.Bar) o.Ampersand k n = refl
kept (Some o.Bar) o.Bar k n = absurd (n refl)

none_chosen : (b : Bool) (i : Item) → cond (b && false) no_items (one_item i) ≡ one_item i
none_chosen true i = refl
none_chosen false i = refl

-- so where there are none
pub kept_empty : (w : Option Operator) (l : Text) (attrs : List Attribute) → placed w (element l attrs no_items) ≡ one_item (element l attrs no_items)
kept_empty None l attrs = refl
kept_empty (Some op) l attrs = none_chosen (bytes_eq l (operator_local op)) (element l attrs no_items)

pub holds-operator : (op : Operator) → holds_text (operator_local op) ≡ false
holds-operator o.Comma = refl
holds-operator o.Ampersand = refl
holds-operator o.Bar = refl

-- ---- elements

-- an element that has items
pub element_text : (n : ℕ) (l : Text) (attrs : List Attribute) (k : Items) → holds_text l ≡ false → has_items k ≡ true → item_text n (element l attrs k) ≡ tag_front n l attrs ++ (codes ">\n" ++ (items_text (deeper n) k ++ (indent n ++ end_tag l)))
element_text n l attrs no_items t h = absurd cc
element_text n l attrs (more_items i is) t h = ap (λ b. tag_front n l attrs ++ cond b (one_line l (more_items i is)) (rest_text n l (more_items i is))) t

pub writes_element : (n : ℕ) (l : Text) (attrs : List Attribute) (k : Items) {a b c d : Writer} → holds_text l ≡ false → has_items k ≡ true
    → Writes (tag_front n l attrs ++ codes ">\n") a b → Writes (items_text (deeper n) k) b c → Writes (indent n ++ end_tag l) c d → Writes (item_text n (element l attrs k)) a d
writes_element n l attrs k t h u v w =
    writes_as (append_assoc (tag_front n l attrs) (codes ">\n") (items_text (deeper n) k ++ (indent n ++ end_tag l)) ∙ sym (element_text n l attrs k t h)) (writes_then u (writes_then v w))

-- an element of which the first items are written with its start tag
pub writes_headed : (n : ℕ) (l : Text) (attrs : List Attribute) (is js : Items) {a b c d : Writer} → holds_text l ≡ false → has_items js ≡ true
    → Writes (tag_front n l attrs ++ (codes ">\n" ++ items_text (deeper n) is)) a b → Writes (items_text (deeper n) js) b c → Writes (indent n ++ end_tag l) c d → Writes (item_text n (element l attrs (items_then is js))) a d
writes_headed n l attrs is js t h u v w =
    let f = tag_front n l attrs in
    let x = items_text (deeper n) is in
    let y = items_text (deeper n) js in
    let e = indent n ++ end_tag l in
    writes_as (append_assoc f (codes ">\n" ++ x) (y ++ e) ∙ ap (λ z. f ++ (codes ">\n" ++ z)) (sym (append_assoc x y e) ∙ ap (λ z. z ++ e) (sym (items_text-then (deeper n) is js))) ∙ sym (element_text n l attrs (items_then is js) t (has_items-behind is js h))) (writes_then u (writes_then v w))

pub writes_leaf : (n : ℕ) (l : Text) (attrs : List Attribute) {a b : Writer} → holds_text l ≡ false → Writes (tag_front n l attrs ++ codes "/>\n") a b → Writes (item_text n (element l attrs no_items)) a b
writes_leaf n l attrs t u = writes_as (ap (λ b. tag_front n l attrs ++ cond b (one_line l no_items) (codes "/>\n")) (sym t)) u

held : (s : Text) → held_text (text_items s) ≡ escaped in_element s
held [] = refl
held (c ∷ s) = append-nil (escaped in_element (c ∷ s))

pub writes_line : (n : ℕ) (l : Text) (attrs : List Attribute) (s : Text) {a b : Writer} → holds_text l ≡ true → Writes (tag_front n l attrs ++ (codes ">" ++ (escaped in_element s ++ end_tag l))) a b → Writes (item_text n (element l attrs (text_items s))) a b
writes_line n l attrs s t u =
    writes_as (ap (λ x. tag_front n l attrs ++ (codes ">" ++ (x ++ end_tag l))) (sym (held s)) ∙ ap (λ b. tag_front n l attrs ++ cond b (one_line l (text_items s)) (rest_text n l (text_items s))) (sym t)) u

-- a text behind another, with their references
pub writes_both : (h : Holder) (x y : Text) {a b c : Writer} → Writes (escaped h x) a b → Writes (escaped h y) b c → Writes (escaped h (x ++ y)) a c
writes_both h x y u v = writes_as (sym (flat_map-append (reference h) x y)) (writes_then u v)

pub indent_more : (n : ℕ) → indent n ++ codes "  " ≡ indent (n + 1)
indent_more zero = refl
indent_more (suc n) = ap (λ t. 32 ∷ 32 ∷ t) (indent_more n) ∙ (let e : suc (n + 1) ≡ suc n + 1 = omega arith in ap indent e)
