-- What includes leave of segments that stand side by side.
use Rattle.std.proofs.Common.{◌≡◌, ℕ, suc, ◌+◌, ◌<◌, ◌≤◌, Bool, true, false, not, cond, ◌&&◌, ◌||◌, List, [], ◌∷◌, ◌++◌, length, map, filter, refl, sym, ap, ◌∙◌, arith, append-nil, append_assoc}
use Rattle.std.specs.Prelude.{nat_lt}
use Rattle.std.specs.List.{AllByRecursion, list_any}
use Rattle.std.proofs.Math.Bool.{and-false, or-false}
use Rattle.std.proofs.lemmas.Bool.{le-ltb, lt-ltb}
use Rattle.std.proofs.lemmas.List.Elements.{filter-append}
use Rattle.std.proofs.lemmas.List.Folds.{list_any-append}
use Rattle.rn_text.specs.Texts.{Text}
use Rattle.rn_syntax.specs.Tree.{Declaration}
use Rattle.rn_assemble.specs.Components.{Component, Key, NamedModule, has_key, same_key, without_overridden}
use Rattle.rn_assemble.specs.declared.including.segments.FollowedInclude.{FollowedInclude}
use Rattle.rn_assemble.specs.declared.including.segments.Segment.{Segment}
use Rattle.rn_assemble.specs.inside.Contained.{WrittenComponent}
use Rattle.rn_assemble.specs.inside.ContentsOf.{resolved_component}
use Rattle.rn_assemble.specs.inside.Segments.{covers, is_overridden, left_from, overrides, segment_components, some_has_key}

-- filters
filter_same : {X : Type 0} (p q : X → Bool) (xs : List X) → ((x : X) → p x ≡ q x) → filter p xs ≡ filter q xs
filter_same p q xs h = λ i. filter (λ x. h x i) xs

filter_true : {X : Type 0} (xs : List X) → filter (λ x. true) xs ≡ xs
filter_true [] = refl
filter_true (x ∷ xs) = ap (λ l. x ∷ l) (filter_true xs)

filter_at : {X : Type 0} (a b : Bool) (q : X → Bool) (x : X) (xs ys : List X) → q x ≡ not b → xs ≡ filter q ys → cond (not (a || b)) (x ∷ xs) xs ≡ filter q (cond (not a) (x ∷ ys) ys)
filter_at true b q x xs ys h s = s
filter_at false b q x xs ys h s = ap (λ l. cond (not b) (x ∷ l) l) s ∙ ap (λ c. cond c (x ∷ filter q ys) (filter q ys)) (sym h)

-- what passes neither of two tests
filter_neither : {X : Type 0} (p q : X → Bool) (xs : List X) → filter (λ x. not (p x || q x)) xs ≡ filter (λ x. not (q x)) (filter (λ x. not (p x)) xs)
filter_neither p q [] = refl
filter_neither p q (x ∷ xs) = filter_at (p x) (q x) (λ y. not (q y)) x (filter (λ y. not (p y || q y)) xs) (filter (λ y. not (p y)) xs) refl (filter_neither p q xs)

-- the components of a key, by the components as they are written
pub has_written : (u : Text) (ds : List Declaration) (k : Key) (ws : List WrittenComponent) → list_any (λ (w : WrittenComponent). same_key k w.key) ws ≡ has_key k (map (resolved_component u ds) ws)
has_written u ds k [] = refl
has_written u ds k (w ∷ ws) = ap (λ b. same_key k w.key || b) (has_written u ds k ws)

module _ (modules : List NamedModule) where
  -- where the include covers
  pub covers_behind : (b : FollowedInclude) (n : ℕ) → b.to ≤ n → covers modules b n ≡ false
  covers_behind b n l = ap (λ c. not (nat_lt n b.from) && c) (le-ltb n b.to l) ∙ and-false (not (nat_lt n b.from))

  pub covers_before : (b : FollowedInclude) (n : ℕ) → n < b.from → covers modules b n ≡ false
  covers_before b n l = ap (λ c. not c && nat_lt n b.to) (lt-ltb n b.from l)

  pub covers_within : (b : FollowedInclude) (n : ℕ) → b.from ≤ n → n < b.to → covers modules b n ≡ true
  covers_within b n l m = (λ i. not (le-ltb n b.from l i) && lt-ltb n b.to m i)

  none_overrides : (k : Key) (n : ℕ) (f : List FollowedInclude) → AllByRecursion (λ (b : FollowedInclude). covers modules b n ≡ false) f → is_overridden modules f k n ≡ false
  none_overrides k n [] h = refl
  none_overrides k n (b ∷ f) h = (λ i. (h.0 i && overrides modules k b) || none_overrides k n f h.1 i)

  each_covers : (n : ℕ) (P : FollowedInclude → Type 0) (f : List FollowedInclude) → ((b : FollowedInclude) → P b → covers modules b n ≡ false) → AllByRecursion P f → AllByRecursion (λ (b : FollowedInclude). covers modules b n ≡ false) f
  each_covers n P [] g h = tt
  each_covers n P (b ∷ f) g h = (g b h.0, each_covers n P f g h.1)

  -- includes that cover none of the segments
  abbrev rest : List FollowedInclude → ℕ → Segment → List Component
  rest f n s = filter (λ (c : Component). not (is_overridden modules f c.key n)) (segment_components modules s)

  left_front : (f g : List FollowedInclude) (n m : ℕ) (ss : List Segment) → n + length ss ≤ m → AllByRecursion (λ (b : FollowedInclude). m ≤ b.from) g → left_from modules (f ++ g) n ss ≡ left_from modules f n ss
  left_front f g n m [] l h = refl
  left_front f g n m (s ∷ ss) l h =
      let none : (k : Key) → is_overridden modules (f ++ g) k n ≡ is_overridden modules f k n = λ k.
      list_any-append (λ (b : FollowedInclude). covers modules b n && overrides modules k b) f g ∙ ap (λ c. is_overridden modules f k n || c) (none_overrides k n g (each_covers n (λ (b : FollowedInclude). m ≤ b.from) g (λ b o. covers_before b n (omega (arith, l, o))) h)) ∙ or-false (is_overridden modules f k n) in
      let first : rest (f ++ g) n s ≡ rest f n s = filter_same (λ (c : Component). not (is_overridden modules (f ++ g) c.key n)) (λ (c : Component). not (is_overridden modules f c.key n)) (segment_components modules s) (λ c. ap not (none c.key)) in
      λ i. first i ++ left_front f g (suc n) m ss (omega (arith, l)) h i

  left_behind : (f g : List FollowedInclude) (n m : ℕ) (ss : List Segment) → m ≤ n → AllByRecursion (λ (b : FollowedInclude). b.to ≤ m) f → left_from modules (f ++ g) n ss ≡ left_from modules g n ss
  left_behind f g n m [] l h = refl
  left_behind f g n m (s ∷ ss) l h =
      let none : (k : Key) → is_overridden modules (f ++ g) k n ≡ is_overridden modules g k n = λ k.
      list_any-append (λ (b : FollowedInclude). covers modules b n && overrides modules k b) f g ∙ ap (λ c. c || is_overridden modules g k n) (none_overrides k n f (each_covers n (λ (b : FollowedInclude). b.to ≤ m) f (λ b o. covers_behind b n (omega (arith, l, o))) h)) in
      let first : rest (f ++ g) n s ≡ rest g n s = filter_same (λ (c : Component). not (is_overridden modules (f ++ g) c.key n)) (λ (c : Component). not (is_overridden modules g c.key n)) (segment_components modules s) (λ c. ap not (none c.key)) in
      λ i. first i ++ left_behind f g (suc n) m ss (omega (arith, l)) h i

  left_append : (f : List FollowedInclude) (n : ℕ) (ss ts : List Segment) → left_from modules f n (ss ++ ts) ≡ left_from modules f n ss ++ left_from modules f (n + length ss) ts
  left_append f n [] ts = let e : n ≡ n + 0 = omega arith in ap (λ m. left_from modules f m ts) e
  left_append f n (s ∷ ss) ts =
      let e : suc n + length ss ≡ n + suc (length ss) = omega arith in
      ap (λ l. rest f n s ++ l) (left_append f (suc n) ss ts ∙ ap (λ m. left_from modules f (suc n) ss ++ left_from modules f m ts) e) ∙ sym (append_assoc (rest f n s) (left_from modules f (suc n) ss) (left_from modules f (n + suc (length ss)) ts))

  -- segments that some includes brought in, and then segments that others did
  pub left_both : (f g : List FollowedInclude) (n m : ℕ) (ss ts : List Segment) → m ≡ n + length ss → AllByRecursion (λ (b : FollowedInclude). b.to ≤ m) f → AllByRecursion (λ (b : FollowedInclude). m ≤ b.from) g → left_from modules (f ++ g) n (ss ++ ts) ≡ left_from modules f n ss ++ left_from modules g m ts
  left_both f g n m ss ts e low high =
      left_append (f ++ g) n ss ts ∙ ap (λ k. left_from modules (f ++ g) n ss ++ left_from modules (f ++ g) k ts) (sym e)
      ∙ (λ i. left_front f g n m ss (omega (arith, e)) high i ++ left_behind f g m m ts (omega arith) low i)

  -- no include
  pub left_one : (n : ℕ) (s : Segment) → left_from modules [] n (s ∷ []) ≡ segment_components modules s
  left_one n s = append-nil (filter (λ (c : Component). true) (segment_components modules s)) ∙ filter_true (segment_components modules s)

  -- one include that brought them all in
  pub left_overridden : (f : List FollowedInclude) (b : FollowedInclude) (own : List Component) (n : ℕ) (ss : List Segment) → b.from ≤ n → n + length ss ≤ b.to → ((k : Key) → overrides modules k b ≡ has_key k own)
      → left_from modules (f ++ b ∷ []) n ss ≡ without_overridden (left_from modules f n ss) own
  left_overridden f b own n [] l m h = refl
  left_overridden f b own n (s ∷ ss) l m h =
      let cs = segment_components modules s in
      let p : Component → Bool = λ c. is_overridden modules f c.key n in
      let q : Component → Bool = λ c. has_key c.key own in
      let one : (k : Key) → is_overridden modules (b ∷ []) k n ≡ has_key k own = λ k. or-false (covers modules b n && overrides modules k b) ∙ (λ i. covers_within b n l (omega (arith, m)) i && h k i) in
      let both : (c : Component) → is_overridden modules (f ++ b ∷ []) c.key n ≡ (p c || q c) = λ c.
      list_any-append (λ (d : FollowedInclude). covers modules d n && overrides modules c.key d) f (b ∷ []) ∙ ap (λ x. p c || x) (one c.key) in
      let first : rest (f ++ b ∷ []) n s ≡ without_overridden (rest f n s) own = filter_same (λ (c : Component). not (is_overridden modules (f ++ b ∷ []) c.key n)) (λ (c : Component). not (p c || q c)) cs (λ c. ap not (both c)) ∙ filter_neither p q cs in
      (λ i. first i ++ left_overridden f b own (suc n) ss (omega (arith, l)) (omega (arith, m)) h i) ∙ sym (filter-append (λ (c : Component). not (q c)) (rest f n s) (left_from modules f (suc n) ss))

  -- the keys of more segments
  pub some_append : (k : Key) (ss ts : List Segment) → some_has_key modules k (ss ++ ts) ≡ (some_has_key modules k ss || some_has_key modules k ts)
  some_append k ss ts = list_any-append (λ (s : Segment). has_key k (segment_components modules s)) ss ts
