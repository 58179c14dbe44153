-- Lists of annotated items and notes.
use Rattle.std.proofs.Common.{◌≡◌, ℕ, Bool, true, false, not, List, [], ◌∷◌, ◌++◌, refl, ap, sym, ◌∙◌, subst, append_assoc, append-nil}
use Rattle.std.proofs.lemmas.Bool.{false≢true}
use Rattle.rn_text.specs.declared.keywords.Keyword.TheVariants as k
use Rattle.rn_syntax.specs.declared.tree.Method.TheVariants as m
use Rattle.rn_syntax.specs.Terminal.{Terminal, ◌#◌, ident, keyword, prefixed, assign, left_bracket, other}
use Rattle.rn_syntax.specs.Tree as t
use Rattle.rn_syntax.specs.Tree.{Item}
use Rattle.rn_syntax.specs.Grammar as g
use Rattle.rn_syntax.specs.Grammar.{Tokens, IsAnnotation, MayHaveAnnotation, IsNote}
use Rattle.rn_syntax.specs.inside.Follow.{Starts, Anything, first_terminal, no_bracket, behind_item, is_end}
use Rattle.rn_syntax.specs.inside.Sequence.{Then, both, is_note}
use Rattle.rn_syntax.specs.inside.Readers.{Alike, ends, same, Took, Stuck, Bare}
use Rattle.rn_syntax.proofs.OneReading.OneClass.{starts_to}
use Rattle.rn_syntax.proofs.OneReading.OneTree.{end_to_item, note_front, note_end, note_one}
use Rattle.rn_syntax.proofs.ProductionsRead.Compose.{Upto, Fits, Can, upto_then, took_upto, stuck_upto, reads, stuck_in, first_alike, alike_front, starts_first}
use Rattle.rn_syntax.proofs.ProductionsRead.Repeating.{Behind, Whole, parts_took, parts_stuck, part_passed}
use Rattle.rn_syntax.proofs.ProductionsRead.Skipping.{begins_bracket}

-- an S with its annotation
abbrev pub Row : (Tokens → Item → Tokens → Type 0) → Tokens → Item → Tokens → Type 0
Row S = Then (Bare MayHaveAnnotation) (λ (u : Unit {0}). S)

pub data Rows (S : Tokens → Item → Tokens → Type 0) : Tokens → List Item → Tokens → Type 0 where
  none : {ts : Tokens} → Rows S ts [] ts
  row : {ts mid rest : Tokens} {x : Item} {xs : List Item} → Row S ts x mid → Rows S mid xs rest → Rows S ts (x ∷ xs) rest
  note : {ts mid rest : Tokens} {xs : List Item} → IsNote ts mid → Rows S mid xs rest → Rows S ts xs rest

-- what is known of an S, where the test tells what begins one or a note
pub record IsRow (S : Tokens → Item → Tokens → Type 0) (test : Terminal → Bool) : Type 0 where
  pub begins : (ts : Tokens) (x : Item) (r : Tokens) → S ts x r → test (first_terminal ts) ≡ true
  pub unbracketed : (ts : Tokens) (x : Item) (r : Tokens) → S ts x r → Starts no_bracket ts
  pub plain : (ts : Tokens) (x : Item) (r : Tokens) → S ts x r → is_note ts ≡ false
  pub named : (n : List ℕ) (i : ℕ) (more : Tokens) → S (ident n # i ∷ assign m.Plain # 0 ∷ keyword k.Text # 0 ∷ more) (t.define n m.Plain t.text) more
  pub opens : (y : Terminal) → test y ≡ true → behind_item y ≡ true
  pub not_end : (y : Terminal) → test y ≡ true → is_end y ≡ false
  pub bracket : test left_bracket ≡ true
  pub by_ident : (n : List ℕ) → test (ident n) ≡ true
  pub by_prefixed : (n l : List ℕ) → test (prefixed n l) ≡ true
  pub nothing : test other ≡ false

-- ---- notes

ident_note : (n : List ℕ) (i : ℕ) (ts : Tokens) → is_note (ident n # i ∷ ts) ≡ not (no_bracket (first_terminal ts))
ident_note n i [] = refl
ident_note n i (left_bracket # j ∷ ts) = refl
ident_note n i (x # j ∷ ts) = refl

pub note_is : {ts r : Tokens} → IsNote ts r → is_note ts ≡ true
note_is (g.by_name {n = n} {i = i} {ts = ts} a) = ident_note n i ts ∙ ap not (begins_bracket a)
note_is (g.by_prefixed a) = refl

same_second : (y : Terminal) (i : ℕ) (ts us : Tokens) → first_terminal ts ≡ first_terminal us → is_note (y # i ∷ ts) ≡ is_note (y # i ∷ us)
same_second (ident n) i ts us e = ident_note n i ts ∙ ap (λ (x : Terminal). not (no_bracket x)) e ∙ sym (ident_note n i us)
same_second y i ts us e = refl

-- behind the first token of a note an annotation makes one
note_name : (y : Terminal) (i : ℕ) (ts : Tokens) → is_note (y # i ∷ ts) ≡ true → (us r : Tokens) → IsAnnotation us r → IsNote (y # i ∷ us) r
note_name (ident n) i ts h us r a = g.by_name a
note_name (prefixed n l) i ts h us r a = g.by_prefixed a
note_name y i ts h us r a = absurd (false≢true h)

note_tail : {y : Terminal} {i : ℕ} {ts r : Tokens} → IsNote (y # i ∷ ts) r → IsAnnotation ts r
note_tail (g.by_name a) = a
note_tail (g.by_prefixed a) = a

named_end : (y : Terminal) (i : ℕ) (ts : Tokens) → is_note (y # i ∷ ts) ≡ true → is_end y ≡ true → ⊥
named_end (ident n) i ts p e = false≢true e
named_end (prefixed n l) i ts p e = false≢true e
named_end y i ts p e = false≢true p

module _ {S : Tokens → Item → Tokens → Type 0} {test : Terminal → Bool} (s : IsRow S test) where
  row_begins : {ts r : Tokens} {x : Item} → Row S ts x r → test (first_terminal ts) ≡ true
  row_begins (both g.bare d) = s.begins _ _ _ d
  row_begins (both (g.annotated (g.bracketed c)) d) = s.bracket

  opens_not_end : (ts : Tokens) → test (first_terminal ts) ≡ true → Starts is_end ts → ⊥
  opens_not_end [] h e = false≢true (sym s.nothing ∙ h)
  opens_not_end (y # i ∷ ts) h e = false≢true (sym (s.not_end y h) ∙ e)

  row_plain : {ts r : Tokens} {x : Item} → Row S ts x r → is_note ts ≡ false
  row_plain (both g.bare d) = s.plain _ _ _ d
  row_plain (both (g.annotated (g.bracketed c)) d) = refl

  pub rows_front : {ts r : Tokens} {xs : List Item} → Rows S ts xs r → Starts is_end r → Starts behind_item ts
  rows_front {ts = ts} none a = starts_to is_end behind_item end_to_item ts a
  rows_front {ts = ts} (row w n) a = starts_first behind_item ts (s.opens _ (row_begins w))
  rows_front (note n d) a = note_front n

  note_begins : {ts r : Tokens} → IsNote ts r → test (first_terminal ts) ≡ true
  note_begins (g.by_name {n = n} a) = s.by_ident n
  note_begins (g.by_prefixed {n = n} {l = l} a) = s.by_prefixed n l

  fits_row : Fits (Starts no_bracket) (λ (u : Unit {0}). S) (Starts behind_item)
  fits_row = record { fits = λ u mid x r d g. s.unbracketed mid x r d }

  -- an annotation and an S were read
  pub row_took : {now body next : Tokens} {x : Item} → Took (Bare MayHaveAnnotation) (Starts no_bracket) now tt body → Took S (Starts behind_item) body x next → Took (Row S) (Starts behind_item) now x next
  row_took a k = took_upto (reads fits_row a) k

  pub row_stuck : {now body bad : Tokens} → Took (Bare MayHaveAnnotation) (Starts no_bracket) now tt body → Stuck S (Starts behind_item) body bad → Stuck (Row S) (Starts behind_item) now bad
  row_stuck a k = stuck_upto (reads fits_row a) k

  can_row : Can (λ (u : Unit {0}). S)
  can_row more = (ident [] # 0 ∷ assign m.Plain # 0 ∷ keyword k.Text # 0 ∷ more, λ u. (t.define [] m.Plain t.text, s.named [] 0 more))

  pub row_unannotated : {now bad : Tokens} → Stuck (Bare MayHaveAnnotation) (Starts no_bracket) now bad → Stuck (Row S) (Starts behind_item) now bad
  row_unannotated k = stuck_in fits_row can_row k

  split : {ts t r : Tokens} {x : Item} {z : List Item} → Row S ts x t → ((y : Item) (mid : Tokens) → Row S ts y mid → Starts behind_item mid → (y ≡ x) × (mid ≡ t)) → Rows S ts z r → Starts is_end r → Whole (Rows S) (x ∷ []) t z r
  split w only none g = absurd (opens_not_end _ (row_begins w) g)
  split w only (note n d) g = absurd (false≢true (sym (row_plain w) ∙ note_is n))
  split {r = r} {x = x} w only (row {mid = mid} {x = y} {xs = ys} v d) g =
      let o = only y mid v (rows_front d g) in
      record { more = ys; is = ap (λ (i : Item). i ∷ ys) o.0; behind = subst (λ (l : Tokens). Rows S l ys r) o.1 d }

  -- one more row
  pub rows_row : {now next : Tokens} {x : Item} → Took (Row S) (Starts behind_item) now x next → Upto (Rows S) (Whole (Rows S) (x ∷ [])) (Starts is_end) now next
  rows_row w = record {
    front = w.front;
    cut = w.cut;
    joins = λ t z r d. subst (λ (l : List Item). Rows S (w.front ++ t) l r) (sym d.is) (row (w.derives t) d.behind);
    splits = λ t a z r d g. split (w.derives t) (λ y mid v f. w.only t a y mid v f) d g;
  }

  refuse : {ts r : Tokens} {z : List Item} → test (first_terminal ts) ≡ true → is_note ts ≡ false → ((y : Item) (mid : Tokens) → Row S ts y mid → Starts behind_item mid → ⊥) → Rows S ts z r → Starts is_end r → ⊥
  refuse {ts = ts} h p never none g = opens_not_end ts h g
  refuse h p never (note n d) g = false≢true (sym p ∙ note_is n)
  refuse h p never (row v d) g = never _ _ v (rows_front d g)

  -- what begins as here is no note, since a row stopped
  stuck_plain : (front : Tokens) {t bad : Tokens} → Alike t bad → is_note (front ++ bad) ≡ false → ((t : Tokens) → Alike t bad → (x : Item) (r : Tokens) → Row S (front ++ t) x r → Starts behind_item r → ⊥) → is_note (front ++ t) ≡ false
  stuck_plain [] ends h never = refl
  stuck_plain [] (same {x = ident n # i}) h never = absurd (never (ident n # i ∷ assign m.Plain # 0 ∷ keyword k.Text # 0 ∷ []) same (t.define n m.Plain t.text) [] (both g.bare (s.named n i [])) tt)
  stuck_plain [] (same {x = prefixed n l # i}) h never = absurd (false≢true (sym h))
  stuck_plain [] (same {x = y # i}) h never = refl
  stuck_plain (y # i ∷ fs) {t = t} {bad = bad} a h never = same_second y i (fs ++ t) (fs ++ bad) (first_alike (alike_front fs a)) ∙ h

  -- a row stopped
  pub rows_stuck : {now bad : Tokens} → test (first_terminal now) ≡ true → is_note now ≡ false → Stuck (Row S) (Starts behind_item) now bad → Stuck (Rows S) (Starts is_end) now bad
  rows_stuck h p w = record {
    front = w.front;
    cut = w.cut;
    begins = λ more. let b = w.begins more in (b.0, b.1 ∷ [], row b.2 none);
    refuses = λ t a z r d g. refuse (ap test (first_alike (alike_front w.front a) ∙ ap first_terminal (sym w.cut)) ∙ h) (stuck_plain w.front a (ap is_note (sym w.cut) ∙ p) w.refuses) (λ y mid v f. w.refuses t a y mid v f) d g;
  }

  -- ---- a note

  note_split : {ts t r : Tokens} {z : List Item} → IsNote ts t → Rows S ts z r → Starts is_end r → Rows S t z r
  note_split n none g = absurd (note_end n g)
  note_split {r = r} {z = z} n (note l d) g = subst (λ (y : Tokens). Rows S y z r) (sym (note_one n l)) d
  note_split n (row v d) g = absurd (false≢true (sym (row_plain v) ∙ note_is n))

  pub rows_note : {y : Terminal} {i : ℕ} {now next behind : Tokens} → now ≡ y # i ∷ next → is_note now ≡ true → Took (Bare IsAnnotation) Anything next tt behind → Upto (Rows S) (Rows S) (Starts is_end) now behind
  rows_note {y = y} {i = i} {next = next} e h k =
      let p = sym (ap is_note e) ∙ h in
      record {
        front = y # i ∷ k.front;
        cut = e ∙ ap (λ (l : Tokens). y # i ∷ l) k.cut;
        joins = λ t z r d. note (note_name y i next p _ _ (k.derives t)) d;
        splits = λ t a z r d g. note_split (note_name y i next p _ _ (k.derives t)) d g;
      }

  note_refuse : {y : Terminal} {i : ℕ} {ts r : Tokens} {z : List Item} → is_note (y # i ∷ ts) ≡ true → ((mid : Tokens) → IsAnnotation ts mid → ⊥) → Rows S (y # i ∷ ts) z r → Starts is_end r → ⊥
  note_refuse {y = y} {i = i} {ts = ts} p never none g = named_end y i ts p g
  note_refuse p never (note n d) g = never _ (note_tail n)
  note_refuse p never (row v d) g = false≢true (sym (row_plain v) ∙ p)

  pub rows_note_stuck : {y : Terminal} {i : ℕ} {now next bad : Tokens} → now ≡ y # i ∷ next → is_note now ≡ true → Stuck (Bare IsAnnotation) Anything next bad → Stuck (Rows S) (Starts is_end) now bad
  rows_note_stuck {y = y} {i = i} {next = next} e h k =
      let p = sym (ap is_note e) ∙ h in
      record {
        front = y # i ∷ k.front;
        cut = e ∙ ap (λ (l : Tokens). y # i ∷ l) k.cut;
        begins = λ more. let b = k.begins more in (b.0, [], note (note_name y i next p _ _ b.2) none);
        refuses = λ t a z r d g. note_refuse (same_second y i (k.front ++ t) next (first_alike (alike_front k.front a) ∙ ap first_terminal (sym k.cut)) ∙ p) (λ mid n. k.refuses t a tt mid n tt) d g;
      }

  -- ---- the end

  end_from : {ts r : Tokens} {z : List Item} → test (first_terminal ts) ≡ false → Rows S ts z r → (z ≡ []) × (r ≡ ts)
  end_from h none = (refl, refl)
  end_from h (row v d) = absurd (false≢true (sym h ∙ row_begins v))
  end_from h (note n d) = absurd (false≢true (sym h ∙ note_begins n))

  pub rows_end : {now : Tokens} → test (first_terminal now) ≡ false → Took (Rows S) (Starts is_end) now [] now
  rows_end h = record { front = []; cut = refl; derives = λ more. none; only = λ t a y r d g. end_from (ap test (first_alike a) ∙ h) d }

-- ---- the loop

-- one more part stands with those that were read
part_behind : {A C : Type 0} {N : Tokens → List A → Tokens → Type 0} {G : Tokens → Type 0} (f : List A → C) (xs : List A) {x : A} {now next : Tokens} → Upto N (Whole N (x ∷ [])) G now next → Upto (Behind N f xs) (Behind N f (xs ++ x ∷ [])) G now next
part_behind {A = A} f xs {x = x} u = record {
  front = u.front;
  cut = u.cut;
  joins = λ t z r d. record { more = x ∷ d.more; is = d.is ∙ ap f (append_assoc xs (x ∷ []) d.more); behind = u.joins t (x ∷ d.more) r (record { more = d.more; is = refl; behind = d.behind }) };
  splits = λ t a z r d g. let w = u.splits t a d.more r d.behind g in record { more = w.more; is = d.is ∙ ap (λ (l : List A). f (xs ++ l)) w.is ∙ ap f (sym (append_assoc xs (x ∷ []) w.more)); behind = w.behind };
}

abbrev pub So_far : (Tokens → List Item → Tokens → Type 0) → (Tokens → Item → Tokens → Type 0) → List Item → Tokens → Tokens → Type 0
So_far V S xs ts now = Upto V (Whole (Rows S) xs) (Starts is_end) ts now

module _ {V : Tokens → List Item → Tokens → Type 0} {S : Tokens → Item → Tokens → Type 0} {test : Terminal → Bool} (s : IsRow S test) (xs : List Item) {ts now : Tokens} (so_far : So_far V S xs ts now) where
  pub so_far_row : {body next : Tokens} {x : Item} → Took (Bare MayHaveAnnotation) (Starts no_bracket) now tt body → Took S (Starts behind_item) body x next → So_far V S (xs ++ x ∷ []) ts next
  so_far_row a k = upto_then so_far (part_behind (λ (l : List Item). l) xs (rows_row s (row_took s a k)))

  pub so_far_note : {y : Terminal} {i : ℕ} {next behind : Tokens} → now ≡ y # i ∷ next → is_note now ≡ true → Took (Bare IsAnnotation) Anything next tt behind → So_far V S xs ts behind
  so_far_note e h k = upto_then so_far (part_passed (λ (l : List Item). l) xs (rows_note s e h k))

  pub stuck_note : {y : Terminal} {i : ℕ} {next bad : Tokens} → now ≡ y # i ∷ next → is_note now ≡ true → Stuck (Bare IsAnnotation) Anything next bad → Stuck V (Starts is_end) ts bad
  stuck_note e h k = parts_stuck (λ (l : List Item). l) xs so_far (rows_note_stuck s e h k)

  pub stuck_annotation : {bad : Tokens} → test (first_terminal now) ≡ true → is_note now ≡ false → Stuck (Bare MayHaveAnnotation) (Starts no_bracket) now bad → Stuck V (Starts is_end) ts bad
  stuck_annotation h p k = parts_stuck (λ (l : List Item). l) xs so_far (rows_stuck s h p (row_unannotated s k))

  pub stuck_row : {body bad : Tokens} → test (first_terminal now) ≡ true → is_note now ≡ false → Took (Bare MayHaveAnnotation) (Starts no_bracket) now tt body → Stuck S (Starts behind_item) body bad → Stuck V (Starts is_end) ts bad
  stuck_row h p a k = parts_stuck (λ (l : List Item). l) xs so_far (rows_stuck s h p (row_stuck s a k))

  pub so_far_took : test (first_terminal now) ≡ false → Took V (Starts is_end) ts xs now
  so_far_took h = parts_took (λ (l : List Item). l) xs [] (sym (append-nil xs)) so_far (rows_end s h)

pub so_far_same : {V : Tokens → List Item → Tokens → Type 0} {S : Tokens → Item → Tokens → Type 0} {xs ys : List Item} (ts now : Tokens) → xs ≡ ys → So_far V S xs ts now → So_far V S ys ts now
so_far_same {V = V} {S = S} ts now e u = subst (λ (l : List Item). So_far V S l ts now) e u
