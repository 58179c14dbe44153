-- The least of names that have no mark, and the numbers of names, found one after the other.
use Rattle.std.proofs.Common.{◌≡◌, ⊎_elim, ℕ, List, [], ◌∷◌, ◌++◌, Option, Some, None, refl, sym, ap, ◌∙◌, subst, arith, Contains, append_assoc, append-nil, ◌+◌, ◌<◌, length, map, take, get_or, Ordering, Less, Equal, Greater}
use Rattle.std.specs.Prelude.{◌↔◌, Bool, true, false, IfSome, IsSome, if◌then◌else◌}
use Rattle.std.specs.List.Sorted.{IsStrictlySortedBy}
use Rattle.std.specs.Option.{option_map_or}
use Rattle.std.specs.Ordering.{is_lt}
use Rattle.std.proofs.lemmas.Bool.{false≢true}
use Rattle.std.proofs.lemmas.Grind.{flat_map-append}
use Rattle.std.proofs.lemmas.List.{take_more, map-append}
use Rattle.std.specs.Borrow.{Bor}
use Rattle.std.proofs.lemmas.Cmp.{nat_list_cmp_total}
use Rattle.std.proofs.lemmas.List.Elements.{Contains-append_left, Contains-push, Contains-push_cases}
use Rattle.rn_text.specs.Texts.{Text, text_cmp}
use Rattle.rn_graph.specs.Graph.{AllBelow}
use Rattle.rn_graph.proofs.Graphs.BuiltRows.{below_push}
use Rattle.rn_assemble.specs.inside.Keyed.{IsFound, IsNameNumber}
use Rattle.rn_assemble.specs.inside.Referred.{AreNumbers, IsLeastUnmarked, IsMarkedName, KeepsLeast, lesser_text, names_within, number_within, reference_view, within}
use Rattle.rn_assemble.specs.inside.Views.{texts_of}
use Rattle.rn_pattern.specs.declared.references.Reach.{Reach}
use Rattle.rn_pattern.specs.declared.references.Reach.TheVariants.{Everywhere, OutsideElements}
use Rattle.rn_assemble.specs.declared.by_key.references.Reference.{Reference}
use Rattle.rn_assemble.specs.declared.reading.keys.KeyId.{KeyId}
use Rattle.rn_assemble.proofs.Referring.KeyNumbers.{not_itself, numbered_name, same_number}

-- what is read where there is no text
abbrev pub no_text : Bor (List ℕ)
no_text = record { ref_ptr = (0, 0); now = [] }

-- one text more
pub texts_more : (names : List (Bor (List ℕ))) (i : ℕ) → i < length names → texts_of (take (i + 1) names) ≡ texts_of (take i names) ++ (get_or names i no_text).now ∷ []
texts_more names i h = ap texts_of (take_more names i no_text h) ∙ map-append (λ (s : Bor (List ℕ)). s.now) (take i names) (get_or names i no_text ∷ [])

-- what is read where there is no reference
abbrev pub no_reference : Reference
no_reference = record { name = no_text; reach = Everywhere }

-- one reference more
pub names_more : (meant : Reach) (rs : List Reference) (i : ℕ) → i < length rs → names_within meant (map reference_view (take (i + 1) rs)) ≡ names_within meant (map reference_view (take i rs)) ++ within meant (get_or rs i no_reference).reach (get_or rs i no_reference).name.now
names_more meant rs i h =
    let r = get_or rs i no_reference in
    ap (λ qs. names_within meant (map reference_view qs)) (take_more rs i no_reference h)
    ∙ ap (names_within meant) (map-append reference_view (take i rs) (r ∷ []))
    ∙ flat_map-append (λ (q : Text × Reach). within meant q.1 q.0) (map reference_view (take i rs)) (reference_view r ∷ [])
    ∙ ap (λ ns. names_within meant (map reference_view (take i rs)) ++ ns) (append-nil (within meant r.reach r.name.now))

pub is_none : {A : Type 0} (o : Option A) → ¬ IsSome o → o ≡ None
is_none None h = refl
is_none (Some x) h = absurd (h refl)

pub not_none : {A : Type 0} (o : Option A) → IsSome o → ¬ (o ≡ None)
not_none None h e = false≢true h
not_none (Some x) h e = cc

-- a name's number, found or not, tells whether the name has a mark
pub marked_name : (names : List Text) → IsStrictlySortedBy text_cmp names → (marks : List Bool) (x : Text) (o : Option KeyId) → IsFound names x o → (option_map_or (λ (k : KeyId). get_or marks k.0 false) o false ≡ true) ↔ IsMarkedName names marks x
marked_name names s marks x None f = ((λ e. absurd (false≢true e)), λ m. absurd (f (numbered_name names x m.0 m.1)))
marked_name names s marks x (Some k) f = ((λ e. (k.0, f, e)), λ m. ap (λ n. get_or marks n false) (same_number names s x k.0 m.0 f m.1) ∙ m.2)

module _ (names : List Text) (marks : List Bool) where
  abbrev IsMarked : Text → Type 0
  IsMarked = IsMarkedName names marks

  abbrev IsLeast : List Text → Option Text → Type 0
  IsLeast = IsLeastUnmarked names marks

  least_still : (xs : List Text) (o : Option Text) (x : Text) → IsMarked x → IsLeast xs o → IsLeast (xs ++ x ∷ []) o
  least_still xs None x d h = λ y c. ⊎_elim (λ k. h y k) (λ e. subst IsMarked e d) (Contains-push_cases xs x y c)
  least_still xs (Some z) x d h = (
    Contains-append_left xs (x ∷ []) z h.0,
    h.1,
    λ y c n. ⊎_elim (λ k. h.2 y k n) (λ e. absurd (n (subst IsMarked e d))) (Contains-push_cases xs x y c),
  )

  lesser_at : (xs : List Text) (z x : Text) (r : Ordering) → text_cmp x z ≡ r → ¬ IsMarked x → IsLeast xs (Some z) → IsLeast (xs ++ x ∷ []) (Some (if is_lt r then x else z))
  lesser_at xs z x Less e n h = (
    Contains-push xs x,
    n,
    λ y c m. ⊎_elim (λ k l. h.2 y k m (nat_list_cmp_total.trans y x z l e)) (λ is l. not_itself x (subst (λ w. text_cmp w x ≡ Less) (sym is) l)) (Contains-push_cases xs x y c),
  )
  lesser_at xs z x Equal e n h = (
    Contains-append_left xs (x ∷ []) z h.0,
    h.1,
    λ y c m. ⊎_elim (λ k. h.2 y k m) (λ is l. let no : Less ≡ Equal = sym (subst (λ w. text_cmp w z ≡ Less) (sym is) l) ∙ e in cc) (Contains-push_cases xs x y c),
  )
  lesser_at xs z x Greater e n h = (
    Contains-append_left xs (x ∷ []) z h.0,
    h.1,
    λ y c m. ⊎_elim (λ k. h.2 y k m) (λ is l. let no : Less ≡ Greater = sym (subst (λ w. text_cmp w z ≡ Less) (sym is) l) ∙ e in cc) (Contains-push_cases xs x y c),
  )

  least_more : (xs : List Text) (o : Option Text) (x : Text) → ¬ IsMarked x → IsLeast xs o → IsLeast (xs ++ x ∷ []) (Some (lesser_text o x))
  least_more xs None x d h = (
    Contains-push xs x,
    d,
    λ y c m. ⊎_elim (λ k. absurd (m (h y k))) (λ is l. not_itself x (subst (λ w. text_cmp w x ≡ Less) (sym is) l)) (Contains-push_cases xs x y c),
  )
  least_more xs (Some z) x d h = lesser_at xs z x (text_cmp x z) refl d h

  -- what keeps the least in turn keeps it in all
  pub keeps_none : (u : Option Text) → KeepsLeast names marks [] u u
  keeps_none u before h = subst (λ ts. IsLeast ts u) (sym (append-nil before)) h

  pub keeps_marked : (xs : List Text) (u v : Option Text) (x : Text) → IsMarked x → KeepsLeast names marks xs u v → KeepsLeast names marks (xs ++ x ∷ []) u v
  keeps_marked xs u v x m k before h = subst (λ ts. IsLeast ts v) (append_assoc before xs (x ∷ [])) (least_still (before ++ xs) v x m (k before h))

  pub keeps_unmarked : (xs : List Text) (u v : Option Text) (x : Text) → ¬ IsMarked x → KeepsLeast names marks xs u v → KeepsLeast names marks (xs ++ x ∷ []) u (Some (lesser_text v x))
  keeps_unmarked xs u v x m k before h = subst (λ ts. IsLeast ts (Some (lesser_text v x))) (append_assoc before xs (x ∷ [])) (least_more (before ++ xs) v x m (k before h))

module _ (names texts : List Text) (numbers : List ℕ) (x : Text) (a : AreNumbers names texts numbers) where
  number_more : (k : ℕ) → IsNameNumber names x k → AreNumbers names (texts ++ x ∷ []) (numbers ++ k ∷ [])
  number_more k i = record {
    only = λ m c. ⊎_elim (λ h. let y = a.only m h in (y.0, Contains-append_left texts (x ∷ []) y.0 y.1, y.2)) (λ e. (x, Contains-push texts x, subst (IsNameNumber names x) e i)) (Contains-push_cases numbers k m c);
    all = λ y c n. ⊎_elim (λ h. let m = a.all y h n in (m.0, m.1, Contains-append_left numbers (k ∷ []) m.0 m.2)) (λ e. (k, subst (λ z. IsNameNumber names z k) e i, Contains-push numbers k)) (Contains-push_cases texts x y c);
  }

  number_none : ¬ Contains names x → AreNumbers names (texts ++ x ∷ []) numbers
  number_none none = record {
    only = λ m c. let y = a.only m c in (y.0, Contains-append_left texts (x ∷ []) y.0 y.1, y.2);
    all = λ y c n. ⊎_elim (λ h. a.all y h n) (λ e. absurd (none (subst (Contains names) (sym e) n))) (Contains-push_cases texts x y c);
  }

  still : AreNumbers names (texts ++ []) (numbers ++ [])
  still = subst (λ ts. AreNumbers names ts (numbers ++ [])) (sym (append-nil texts)) (subst (AreNumbers names texts) (sym (append-nil numbers)) a)

  none_more : ¬ Contains names x → AreNumbers names (texts ++ x ∷ []) (numbers ++ [])
  none_more n = subst (AreNumbers names (texts ++ x ∷ [])) (sym (append-nil numbers)) (number_none n)

  -- one name more, where references of a reach are meant
  pub number_found : (meant r : Reach) (o : Option KeyId) → IsFound names x o → AreNumbers names (texts ++ within meant r x) (numbers ++ number_within meant r o)
  number_found Everywhere r None n = none_more n
  number_found Everywhere r (Some k) i = number_more k.0 i
  number_found OutsideElements Everywhere None n = still
  number_found OutsideElements Everywhere (Some k) i = still
  number_found OutsideElements OutsideElements None n = none_more n
  number_found OutsideElements OutsideElements (Some k) i = number_more k.0 i

pub no_numbers : (names : List Text) → AreNumbers names [] []
no_numbers names = record { only = λ m c. absurd (omega (arith, c.1)); all = λ x c n. absurd (omega (arith, c.1)) }

pub below_within : (n : ℕ) (ns : List ℕ) (meant r : Reach) (o : Option KeyId) → AllBelow n ns → IfSome o (λ (k : KeyId). (0 < k.0) × (k.0 < n)) → AllBelow n (ns ++ number_within meant r o)
below_within n ns meant r None h i = subst (AllBelow n) (sym (append-nil ns)) h
below_within n ns Everywhere r (Some k) h i = below_push n ns k.0 h i.1
below_within n ns OutsideElements Everywhere (Some k) h i = subst (AllBelow n) (sym (append-nil ns)) h
below_within n ns OutsideElements OutsideElements (Some k) h i = below_push n ns k.0 h i.1
