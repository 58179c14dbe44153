-- From the order of keys to that of the definitions.
use Rattle.std.proofs.Common.{◌≡◌, ℕ, zero, suc, ◌<◌, false, true, List, [], ◌∷◌, length, get_or, map, take, Some, refl, sym, ap, ◌∙◌, subst, arith, Contains, nat_eq}
use Rattle.std.specs.Prelude.{IsSomeAnd, bytes_eq}
use Rattle.std.specs.List.{IsDistinct, list_any}
use Rattle.std.specs.List.Sorted.{IsStrictlySortedBy}
use Rattle.std.proofs.lemmas.Bool.{false≢true}
use Rattle.std.proofs.lemmas.Bool.Decides.{Decides-eqb}
use Rattle.std.proofs.lemmas.Cmp.{nat_eq_equiv}
use Rattle.std.proofs.lemmas.List.{get_or-map, get_or_default, length-map, take-map}
use Rattle.std.proofs.lemmas.List.Elements.{Contains-get_or}
use Rattle.std.proofs.lemmas.Map.Keys.{IsDistinct-from_apart, apart_from_distinct}
use Rattle.std.proofs.lemmas.Map.Views.{list_any-from_Contains}
use Rattle.std.proofs.lemmas.Slice.Eq.{bytes_eq-Decides}
use Rattle.rn_pattern.proofs.Ordered.InOrder.{contained_each}
use Rattle.rn_pattern.specs.Matching.{Grammar, definition_of}
use Rattle.rn_pattern.specs.Reached.{IsReached}
use Rattle.rn_pattern.specs.References.{RefersOutside}
use Rattle.rn_pattern.specs.Tree.{Tree}
use Rattle.rn_text.specs.Texts.{Text, text_cmp}
use Rattle.rn_assemble.specs.Combine.{AreDistinct, Differ, defined_names, joined_grammar, joined_pattern}
use Rattle.rn_assemble.specs.Components.{Component, name_key, start_key}
use Rattle.rn_assemble.specs.SettlingOrder.{IsSettlingOrder, holds, number_of}
use Rattle.rn_assemble.specs.inside.Keyed.{IsNameNumber, key_at}
use Rattle.rn_assemble.specs.inside.ReferenceOrder.{AreDefinedKeys, IsReferenceOrder}
use Rattle.rn_assemble.proofs.Joining.DistinctNames.{joined_distinct}
use Rattle.rn_assemble.proofs.Referring.DefinitionNumbers.{is_at, nothing, number_some}
use Rattle.rn_assemble.proofs.Referring.ListMembers.{map_contains}
use Rattle.rn_assemble.proofs.Referring.JoinedReferences.{definition_refers_outside}
use Rattle.rn_assemble.proofs.Referring.KeyNumbers.{keyed_name, same_number}
use Rattle.rn_assemble.proofs.Referring.MarkedPlaces.{different}

pub above_start : (names : List Text) (x : Text) (n : ℕ) → key_at names n ≡ name_key x → 0 < n
above_start names x zero e = let wrong : start_key ≡ name_key x = e in cc
above_start names x (suc n) e = omega arith

-- what a key that is there becomes is there
held : (f : ℕ → ℕ) (keys : List ℕ) (key k : ℕ) → Contains keys key → f key ≡ k → holds (map f keys) k ≡ true
held f keys key k c e = list_any-from_Contains nat_eq_equiv k (map f keys) (subst (Contains (map f keys)) e (map_contains f keys key c))

-- definitions whose names differ, by their places
differ_at : (es : List (Text × Tree)) (i j : ℕ) → AreDistinct es → i < j → j < length es → bytes_eq (get_or es i nothing).0 (get_or es j nothing).0 ≡ false
differ_at [] i j h l m = absurd (omega (arith, m))
differ_at (e ∷ es) zero zero h l m = absurd (omega (arith, l))
differ_at (e ∷ es) zero (suc j) h l m = (contained_each (Differ e) es h.0 (get_or es j nothing) (Contains-get_or es j nothing (omega (arith, m)))).0
differ_at (e ∷ es) (suc i) zero h l m = absurd (omega (arith, l))
differ_at (e ∷ es) (suc i) (suc j) h l m = differ_at es i j h.1 (omega (arith, l)) (omega (arith, m))

module _ (names : List Text) (cs : List Component) (keys : List ℕ) (defined : AreDefinedKeys names cs keys) where
  abbrev definition : Text → Text × Tree
  definition x = (x, joined_pattern cs (name_key x))

  -- the name of the definition with the number j
  abbrev pub name_of : ℕ → Text
  name_of j = (get_or (joined_grammar cs).definitions j nothing).0

  pub size : length keys ≡ length (joined_grammar cs).definitions
  size = sym (length-map keys (key_at names)) ∙ ap length defined.named ∙ length-map (defined_names cs) name_key ∙ sym (length-map (defined_names cs) definition)

  pub key_named : (j : ℕ) → j < length keys → key_at names (get_or keys j 0) ≡ name_key (name_of j)
  key_named j l =
      let m : j < length (defined_names cs) = omega (arith, l, size, length-map (defined_names cs) definition) in
      sym (get_or-map (key_at names) keys j 0 start_key l) ∙ ap (λ ks. get_or ks j start_key) defined.named ∙ get_or-map name_key (defined_names cs) j [] start_key m
      ∙ ap name_key (sym (ap (λ (d : Text × Tree). d.0) (get_or-map definition (defined_names cs) j [] nothing m)))

  pub keys_differ : (i j : ℕ) → i < j → j < length keys → get_or keys i 0 ≡ get_or keys j 0 → ⊥
  keys_differ i j l m e =
      let far = differ_at (joined_grammar cs).definitions i j (joined_distinct cs) l (omega (arith, m, size)) in
      let same = keyed_name (name_of i) (name_of j) (sym (key_named i (omega (arith, l, m))) ∙ ap (key_at names) e ∙ key_named j m) in
      false≢true (sym far ∙ (bytes_eq-Decides (name_of i) (name_of j)).1 same)

  pub keys_distinct : IsDistinct nat_eq keys
  keys_distinct = IsDistinct-from_apart nat_eq keys (λ i j d l m. different (nat_eq (get_or keys i d) (get_or keys j d)) (get_or keys i d) (get_or keys j d) refl
      (λ e. keys_differ i j l m (get_or_default keys i 0 d (omega (arith, l, m)) ∙ e ∙ get_or_default keys j d 0 m)))

module _ (names : List Text) (sorted : IsStrictlySortedBy text_cmp names) (cs : List Component) (keys : List ℕ) (defined : AreDefinedKeys names cs keys) (numbers : List ℕ) (numbered : (i : ℕ) → i < length keys → get_or numbers (get_or keys i 0) 0 ≡ i) where
  abbrev G : Grammar
  G = joined_grammar cs

  abbrev ds : List (Text × Tree)
  ds = G.definitions

  abbrev number : ℕ → ℕ
  number key = get_or numbers key 0

  -- the key of the name whose definition has the number j
  record IsKeyOf (x : Text) (j : ℕ) : Type 0 where
    key_is : IsNameNumber names x (get_or keys j 0)
    number_is : number (get_or keys j 0) ≡ j

  key_of : (x : Text) (j : ℕ) → number_of ds x ≡ Some j → IsKeyOf x j
  key_of x j e =
      let at = is_at ds x j e in
      let l : j < length keys = omega (arith, at.within, size names cs keys defined) in
      let key : key_at names (get_or keys j 0) ≡ name_key x = key_named names cs keys defined j l ∙ ap name_key at.name in
      record {
        key_is = record {
          above = above_start names x (get_or keys j 0) key;
          within = contained_each (λ k. k < suc (length names)) keys defined.within (get_or keys j 0) (Contains-get_or keys j 0 l);
          is = key;
        };
        number_is = numbered j l;
      }

  number_at : (x : Text) (k : ℕ) (p : Tree) → IsNameNumber names x k → definition_of G x ≡ Some p → number_of ds x ≡ Some (number k)
  number_at x k p i e =
      let j = number_some ds x p e in
      let h = key_of x j.0 j.1 in
      let same : get_or keys j.0 0 ≡ k = same_number names sorted x (get_or keys j.0 0) k h.key_is i in
      j.1 ∙ ap Some (sym h.number_is ∙ ap number same)

  module _ (order : List ℕ) (o : IsReferenceOrder names cs order) where
    abbrev made : List ℕ
    made = map number order

    -- what stands at an index of the order
    record IsPlaced (i : ℕ) : Type 0 where
      name : Text
      key_is : IsNameNumber names name (get_or order i 0)
      number_is : number_of ds name ≡ Some (get_or made i 0)

    placed : (i : ℕ) → i < length made → IsPlaced i
    placed i l =
        let m : i < length order = omega (arith, l, length-map order number) in
        let r = o.reached (get_or order i 0) (Contains-get_or order i 0 m) in
        let p = o.defined r.0 r.2 in
        record {
          name = r.0;
          key_is = r.1;
          number_is = number_at r.0 (get_or order i 0) p.0 r.1 p.1 ∙ ap Some (sym (get_or-map number order i 0 0 m));
        }

    same_placed : (x y : Text) (k : ℕ) → number_of ds x ≡ Some k → number_of ds y ≡ Some k → x ≡ y
    same_placed x y k e f = sym (is_at ds x k e).name ∙ (is_at ds y k f).name

    within : (i : ℕ) → i < length made → get_or made i 0 < length ds
    within i l = let w = placed i l in (is_at ds w.name (get_or made i 0) w.number_is).within

    once : (i j : ℕ) → i < j → j < length made → get_or made i 0 ≡ get_or made j 0 → ⊥
    once i j l m e =
        let v = placed i (omega (arith, l, m)) in
        let w = placed j m in
        let x : v.name ≡ w.name = same_placed v.name w.name (get_or made i 0) v.number_is (w.number_is ∙ ap Some (sym e)) in
        let k = same_number names sorted w.name (get_or order i 0) (get_or order j 0) (subst (λ y. IsNameNumber names y (get_or order i 0)) x v.key_is) w.key_is in
        let far = apart_from_distinct nat_eq order i j 0 o.once l (omega (arith, m, length-map order number)) in
        false≢true (sym far ∙ (Decides-eqb (get_or order i 0) (get_or order j 0)).1 k)

    listed : (x : Text) (k : ℕ) → IsReached G x → number_of ds x ≡ Some k → holds made k ≡ true
    listed x k r e =
        let h = key_of x k e in
        held number order (get_or keys k 0) k (o.listed x (get_or keys k 0) r h.key_is) h.number_is

    reached : (i : ℕ) (x : Text) → i < length made → number_of ds x ≡ Some (get_or made i 0) → ∥ IsReached G x ∥₁
    unfolding placed
    reached i x l e =
        let m : i < length order = omega (arith, l, length-map order number) in
        let r = o.reached (get_or order i 0) (Contains-get_or order i 0 m) in
        let w = placed i l in
        ∣ subst (IsReached G) (same_placed w.name x (get_or made i 0) w.number_is e) r.2 ∣₁

    behind : (i k : ℕ) (x y : Text) (p : Tree) → i < length made → number_of ds x ≡ Some (get_or made i 0) → definition_of G x ≡ Some p → RefersOutside y p → number_of ds y ≡ Some k → holds (take i made) k ≡ true
    behind i k x y p l e d r f =
        let w = placed i l in
        let name : w.name ≡ x = same_placed w.name x (get_or made i 0) w.number_is e in
        let here : IsNameNumber names x (get_or order i 0) = subst (λ z. IsNameNumber names z (get_or order i 0)) name w.key_is in
        let refers = definition_refers_outside y cs x (subst (λ q. IsSomeAnd q (RefersOutside y)) (sym d) r) in
        let h = key_of y k f in
        let c = o.behind i (get_or keys k 0) x y (omega (arith, l, length-map order number)) here refers h.key_is in
        ap (λ (ns : List ℕ). list_any (nat_eq k) ns) (take-map number i order) ∙ held number (take i order) (get_or keys k 0) k c h.number_is

    pub settling_order_is : IsSettlingOrder G made
    settling_order_is = record { within = within; once = once; listed = listed; reached = reached; behind = behind }
