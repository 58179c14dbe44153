-- Segments that are brought in one after the other, and an include that overrides what it brought in.
use Rattle.std.proofs.Common.{◌≡◌, ◌⊎◌, inl, inr, ℕ, ◌+◌, ◌≤◌, Bool, true, false, not, ◌&&◌, ◌||◌, List, [], ◌∷◌, ◌++◌, length, map, Result, Ok, Err, IfOk, refl, sym, ap, ◌∙◌, subst, arith, append-nil, append_assoc, length-append, Contains}
use Rattle.std.specs.Prelude.{◌↔◌, slice_range, Vec}
use Rattle.std.specs.declared.alloc.Global.{Global}
use Rattle.std.specs.Rc.{rc_str_bytes}
use Rattle.std.specs.List.{AllByRecursion}
use Rattle.std.proofs.Math.Bool.{or-false}
use Rattle.std.proofs.lemmas.Bool.{and_parts}
use Rattle.std.proofs.lemmas.List.Elements.{Contains-append_left, Contains-append_right, Contains-append_cases, Contains-push, Contains-push_cases}
use Rattle.std.proofs.lemmas.List.Folds.{list_any-append}
use Rattle.rn_pattern.proofs.Ordered.Ascending.{each_append, each_behind}
use Rattle.rn_pattern.proofs.Ordered.InOrder.{contained_each}
use Rattle.rn_text.specs.Texts.{Text}
use Rattle.rn_assemble.specs.Components.{Component, Key, NamedModule, has_key, same_key, without_overridden}
use Rattle.rn_assemble.specs.declared.reading.contents.Contents.{Contents}
use Rattle.rn_assemble.specs.declared.resolving.context.Context.{Context}
use Rattle.rn_assemble.specs.declared.including.segments.FollowedInclude.{FollowedInclude}
use Rattle.rn_assemble.specs.declared.including.segments.Segment.{Segment}
use Rattle.rn_assemble.specs.declared.including.segments.Segments.{Segments}
use Rattle.rn_assemble.specs.inside.Bringing.{Brings, CanBring, CanList, IsLackIn}
use Rattle.rn_assemble.specs.inside.ContentsOf.{declarations_at, name_at, resolved_component, written_at}
use Rattle.rn_assemble.specs.inside.Placing.{AddsSegment}
use Rattle.rn_assemble.specs.inside.Segments.{AreSegments, IsBrought, IsLackOf, overrides, segment_components, some_has_key}
use Rattle.rn_assemble.proofs.Expansion.LeftSegments.{left_both, left_one, left_overridden, some_append}
use Rattle.rn_assemble.proofs.Expansion.Ranges.{range_behind, range_front}

each_to : {X : Type 0} (P Q : X → Type 0) (xs : List X) → ((x : X) → P x → Q x) → AllByRecursion P xs → AllByRecursion Q xs
each_to P Q [] f h = tt
each_to P Q (x ∷ xs) f h = (f x h.0, each_to P Q xs f h.1)

-- what follows from a result
pub if_ok_to : {A E P Q : Type 0} (r : Result A E) → (P → Q) → IfOk r (λ _. P) → IfOk r (λ _. Q)
if_ok_to (Ok a) f h = f h
if_ok_to (Err e) f h = tt

module _ (modules : List NamedModule) where
  -- no include lacks anything where none is
  lack_in_none : (list : List Segment) (t : Text) (k : Key) → ¬ IsLackIn modules list [] t k
  lack_in_none list t k h = omega (arith, h.among.1)

  -- the same includes among more segments
  lacks_grown : (list more : List Segment) (b : FollowedInclude) (k : Key) → b.from ≤ b.to → b.to ≤ length list → some_has_key modules k (slice_range (list ++ more) b.from b.to) ≡ some_has_key modules k (slice_range list b.from b.to)
  lacks_grown list more b k l m = ap (some_has_key modules k) (range_front list more b.from b.to l m)

  brought_grown : (contents : List Contents) (list more : List Segment) (bs : List FollowedInclude) → AllByRecursion (IsBrought modules contents list) bs → AllByRecursion (IsBrought modules contents (list ++ more)) bs
  brought_grown contents list more bs h = each_to (IsBrought modules contents list) (IsBrought modules contents (list ++ more)) bs (λ b i. record {
    module_within = i.module_within;
    own_ordered = i.own_ordered;
    own = i.own;
    own_within = i.own_within;
    ordered = i.ordered;
    within = omega (arith, i.within, length-append list more);
  }) h

  -- nothing is brought in
  pub brings_none : (x : Segments) → CanBring modules x → Brings modules x x [] [] (λ t k. ⊥)
  brings_none x can = record {
    can = can;
    contents = refl;
    segments = [];
    list_is = sym (append-nil x.list.items);
    followed = [];
    brought_is = sym (append-nil x.brought.items);
    inside = tt;
    left = refl;
    keys = λ k. refl;
    lacks = λ t k. (λ h. lack_in_none x.list.items t k h, λ h. absurd h);
  }

  -- the same, said otherwise
  pub brings_like : (x y : Segments) (cs ds all more : List Component) (L M : Text → Key → Type 0) → cs ≡ ds → ((k : Key) → has_key k all ≡ has_key k more) → ((t : Text) (k : Key) → L t k ↔ M t k) → Brings modules x y cs all L → Brings modules x y ds more M
  brings_like x y cs ds all more L M e same like h = record {
    can = h.can;
    contents = h.contents;
    segments = h.segments;
    list_is = h.list_is;
    followed = h.followed;
    brought_is = h.brought_is;
    inside = h.inside;
    left = h.left ∙ e;
    keys = λ k. h.keys k ∙ same k;
    lacks = λ t k. (λ l. (like t k).0 ((h.lacks t k).0 l), λ m. (h.lacks t k).1 ((like t k).1 m));
  }

  -- a segment of a module
  abbrev pub made : ℕ → Context → ℕ → ℕ → List Component
  made m context from to = map (resolved_component (rc_str_bytes context.inherited.now) (declarations_at modules m)) (slice_range (written_at modules m) from to)

  pub brings_segment : (x y : Segments) (m : ℕ) (context : Context) (from to : ℕ) → CanBring modules x → y.contents ≡ x.contents → y.brought ≡ x.brought → AddsSegment modules x y m context from to → Brings modules x y (made m context from to) (made m context from to) (λ t k. ⊥)
  brings_segment x y m context from to can contents brought a =
      let s = a.segment in
      let cs = made m context from to in
      let is : segment_components modules s ≡ cs = λ i. map (resolved_component (rc_str_bytes (a.context_is i).inherited.now) (declarations_at modules (a.module_is i))) (slice_range (written_at modules (a.module_is i)) (a.from_is i) (a.to_is i)) in
      let grown : AllByRecursion (IsBrought modules x.contents.now (x.list.items ++ s ∷ [])) x.brought.items = brought_grown x.contents.now x.list.items (s ∷ []) x.brought.items can.brought in
      record {
        can = record {
          can = subst (λ c. CanList modules c.now) (sym contents) can.can;
          are = a.are;
          brought = subst (λ b. AllByRecursion (IsBrought modules y.contents.now y.list.items) b.items) (sym brought)
              (subst (λ c. AllByRecursion (IsBrought modules c.now y.list.items) x.brought.items) (sym contents)
              (subst (λ (l : List Segment). AllByRecursion (IsBrought modules x.contents.now l) x.brought.items) (sym a.list_is) grown));
        };
        contents = contents;
        segments = s ∷ [];
        list_is = a.list_is;
        followed = [];
        brought_is = ap (λ b. b.items) brought ∙ sym (append-nil x.brought.items);
        inside = tt;
        left = left_one modules (length x.list.items) s ∙ is;
        keys = λ k. or-false (has_key k (segment_components modules s)) ∙ ap (has_key k) is;
        lacks = λ t k. (λ h. lack_in_none y.list.items t k h, λ h. absurd h);
      }

  -- what is brought in first, and what comes behind it
  module _ (x y z : Segments) (cs ds all more : List Component) (L M : Text → Key → Type 0) (h : Brings modules x y cs all L) (k : Brings modules y z ds more M) where
    size : length y.list.items ≡ length x.list.items + length h.segments
    size = ap length h.list_is ∙ length-append x.list.items h.segments

    longer : length z.list.items ≡ length y.list.items + length k.segments
    longer = ap length k.list_is ∙ length-append y.list.items k.segments

    there : AllByRecursion (IsBrought modules y.contents.now y.list.items) h.followed
    there = each_behind (IsBrought modules y.contents.now y.list.items) x.brought.items h.followed (subst (λ (bs : List FollowedInclude). AllByRecursion (IsBrought modules y.contents.now y.list.items) bs) h.brought_is h.can.brought)

    same_keys : (b : FollowedInclude) (j : Key) → Contains h.followed b → some_has_key modules j (slice_range z.list.items b.from b.to) ≡ some_has_key modules j (slice_range y.list.items b.from b.to)
    same_keys b j c =
        let i = contained_each (IsBrought modules y.contents.now y.list.items) h.followed there b c in
        ap (λ (l : List Segment). some_has_key modules j (slice_range l b.from b.to)) k.list_is ∙ lacks_grown y.list.items k.segments b j i.ordered i.within

    to_parts : (t : Text) (j : Key) → IsLackIn modules z.list.items (h.followed ++ k.followed) t j → L t j ⊎ M t j
    to_parts t j l = elim (Contains-append_cases h.followed k.followed l.include l.among) [
      | inl c ↦ inl ((h.lacks t j).0 (record { include = l.include; among = c; name_is = l.name_is; lacks = (l.lacks.0, sym (same_keys l.include j c) ∙ l.lacks.1) }))
      | inr c ↦ inr ((k.lacks t j).0 (record { include = l.include; among = c; name_is = l.name_is; lacks = l.lacks }))
    ]

    from_parts : (t : Text) (j : Key) → L t j ⊎ M t j → IsLackIn modules z.list.items (h.followed ++ k.followed) t j
    from_parts t j (inl p) =
        let l = (h.lacks t j).1 p in
        record { include = l.include; among = Contains-append_left h.followed k.followed l.include l.among; name_is = l.name_is; lacks = (l.lacks.0, same_keys l.include j l.among ∙ l.lacks.1) }
    from_parts t j (inr p) =
        let l = (k.lacks t j).1 p in
        record { include = l.include; among = Contains-append_right h.followed k.followed l.include l.among; name_is = l.name_is; lacks = l.lacks }

    pub brings_both : Brings modules x z (cs ++ ds) (all ++ more) (λ t j. L t j ⊎ M t j)
    brings_both = record {
      can = k.can;
      contents = k.contents ∙ h.contents;
      segments = h.segments ++ k.segments;
      list_is = k.list_is ∙ ap (λ l. l ++ k.segments) h.list_is ∙ append_assoc x.list.items h.segments k.segments;
      followed = h.followed ++ k.followed;
      brought_is = k.brought_is ∙ ap (λ l. l ++ k.followed) h.brought_is ∙ append_assoc x.brought.items h.followed k.followed;
      inside = each_append (λ (b : FollowedInclude). (length x.list.items ≤ b.from) × (b.to ≤ length z.list.items)) h.followed k.followed
          (each_to (λ (b : FollowedInclude). (length x.list.items ≤ b.from) × (b.to ≤ length y.list.items)) (λ (b : FollowedInclude). (length x.list.items ≤ b.from) × (b.to ≤ length z.list.items)) h.followed (λ b i. (i.0, omega (arith, i.1, longer))) h.inside)
          (each_to (λ (b : FollowedInclude). (length y.list.items ≤ b.from) × (b.to ≤ length z.list.items)) (λ (b : FollowedInclude). (length x.list.items ≤ b.from) × (b.to ≤ length z.list.items)) k.followed (λ b i. (omega (arith, i.0, size), i.1)) k.inside);
      left = left_both modules h.followed k.followed (length x.list.items) (length y.list.items) h.segments k.segments size
          (each_to (λ (b : FollowedInclude). (length x.list.items ≤ b.from) × (b.to ≤ length y.list.items)) (λ (b : FollowedInclude). b.to ≤ length y.list.items) h.followed (λ b i. i.1) h.inside)
          (each_to (λ (b : FollowedInclude). (length y.list.items ≤ b.from) × (b.to ≤ length z.list.items)) (λ (b : FollowedInclude). length y.list.items ≤ b.from) k.followed (λ b i. i.0) k.inside) ∙ (λ i. h.left i ++ k.left i);
      keys = λ j. some_append modules j h.segments k.segments ∙ (λ i. h.keys j i || k.keys j i) ∙ sym (list_any-append (λ (c : Component). same_key j c.key) all more);
      lacks = λ t j. (to_parts t j, from_parts t j);
    }

  -- an include b that brought in what stands behind, and overrides what its own components have
  module _ (x y : Segments) (v : Vec FollowedInclude Global) (cs own : List Component) (L : Text → Key → Type 0) (h : Brings modules x y cs cs L) (b : FollowedInclude) (pushed : v.items ≡ y.brought.items ++ b ∷ []) (is : IsBrought modules y.contents.now y.list.items b)
      (begins : b.from ≡ length x.list.items) (ends : b.to ≡ length y.list.items) (has : (k : Key) → overrides modules k b ≡ has_key k own) where
    abbrev z : Segments
    z = record y { brought = v }

    abbrev OwnLack : Text → Key → Type 0
    OwnLack t k = (name_at modules b.module.0 ≡ t) × ((has_key k own && not (has_key k cs)) ≡ true)

    in_range : slice_range y.list.items b.from b.to ≡ h.segments
    in_range = (λ i. slice_range (h.list_is i) (begins i) ((ends ∙ ap length h.list_is) i)) ∙ range_behind x.list.items h.segments

    brought_keys : (k : Key) → some_has_key modules k (slice_range y.list.items b.from b.to) ≡ has_key k cs
    brought_keys k = ap (some_has_key modules k) in_range ∙ h.keys k

    not_false : (c : Bool) → not c ≡ true → c ≡ false
    not_false true e = cc
    not_false false e = refl

    to_own : (t : Text) (k : Key) → IsLackIn modules y.list.items (h.followed ++ b ∷ []) t k → OwnLack t k ⊎ L t k
    to_own t k l = elim (Contains-push_cases h.followed b l.include l.among) [
      | inl c ↦ inr ((h.lacks t k).0 (record { include = l.include; among = c; name_is = l.name_is; lacks = l.lacks }))
      | inr e ↦
          let lack : IsLackOf modules y.list.items b k = subst (λ (d : FollowedInclude). IsLackOf modules y.list.items d k) (sym e) l.lacks in
          let here : has_key k own ≡ true = sym (has k) ∙ lack.0 in
          let none : has_key k cs ≡ false = sym (brought_keys k) ∙ lack.1 in
          inl (subst (λ (d : FollowedInclude). name_at modules d.module.0 ≡ t) (sym e) l.name_is, λ i. here i && not (none i))
    ]

    from_own : (t : Text) (k : Key) → OwnLack t k ⊎ L t k → IsLackIn modules y.list.items (h.followed ++ b ∷ []) t k
    from_own t k (inl p) =
        let parts = and_parts (has_key k own) (not (has_key k cs)) p.1 in
        record { include = b; among = Contains-push h.followed b; name_is = p.0; lacks = (has k ∙ parts.0, brought_keys k ∙ not_false (has_key k cs) parts.1) }
    from_own t k (inr p) =
        let l = (h.lacks t k).1 p in
        record { include = l.include; among = Contains-append_left h.followed (b ∷ []) l.include l.among; name_is = l.name_is; lacks = l.lacks }

    same_segments : AreSegments modules z
    same_segments =
        let a = h.can.are in
        record { contents = a.contents; sizes = a.sizes; each = a.each; first = a.first; placed = a.placed; numbered = a.numbered; rise = a.rise }

    pub brings_include : Brings modules x z (without_overridden cs own) cs (λ t k. OwnLack t k ⊎ L t k)
    brings_include =
        let size : length y.list.items ≡ length x.list.items + length h.segments = ap length h.list_is ∙ length-append x.list.items h.segments in
        record {
          can = record {
            can = h.can.can;
            are = same_segments;
            brought = subst (λ (bs : List FollowedInclude). AllByRecursion (IsBrought modules y.contents.now y.list.items) bs) (sym pushed) (each_append (IsBrought modules y.contents.now y.list.items) y.brought.items (b ∷ []) h.can.brought (is, tt));
          };
          contents = h.contents;
          segments = h.segments;
          list_is = h.list_is;
          followed = h.followed ++ b ∷ [];
          brought_is = pushed ∙ ap (λ l. l ++ b ∷ []) h.brought_is ∙ append_assoc x.brought.items h.followed (b ∷ []);
          inside = each_append (λ (d : FollowedInclude). (length x.list.items ≤ d.from) × (d.to ≤ length y.list.items)) h.followed (b ∷ []) h.inside ((omega (arith, begins), omega (arith, ends)), tt);
          left = left_overridden modules h.followed b own (length x.list.items) h.segments (omega (arith, begins)) (omega (arith, ends, size)) has ∙ ap (λ l. without_overridden l own) h.left;
          keys = h.keys;
          lacks = λ t k. (to_own t k, from_own t k);
        }
