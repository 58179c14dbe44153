-- Overrides of what isn't there, gathered include by include and key by key.
use Rattle.std.proofs.Common.{◌≡◌, ◌⊎◌, ℕ, zero, suc, ◌+◌, ◌<◌, ⊎_elim, inl, inr, Less, Equal, Greater, List, [], ◌∷◌, ◌++◌, length, map, refl, sym, ap, ◌∙◌, subst, arith, append_assoc, append-nil}
use Rattle.std.specs.Prelude.{Contains}
use Rattle.std.specs.Cmp.{nat_cmp_is}
use Rattle.std.specs.List.{AllByRecursion}
use Rattle.std.specs.List.Sorted.{IsStrictlySortedBy}
use Rattle.std.specs.Ordering.{nat_cmp, ordering_then}
use Rattle.std.proofs.lemmas.Bool.{cases_lt, cases_order}
use Rattle.std.proofs.lemmas.List.{length-map}
use Rattle.std.proofs.lemmas.List.Elements.{Contains-append_cases, Contains-append_left, Contains-append_right, Contains-push, Contains-push_cases}
use Rattle.std.proofs.lemmas.Map.Keys.{Less-from_sorted}
use Rattle.rn_text.specs.Texts.{Text, text_cmp}
use Rattle.rn_pattern.proofs.Ordered.InOrder.{each_contained}
use Rattle.rn_assemble.specs.Components.{Component, NamedModule}
use Rattle.rn_assemble.specs.Diagnosed.{ComesBefore, IsOwnDefinition, IsPlaced, IsTrueFor, finding_refusal, key_numbered}
use Rattle.rn_assemble.specs.Least.{key_cmp}
use Rattle.rn_assemble.specs.Refusal.{Refusal, override, rank}
use Rattle.rn_assemble.specs.declared.diagnosing.findings.Finding.{Finding}
use Rattle.rn_assemble.specs.declared.diagnosing.findings.Lack.{Lack}
use Rattle.rn_assemble.specs.declared.including.segments.FollowedInclude.{FollowedInclude}
use Rattle.rn_assemble.specs.declared.including.segments.Segments.{Segments}
use Rattle.rn_assemble.specs.declared.reading.key_rows.KeyRows.{KeyRows}
use Rattle.rn_assemble.specs.declared.reading.key_rows.WrittenComponent as code
use Rattle.rn_assemble.specs.inside.Checked.{AreExpanded}
use Rattle.rn_assemble.specs.inside.ContentsOf.{name_at}
use Rattle.rn_assemble.specs.inside.Diagnosing.{AddsLack, AddsLacks, AddsRank, AreLacks, IsLackAt, IsLackBelow, IsLackBy, KeepsLacks, lack_cmp, lack_finding}
use Rattle.rn_assemble.specs.inside.Keyed.{key_at}
use Rattle.rn_assemble.specs.inside.Rows.{IsRowOf}
use Rattle.rn_assemble.specs.inside.Segments.{AreSegmentsOf, IsLackOf}
use Rattle.rn_assemble.proofs.Answering.CheckedModules.{brought_within}
use Rattle.rn_assemble.proofs.Diagnoses.FoundPlaces.{own_definition}
use Rattle.rn_assemble.proofs.Diagnoses.RefusalOrder.{in_order_map, key_rises}
use Rattle.rn_assemble.proofs.KeyFaults.LeastLacks.{lacked_number}
use Rattle.rn_assemble.proofs.Referring.ListMembers.{map_contained, map_contains}

-- the key of a number, with and without the start among the names
pub key_is : (names : List Text) (n : ℕ) → key_numbered ([] ∷ names) n ≡ key_at names n
key_is names zero = refl
key_is names (suc n) = refl

-- the lesser of two pairs of numbers has the lesser first number, or the same and the lesser second one
pair_less : (a b c d : ℕ) → ordering_then (nat_cmp a b) (nat_cmp c d) ≡ Less → (a < b) ⊎ ((a ≡ b) × (c < d))
pair_less a b c d h = elim (cases_order a b) [
  | inl same ↦ inr (same, number_less c d (sym (ap (λ o. ordering_then o (nat_cmp c d)) (sym (nat_cmp_is a b Equal same))) ∙ h))
  | inr (inl less) ↦ inl less
  | inr (inr more) ↦ let e : Greater ≡ Less = ap (λ o. ordering_then o (nat_cmp c d)) (nat_cmp_is a b Greater more) ∙ h in cc
]
  where
    number_less : (c d : ℕ) → nat_cmp c d ≡ Less → c < d
    number_less c d h = elim (cases_order c d) [
      | inl same ↦ let e : Equal ≡ Less = nat_cmp_is c d Equal same ∙ h in cc
      | inr (inl less) ↦ less
      | inr (inr more) ↦ let e : Greater ≡ Less = nat_cmp_is c d Greater more ∙ h in cc
    ]

-- ---- include by include

module _ (P : FollowedInclude → Type 0) (row : List code.WrittenComponent) (key : ℕ) where
  pub no_lacks : (old : List Lack) → AddsLacks P row key [] old old
  no_lacks old = record { added = []; new_is = sym (append-nil old); each = λ l c. absurd (omega (arith, c.1)); all = λ b c. absurd (omega (arith, c.1)) }

  module _ (bs : List FollowedInclude) (b : FollowedInclude) (old new : List Lack) (h : AddsLacks P row key bs old new) where
    pub lack_passed : ¬ P b → AddsLacks P row key (bs ++ b ∷ []) old new
    lack_passed never = record {
      added = h.added;
      new_is = h.new_is;
      each = λ l c. let (d, among, p, is, at) = h.each l c in (d, Contains-append_left bs (b ∷ []) d among, p, is, at);
      all = λ d c p. ⊎_elim (λ k. h.all d k p) (λ e. absurd (never (subst P (sym e) p))) (Contains-push_cases bs b d c);
    }

    pub lack_met : P b → (more : List Lack) → AddsLack row key b new more → AddsLacks P row key (bs ++ b ∷ []) old more
    lack_met p more a = record {
      added = h.added ++ a.lack ∷ [];
      new_is = a.new_is ∙ ap (λ l. l ++ a.lack ∷ []) h.new_is ∙ append_assoc old h.added (a.lack ∷ []);
      each = λ l c. ⊎_elim
          (λ k. let (d, among, q, is, at) = h.each l k in (d, Contains-append_left bs (b ∷ []) d among, q, is, at))
          (λ e. (b, Contains-push bs b, p, subst (IsLackBy key b) e a.is, subst (IsLackAt row b) e a.at))
          (Contains-push_cases h.added a.lack l c);
      all = λ d c q. ⊎_elim
          (λ k. let (l, among, is) = h.all d k q in (l, Contains-append_left h.added (a.lack ∷ []) l among, is))
          (λ e. (a.lack, Contains-push h.added a.lack, subst (λ (v : FollowedInclude). IsLackBy key v a.lack) e a.is))
          (Contains-push_cases bs b d c);
    }

-- the same, of includes of which the same is true
pub lacks_alike : (P Q : FollowedInclude → Type 0) (row : List code.WrittenComponent) (key : ℕ) (bs : List FollowedInclude) (old new : List Lack) → ((b : FollowedInclude) → Contains bs b → P b → Q b) → ((b : FollowedInclude) → Contains bs b → Q b → P b) → AddsLacks P row key bs old new → AddsLacks Q row key bs old new
lacks_alike P Q row key bs old new into back h = record {
  added = h.added;
  new_is = h.new_is;
  each = λ l c. let (b, among, p, is, at) = h.each l c in (b, among, into b among p, is, at);
  all = λ b c q. h.all b c (back b c q);
}

-- ---- key by key

module _ (modules : List NamedModule) (names : List Text) (x : Segments) where
  pub lacks_none : AreLacks modules names x 0 []
  lacks_none = record { each = λ l c. absurd (omega (arith, c.1)); all = λ n l. absurd (omega (arith, l)) }

  module _ (n : ℕ) (ls : List Lack) (h : AreLacks modules names x n ls) where
    still_below : (l : Lack) → Contains ls l → IsLackBelow modules names x (n + 1) l
    still_below l c = let k = h.each l c in record {
      below = omega (arith, k.below);
      include = k.include;
      among = k.among;
      lacks = k.lacks;
      module_is = k.module_is;
      placed = k.placed;
    }

    pub lacks_more : (cs : List Component) (row : List code.WrittenComponent) → AreSegmentsOf modules x cs → IsRowOf modules (key_at names n) row
        → (new : List Lack) → AddsLacks (λ b. IsLackOf modules x.list.items b (key_at names n)) row n x.brought.items ls new → AreLacks modules names x (n + 1) new
    lacks_more cs row segments row_is new a = record {
      each = λ l c. ⊎_elim (still_below l)
          (λ k. let (b, among, lack, is, at) = a.each l k in record {
            below = omega (arith, is.0);
            include = b;
            among = among;
            lacks = subst (λ i. IsLackOf modules x.list.items b (key_at names i)) (sym is.0) lack;
            module_is = is.1;
            placed = subst (λ i. IsOwnDefinition modules l.include l.component (key_at names i)) (sym is.0) (own_definition modules (key_at names n) row row_is x cs segments b among l is.1 at);
          })
          (Contains-append_cases ls a.added l (subst (λ ms. Contains ms l) a.new_is c));
      all = λ m l b c lack. elim (cases_lt m n) [
        | inl less ↦ let (k, among, is) = h.all m less b c lack in (k, subst (λ ms. Contains ms k) (sym a.new_is) (Contains-append_left ls a.added k among), is)
        | inr more ↦
            let same : m ≡ n = omega (arith, l, more) in
            let (k, among, is) = a.all b c (subst (λ i. IsLackOf modules x.list.items b (key_at names i)) same lack) in
            (k, subst (λ ms. Contains ms k) (sym a.new_is) (Contains-append_right ls a.added k among), (is.0 ∙ sym same, is.1))
      ];
    }

    pub lacks_passed : ((b : FollowedInclude) → Contains x.brought.items b → ¬ IsLackOf modules x.list.items b (key_at names n)) → AreLacks modules names x (n + 1) ls
    lacks_passed none = record {
      each = still_below;
      all = λ m l b c lack. elim (cases_lt m n) [
        | inl less ↦ h.all m less b c lack
        | inr more ↦ let same : m ≡ n = omega (arith, l, more) in absurd (none b c (subst (λ i. IsLackOf modules x.list.items b (key_at names i)) same lack))
      ];
    }

  pub lacks_kept : (bound : ℕ) (old new : List Lack) → KeepsLacks old new → AreLacks modules names x bound old → AreLacks modules names x bound new
  lacks_kept bound old new k h = record {
    each = λ l c. h.each l (k.each l c);
    all = λ n l b c lack. let (m, among, is) = h.all n l b c lack in let (w, there, key, at) = k.all m among in (w, there, (key ∙ is.0, at ∙ is.1));
  }

  -- what is said of them
  module _ (rows : KeyRows) (expanded : AreExpanded modules names rows x) (bound : ℕ) (size : bound ≡ suc (length names)) where
    -- the module of a lack is there
    lack_within : (l : Lack) → IsLackBelow modules names x bound l → l.include.module.0 < length modules
    lack_within l k = let within = brought_within modules names rows x expanded k.include k.among in omega (arith, within, k.module_is)

    -- lacks in order are refusals in order
    lack_before : (l m : Lack) → IsLackBelow modules names x bound l → IsLackBelow modules names x bound m → lack_cmp l m ≡ Less → ComesBefore (finding_refusal modules ([] ∷ names) (lack_finding l)) (finding_refusal modules ([] ∷ names) (lack_finding m))
    lack_before l m h k less =
        inr (elim (pair_less l.include.module.0 m.include.module.0 l.key.0 m.key.0 less) [
          | inl lower ↦
              let there = lack_within m k in
              inl (Less-from_sorted text_cmp (map (λ (n : NamedModule). n.name) modules) l.include.module.0 m.include.module.0 [] expanded.modules_in_order lower (omega (arith, there, length-map modules (λ (n : NamedModule). n.name))))
          | inr lower ↦
              let rises = key_rises names expanded.in_order l.key.0 m.key.0 lower.1 (omega (arith, k.below, size)) in
              inr (ap (name_at modules) lower.0, (λ i. key_cmp (key_is names l.key.0 i) (key_is names m.key.0 i)) ∙ rises)
        ])

    pub lacks_said : (ls : List Lack) → AreLacks modules names x bound ls → IsStrictlySortedBy lack_cmp ls → (old new : List Finding) → new ≡ old ++ map lack_finding ls → AddsRank modules names 5 old new
    lacks_said ls h up old new is = record {
      added = map lack_finding ls;
      new_is = is;
      true_of = of_each (λ f. IsTrueFor modules (finding_refusal modules ([] ∷ names) f)) (λ l among.
          let k = h.each l among in
          let lacked = (expanded.lacks (name_at modules l.include.module.0) (key_at names l.key.0)).0 (record { include = k.include; among = k.among; name_is = ap (name_at modules) (sym k.module_is); lacks = k.lacks }) in
          subst (λ j. IsTrueFor modules (override (name_at modules l.include.module.0) j)) (sym (key_is names l.key.0)) lacked);
      ranked = of_each (λ f. rank (finding_refusal modules ([] ∷ names) f) ≡ 5) (λ l among. refl);
      in_order = in_order_map modules ([] ∷ names) lack_finding lack_cmp (IsLackBelow modules names x bound) lack_before ls up (each_contained (IsLackBelow modules names x bound) ls h.each);
      placed = of_each (IsPlaced modules ([] ∷ names)) (λ l among. subst (IsOwnDefinition modules l.include l.component) (sym (key_is names l.key.0)) (h.each l among).placed);
      all = every;
    }
      where
        of_each : (Q : Finding → Type 0) → ((l : Lack) → Contains ls l → Q (lack_finding l)) → AllByRecursion Q (map lack_finding ls)
        of_each Q each = each_contained Q (map lack_finding ls) (λ f c. let (l, among, same) = map_contained lack_finding ls f c in subst Q same (each l among))

        every : (q : Refusal) → rank q ≡ 5 → IsTrueFor modules q → (f : Finding) × Contains (map lack_finding ls) f × (finding_refusal modules ([] ∷ names) f ≡ q)
        every (override y k) e t =
            let i = (expanded.lacks y k).1 t in
            let (n, below, key) = lacked_number modules names x expanded.rows_are.names_are i.include k i.lacks in
            let (l, among, is) = h.all n (omega (arith, below, size)) i.include i.among (subst (IsLackOf modules x.list.items i.include) key i.lacks) in (
              lack_finding l,
              map_contains lack_finding ls l among,
              (λ j. override ((ap (name_at modules) is.1 ∙ i.name_is) j) ((key_is names l.key.0 ∙ ap (key_at names) is.0 ∙ sym key) j)),
            )
        every q e t = absurd (omega (arith, e))
