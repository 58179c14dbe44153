-- Bytes have one fault, and a bundle has none.
use Rattle.std.proofs.Common.{◌≡◌, ◌≢◌, ℕ, suc, ◌≤◌, ◌⊎◌, inl, inr, Bool, true, false, List, [], ◌∷◌, ◌++◌, length, get_or, decimal, refl, sym, ap, subst, ◌∙◌, arith, append_assoc, Result, Ok, Err, IfErr, MatchResult, IsErr}
use Rattle.std.specs.List.{All, list_all}
use Rattle.std.proofs.lemmas.List.{append-nil, length-append}
use Rattle.rn_modset.specs.declared.faults.BundleFault.{BundleFault}
use Rattle.rn_modset.specs.declared.faults.BundleFault.TheVariants.{Magic, Header, Order, Digest, Truncated, Trailing, Memory}
use Rattle.rn_modset.specs.Contributions.{Member, is_withdrawal, has_withdrawal, IsWithinLimits}
use Rattle.rn_modset.specs.Sets.{Rises, IsSet}
use Rattle.rn_modset.specs.BundleGrammar.{IsBundle}
use Rattle.rn_modset.specs.Bundles.{entry, entries, first_line, end_line, bundle}
use Rattle.rn_modset.specs.BundleFaults.{not_line_feed, IsFront, IsFaultBehind, HasBundleFault, no_first_line, behind, no_memory}
use Rattle.rn_modset.proofs.LineParts.LineFields.{one_front, number_lacks}
use Rattle.rn_modset.proofs.BundlesRead.DistinctBundles.{one_entry, ends_here, length_first}
use Rattle.rn_modset.proofs.Unions.MergedLists.{rises_left}
use Rattle.rn_modset.proofs.BundlesWritten.SpelledBundles.{IsSpelledFront, front_spelled, first_by, end_by, bundle_spelled}
use Rattle.rn_modset.proofs.BundleFaults.NextLine.{ended, IsKind, IsVerdict, Kind, one_kind, all_but, verdict_of, one_behind, no_fault_before}
use Rattle.std.proofs.lemmas.Bool.{or_left, or_right}

-- of two fronts of one list of bytes one goes on to the other
pub record Continues (ms ns : List Member) (x y : List ℕ) : Type 0 where
  pub rest : List Member
  pub whole : ns ≡ ms ++ rest
  pub left : x ≡ entries rest ++ y

one_way : (ms ns : List Member) (x y : List ℕ) → All IsWithinLimits ms → All IsWithinLimits ns → entries ms ++ x ≡ entries ns ++ y → Continues ms ns x y ⊎ Continues ns ms y x
one_way [] ns x y g h e = inl (record { rest = ns; whole = refl; left = e })
one_way (m ∷ ms) [] x y g h e = inr (record { rest = m ∷ ms; whole = refl; left = sym e })
one_way (m ∷ ms) (n ∷ ns) x y g h e =
    let same = one_entry m n _ _ (g 0 m (omega arith)) (h 0 n (omega arith)) (sym (append_assoc (entry m) (entries ms) x) ∙ e ∙ append_assoc (entry n) (entries ns) y) in
    let one : n ≡ m = λ i. record { name = sym same.name i; revision = sym same.revision i; text = sym same.text i } in
    elim (one_way ms ns x y (λ k d lt. g (suc k) d (omega arith)) (λ k d lt. h (suc k) d (omega arith)) same.rest) [
      | inl a ↦ inl (record { rest = a.rest; whole = λ i. one i ∷ a.whole i; left = a.left })
      | inr b ↦ inr (record { rest = b.rest; whole = λ i. sym one i ∷ b.whole i; left = b.left })
    ]

version_in : (ms : List Member) (n : Member) (ns : List Member) → is_withdrawal n ≡ true → has_withdrawal (ms ++ n ∷ ns) ≡ true
version_in [] n ns e = or_left (is_withdrawal n) (has_withdrawal ns) e
version_in (m ∷ ms) n ns e = or_right (is_withdrawal m) (has_withdrawal (ms ++ n ∷ ns)) (version_in ms n ns e)

good_in : (ms : List Member) (n : Member) (ns : List Member) → All IsWithinLimits (ms ++ n ∷ ns) → IsWithinLimits n
good_in [] n ns g = g 0 n (omega arith)
good_in (m ∷ ms) n ns g = good_in ms n ns (λ k d lt. g (suc k) d (omega arith))

-- a front that goes on has no fault behind it
front_goes_on : (bytes : List ℕ) (w : Bool) (ms : List Member) (n : Member) (ns : List Member) (x y : List ℕ) (f : BundleFault) → IsSpelledFront bytes w (ms ++ n ∷ ns) y → x ≡ entries (n ∷ ns) ++ y → f ≢ Memory → ¬ (IsFaultBehind w ms x f)
front_goes_on bytes w ms n ns x y f front e p =
    no_fault_before w ms x n (entries ns ++ y) f (record {
      is = e ∙ append_assoc (entry n) (entries ns) y;
      good = good_in ms n ns front.good;
      few = omega (arith, front.few, length-append ms (n ∷ ns));
      version = λ h. front.version (version_in ms n ns h);
    }) (rises_left (ms ++ n ∷ []) ns (subst Rises (sym (append_assoc ms (n ∷ []) ns)) front.rises)) p

first_same : (v w : Bool) (x y : List ℕ) → first_line v ++ x ≡ first_line w ++ y → (v ≡ w) × (x ≡ y)
first_same v w x y e =
    let both = one_front (first_line v) x (first_line w) y (length_first v ∙ sym (length_first w)) e in
    (versions v w both.0, both.1)
  where
    versions : (a b : Bool) → first_line a ≡ first_line b → a ≡ b
    versions true true e = refl
    versions true false e = let k : ◌≡◌ {A = ℕ} 50 49 = ap (λ (xs : List ℕ). get_or xs 7 0) e in absurd (omega arith)
    versions false true e = let k : ◌≡◌ {A = ℕ} 49 50 = ap (λ (xs : List ℕ). get_or xs 7 0) e in absurd (omega arith)
    versions false false e = refl

joined_by : (bytes : List ℕ) (w : Bool) (ms ns rest : List Member) (x y : List ℕ) (f g : BundleFault) → ns ≡ ms ++ rest → x ≡ entries rest ++ y → IsSpelledFront bytes w ns y → IsFaultBehind w ms x f → IsFaultBehind w ns y g → f ≢ Memory → g ≢ Memory → f ≡ g
joined_by bytes w ms ns [] x y f g whole left front a b p q =
    one_behind w ms x f g a (subst (λ (z : List Member). IsFaultBehind w z x g) (whole ∙ append-nil ms) (subst (λ (z : List ℕ). IsFaultBehind w ns z g) (sym left) b)) p q
joined_by bytes w ms ns (n ∷ rest) x y f g whole left front a b p q =
    absurd (front_goes_on bytes w ms n rest x y f (subst (λ (z : List Member). IsSpelledFront bytes w z y) whole front) left p a)

both_behind : (bytes : List ℕ) (v w : Bool) (ms ns : List Member) (x y : List ℕ) (f g : BundleFault) → IsSpelledFront bytes v ms x → IsSpelledFront bytes w ns y → IsFaultBehind v ms x f → IsFaultBehind w ns y g → f ≢ Memory → g ≢ Memory → f ≡ g
both_behind bytes v w ms ns x y f g front other a b p q =
    let first = first_same v w (entries ms ++ x) (entries ns ++ y) (sym front.is ∙ other.is) in
    let there : IsSpelledFront bytes v ns y = subst (λ (z : Bool). IsSpelledFront bytes z ns y) (sym first.0) other in
    let fault : IsFaultBehind v ns y g = subst (λ (z : Bool). IsFaultBehind z ns y g) (sym first.0) b in
    elim (one_way ms ns x y front.good other.good first.1) [
      | inl j ↦ joined_by bytes v ms ns j.rest x y f g j.whole j.left there a fault p q
      | inr j ↦ sym (joined_by bytes v ns ms j.rest y x g f j.whole j.left front fault a q p)
    ]

-- what a front has beyond another
pub record GoesBeyond (ms ns : List Member) : Type 0 where
  pub more : List Member
  pub is : ms ≡ ns ++ more

ends_there : (bytes : List ℕ) (w : Bool) (ms ns rest : List Member) (x y : List ℕ) (f : BundleFault) → ns ≡ ms ++ rest → x ≡ entries rest ++ y → IsSpelledFront bytes w ns y → IsFaultBehind w ms x f → f ≢ Memory → GoesBeyond ms ns
ends_there bytes w ms ns [] x y f whole left front a p = record { more = []; is = sym (append-nil ns ∙ whole ∙ append-nil ms) }
ends_there bytes w ms ns (n ∷ rest) x y f whole left front a p =
    absurd (front_goes_on bytes w ms n rest x y f (subst (λ (z : List Member). IsSpelledFront bytes w z y) whole front) left p a)

longest_by : (bytes : List ℕ) (v w : Bool) (ms ns : List Member) (x y : List ℕ) (f : BundleFault) → IsSpelledFront bytes v ms x → IsSpelledFront bytes w ns y → IsFaultBehind v ms x f → f ≢ Memory → GoesBeyond ms ns
longest_by bytes v w ms ns x y f front other a p =
    let first = first_same v w (entries ms ++ x) (entries ns ++ y) (sym front.is ∙ other.is) in
    let there : IsSpelledFront bytes v ns y = subst (λ (z : Bool). IsSpelledFront bytes z ns y) (sym first.0) other in
    elim (one_way ms ns x y front.good other.good first.1) [
      | inl j ↦ ends_there bytes v ms ns j.rest x y f j.whole j.left there a p
      | inr j ↦ record { more = j.rest; is = j.whole }
    ]

-- a fault stands behind the longest front
pub longest : (bytes : List ℕ) (v w : Bool) (ms ns : List Member) (x y : List ℕ) (f : BundleFault) → IsFront bytes v ms x → IsFaultBehind v ms x f → f ≢ Memory → IsFront bytes w ns y → (more : List Member) × (ms ≡ ns ++ more)
longest bytes v w ms ns x y f front a p other =
    let beyond = longest_by bytes v w ms ns x y f (front_spelled bytes v ms x front) (front_spelled bytes w ns y other) a p in
    (beyond.more, beyond.is)

-- bytes have one fault, want of memory aside
pub one_fault : (bytes : List ℕ) {f g : BundleFault} → HasBundleFault bytes f → HasBundleFault bytes g → f ≢ Memory → g ≢ Memory → f ≡ g
one_fault bytes no_memory y p q = absurd (p refl)
one_fault bytes (no_first_line n) (no_first_line m) p q = refl
one_fault bytes (no_first_line n) (behind w ms left fault front b) p q = absurd (n w front.first (front.middle ++ left) front.is_first front.is)
one_fault bytes (no_first_line n) no_memory p q = absurd (q refl)
one_fault bytes (behind w ms left fault front b) (no_first_line n) p q = absurd (n w front.first (front.middle ++ left) front.is_first front.is)
one_fault bytes (behind w ms left fault front b) (behind v ns rest other there c) p q = both_behind bytes w v ms ns left rest fault other (front_spelled bytes w ms left front) (front_spelled bytes v ns rest there) b c p q
one_fault bytes (behind w ms left fault front b) no_memory p q = absurd (q refl)

set_front : (s : List Member) → IsSet s → IsSpelledFront (bundle s) (has_withdrawal s) s (end_line (length s) ++ 10 ∷ [])
set_front s h = record {
  is = append_assoc (first_line (has_withdrawal s) ++ entries s) (end_line (length s)) (10 ∷ []) ∙ append_assoc (first_line (has_withdrawal s)) (entries s) (end_line (length s) ++ 10 ∷ []);
  good = h.good;
  rises = h.rises;
  few = h.few;
  version = λ e. e;
}

end_line_one : (n : ℕ) → n ≤ 1024 → list_all not_line_feed (end_line n) ≡ true
end_line_one n h = all_but 10 (decimal n) (number_lacks 10 n refl (omega arith))

end_kind : (s : List Member) → IsSet s → IsKind (has_withdrawal s) s (end_line (length s) ++ 10 ∷ []) (ended [])
end_kind s h = (end_line (length s), record { is = refl; one = end_line_one (length s) h.few }, (refl, end_by (length s) h.few))

no_end_fault : (s : List Member) (f : BundleFault) → IsSet s → f ≢ Memory → ¬ (IsFaultBehind (has_withdrawal s) s (end_line (length s) ++ 10 ∷ []) f)
no_end_fault s f h p x =
    let v = verdict_of (has_withdrawal s) s (end_line (length s) ++ 10 ∷ []) x p in
    let k = one_kind (has_withdrawal s) s (end_line (length s) ++ 10 ∷ []) v.0 (ended []) v.1 (end_kind s h) in
    (subst (λ (z : Kind). IsVerdict s z f) k v.2).1 refl

sound_by : (s ms rest : List Member) (x : List ℕ) (f : BundleFault) → IsSet s → s ≡ ms ++ rest → x ≡ entries rest ++ (end_line (length s) ++ 10 ∷ []) → IsFaultBehind (has_withdrawal s) ms x f → f ≢ Memory → ⊥
sound_by s ms [] x f h whole left a p =
    no_end_fault s f h p (subst (λ (z : List Member). IsFaultBehind (has_withdrawal s) z (end_line (length s) ++ 10 ∷ []) f) (sym (whole ∙ append-nil ms)) (subst (λ (z : List ℕ). IsFaultBehind (has_withdrawal s) ms z f) left a))
sound_by s ms (n ∷ rest) x f h whole left a p =
    front_goes_on (bundle s) (has_withdrawal s) ms n rest x (end_line (length s) ++ 10 ∷ []) f (subst (λ (z : List Member). IsSpelledFront (bundle s) (has_withdrawal s) z (end_line (length s) ++ 10 ∷ [])) whole (set_front s h)) left p a

past_end : (s ns rest : List Member) (y : List ℕ) (w : Bool) (f : BundleFault) → IsSet s → ns ≡ s ++ rest → end_line (length s) ++ 10 ∷ [] ≡ entries rest ++ y → has_withdrawal s ≡ w → IsFaultBehind w ns y f → f ≢ Memory → ⊥
past_end s ns [] y w f h whole left v a p =
    no_end_fault s f h p (subst (λ (z : Bool). IsFaultBehind z s (end_line (length s) ++ 10 ∷ []) f) (sym v) (subst (λ (z : List Member). IsFaultBehind w z (end_line (length s) ++ 10 ∷ []) f) (whole ∙ append-nil s) (subst (λ (z : List ℕ). IsFaultBehind w ns z f) (sym left) a)))
past_end s ns (n ∷ rest) y w f h whole left v a p = ends_here (length s) n (10 ∷ []) (entries rest ++ y) (left ∙ append_assoc (entry n) (entries rest) y)

-- a bundle has no fault but want of memory
pub bundle_sound : (s : List Member) {f : BundleFault} → IsSet s → HasBundleFault (bundle s) f → f ≢ Memory → ⊥
bundle_sound s h no_memory p = p refl
bundle_sound s h (no_first_line n) p = n (has_withdrawal s) (first_line (has_withdrawal s)) (entries s ++ (end_line (length s) ++ 10 ∷ [])) (first_by (has_withdrawal s)) (set_front s h).is
bundle_sound s h (behind w ms left fault read b) p =
    let front = front_spelled (bundle s) w ms left read in
    let first = first_same (has_withdrawal s) w (entries s ++ (end_line (length s) ++ 10 ∷ [])) (entries ms ++ left) (sym (set_front s h).is ∙ front.is) in
    elim (one_way s ms (end_line (length s) ++ 10 ∷ []) left h.good front.good first.1) [
      | inl j ↦ past_end s ms j.rest left w fault h j.whole j.left first.0 b p
      | inr j ↦ sound_by s ms j.rest left fault h j.whole j.left (subst (λ (z : Bool). IsFaultBehind z ms left fault) (sym first.0) b) p
    ]

memory_by : (f : BundleFault) → ((f ≢ Memory) → ⊥) → f ≡ Memory
memory_by Magic h = absurd (h (λ e. cc))
memory_by (Header at) h = absurd (h (λ e. cc))
memory_by (Order at) h = absurd (h (λ e. cc))
memory_by (Digest at) h = absurd (h (λ e. cc))
memory_by Truncated h = absurd (h (λ e. cc))
memory_by Trailing h = absurd (h (λ e. cc))
memory_by Memory h = refl

pub bundle_fault : (bytes : List ℕ) (s : List Member) (f : BundleFault) → IsBundle bytes s → HasBundleFault bytes f → f ≡ Memory
bundle_fault bytes s f b x =
    let spelled = bundle_spelled bytes s b in
    memory_by f (λ p. bundle_sound s spelled.0 (subst (λ (z : List ℕ). HasBundleFault z f) spelled.1 x) p)

-- bytes that are a set's bundle have no fault but want of memory
pub whole_fault : (bytes : List ℕ) (f : BundleFault) → HasBundleFault bytes f → (s : List Member) → IsBundle bytes s → f ≡ Memory
whole_fault bytes f x s b = bundle_fault bytes s f b x

pub whole_refused : (bytes : List ℕ) (r : Result (List Member) BundleFault) → IsErr r → IfErr r (λ fault. HasBundleFault bytes fault) → (s : List Member) → IsBundle bytes s → MatchResult r (λ set. set ≡ s) (λ fault. fault ≡ Memory)
whole_refused bytes (Ok set) i f s b = let k : false ≡ true = i in cc
whole_refused bytes (Err fault) i f s b = whole_fault bytes fault f s b
