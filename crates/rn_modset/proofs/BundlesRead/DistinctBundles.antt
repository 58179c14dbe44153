-- Bundles are read in one way: distinct sets have distinct bundles.
use Rattle.std.proofs.Common.{◌≡◌, ◌≢◌, ℕ, suc, ◌<◌, ◌≤◌, ◌^◌, Bool, true, false, List, [], ◌∷◌, ◌++◌, length, codes, decimal, Option, Some, None, refl, sym, ap, ◌∙◌, arith, append_assoc, get_or}
use Rattle.std.specs.List.{All}
use Rattle.std.proofs.lemmas.Fmt.{decimal_injective}
use Rattle.std.proofs.lemmas.List.{append_cancel_left}
use Rattle.sha2.specs.Sha256.{sha256}
use Rattle.rn_modset.proofs.BundlesWritten.SpelledBundles.{bundle_spelled}
use Rattle.rn_modset.proofs.LineParts.LineFields.{one_split, one_front, name_lacks, number_lacks, hex_lacks}
use Rattle.rn_modset.specs.Contributions.{Member, is_module_name, has_withdrawal, IsWithinLimits}
use Rattle.rn_modset.specs.Sets.{IsSet}
use Rattle.rn_modset.specs.BundleGrammar.{IsBundle}
use Rattle.rn_modset.specs.Bundles.{entry, entries, digest, end_line, bundle, first_line}

flat_text : (name : List ℕ) (revision : ℕ) (text x : List ℕ) → entry (record { name = name; revision = revision; text = Some text }) ++ x
    ≡ codes "module " ++ (name ++ 32 ∷ (decimal revision ++ 32 ∷ (decimal (length text) ++ 32 ∷ (digest text ++ 10 ∷ (text ++ 10 ∷ x)))))
flat_text name revision text x = simp append_assoc

flat_withdrawal : (name : List ℕ) (revision : ℕ) (x : List ℕ) → entry (record { name = name; revision = revision; text = None }) ++ x
    ≡ codes "withdrawn " ++ (name ++ 32 ∷ (decimal revision ++ 10 ∷ x))
flat_withdrawal name revision x = simp append_assoc

other_kind : (a b : List ℕ) → codes "module " ++ a ≢ codes "withdrawn " ++ b
other_kind a b e = let h : ◌≡◌ {A = ℕ} 109 119 = ap (λ (xs : List ℕ). get_or xs 0 0) e in absurd (omega arith)

pub record SameEntry (m n : Member) (x y : List ℕ) : Type 0 where
  pub name : m.name ≡ n.name
  pub revision : m.revision ≡ n.revision
  pub text : m.text ≡ n.text
  pub rest : x ≡ y

one_text : (n1 n2 t1 t2 x y : List ℕ) (r1 r2 : ℕ) → is_module_name n1 ≡ true → is_module_name n2 ≡ true → r1 < 2 ^ 64 → r2 < 2 ^ 64 → length t1 ≤ 4194304 → length t2 ≤ 4194304
    → entry (record { name = n1; revision = r1; text = Some t1 }) ++ x ≡ entry (record { name = n2; revision = r2; text = Some t2 }) ++ y
    → SameEntry (record { name = n1; revision = r1; text = Some t1 }) (record { name = n2; revision = r2; text = Some t2 }) x y
one_text n1 n2 t1 t2 x y r1 r2 g1 g2 s1 s2 l1 l2 e =
    let behind = append_cancel_left (codes "module ") _ _ (sym (flat_text n1 r1 t1 x) ∙ e ∙ flat_text n2 r2 t2 y) in
    let names = one_split 32 n1 _ n2 _ (name_lacks n1 g1) (name_lacks n2 g2) behind in
    let revisions = one_split 32 (decimal r1) _ (decimal r2) _ (number_lacks 32 r1 refl s1) (number_lacks 32 r2 refl s2) names.1 in
    let lengths = one_split 32 (decimal (length t1)) _ (decimal (length t2)) _ (number_lacks 32 (length t1) refl (omega arith)) (number_lacks 32 (length t2) refl (omega arith)) revisions.1 in
    let digests = one_split 10 (digest t1) _ (digest t2) _ (hex_lacks (sha256 t1)) (hex_lacks (sha256 t2)) lengths.1 in
    let len : length t1 ≡ length t2 = decimal_injective (length t1) (length t2) (omega arith) (omega arith) lengths.0 in
    let texts = one_front t1 _ t2 _ len digests.1 in
    record { name = names.0; revision = decimal_injective r1 r2 s1 s2 revisions.0; text = ap Some texts.0; rest = cc texts.1 }

one_withdrawal : (n1 n2 x y : List ℕ) (r1 r2 : ℕ) → is_module_name n1 ≡ true → is_module_name n2 ≡ true → r1 < 2 ^ 64 → r2 < 2 ^ 64
    → entry (record { name = n1; revision = r1; text = None }) ++ x ≡ entry (record { name = n2; revision = r2; text = None }) ++ y
    → SameEntry (record { name = n1; revision = r1; text = None }) (record { name = n2; revision = r2; text = None }) x y
one_withdrawal n1 n2 x y r1 r2 g1 g2 s1 s2 e =
    let behind = append_cancel_left (codes "withdrawn ") _ _ (sym (flat_withdrawal n1 r1 x) ∙ e ∙ flat_withdrawal n2 r2 y) in
    let names = one_split 32 n1 _ n2 _ (name_lacks n1 g1) (name_lacks n2 g2) behind in
    let revisions = one_split 10 (decimal r1) _ (decimal r2) _ (number_lacks 10 r1 refl s1) (number_lacks 10 r2 refl s2) names.1 in
    record { name = names.0; revision = decimal_injective r1 r2 s1 s2 revisions.0; text = refl; rest = revisions.1 }

one_entry_by : (n1 n2 x y : List ℕ) (r1 r2 : ℕ) (t1 t2 : Option (List ℕ)) → IsWithinLimits (record { name = n1; revision = r1; text = t1 }) → IsWithinLimits (record { name = n2; revision = r2; text = t2 })
    → entry (record { name = n1; revision = r1; text = t1 }) ++ x ≡ entry (record { name = n2; revision = r2; text = t2 }) ++ y
    → SameEntry (record { name = n1; revision = r1; text = t1 }) (record { name = n2; revision = r2; text = t2 }) x y
one_entry_by n1 n2 x y r1 r2 (Some t1) (Some t2) g h e = one_text n1 n2 t1 t2 x y r1 r2 g.name h.name g.revision h.revision g.text h.text e
one_entry_by n1 n2 x y r1 r2 None None g h e = one_withdrawal n1 n2 x y r1 r2 g.name h.name g.revision h.revision e
one_entry_by n1 n2 x y r1 r2 (Some t1) None g h e = absurd (other_kind _ _ (sym (flat_text n1 r1 t1 x) ∙ e ∙ flat_withdrawal n2 r2 y))
one_entry_by n1 n2 x y r1 r2 None (Some t2) g h e = absurd (other_kind _ _ (sym (flat_text n2 r2 t2 y) ∙ sym e ∙ flat_withdrawal n1 r1 x))

-- bytes that begin with a good entry begin with no other
pub one_entry : (m n : Member) (x y : List ℕ) → IsWithinLimits m → IsWithinLimits n → entry m ++ x ≡ entry n ++ y → SameEntry m n x y
one_entry m n x y g h e = one_entry_by m.name n.name x y m.revision n.revision m.text n.text g h e

pub ends_here : (n : ℕ) (m : Member) (x y : List ℕ) → end_line n ++ x ≢ entry m ++ y
ends_here n m x y e = no_such_end m.name m.revision m.text n x y e
  where
    no_such_end : (name : List ℕ) (revision : ℕ) (text : Option (List ℕ)) (n : ℕ) (x y : List ℕ) → end_line n ++ x ≢ entry (record { name = name; revision = revision; text = text }) ++ y
    no_such_end name revision (Some text) n x y e = let h : ◌≡◌ {A = ℕ} 101 109 = ap (λ (xs : List ℕ). get_or xs 0 0) e in absurd (omega arith)
    no_such_end name revision None n x y e = let h : ◌≡◌ {A = ℕ} 101 119 = ap (λ (xs : List ℕ). get_or xs 0 0) e in absurd (omega arith)

one_list_of_entries : (ms ns : List Member) (a b : ℕ) (x y : List ℕ) → All IsWithinLimits ms → All IsWithinLimits ns → entries ms ++ (end_line a ++ x) ≡ entries ns ++ (end_line b ++ y) → ms ≡ ns
one_list_of_entries [] [] a b x y g h e = refl
one_list_of_entries [] (n ∷ ns) a b x y g h e = absurd (ends_here a n x _ (e ∙ append_assoc (entry n) (entries ns) (end_line b ++ y)))
one_list_of_entries (m ∷ ms) [] a b x y g h e = absurd (ends_here b m y _ (sym e ∙ append_assoc (entry m) (entries ms) (end_line a ++ x)))
one_list_of_entries (m ∷ ms) (n ∷ ns) a b x y g h e =
    let same = one_entry m n _ _ (g 0 m (omega arith)) (h 0 n (omega arith)) (sym (append_assoc (entry m) (entries ms) (end_line a ++ x)) ∙ e ∙ append_assoc (entry n) (entries ns) (end_line b ++ y)) in
    let one : m ≡ n = λ i. record { name = same.name i; revision = same.revision i; text = same.text i } in
    let rest = one_list_of_entries ms ns a b x y (λ k d lt. g (suc k) d (omega arith)) (λ k d lt. h (suc k) d (omega arith)) same.rest in
    λ i. one i ∷ rest i

pub length_first : (b : Bool) → length (first_line b) ≡ 9
length_first true = refl
length_first false = refl

-- distinct sets have distinct bundles
one_bundle : (s t : List Member) → IsSet s → IsSet t → bundle s ≡ bundle t → s ≡ t
one_bundle s t h k e =
    let flat = λ (ms : List Member). append_assoc (first_line (has_withdrawal ms) ++ entries ms) (end_line (length ms)) (10 ∷ []) ∙ append_assoc (first_line (has_withdrawal ms)) (entries ms) (end_line (length ms) ++ 10 ∷ []) in
    let behind = one_front (first_line (has_withdrawal s)) (entries s ++ (end_line (length s) ++ 10 ∷ [])) (first_line (has_withdrawal t)) (entries t ++ (end_line (length t) ++ 10 ∷ []))
    (length_first (has_withdrawal s) ∙ sym (length_first (has_withdrawal t))) (sym (flat s) ∙ e ∙ flat t) in
    one_list_of_entries s t (length s) (length t) (10 ∷ []) (10 ∷ []) h.good k.good behind.1

-- bytes are the bundle of one set
pub one_set_of_bundle : (bytes : List ℕ) (s t : List Member) → IsBundle bytes s → IsBundle bytes t → s ≡ t
one_set_of_bundle bytes s t b d =
    let one = bundle_spelled bytes s b in
    let other = bundle_spelled bytes t d in
    one_bundle s t one.0 other.0 (sym one.1 ∙ other.1)
