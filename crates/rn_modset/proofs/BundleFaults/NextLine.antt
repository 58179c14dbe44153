-- What the next line of a bundle is, and the one fault that it lets stand.
use Rattle.std.proofs.Common.{◌≡◌, ◌≢◌, ℕ, ◌<◌, ◌⊎◌, inl, inr, Bool, true, false, not, ◌&&◌, ◌==◌, List, [], ◌∷◌, ◌++◌, length, get_or, codes, decimal, Option, Some, None, refl, sym, ap, subst, ◌∙◌, arith, append_assoc, eqb-true}
use Rattle.std.specs.List.{list_all}
use Rattle.std.proofs.lemmas.Fmt.{decimal_injective}
use Rattle.std.proofs.lemmas.List.{append_cancel_left, length-append}
use Rattle.rn_text.proofs.Words.AppendedLists.{all_append}
use Rattle.rn_modset.specs.declared.faults.BundleFault.{BundleFault}
use Rattle.rn_modset.specs.declared.faults.BundleFault.TheVariants.{Header, Order, Truncated, Trailing, Memory}
use Rattle.rn_modset.specs.Contributions.{Member, is_name_byte, is_withdrawal, IsWithinLimits}
use Rattle.rn_modset.specs.Sets.{Rises}
use Rattle.rn_modset.specs.BundleGrammar.{Head, text_header, withdrawal_header, is_lower_hex, IsDigestOf, IsHeader, IsEndLine}
use Rattle.rn_modset.specs.Bundles.{header_line, header_of, body_of, digest, entry}
use Rattle.rn_modset.specs.inside.Headers.{MayStand}
use Rattle.rn_modset.specs.BundleFaults.{not_line_feed, HasLine, Ends, Heads, IsTextFault, cut_short, no_line_feed, other_digest, text_memory, IsEntryFault, no_header, bad_text, entry_memory, IsFaultBehind, no_line, more_bytes, bad_entry, out_of_order}
use Rattle.std.proofs.lemmas.Bool.{false_from_ne_true}
use Rattle.rn_modset.proofs.TestAnswers.TruthValues.{second_of_both}
use Rattle.rn_modset.proofs.LineParts.LineFields.{Lacks, one_split, one_front, lacks_by, lacks_from_all, unsplit, one_cut, name_lacks, number_lacks}
use Rattle.rn_modset.proofs.Numerals.TextDigests.{digest_is}
use Rattle.rn_modset.proofs.BundlesWritten.SpelledBundles.{digest_by, header_spelled, header_by, entry_spelled}

-- what the next line is
pub data Kind : Type 0 where
  unended : Kind
  ended : (after : List ℕ) → Kind
  headless : Kind
  headed : (h : Head) (after : List ℕ) → Kind

abbrev pub IsKind : Bool → List Member → List ℕ → Kind → Type 0
IsKind w ms left unended = list_all not_line_feed left ≡ true
IsKind w ms left (ended after) = (line : List ℕ) × HasLine left line after × Ends w ms line
IsKind w ms left headless = (line : List ℕ) × (after : List ℕ) × HasLine left line after × ¬ (Ends w ms line) × ((h : Head) → ¬ (Heads w (length ms) line h))
IsKind w ms left (headed h after) = (line : List ℕ) × HasLine left line after × Heads w (length ms) line h

one_line : (left l a m b : List ℕ) → HasLine left l a → HasLine left m b → (l ≡ m) × (a ≡ b)
one_line left l a m b h k = one_cut 10 left l a m b h.is h.one k.is (lacks_from_all 10 m k.one)

not_unended : (left l a : List ℕ) → list_all not_line_feed left ≡ true → ¬ (HasLine left l a)
not_unended left l a e h = unsplit 10 left l a (lacks_from_all 10 left e) h.is

-- a last line is no header
end_head : (w : Bool) (line other : List ℕ) (n : ℕ) (h : Head) → line ≡ other → IsEndLine line n → ¬ (IsHeader w other h)
end_head w line other n (text_header name revision len digits) e l h = let k : ◌≡◌ {A = ℕ} 101 109 = ap (λ (xs : List ℕ). get_or xs 0 0) (sym l.1 ∙ e ∙ h.is) in absurd (omega arith)
end_head w line other n (withdrawal_header name revision) e l h = let k : ◌≡◌ {A = ℕ} 101 119 = ap (λ (xs : List ℕ). get_or xs 0 0) (sym l.1 ∙ e ∙ h.0.is) in absurd (omega arith)

one_head : (w : Bool) (g h : Head) → MayStand w g → MayStand w h → header_line g ≡ header_line h → g ≡ h
one_head w (text_header n r l d) (text_header n2 r2 l2 d2) p q e =
    let behind_kind = append_cancel_left (codes "module ") (n ++ 32 ∷ (decimal r ++ 32 ∷ (decimal l ++ 32 ∷ d))) (n2 ++ 32 ∷ (decimal r2 ++ 32 ∷ (decimal l2 ++ 32 ∷ d2))) e in
    let names = one_split 32 n _ n2 _ (name_lacks n p.0) (name_lacks n2 q.0) behind_kind in
    let revisions = one_split 32 (decimal r) _ (decimal r2) _ (number_lacks 32 r refl p.1) (number_lacks 32 r2 refl q.1) names.1 in
    let lengths = one_split 32 (decimal l) d (decimal l2) d2 (number_lacks 32 l refl (omega (arith, p.2))) (number_lacks 32 l2 refl (omega (arith, q.2))) revisions.1 in
    let revision : r ≡ r2 = decimal_injective r r2 p.1 q.1 revisions.0 in
    let len : l ≡ l2 = decimal_injective l l2 (omega (arith, p.2)) (omega (arith, q.2)) lengths.0 in
    λ i. text_header (names.0 i) (revision i) (len i) (lengths.1 i)
one_head w (withdrawal_header n r) (withdrawal_header n2 r2) p q e =
    let behind_kind = append_cancel_left (codes "withdrawn ") (n ++ 32 ∷ decimal r) (n2 ++ 32 ∷ decimal r2) e in
    let names = one_split 32 n (decimal r) n2 (decimal r2) (name_lacks n p.0) (name_lacks n2 q.0) behind_kind in
    let revision : r ≡ r2 = decimal_injective r r2 p.1 q.1 names.1 in
    λ i. withdrawal_header (names.0 i) (revision i)
one_head w (text_header n r l d) (withdrawal_header n2 r2) p q e = let k : ◌≡◌ {A = ℕ} 109 119 = ap (λ (xs : List ℕ). get_or xs 0 0) e in absurd (omega arith)
one_head w (withdrawal_header n r) (text_header n2 r2 l2 d2) p q e = let k : ◌≡◌ {A = ℕ} 119 109 = ap (λ (xs : List ℕ). get_or xs 0 0) e in absurd (omega arith)

ended_headless : (w : Bool) (ms : List Member) (left a : List ℕ) → IsKind w ms left (ended a) → ¬ (IsKind w ms left headless)
ended_headless w ms left a x y = y.3 (subst (Ends w ms) (one_line left x.0 a y.0 y.1 x.1 y.2).0 x.2)

ended_headed : (w : Bool) (ms : List Member) (left a b : List ℕ) (h : Head) → IsKind w ms left (ended a) → ¬ (IsKind w ms left (headed h b))
ended_headed w ms left a b h x y = end_head w x.0 y.0 (length ms) h (one_line left x.0 a y.0 b x.1 y.1).0 x.2.1 y.2.1

headless_headed : (w : Bool) (ms : List Member) (left b : List ℕ) (h : Head) → IsKind w ms left headless → ¬ (IsKind w ms left (headed h b))
headless_headed w ms left b h x y = x.4 h (subst (λ (l : List ℕ). Heads w (length ms) l h) (one_line left y.0 b x.0 x.1 y.1 x.2).0 y.2)

pub one_kind : (w : Bool) (ms : List Member) (left : List ℕ) (k l : Kind) → IsKind w ms left k → IsKind w ms left l → k ≡ l
one_kind w ms left unended unended x y = refl
one_kind w ms left unended (ended b) x y = absurd (not_unended left y.0 b x y.1)
one_kind w ms left unended headless x y = absurd (not_unended left y.0 y.1 x y.2)
one_kind w ms left unended (headed h b) x y = absurd (not_unended left y.0 b x y.1)
one_kind w ms left (ended a) unended x y = absurd (not_unended left x.0 a y x.1)
one_kind w ms left (ended a) (ended b) x y = ap ended (one_line left x.0 a y.0 b x.1 y.1).1
one_kind w ms left (ended a) headless x y = absurd (ended_headless w ms left a x y)
one_kind w ms left (ended a) (headed h b) x y = absurd (ended_headed w ms left a b h x y)
one_kind w ms left headless unended x y = absurd (not_unended left x.0 x.1 y x.2)
one_kind w ms left headless (ended b) x y = absurd (ended_headless w ms left b y x)
one_kind w ms left headless headless x y = refl
one_kind w ms left headless (headed h b) x y = absurd (headless_headed w ms left b h x y)
one_kind w ms left (headed g a) unended x y = absurd (not_unended left x.0 a y x.1)
one_kind w ms left (headed g a) (ended b) x y = absurd (ended_headed w ms left b a g y x)
one_kind w ms left (headed g a) headless x y = absurd (headless_headed w ms left a g y x)
one_kind w ms left (headed g a) (headed h b) x y =
    let lines = one_line left x.0 a y.0 b x.1 y.1 in
    let one = header_spelled w x.0 g x.2.1 in
    let other = header_spelled w y.0 h y.2.1 in
    let heads = one_head w g h one.1 other.1 (sym one.0 ∙ lines.0 ∙ other.0) in
    λ i. headed (heads i) (lines.1 i)

-- a text that is good has no fault but want of memory
sound_text : (n len : ℕ) (digits after t more : List ℕ) {f : BundleFault} → length t ≡ len → after ≡ t ++ 10 ∷ more → digits ≡ digest t → IsTextFault n len digits after f → f ≡ Memory
sound_text n len digits after t more l e d (cut_short h) = absurd (omega (arith, h, l, ap length e, length-append t (10 ∷ more)))
sound_text n len digits after t more l e d (no_line_feed text rest byte k g b) = absurd (b (ap (λ (xs : List ℕ). get_or xs 0 0) (one_front text (byte ∷ rest) t (10 ∷ more) (k ∙ sym l) (sym g ∙ e)).1))
sound_text n len digits after t more l e d (other_digest text rest k g o) = absurd (o (subst (λ (z : List ℕ). IsDigestOf z text) (sym (d ∙ ap digest (one_front t (10 ∷ more) text (10 ∷ rest) (l ∙ sym k) (sym e ∙ g)).0)) (digest_by text)))
sound_text n len digits after t more l e d text_memory = refl

one_text_fault : (n len : ℕ) (digits after : List ℕ) {f g : BundleFault} → IsTextFault n len digits after f → IsTextFault n len digits after g → f ≢ Memory → g ≢ Memory → f ≡ g
one_text_fault n len digits after text_memory b p q = absurd (p refl)
one_text_fault n len digits after (cut_short h) (cut_short k) p q = refl
one_text_fault n len digits after (cut_short h) (no_line_feed text rest byte k g b) p q = absurd (omega (arith, h, k, ap length g, length-append text (byte ∷ rest)))
one_text_fault n len digits after (cut_short h) (other_digest text rest k g o) p q = absurd (omega (arith, h, k, ap length g, length-append text (10 ∷ rest)))
one_text_fault n len digits after (cut_short h) text_memory p q = absurd (q refl)
one_text_fault n len digits after (no_line_feed text rest byte k g b) (cut_short h) p q = absurd (omega (arith, h, k, ap length g, length-append text (byte ∷ rest)))
one_text_fault n len digits after (no_line_feed text rest byte k g b) (no_line_feed text2 rest2 byte2 k2 g2 b2) p q = refl
one_text_fault n len digits after (no_line_feed text rest byte k g b) (other_digest t more l e o) p q = absurd (b (ap (λ (xs : List ℕ). get_or xs 0 0) (one_front text (byte ∷ rest) t (10 ∷ more) (k ∙ sym l) (sym g ∙ e)).1))
one_text_fault n len digits after (no_line_feed text rest byte k g b) text_memory p q = absurd (q refl)
one_text_fault n len digits after (other_digest text rest k g o) (cut_short h) p q = absurd (omega (arith, h, k, ap length g, length-append text (10 ∷ rest)))
one_text_fault n len digits after (other_digest t more l e o) (no_line_feed text rest byte k g b) p q = absurd (b (ap (λ (xs : List ℕ). get_or xs 0 0) (one_front text (byte ∷ rest) t (10 ∷ more) (k ∙ sym l) (sym g ∙ e)).1))
one_text_fault n len digits after (other_digest text rest k g o) (other_digest text2 rest2 k2 g2 o2) p q = refl
one_text_fault n len digits after (other_digest text rest k g o) text_memory p q = absurd (q refl)

-- the fault of a text that this header heads
pub record IsTextual (n : ℕ) (h : Head) (after : List ℕ) (f : BundleFault) : Type 0 where
  pub name : List ℕ
  pub revision : ℕ
  pub len : ℕ
  pub digits : List ℕ
  pub is : h ≡ text_header name revision len digits
  pub fault : IsTextFault n len digits after f

-- this header heads a member's entry, and then more follows
pub record HeadsEntry (h : Head) (after : List ℕ) (m : Member) (more : List ℕ) : Type 0 where
  pub is : h ≡ header_of m.name m.revision m.text
  pub after_is : after ≡ body_of m.text ++ more

pub record IsMixed (ms : List Member) (h : Head) (after : List ℕ) (f : BundleFault) : Type 0 where
  pub m : Member
  pub more : List ℕ
  pub entry : HeadsEntry h after m more
  pub mixed : ¬ (Rises (ms ++ m ∷ []))
  pub is : f ≡ Order (length ms)

-- what each kind of line lets be wrong
abbrev pub IsVerdict : List Member → Kind → BundleFault → Type 0
IsVerdict ms unended f = f ≡ Truncated
IsVerdict ms (ended after) f = (f ≡ Trailing) × (after ≢ [])
IsVerdict ms headless f = f ≡ Header (length ms)
IsVerdict ms (headed h after) f = IsTextual (length ms) h after f ⊎ IsMixed ms h after f

text_memory_by : (n : ℕ) (h : Head) (after name more : List ℕ) (revision : ℕ) (text : Option (List ℕ)) {f : BundleFault} → h ≡ header_of name revision text → after ≡ body_of text ++ more → IsTextual n h after f → f ≡ Memory
text_memory_by n h after name more revision None e a x = let k : withdrawal_header name revision ≡ text_header x.name x.revision x.len x.digits = sym e ∙ x.is in cc
text_memory_by n h after name more revision (Some t) {f} e a x =
    let k : text_header name revision (length t) (digest t) ≡ text_header x.name x.revision x.len x.digits = sym e ∙ x.is in
    let len : length t ≡ x.len = cc in
    let digits : x.digits ≡ digest t = cc in
    sound_text n x.len x.digits after t more len (a ∙ append_assoc t (10 ∷ []) more) digits x.fault

good_text : (n : ℕ) (h : Head) (after : List ℕ) (m : Member) (more : List ℕ) {f : BundleFault} → HeadsEntry h after m more → IsTextual n h after f → f ≡ Memory
good_text n h after m more e x = text_memory_by n h after m.name more m.revision m.text e.is e.after_is x

pub record IsSame (n1 n2 : List ℕ) (r1 r2 : ℕ) (t1 t2 : Option (List ℕ)) : Type 0 where
  pub names : n1 ≡ n2
  pub revisions : r1 ≡ r2
  pub texts : t1 ≡ t2

same_by : (after n1 n2 more1 more2 : List ℕ) (r1 r2 : ℕ) (t1 t2 : Option (List ℕ)) → header_of n1 r1 t1 ≡ header_of n2 r2 t2 → after ≡ body_of t1 ++ more1 → after ≡ body_of t2 ++ more2 → IsSame n1 n2 r1 r2 t1 t2
same_by after n1 n2 more1 more2 r1 r2 None None e a b = record { names = cc; revisions = cc; texts = refl }
same_by after n1 n2 more1 more2 r1 r2 None (Some t2) e a b = cc
same_by after n1 n2 more1 more2 r1 r2 (Some t1) None e a b = cc
same_by after n1 n2 more1 more2 r1 r2 (Some t1) (Some t2) e a b =
    let len : length t1 ≡ length t2 = cc in
    let texts = one_front t1 (10 ∷ more1) t2 (10 ∷ more2) len (sym (append_assoc t1 (10 ∷ []) more1) ∙ sym a ∙ b ∙ append_assoc t2 (10 ∷ []) more2) in
    record { names = cc; revisions = cc; texts = ap Some texts.0 }

same_member : (h : Head) (after : List ℕ) (m n : Member) (more1 more2 : List ℕ) → HeadsEntry h after m more1 → HeadsEntry h after n more2 → m ≡ n
same_member h after m n more1 more2 x y =
    let s = same_by after m.name n.name more1 more2 m.revision n.revision m.text n.text (sym x.is ∙ y.is) x.after_is y.after_is in
    λ i. record { name = s.names i; revision = s.revisions i; text = s.texts i }

both_texts : (n : ℕ) (h : Head) (after : List ℕ) {f g : BundleFault} → IsTextual n h after f → IsTextual n h after g → f ≢ Memory → g ≢ Memory → f ≡ g
both_texts n h after {f} {g} x y p q =
    let k : text_header x.name x.revision x.len x.digits ≡ text_header y.name y.revision y.len y.digits = sym x.is ∙ y.is in
    let len : y.len ≡ x.len = cc in
    let digits : y.digits ≡ x.digits = cc in
    one_text_fault n x.len x.digits after x.fault (subst (λ l. IsTextFault n l x.digits after g) len (subst (λ d. IsTextFault n y.len d after g) digits y.fault)) p q

one_verdict : (ms : List Member) (k : Kind) (f g : BundleFault) → IsVerdict ms k f → IsVerdict ms k g → f ≢ Memory → g ≢ Memory → f ≡ g
one_verdict ms unended f g x y p q = x ∙ sym y
one_verdict ms (ended after) f g x y p q = x.0 ∙ sym y.0
one_verdict ms headless f g x y p q = x ∙ sym y
one_verdict ms (headed h after) f g (inl x) (inl y) p q = both_texts (length ms) h after x y p q
one_verdict ms (headed h after) f g (inl x) (inr y) p q = absurd (p (good_text (length ms) h after y.m y.more y.entry x))
one_verdict ms (headed h after) f g (inr x) (inl y) p q = absurd (q (good_text (length ms) h after x.m x.more x.entry y))
one_verdict ms (headed h after) f g (inr x) (inr y) p q = x.is ∙ sym y.is

pub all_but : (c : ℕ) (xs : List ℕ) → Lacks c xs → list_all (λ x. not (x == c)) xs ≡ true
all_but c [] l = refl
all_but c (x ∷ xs) l = both (x == c) (list_all (λ z. not (z == c)) xs) (false_from_ne_true (x == c) (λ e. l.0 (eqb-true x c e))) (all_but c xs l.1)
  where
    both : (a b : Bool) → a ≡ false → b ≡ true → (not a && b) ≡ true
    both true b e f = cc
    both false b e f = f

head_line : (w : Bool) (h : Head) → MayStand w h → list_all not_line_feed (header_line h) ≡ true
head_line w (text_header n r l d) m =
    let last = all_but 10 d (lacks_by is_lower_hex 10 refl d m.3.1) in
    let lens = all_append not_line_feed (decimal l) (32 ∷ d) (all_but 10 (decimal l) (number_lacks 10 l refl (omega (arith, m.2)))) last in
    let revisions = all_append not_line_feed (decimal r) (32 ∷ (decimal l ++ 32 ∷ d)) (all_but 10 (decimal r) (number_lacks 10 r refl m.1)) lens in
    all_append not_line_feed n (32 ∷ (decimal r ++ 32 ∷ (decimal l ++ 32 ∷ d))) (all_but 10 n (lacks_by is_name_byte 10 refl n (second_of_both _ _ m.0))) revisions
head_line w (withdrawal_header n r) m =
    all_append not_line_feed n (32 ∷ decimal r) (all_but 10 n (lacks_by is_name_byte 10 refl n (second_of_both _ _ m.0))) (all_but 10 (decimal r) (number_lacks 10 r refl m.1))

may_by : (w : Bool) (name : List ℕ) (revision : ℕ) (text : Option (List ℕ)) → IsWithinLimits (record { name = name; revision = revision; text = text }) → (is_withdrawal (record { name = name; revision = revision; text = text }) ≡ true → w ≡ true)
    → MayStand w (header_of name revision text)
may_by w name revision None g v = (g.name, g.revision, v refl)
may_by w name revision (Some t) g v = (g.name, g.revision, g.text, digest_is t)

-- a good entry that may stand here
pub record IsNextEntry (w : Bool) (ms : List Member) (left : List ℕ) (m : Member) (more : List ℕ) : Type 0 where
  pub is : left ≡ entry m ++ more
  pub good : IsWithinLimits m
  pub few : length ms < 1024
  pub version : is_withdrawal m ≡ true → w ≡ true

entry_kind : (w : Bool) (ms : List Member) (left : List ℕ) (m : Member) (more : List ℕ) → IsNextEntry w ms left m more → IsKind w ms left (headed (header_of m.name m.revision m.text) (body_of m.text ++ more))
entry_kind w ms left m more e =
    let h : Head = header_of m.name m.revision m.text in
    let may : MayStand w h = may_by w m.name m.revision m.text e.good e.version in
    (header_line h, record { is = e.is ∙ append_assoc (header_line h) (10 ∷ body_of m.text) more; one = head_line w h may }, (e.few, header_by w h may))

entry_verdict : (w : Bool) (ms : List Member) (left line after : List ℕ) {f : BundleFault} → HasLine left line after → ¬ (Ends w ms line) → IsEntryFault w (length ms) line after f → f ≢ Memory
    → (k : Kind) × IsKind w ms left k × IsVerdict ms k f
entry_verdict w ms left line after l e (no_header n) p = (headless, (line, after, l, e, n), refl)
entry_verdict w ms left line after l e (bad_text name digits revision len fault h t) p =
    (headed (text_header name revision len digits) after, (line, l, h), inl (record { name = name; revision = revision; len = len; digits = digits; is = refl; fault = t }))
entry_verdict w ms left line after l e entry_memory p = absurd (p refl)

pub verdict_of : (w : Bool) (ms : List Member) (left : List ℕ) {f : BundleFault} → IsFaultBehind w ms left f → f ≢ Memory → (k : Kind) × IsKind w ms left k × IsVerdict ms k f
verdict_of w ms left (no_line e) p = (unended, e, refl)
verdict_of w ms left (more_bytes line after l e a) p = (ended after, (line, l, e), (refl, a))
verdict_of w ms left (bad_entry line after fault l e b) p = entry_verdict w ms left line after l e b p
verdict_of w ms left (out_of_order m front more e entered few version mixed) p =
    let spelled = entry_spelled front m entered in (
      headed (header_of m.name m.revision m.text) (body_of m.text ++ more),
      entry_kind w ms left m more (record { is = e ∙ ap (λ (z : List ℕ). z ++ more) spelled.0; good = spelled.1; few = few; version = version }),
      inr (record { m = m; more = more; entry = record { is = refl; after_is = refl }; mixed = mixed; is = refl }),
    )

pub one_behind : (w : Bool) (ms : List Member) (left : List ℕ) (f g : BundleFault) → IsFaultBehind w ms left f → IsFaultBehind w ms left g → f ≢ Memory → g ≢ Memory → f ≡ g
one_behind w ms left f g x y p q =
    let v = verdict_of w ms left x p in
    let u = verdict_of w ms left y q in
    one_verdict ms v.0 f g v.2 (subst (λ (k : Kind). IsVerdict ms k g) (sym (one_kind w ms left v.0 u.0 v.1 u.1)) u.2) p q

-- where a good entry follows that is greater than those before, there is no fault
no_fault_by : (ms : List Member) (m : Member) (more : List ℕ) (f : BundleFault) → Rises (ms ++ m ∷ []) → f ≢ Memory → ¬ (IsVerdict ms (headed (header_of m.name m.revision m.text) (body_of m.text ++ more)) f)
no_fault_by ms m more f r p (inl x) = p (good_text (length ms) _ _ m more (record { is = refl; after_is = refl }) x)
no_fault_by ms m more f r p (inr x) = x.mixed (subst (λ (n : Member). Rises (ms ++ n ∷ [])) (same_member _ _ m x.m more x.more (record { is = refl; after_is = refl }) x.entry) r)

pub no_fault_before : (w : Bool) (ms : List Member) (left : List ℕ) (m : Member) (more : List ℕ) (f : BundleFault) → IsNextEntry w ms left m more → Rises (ms ++ m ∷ []) → f ≢ Memory → ¬ (IsFaultBehind w ms left f)
no_fault_before w ms left m more f e r p x =
    let v = verdict_of w ms left x p in
    no_fault_by ms m more f r p (subst (λ (k : Kind). IsVerdict ms k f) (one_kind w ms left v.0 (headed (header_of m.name m.revision m.text) (body_of m.text ++ more)) v.1 (entry_kind w ms left m more e)) v.2)
