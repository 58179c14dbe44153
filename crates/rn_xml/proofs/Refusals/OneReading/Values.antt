-- A value of an attribute is read in one way.
use Rattle.std.proofs.Common.{◌≡◌, ℕ, true, false, List, [], ◌∷◌, refl, sym, ap, ◌∙◌, arith}
use Rattle.std.specs.Prelude.{◌==◌, ◌||◌, not, if◌then◌else◌}
use Rattle.std.proofs.lemmas.Bool.{and_parts, true≢false}
use Rattle.std.proofs.lemmas.Bool.Decides.{nat_tests}
use Rattle.rn_text.specs.Segments.{begins_with, is_delimiter}
use Rattle.rn_text.specs.Texts.{is_white}
use Rattle.rn_text.proofs.Words.EqualLists.{cons_rest}
use Rattle.rn_xml.specs.XmlCharacters.{IsReference, IsValue, IsAttValue}
use Rattle.rn_xml.specs.XmlCharacters as x
use Rattle.rn_xml.proofs.Refusals.OneReading.FirstCharacters.{white_no_ampersand}
use Rattle.rn_xml.proofs.Refusals.OneReading.References.{body_of, reference_once}

-- ---- by the first character: 0 the quote, 1 a reference, 2 white space, 3 another

abbrev pub value_step : ℕ → List ℕ → ℕ
value_step quote [] = 4
value_step quote (c ∷ cs) = if c == quote then 0 else (if c == 38 then 1 else (if is_white c then 2 else 3))

abbrev pub step_of : {quote : ℕ} {cs value rest : List ℕ} → IsValue quote cs value rest → ℕ
step_of x.IsValue.close = 0
step_of (x.IsValue.reference r h) = 1
step_of (x.IsValue.white w h) = 2
step_of (x.IsValue.itself v h) = 3

pub reference_step : (quote : ℕ) (cs : List ℕ) (c : ℕ) (mid : List ℕ) → is_delimiter quote ≡ true → IsReference cs c mid → value_step quote cs ≡ 1
reference_step quote cs c mid d r = let b = body_of cs c mid r in ap (value_step quote) b.is ∙ ap (λ t. if t then 0 else 1) (other quote d)
  where
    other : (q : ℕ) → is_delimiter q ≡ true → (38 == q) ≡ false
    other q d = grind (arith, nat_tests)

pub step_is : (quote : ℕ) (cs value rest : List ℕ) → is_delimiter quote ≡ true → (h : IsValue quote cs value rest) → value_step quote cs ≡ step_of h
step_is quote cs value rest d x.IsValue.close = ap (λ b. if b then 0 else (if quote == 38 then 1 else (if is_white quote then 2 else 3))) (same quote)
  where
    same : (q : ℕ) → (q == q) ≡ true
    same q = grind (arith, nat_tests)
step_is quote cs value rest d (x.IsValue.reference {c = c} {mid = mid} r h) = reference_step quote cs c mid d r
step_is quote cs value rest d (x.IsValue.white {c = c} w h) =
    ap (λ b. if b then 0 else (if c == 38 then 1 else (if is_white c then 2 else 3))) (quotes c quote d w) ∙ ap (λ b. if b then 1 else (if is_white c then 2 else 3)) (white_no_ampersand c w) ∙ ap (λ b. if b then 2 else 3) w
  where
    quotes : (c q : ℕ) → is_delimiter q ≡ true → is_white c ≡ true → (c == q) ≡ false
    quotes c q d w = grind (arith, nat_tests)
step_is quote cs value rest d (x.IsValue.itself {c = c} v h) =
    let plain = (and_parts _ _ v).1 in
    ap (λ b. if b then 0 else (if c == 38 then 1 else (if is_white c then 2 else 3))) (quotes c quote plain) ∙ ap (λ b. if b then 1 else (if is_white c then 2 else 3)) (amp c quote plain) ∙ ap (λ b. if b then 2 else 3) (white c quote plain)
  where
    quotes : (c q : ℕ) → not (c == 60 || c == 38 || c == q || is_white c) ≡ true → (c == q) ≡ false
    quotes c q e = grind (arith, nat_tests)

    amp : (c q : ℕ) → not (c == 60 || c == 38 || c == q || is_white c) ≡ true → (c == 38) ≡ false
    amp c q e = grind (arith, nat_tests)

    white : (c q : ℕ) → not (c == 60 || c == 38 || c == q || is_white c) ≡ true → is_white c ≡ false
    white c q e = grind (arith, nat_tests)

pub value_once : (quote : ℕ) (cs ds v w r s : List ℕ) → is_delimiter quote ≡ true → IsValue quote cs v r → IsValue quote ds w s → cs ≡ ds → (v ≡ w) × (r ≡ s)
value_once quote cs ds v w r s d x.IsValue.close x.IsValue.close e = (refl, cc)
value_once quote cs ds v w r s d (x.IsValue.itself {c = c} {cs = a} {value = p} u h) (x.IsValue.itself {c = b} {cs = f} {value = q} t k) e =
    let first : c ≡ b = cc in
    let behind : a ≡ f = cc in
    let more = value_once quote a f p q r s d h k behind in
    (ap (λ n. n ∷ p) first ∙ ap (λ l. b ∷ l) more.0, more.1)
value_once quote cs ds v w r s d (x.IsValue.white {c = c} {cs = a} {value = p} u h) (x.IsValue.white {c = b} {cs = f} {value = q} t k) e =
    let behind : a ≡ f = cc in
    let more = value_once quote a f p q r s d h k behind in
    (ap (λ l. 32 ∷ l) more.0, more.1)
value_once quote cs ds v w r s d (x.IsValue.reference {c = c} {mid = a} {value = p} u h) (x.IsValue.reference {c = b} {mid = f} {value = q} t k) e =
    let one = reference_once cs ds c b a f u t e in
    let more = value_once quote a f p q r s d h k one.1 in
    (ap (λ n. n ∷ p) one.0 ∙ ap (λ l. b ∷ l) more.0, more.1)
value_once quote cs ds v w r s d h k e =
    let same : step_of h ≡ step_of k = sym (step_is quote cs v r d h) ∙ ap (value_step quote) e ∙ step_is quote ds w s d k in
    absurd (omega arith)

pub att_value_once : (cs ds v w r s : List ℕ) → IsAttValue cs v r → IsAttValue ds w s → cs ≡ ds → (v ≡ w) × (r ≡ s)
att_value_once cs ds v w r s (x.IsAttValue.double {cs = a} h) (x.IsAttValue.double {cs = f} k) e = value_once 34 a f v w r s refl h k (cons_rest e)
att_value_once cs ds v w r s (x.IsAttValue.single {cs = a} h) (x.IsAttValue.single {cs = f} k) e = value_once 39 a f v w r s refl h k (cons_rest e)
att_value_once cs ds v w r s (x.IsAttValue.double h) (x.IsAttValue.single k) e = absurd (true≢false (ap (begins_with (λ d. d == 34)) e))
att_value_once cs ds v w r s (x.IsAttValue.single h) (x.IsAttValue.double k) e = absurd (true≢false (ap (begins_with (λ d. d == 39)) e))
