-- Lines of objects, one message after another; tokens that are written one after another.
use Rattle.std.proofs.Common.{◌≡◌, ℕ, ◌+◌, ◌<◌, List, [], ◌∷◌, ◌++◌, length, take, get_or, ap, refl, subst, sym, ◌∙◌, append_assoc, Result, Ok, Err, OnOk}
use Rattle.std.proofs.lemmas.List.{append-nil, take_more}
use Rattle.json.specs.Print.{print}
use Rattle.json.specs.Token.{Token}
use Rattle.rn_report.specs.JsonMessages.{AreObjects, IsObject}
use Rattle.rn_report.specs.inside.JsonMessages.{AddsObject}
use Rattle.rn_report.specs.declared.report.Message.{Message}
use Rattle.rn_report.specs.declared.report.Page.{Page}

-- with the line of the next message
one_object_more : (pages : List Page) (ms : List Message) (m : Message) (lines : List ℕ) (object : List Token)
    → AreObjects pages ms lines → IsObject pages m object → AreObjects pages (ms ++ (m ∷ [])) (lines ++ (print object ++ (10 ∷ [])))
one_object_more pages [] m lines object e is =
    (object, [], is, refl, ap (λ x. x ++ (print object ++ (10 ∷ []))) e ∙ sym (append-nil (print object ++ (10 ∷ []))))
one_object_more pages (n ∷ ms) m lines object e is = (
  e.0,
  e.1 ++ (print object ++ (10 ∷ [])),
  e.2,
  one_object_more pages ms m e.1 object e.3 is,
  ap (λ x. x ++ (print object ++ (10 ∷ []))) e.4 ∙ append_assoc (print e.0 ++ (10 ∷ [])) e.1 (print object ++ (10 ∷ [])),
)

-- the lines of the first messages of a list, with that of the next one
pub next_object : (pages : List Page) (items held : List Message) (i : ℕ) (m : Message) (lines after : List ℕ)
    → held ≡ items → i < length held → m ≡ get_or held i m → AreObjects pages (take i items) lines
    → AddsObject pages m lines after → AreObjects pages (take (i + 1) items) after
next_object pages items held i m lines after same within is objects adds =
    let P : List Message → Type 0 = λ xs. i < length xs in
    let T : List Message → Type 0 = λ ms. AreObjects pages ms after in
    let B : List ℕ → Type 0 = λ bs. AreObjects pages (take i items ++ (m ∷ [])) bs in
    let here : i < length items = subst P same within in
    let it : m ≡ get_or items i m = is ∙ ap (λ xs. get_or xs i m) same in
    let grown : take (i + 1) items ≡ take i items ++ (m ∷ []) = take_more items i m here ∙ ap (λ x. take i items ++ (x ∷ [])) (sym it) in
    subst T (sym grown) (subst B (sym adds.2) (one_object_more pages (take i items) m lines adds.0 objects adds.1))

-- three lists of tokens that were written one after another
pub three_written : (b₀ b₁ b₂ b₃ : List ℕ) (t₀ t₁ t₂ t₃ x y z : List Token) → (b₁ ≡ b₀) × (t₁ ≡ t₀ ++ x) → (b₂ ≡ b₁) × (t₂ ≡ t₁ ++ y)
    → (b₃ ≡ b₂) × (t₃ ≡ t₂ ++ z) → (b₃ ≡ b₀) × (t₃ ≡ t₀ ++ (x ++ (y ++ z)))
three_written b₀ b₁ b₂ b₃ t₀ t₁ t₂ t₃ x y z p q r = (
  r.0 ∙ q.0 ∙ p.0,
  r.1 ∙ ap (λ t. t ++ z) (q.1 ∙ ap (λ t. t ++ y) p.1) ∙ append_assoc (t₀ ++ x) y z ∙ append_assoc t₀ x (y ++ z),
)

-- what follows from what a call gives
pub ok_weaker : {V E : Type 0} (r : Result V E) (P Q : Type 0) → (P → Q) → OnOk r P → OnOk r Q
ok_weaker (Ok v) P Q f h = f h
ok_weaker (Err e) P Q f h = tt
