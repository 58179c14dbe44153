-- Fronts of characters whose line ends are line feeds.
use Rattle.std.proofs.Common.{◌≡◌, ◌≢◌, ℕ, Bool, true, false, List, [], ◌∷◌, ◌++◌, refl, ap, ◌∙◌}
use Rattle.std.specs.Prelude.{◌==◌, Result, Ok, Err, IfErr}
use Rattle.std.proofs.lemmas.Bool.{false≢true, eqb-true}
use Rattle.rn_text.specs.Segments.{begins_with}
use Rattle.rn_xml.specs.XmlCharacters.{lines_of}
use Rattle.rn_xml.proofs.Sources.{lines_step, normal_cases}

pub if_err : {A E : Type 0} (r : Result A E) {P : Type 0} → P → IfErr r (λ e. P)
if_err (Ok a) p = tt
if_err (Err e) p = p

pub if_each_err : {A E : Type 0} (r : Result A E) (P : E → Type 0) → ((e : E) → P e) → IfErr r P
if_each_err (Ok a) P p = tt
if_each_err (Err e) P p = p e

pub if_err_too : {A E : Type 0} (r : Result A E) {P Q : E → Type 0} → IfErr r P → ((e : E) → P e → Q e) → IfErr r Q
if_err_too (Ok a) p f = tt
if_err_too (Err e) p f = f e p

pub feed_first : (p : ℕ → Bool) (cs : List ℕ) → begins_with (λ d. d == 10) cs ≡ true → begins_with p (lines_of cs) ≡ p 10
feed_first p [] b = absurd (false≢true b)
feed_first p (d ∷ ds) b = ap (λ a. begins_with p (lines_of (a ∷ ds))) (eqb-true d 10 b)

-- what no line feed passes begins them only where it did before
pub lines_begin : (p : ℕ → Bool) (cs : List ℕ) → p 10 ≡ false → begins_with p cs ≡ false → begins_with p (lines_of cs) ≡ false
lines_begin p [] feed n = refl
lines_begin p (c ∷ cs) feed n = ap (begins_with p) (lines_step c cs) ∙ normal_cases (λ l. begins_with p (l ++ lines_of cs) ≡ false) c cs (λ r f. feed_first p cs f ∙ feed) feed n
