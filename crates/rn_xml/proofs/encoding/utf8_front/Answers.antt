use Rattle.std.proofs.Common.{◌≡◌, ◌++◌, [], List, ℕ, take, drop, sym, ◌∙◌, ap, refl, Bor}
use Rattle.std.specs.Prelude.{Result, Ok, Err, MatchResult}
use Rattle.std.specs.Str.{IsUtf8}
use Rattle.std.specs.Result.{result_unwrap_or}
use Rattle.std.proofs.lemmas.List.{take-append-drop}
use Rattle.rn_xml.proofs.encoding.utf8_front.Goals as goal

-- a front, or nothing
front : {E : Type 0} (bytes : List ℕ) (k : ℕ) (r : Result (Bor (List ℕ)) E) (none : Bor (List ℕ)) (R : E → Type 0) → none.now ≡ []
    → MatchResult r (λ s. (s.now ≡ take k bytes) × IsUtf8 (take k bytes)) R → (x : List ℕ) × (bytes ≡ (result_unwrap_or r none).now ++ x)
front bytes k (Ok s) none R n h = (drop k bytes, sym (take-append-drop k bytes) ∙ ap (λ l. l ++ drop k bytes) (sym h.0))
front bytes k (Err e) none R n h = (bytes, ap (λ l. l ++ bytes) (sym n))

pub returns-in-Err-clause-front : goal.returns-in-Err-clause-front
returns-in-Err-clause-front c = let h = front c.args.bytes.now c.valid_up_to.result c.from_utf8-in-Err.result _ _ refl c.from_utf8-in-Err.ensures.cases in rw c.unwrap_or.ensures h
