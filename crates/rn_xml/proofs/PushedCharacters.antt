-- Characters that are put behind those of a text.
use Rattle.std.proofs.Common.{◌≡◌, ℕ, cond, List, [], ◌∷◌, ◌++◌, sym, ap, ◌∙◌, append-nil}
use Rattle.std.specs.Prelude.{Result, Ok, Err, IfOk, is_ok, encode_utf8}
use Rattle.std.specs.Str.{IsUtf8, chars, encode_utf8_all}
use Rattle.std.proofs.lemmas.Str.{encodes-chars, encodes-append, encodes_same}

pub pushed : (old new : List ℕ) (c : ℕ) → IsUtf8 old → IsUtf8 new → new ≡ old ++ encode_utf8 c → chars new ≡ chars old ++ c ∷ []
pushed old new c o n e = encodes_same (chars new) (chars old ++ c ∷ [])
    (encodes-chars new n ∙ e ∙ ap (λ l. l ++ encode_utf8 c) (sym (encodes-chars old o)) ∙ ap (λ l. encode_utf8_all (chars old) ++ l) (sym (append-nil (encode_utf8 c))) ∙ sym (encodes-append (chars old) (c ∷ [])))

-- what `push` leaves
pub push_answer : {T E : Type 0} (r : Result T E) (old new : List ℕ) (c : ℕ) → IsUtf8 old → IsUtf8 new → new ≡ cond (is_ok r) (old ++ encode_utf8 c) old → IfOk r (λ done. chars new ≡ chars old ++ c ∷ [])
push_answer (Ok done) old new c o n e = pushed old new c o n e
push_answer (Err k) old new c o n e = tt
