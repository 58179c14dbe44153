-- A literal, written character by character.
use Rattle.std.proofs.lemmas.Bool.Decides.{nat_tests}
use Rattle.std.proofs.Common.{◌≡◌, ℕ, true, false, cond, List, [], ◌∷◌, ◌++◌, refl, sym, ap, ◌∙◌, append_assoc, append-nil, ⊎_elim, length, length-append, arith, is_ok, lit<}
use Rattle.std.specs.Prelude.{not, codes, encode_utf8, Result, OnOk}
use Rattle.std.specs.List.{onto_first}
use Rattle.std.specs.Str.{IsUtf8, IsCharBoundary, chars, encode_utf8_all}
use Rattle.std.proofs.lemmas.Str.{IsCharBoundary-from_take, encodes-append, encode_ascii}
use Rattle.std.proofs.Math.Seq.{take-append_seam}
use Rattle.std.proofs.lemmas.Bool.{cases_Bool, cond-false}
use Rattle.rn_text.specs.Literals.{are_parted, segments, written, delimiter_for, joined, literal_of, literal_bytes}
use Rattle.rn_text.specs.inside.Writing.{between}

-- what follows a character in a literal
abbrev pub tail_of : ℕ → List ℕ → List ℕ
tail_of c [] = delimiter_for c ∷ []
tail_of c (d ∷ cs) = between c d ++ (written d ++ tail_of d cs)

-- the next character begins a segment of its own, or goes on with this one
pub segments_apart : (c d : ℕ) (cs : List ℕ) → are_parted c d ≡ true → segments (c ∷ d ∷ cs) ≡ (c ∷ []) ∷ segments (d ∷ cs)
segments_apart c d cs e = ap (λ b. cond (not b) (onto_first c (segments (d ∷ cs))) ((c ∷ []) ∷ segments (d ∷ cs))) e

pub segments_joined : (c d : ℕ) (cs : List ℕ) → are_parted c d ≡ false → segments (c ∷ d ∷ cs) ≡ onto_first c (segments (d ∷ cs))
segments_joined c d cs e = ap (λ b. cond (not b) (onto_first c (segments (d ∷ cs))) ((c ∷ []) ∷ segments (d ∷ cs))) e

-- the first segment begins with the first character
pub record Shape (c : ℕ) (cs : List ℕ) : Type 0 where
  pub first : List ℕ
  pub more : List (List ℕ)
  pub is : segments (c ∷ cs) ≡ (c ∷ first) ∷ more

pub shape : (c : ℕ) (cs : List ℕ) → Shape c cs
shape c [] = record { first = []; more = []; is = refl }
shape c (d ∷ cs) = let next = shape d cs in ⊎_elim
    (λ parted. record { first = []; more = segments (d ∷ cs); is = segments_apart c d cs parted })
    (λ together. record { first = d ∷ next.first; more = next.more; is = segments_joined c d cs together ∙ ap (onto_first c) next.is })
    (cases_Bool (are_parted c d))

-- characters of one segment have one delimiter
pub same_delimiter : (c d : ℕ) → are_parted c d ≡ false → delimiter_for c ≡ delimiter_for d
same_delimiter c d h1 = grind (arith, nat_tests)

-- one more character before a segment
prepend : (c d : ℕ) (s : List ℕ) (ss : List (List ℕ)) (rest : List ℕ) → delimiter_for c ≡ delimiter_for d → joined ((d ∷ s) ∷ ss) ≡ delimiter_for d ∷ rest → joined ((c ∷ d ∷ s) ∷ ss) ≡ delimiter_for c ∷ (written c ++ rest)
prepend c d s ss rest h1 h2 = grind (arith, nat_tests, append_assoc)

-- a literal, from its first character on
pub literal_from : (c : ℕ) (cs : List ℕ) → literal_of (c ∷ cs) ≡ delimiter_for c ∷ (written c ++ tail_of c cs)
unfolding literal_of
literal_from c [] = ap (λ l. delimiter_for c ∷ (l ++ delimiter_for c ∷ [])) (append-nil (written c))
literal_from c (d ∷ cs) =
    let next = shape d cs in
    let ih : joined ((d ∷ next.first) ∷ next.more) ≡ delimiter_for d ∷ (written d ++ tail_of d cs) = ap joined (sym next.is) ∙ literal_from d cs in
    ⊎_elim
    (λ parted. ap joined (segments_apart c d cs parted ∙ ap (λ l. (c ∷ []) ∷ l) next.is) ∙ gap next.first next.more (written d ++ tail_of d cs) parted ih)
    (λ together. ap joined (segments_joined c d cs together ∙ ap (onto_first c) next.is) ∙ prepend c d next.first next.more (written d ++ tail_of d cs) (same_delimiter c d together) ih
    ∙ ap (λ g. delimiter_for c ∷ (written c ++ (g ++ (written d ++ tail_of d cs)))) (sym (cond-false _ _ _ together)))
    (cases_Bool (are_parted c d))
  where
    gap : (s : List ℕ) (ss : List (List ℕ)) (rest : List ℕ) → are_parted c d ≡ true → joined ((d ∷ s) ∷ ss) ≡ delimiter_for d ∷ rest → joined ((c ∷ []) ∷ (d ∷ s) ∷ ss) ≡ delimiter_for c ∷ (written c ++ (between c d ++ rest))
    gap s ss rest h1 h2 = grind (arith, nat_tests, append_assoc, append-nil)

-- bytes with a character's part of a literal behind them
pub step_written : (out₁ out₂ out₃ target : List ℕ) (b w t : List ℕ) → out₂ ≡ out₁ ++ encode_utf8_all b → out₃ ≡ out₂ ++ encode_utf8_all w → out₁ ++ encode_utf8_all (b ++ (w ++ t)) ≡ target → out₃ ++ encode_utf8_all t ≡ target
step_written out₁ out₂ out₃ target b w t h1 h2 h3 = grind (arith, nat_tests, append_assoc, encodes-append)

pub more_written : (old out₁ out₂ out₃ more b w : List ℕ) → out₁ ≡ old ++ more → out₂ ≡ out₁ ++ b → out₃ ≡ out₂ ++ w → out₃ ≡ old ++ (more ++ b ++ w)
more_written old out₁ out₂ out₃ more b w h1 h2 h3 = grind (arith, nat_tests, append_assoc)

-- the first character of a literal, with its delimiter
pub start_written : (old out₁ out₂ text : List ℕ) (c : ℕ) (cs : List ℕ) → chars text ≡ c ∷ cs → out₁ ≡ old ++ encode_utf8 (delimiter_for c) → out₂ ≡ out₁ ++ encode_utf8_all (written c)
    → out₂ ++ encode_utf8_all (tail_of c cs) ≡ old ++ literal_bytes text
start_written old out₁ out₂ text c cs h1 h2 h3 = grind (arith, nat_tests, append_assoc, encodes-append, literal_from)

pub start_longer : (old out₁ out₂ x y : List ℕ) → out₁ ≡ old ++ x → out₂ ≡ out₁ ++ y → out₂ ≡ old ++ (x ++ y)
start_longer old out₁ out₂ x y e₁ e₂ = e₂ ∙ ap (λ l. l ++ y) e₁ ∙ append_assoc old x y

-- the literal of the empty text
pub empty_literal : (text : List ℕ) → chars text ≡ [] → literal_bytes text ≡ 34 ∷ 34 ∷ []
unfolding literal_of
empty_literal text e = ap (λ l. encode_utf8_all (literal_of l)) e ∙ ap (λ l. l ++ (encode_utf8 34 ++ [])) (encode_ascii 34 (lit< tt)) ∙ ap (λ l. 34 ∷ (l ++ [])) (encode_ascii 34 (lit< tt))

-- what a push leaves
pub pushed_ok : {T E : Type 0} (r : Result T E) (a b x y : List ℕ) → b ≡ cond (is_ok r) (a ++ x) a → x ≡ y → OnOk r (b ≡ a ++ y)
pushed_ok r a b x y h1 h2 = grind (arith, nat_tests)

pub pushed_last : {T E : Type 0} (r : Result T E) (a b x all : List ℕ) → b ≡ cond (is_ok r) (a ++ x) a → a ++ x ≡ all → OnOk r (b ≡ all)
pushed_last r a b x all h1 h2 = grind (arith, nat_tests)

-- the second is the first with more behind it
abbrev pub Longer : List ℕ → List ℕ → Type 0
Longer old new = (more : List ℕ) × (new ≡ old ++ more)

pub pushed_longer : {T E : Type 0} (r : Result T E) (a b x : List ℕ) → b ≡ cond (is_ok r) (a ++ x) a → Longer a b
pushed_longer r a b x h1 = grind (arith, nat_tests, append-nil)

pub longer_twice : (a b c : List ℕ) → Longer a b → Longer b c → Longer a c
longer_twice a b c h k = (h.0 ++ k.0, start_longer a b c h.0 k.0 h.1 k.1)

pub longer_same : (a b c : List ℕ) → c ≡ b → Longer a b → Longer a c
longer_same a b c e h = (h.0, e ∙ h.1)

tilde_bytes : (l : List ℕ) → encode_utf8_all (codes " ~ " ++ l) ≡ codes " ~ " ++ encode_utf8_all l
tilde_bytes l = grind (arith, nat_tests, encode_ascii)

-- the end of a segment and the start of another
pub parted_written : (old out₁ out₂ : List ℕ) (c d : ℕ) → are_parted c d ≡ true → out₁ ≡ old ++ encode_utf8 (delimiter_for c) → out₂ ≡ out₁ ++ codes " ~ "
    → out₂ ++ encode_utf8 (delimiter_for d) ≡ old ++ encode_utf8_all (between c d)
parted_written old out₁ out₂ c d h1 h2 h3 = grind (arith, nat_tests, append_assoc, append-nil, encode_ascii, tilde_bytes (delimiter_for d ∷ []))

-- a text may be cut where a text ends that it begins with
pub cut_behind : (old new more : List ℕ) (n : ℕ) → IsUtf8 old → IsUtf8 new → new ≡ old ++ more → n ≡ length old → IsCharBoundary new n
cut_behind old new more n o u e at = grind (arith, nat_tests, length-append, take-append_seam, IsCharBoundary-from_take)
