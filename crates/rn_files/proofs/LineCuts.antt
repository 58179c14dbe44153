-- Facts on the lines of a text.
use Rattle.std.proofs.Common.{◌≡◌, ℕ, suc, zero, ◌+◌, ◌<◌, ◌≤◌, subst, length-append, length-drop, true, false, cond, List, [], ◌∷◌, ◌++◌, length, get_or, take, drop, refl, ap, sym, ◌∙◌, append_assoc, arith, add-one}
use Rattle.std.proofs.Math.Seq.{drop-cons, drop-drop}
use Rattle.std.proofs.lemmas.List.{take_more, append-nil, length-take-le, get_or-drop}
use Rattle.std.proofs.lemmas.List.Folds.{concat-append}
use Rattle.std.specs.List.{concat}
use Rattle.std.proofs.lemmas.Str.{IsCharBoundary-start, IsCharBoundary-after_ascii}
use Rattle.std.specs.Str.{IsUtf8, IsCharBoundary}
use Rattle.std.specs.Prelude.{◌-◌}
use Rattle.std.proofs.lemmas.Bool.{cond_both}
use Rattle.rn_files.specs.TextLines.{closes, onto, lines}
use Rattle.rn_files.specs.inside.TextLines.{ClosesAt}

pub onto_onto : (x y : List ℕ) (ls : List (List ℕ)) → onto x (onto y ls) ≡ onto (x ++ y) ls
onto_onto x y [] = refl
onto_onto x y (l ∷ ls) = ap (λ z. z ∷ ls) (sym (append_assoc x y l))

lines_open : (b : ℕ) (rest : List ℕ) → closes b rest ≡ false → lines (b ∷ rest) ≡ onto (b ∷ []) (lines rest)
lines_open b rest h = ap (λ t. cond t ((b ∷ []) ∷ lines rest) (onto (b ∷ []) (lines rest))) h

lines_closed : (b : ℕ) (rest : List ℕ) → closes b rest ≡ true → lines (b ∷ rest) ≡ (b ∷ []) ∷ lines rest
lines_closed b rest h = ap (λ t. cond t ((b ∷ []) ∷ lines rest) (onto (b ∷ []) (lines rest))) h

at_byte : (bs : List ℕ) (i : ℕ) → i < length bs → drop i bs ≡ get_or bs i 0 ∷ drop (i + 1) bs
at_byte bs i h = rw add-one (drop-cons bs i 0 h)

-- a byte behind which no line ends
pub line_goes_on : (bs rest : List ℕ) (i : ℕ) → i < length bs → rest ≡ drop (i + 1) bs → closes (get_or bs i 0) rest ≡ false
    → lines bs ≡ onto (take i bs) (lines (drop i bs)) → lines bs ≡ onto (take (i + 1) bs) (lines (drop (i + 1) bs))
line_goes_on bs rest i within same unclosed e =
    e ∙ ap (λ z. onto (take i bs) (lines z)) (at_byte bs i within)
    ∙ ap (λ z. onto (take i bs) z) (lines_open (get_or bs i 0) (drop (i + 1) bs) (ap (λ z. closes (get_or bs i 0) z) (sym same) ∙ unclosed))
    ∙ onto_onto (take i bs) (get_or bs i 0 ∷ []) (lines (drop (i + 1) bs))
    ∙ ap (λ z. onto z (lines (drop (i + 1) bs))) (sym (take_more bs i 0 within))

-- behind the first line of the rest
pub next_line : (bs rest : List ℕ) (start n : ℕ) (before : List (List ℕ)) → start ≤ length bs → rest ≡ drop start bs
    → ClosesAt rest n (take n rest) (drop n rest) → lines bs ≡ before ++ lines (drop start bs) → start ≡ length (concat before)
    → (start + n ≤ length bs) × (get_or bs (start + n - 1) 0 < 128)
    × ((more : List (List ℕ)) × (lines bs ≡ more ++ lines (drop (start + n) bs)) × (length more ≡ length before + 1) × (start + n ≡ length (concat more)))
next_line bs rest start n before within same closes e size =
    let front = take n rest in
    let long : length rest ≡ length bs - start = ap (λ z. length z) same ∙ length-drop start bs in
    let fits : n ≤ length rest = closes.within in
    let behind : drop n rest ≡ drop (start + n) bs = ap (λ z. drop n z) same ∙ drop-drop n start bs in
    let cut : lines (drop start bs) ≡ front ∷ lines (drop (start + n) bs) = ap lines (sym same) ∙ closes.cut ∙ ap (λ z. front ∷ lines z) behind in
    let byte : get_or rest (n - 1) 0 ≡ get_or bs (start + (n - 1)) 0 = ap (λ z. get_or z (n - 1) 0) same ∙ get_or-drop start bs (n - 1) 0 in
    let some : 0 < n = closes.some in
    let place : start + (n - 1) ≡ start + n - 1 = omega arith in
    let P : ℕ → Type 0 = λ x. x < 128 in
    let size_more : start + n ≡ length (concat (before ++ (front ∷ []))) =
    sym (ap (λ z. length z) (concat-append before (front ∷ [])) ∙ length-append (concat before) (front ++ [])
    ∙ ap (λ z. length (concat before) + length z) (append-nil front) ∙ ap (λ z. length (concat before) + z) (length-take-le n rest fits)
    ∙ ap (λ z. z + n) (sym size)) in (
      omega (arith, long, fits, within),
      subst P (byte ∙ ap (λ z. get_or bs z 0) place) closes.ascii,
      (
        before ++ (front ∷ []),
        e ∙ ap (λ z. before ++ z) cut ∙ sym (append_assoc before (front ∷ []) (lines (drop (start + n) bs))),
        length-append before (front ∷ []),
        size_more,
      ),
    )

-- a text has a line at least, the empty one
some_line : (bs : List ℕ) → (l : List ℕ) × (ls : List (List ℕ)) × (lines bs ≡ l ∷ ls)
some_line [] = ([], [], refl)
some_line (b ∷ rest) =
    cond_both (closes b rest) ((b ∷ []) ∷ lines rest) (onto (b ∷ []) (lines rest)) (λ x. (l : List ℕ) × (ls : List (List ℕ)) × (x ≡ l ∷ ls))
    (λ closed. (b ∷ [], lines rest, refl))
    (λ unclosed. let more = some_line rest in (b ∷ more.0, more.1, ap (λ x. onto (b ∷ []) x) more.2))

-- no byte is passed yet
pub none_passed : (bs : List ℕ) → lines bs ≡ onto [] (lines bs)
none_passed bs = let more = some_line bs in more.2 ∙ sym (ap (λ x. onto [] x) more.2)

-- a text may be cut where a line begins
pub cut_at_line : (bs : List ℕ) (start : ℕ) → IsUtf8 bs → start ≤ length bs → (0 < start → get_or bs (start - 1) 0 < 128) → IsCharBoundary bs start
cut_at_line bs zero utf8 within ascii = IsCharBoundary-start bs utf8
cut_at_line bs (suc i) utf8 within ascii =
    let P : ℕ → Type 0 = λ n. get_or bs n 0 < 128 in
    let back : suc i - 1 ≡ i = omega arith in
    let small : get_or bs i 0 < 128 = subst P back (ascii (omega arith)) in rw (← add-one) (IsCharBoundary-after_ascii bs i utf8 (omega arith) small)

-- a text may be cut at an end of a line
pub cut_at_end : (bs text : List ℕ) (n : ℕ) → bs ≡ text → n ≤ length bs → (n < length bs → get_or bs n 0 < 128) → IsCharBoundary text n
cut_at_end bs text n same within stops =
    let P : List ℕ → Type 0 = λ z. IsCharBoundary z n in
    subst P same (within, λ inside big. let small : get_or bs n 0 < 128 = stops inside in omega arith)
