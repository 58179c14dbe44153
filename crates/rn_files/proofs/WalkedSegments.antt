-- Segments are walked one by one: the folder so far, whether one leads above the root, and how they are joined again.
use Rattle.std.proofs.Common.{◌≡◌, ℕ, ◌+◌, ◌-◌, ◌<◌, ◌≤◌, ◌⊎◌, inl, inr, subst, arith, cond, Bool, true, false, List, [], ◌∷◌, ◌++◌, length, get_or, take, drop, map, refl, ap, sym, ◌∙◌, length-append}
use Rattle.std.specs.Borrow.{Bor}
use Rattle.std.specs.List.{fold, flat_map}
use Rattle.std.proofs.lemmas.Bool.{false≢true, cases_lt}
use Rattle.std.proofs.lemmas.List.{map-append, take-map, get_or-map, take_rest, take_more, take_at, get_or_at, take-append-drop, drop_more, append-nil}
use Rattle.std.proofs.lemmas.List.Sums.{fold-append}
use Rattle.rn_files.specs.Paths.{Segment, entered_folder, is_here, is_up, outer, path_of, walked_folder}
use Rattle.rn_files.specs.inside.UriReferences.{LeadAbove, finds_none}

-- the texts of segments
abbrev pub texts : List (Bor (List ℕ)) → List Segment
texts ss = map (λ (s : Bor (List ℕ)). s.now) ss

pub entered_other : (folder : List Segment) (s : Segment) → is_here s ≡ false → is_up s ≡ false → entered_folder folder s ≡ folder ++ (s ∷ [])
entered_other folder s h u =
    ap (λ t. cond t folder (cond (is_up s) (outer folder) (folder ++ (s ∷ [])))) h ∙ ap (λ t. cond t (outer folder) (folder ++ (s ∷ []))) u

-- one segment more
pub pushed : (folder : List (Bor (List ℕ))) (s : Bor (List ℕ)) → is_here s.now ≡ false → is_up s.now ≡ false
    → texts (folder ++ (s ∷ [])) ≡ entered_folder (texts folder) s.now
pushed folder s h u = map-append (λ (s : Bor (List ℕ)). s.now) folder (s ∷ []) ∙ sym (entered_other (texts folder) s.now h u)

-- a step further
pub walked_more : (ss : List (Bor (List ℕ))) (i : ℕ) (d : Bor (List ℕ)) → i < length ss
    → walked_folder (texts (take (i + 1) ss)) ≡ entered_folder (walked_folder (texts (take i ss))) (get_or ss i d).now
walked_more ss i d within =
    ap (λ z. walked_folder (texts z)) (take_more ss i d within) ∙ ap walked_folder (map-append (λ (s : Bor (List ℕ)). s.now) (take i ss) (get_or ss i d ∷ []))
    ∙ fold-append entered_folder [] (texts (take i ss)) ((get_or ss i d).now ∷ [])

pub led_more : (ss folder next : List (Bor (List ℕ))) (i : ℕ) (d : Bor (List ℕ)) → i < length ss → texts folder ≡ walked_folder (texts (take i ss))
    → texts next ≡ entered_folder (texts folder) (get_or ss i d).now → texts next ≡ walked_folder (texts (take (i + 1) ss))
led_more ss folder next i d within led more = more ∙ ap (λ z. entered_folder z (get_or ss i d).now) led ∙ sym (walked_more ss i d within)

-- the first segment, and the others behind their slashes
pub joined_behind : (s : Bor (List ℕ)) (ss : List (Bor (List ℕ))) → s.now ++ flat_map (λ (t : Bor (List ℕ)). 47 ∷ t.now) ss ≡ path_of (texts (s ∷ ss))
joined_behind s [] = append-nil s.now
joined_behind s (t ∷ ss) = ap (λ z. s.now ++ (47 ∷ z)) (joined_behind t ss)

-- the segments of a slice that isn't empty
pub joined_all : (ss : List (Bor (List ℕ))) (whole front : List ℕ) (d : Bor (List ℕ)) → 1 ≤ length ss → front ≡ (get_or ss 0 d).now
    → whole ≡ front ++ flat_map (λ (t : Bor (List ℕ)). 47 ∷ t.now) (take (length ss - 1) (drop 1 ss)) → whole ≡ path_of (texts ss)
joined_all [] whole front d some first all = let never : ⊥ = omega (arith, some) in absurd never
joined_all (s ∷ ss) whole front d some first all =
    all ∙ ap (λ z. z ++ flat_map (λ (t : Bor (List ℕ)). 47 ∷ t.now) (take (length (s ∷ ss) - 1) ss)) first
    ∙ ap (λ z. s.now ++ flat_map (λ (t : Bor (List ℕ)). 47 ∷ t.now) z) (take_rest (s ∷ ss) 1) ∙ joined_behind s ss

pub above_at : (ss folder slice : List (Bor (List ℕ))) (i : ℕ) (d : Bor (List ℕ)) (r : Bool) → i < length ss → slice ≡ folder
    → texts folder ≡ walked_folder (texts (take i ss)) → r ≡ finds_none (texts slice) (get_or ss i d).now → r ≡ true → LeadAbove (texts ss)
above_at ss folder slice i d r within same led answer so = (
  texts (take i ss),
  (get_or ss i d).now,
  texts (drop (i + 1) ss),
  ap texts (sym (take-append-drop i ss) ∙ ap (λ z. take i ss ++ z) (drop_more ss i d within))
      ∙ map-append (λ (s : Bor (List ℕ)). s.now) (take i ss) (get_or ss i d ∷ drop (i + 1) ss),
  ap (λ z. finds_none z (get_or ss i d).now) (sym (ap texts same ∙ led)) ∙ sym answer ∙ so,
)

at_or_below : (P : ℕ → Type 0) (k i : ℕ) → (k < i) ⊎ (i ≤ k) → k ≤ i → P i → (k < i → P k) → P k
at_or_below P k i (inl less) h at below = below less
at_or_below P k i (inr more) h at below = let same : i ≡ k = omega (arith, more, h) in subst P same at

-- no segment before this one finds none to take away
abbrev pub AreWithin : List Segment → ℕ → Type 0
AreWithin ss i = (k : ℕ) → k < i → finds_none (walked_folder (take k ss)) (get_or ss k []) ≡ false

pub never_above : (ss : List Segment) → AreWithin ss (length ss) → ¬ (LeadAbove ss)
never_above ss within above =
    let k = length above.0 in
    let e = above.3 in
    let front : take k ss ≡ above.0 = ap (λ z. take k z) e ∙ take_at above.0 (above.1 ∷ above.2) k refl in
    let here : get_or ss k [] ≡ above.1 = ap (λ z. get_or z k []) e ∙ get_or_at above.0 above.1 above.2 [] k refl in
    let size : length ss ≡ length above.0 + length (above.1 ∷ above.2) = ap (λ z. length z) e ∙ length-append above.0 (above.1 ∷ above.2) in
    let none : finds_none (walked_folder (take k ss)) (get_or ss k []) ≡ false = within k (omega (arith, size)) in
    false≢true (sym none ∙ ap (λ z. finds_none (walked_folder z) (get_or ss k [])) front ∙ ap (λ z. finds_none (walked_folder above.0) z) here ∙ above.4)

pub within_more : (ss folder slice : List (Bor (List ℕ))) (i : ℕ) (d : Bor (List ℕ)) (r : Bool) → i < length ss → slice ≡ folder
    → texts folder ≡ walked_folder (texts (take i ss)) → r ≡ finds_none (texts slice) (get_or ss i d).now → r ≡ false → AreWithin (texts ss) i
    → AreWithin (texts ss) (i + 1)
within_more ss folder slice i d r within same led answer not_so before k h =
    let P : ℕ → Type 0 = λ k. finds_none (walked_folder (take k (texts ss))) (get_or (texts ss) k []) ≡ false in
    let here : P i =
    ap (λ z. finds_none (walked_folder z) (get_or (texts ss) i [])) (take-map (λ (s : Bor (List ℕ)). s.now) i ss)
    ∙ ap (λ z. finds_none (walked_folder (texts (take i ss))) z) (get_or-map (λ (s : Bor (List ℕ)). s.now) ss i d [] within)
    ∙ ap (λ z. finds_none z (get_or ss i d).now) (sym (ap texts same ∙ led)) ∙ sym answer ∙ not_so in
    at_or_below P k i (cases_lt k i) (omega (arith, h)) here (λ less. before k less)
